-- What spots keep through the calls on a family.
use Rattle.std.proofs.Common.{◌≡◌, ℕ, zero, suc, Bool, true, false, ◌&&◌, List, [], ◌∷◌, Option, Some, None, Ok, refl, ap, sym, ◌∙◌, subst, arith}
use Rattle.std.specs.Prelude.{◌==◌, is_none, is_some}
use Rattle.std.specs.List.{All, position, slice_get}
use Rattle.std.specs.Option.{option_and_then, option_map_or}
use Rattle.std.specs.Str.{bytes_eq}
use Rattle.std.proofs.lemmas.Bool.Decides.{nat_tests}
use Rattle.std.proofs.lemmas.List.Folds.{list_any_at}
use Rattle.std.proofs.lemmas.List.Quantifiers.{position-Some}
use Rattle.dataset_tree.specs.declared.refusal.Refusal.{Refusal}
use Rattle.dataset_tree.specs.declared.refusal.Refusal.TheVariants.{Exists}
use Rattle.family_log.specs.declared.table.Table.{Table}
use Rattle.family_log.specs.declared.head.Head.{Head}
use Rattle.family_log.specs.declared.entry.Spot.{Spot}
use Rattle.family_log.specs.declared.entry.HeadChange.{HeadChange}
use Rattle.family_log.specs.declared.entry.ReadNote.{ReadNote}
use Rattle.family_log.specs.declared.entry.ReadNote.TheVariants as notes
use Rattle.family_log.specs.declared.entry.LogEntry.{LogEntry}
use Rattle.family_log.specs.Log.{KeepsLast, changed_head, head_spot, is_head, snap_spot}
use Rattle.family_log.specs.Model.{FamilyState, IsFamily, head_of, table_in, table_of}
use Rattle.family_log.specs.Calls.{given, with_change, with_table}
use Rattle.family_log.specs.Noted.{noted}
use Rattle.family_log.specs.Snapshots.{KeepsSpot, has_part, has_snapshot, is_about, same_spot}
use Rattle.family_log.proofs.ChangeLemmas.{changed_keeps}
use Rattle.family_log.proofs.SpotLemmas.{clone-others, head-others, kept-one, removed-others, same_spot-is, snapshot-others, spot_at}
use Rattle.snap_clone.specs.Answers.{first_of, is_snapshot, place_refusal, snapshot_answer, spot_removed, unless}
use Rattle.snap_clone.specs.Acts.{Act, Change, Note, Lend, MakeSnapshot, MakeClone, DropHead, DropSnapshot, Follows, IsDone, done, drops, touches}

pub by_space : {P : Type 0} (b : Bool) → (b ≡ true → P) → (b ≡ false → P) → P
by_space true yes_case no_case = yes_case refl
by_space false yes_case no_case = no_case refl

pub true_is_false : true ≡ false → ⊥
true_is_false e = cc

-- ---- what stays

pub log_stays : (log : List LogEntry) (spot : Spot) → KeepsLast log spot log spot
log_stays log spot = record { lengths = λ object. refl; refs = λ record_size object index. refl }

pub stays : (family : FamilyState) (spot : Spot) → KeepsSpot family family spot
stays family spot = record { table = refl; last = log_stays family.log spot }

pub last_then : (one two three : List LogEntry) (from spot to : Spot) → KeepsLast one from two spot → KeepsLast two spot three to
    → KeepsLast one from three to
last_then one two three from spot to first next = record {
  lengths = λ object. next.lengths object ∙ first.lengths object;
  refs = λ record_size object index. next.refs record_size object index ∙ first.refs record_size object index;
}

pub keeps_then : (one two three : FamilyState) (spot : Spot) → KeepsSpot one two spot → KeepsSpot two three spot → KeepsSpot one three spot
keeps_then one two three spot first next = record {
  table = next.table ∙ first.table;
  last = last_then one.log two.log three.log spot spot spot first.last next.last;
}

-- ---- a head that is changed

not_head_at : (of_head : ℕ) (snap : Option (List ℕ)) (head : ℕ) → same_spot (spot_at of_head snap) (head_spot head) ≡ false
    → is_head head (spot_at of_head snap) ≡ false
not_head_at of_head None head apart = apart
not_head_at of_head (Some part) head apart = apart

beside_head : (id of_head : ℕ) (snap : Option (List ℕ)) (table : Table) (head : Head) (heads : List Head) → (head.id == id) ≡ true
    → same_spot (spot_at of_head snap) (head_spot id) ≡ false
    → table_of (spot_at of_head snap) (given table head ∷ heads) ≡ table_of (spot_at of_head snap) (head ∷ heads)
beside_head id of_head None table head heads found other =
    by_space (head.id == of_head)
    (λ here. let same : (of_head == id) ≡ true = grind (arith, nat_tests) in
    let is : same_spot (spot_at of_head None) (head_spot id) ≡ true = rw same refl in
    absurd (true_is_false (sym is ∙ other)))
    (λ apart. rw apart refl)
beside_head id of_head (Some part) table head heads found other =
    by_space (head.id == of_head) (λ here. rw here refl) (λ apart. rw apart refl)

changed_table : (id of_head : ℕ) (snap : Option (List ℕ)) (table : Table) (heads : List Head)
    → same_spot (spot_at of_head snap) (head_spot id) ≡ false
    → table_of (spot_at of_head snap) (with_table id table heads) ≡ table_of (spot_at of_head snap) heads
changed_table id of_head snap table [] other = refl
changed_table id of_head snap table (head ∷ heads) other =
    by_space (head.id == id)
    (λ found. rw found (beside_head id of_head snap table head heads found other))
    (λ apart. rw apart (by_space (head.id == of_head) (λ here. rw here refl)
    (λ beside. rw beside (changed_table id of_head snap table heads other))))

changed-others : (family : FamilyState) (head : ℕ) (change : HeadChange) (spot : Spot) → changed_head change.entry ≡ Some head
    → same_spot spot (head_spot head) ≡ false → KeepsSpot family (with_change head change family) spot
changed-others family head change spot of_head other = record {
  table = changed_table head spot.head spot.snap change.table family.heads other;
  last = changed_keeps family.log change.entry head spot of_head (not_head_at spot.head spot.snap head other);
}

-- ---- a note, and a snapshot that goes

note_is_about : (spot of_note : Spot) (what : ReadNote) → is_about spot (noted of_note what) ≡ false
note_is_about spot of_note notes.Read = refl
note_is_about spot of_note (notes.Refused why draws puts) = refl

dropped-others : (family : FamilyState) (of_head : ℕ) (snap : Option (List ℕ)) (spot : Spot) → IsFamily family
    → same_spot spot (spot_at of_head snap) ≡ false → KeepsSpot family (spot_removed (spot_at of_head snap) family) spot
dropped-others family of_head None spot kept other = stays family spot
dropped-others family of_head (Some part) spot kept other = removed-others family of_head part spot kept other

-- ---- every other spot

pub once : (act : Act) (family : FamilyState) (spot : Spot) → IsFamily family → IsDone act family → touches spot act ≡ false
    → KeepsSpot family (done act family) spot
once (Change head change) family spot kept is_done other = changed-others family head change spot is_done.of_head other
once (Note of_note what) family spot kept is_done other = record {
  table = refl;
  last = kept-one family.log (noted of_note what) spot (note_is_about spot of_note what);
}
once (Lend salts shelf) family spot kept is_done other = record { table = refl; last = log_stays family.log spot }
once (MakeSnapshot head part guid) family spot kept is_done other = snapshot-others family head part guid spot kept other
once (MakeClone from head) family spot kept is_done other = clone-others family from head spot is_done.1.absent other
once (DropHead head) family spot kept is_done other = head-others family head spot other
once (DropSnapshot dropped) family spot kept is_done other = dropped-others family dropped.head dropped.snap spot kept other

pub always : (acts : List Act) (family later : FamilyState) (spot : Spot) → Follows acts family later
    → All (λ (act : Act). touches spot act ≡ false) acts → KeepsSpot family later spot
always [] family later spot follows others =
    subst (λ (after : FamilyState). KeepsSpot family after spot) (sym follows) (stays family spot)
always (act ∷ acts) family later spot follows others =
    keeps_then family (done act family) later spot
    (once act family spot follows.0.0 follows.0.1 (others zero act (omega arith)))
    (always acts (done act family) later spot follows.1 (λ k d within. others (suc k) d (omega arith)))

-- ---- snapshots

and_false : (b : Bool) → (b && false) ≡ false
and_false true = refl
and_false false = refl

no_answer : (place : Option Refusal) → unless (first_of place (Some Exists)) ≡ Ok tt → ⊥
no_answer None is = cc
no_answer (Some why) is = cc

-- a snapshot that isn't refused has a new name
pub name_is_new : (family : FamilyState) (head : ℕ) (part : List ℕ) → snapshot_answer head part family ≡ Ok tt
    → has_snapshot head part family.heads ≡ false
name_is_new family head part is =
    by_space (has_snapshot head part family.heads)
    (λ taken. absurd (no_answer (place_refusal head family) (rw taken at is)))
    (λ fresh. fresh)

none_is_some : {X : Type 0} (found : Option X) → is_none found ≡ true → is_some found ≡ true → ⊥
none_is_some None none some = true_is_false (sym some)
none_is_some (Some x) none some = true_is_false (sym none)

name_at : (part : List ℕ) (parts : List (List ℕ)) (tables : List Table) (found : Option ℕ)
    → position (λ other. bytes_eq other part) parts ≡ found
    → is_some (option_and_then (λ at. slice_get tables at) found) ≡ true → has_part part parts ≡ true
name_at part parts tables None is some = absurd (true_is_false (sym some))
name_at part parts tables (Some at) is some =
    let facts = position-Some (λ (other : List ℕ). bytes_eq other part) parts at [] is in
    list_any_at (λ (other : List ℕ). bytes_eq other part) parts at [] facts.0 facts.1

name_in : (part : List ℕ) (found : Option Head) → is_some (option_and_then (λ (head : Head). table_in (Some part) head) found) ≡ true
    → option_map_or (λ (head : Head). has_part part head.parts) found false ≡ true
name_in part None some = absurd (true_is_false (sym some))
name_in part (Some head) some = name_at part head.parts head.tables (position (λ other. bytes_eq other part) head.parts) refl some

-- a snapshot that is there has a name that is taken
pub name_is_taken : (head : ℕ) (part : List ℕ) (heads : List Head) → is_some (table_of (snap_spot head part) heads) ≡ true
    → has_snapshot head part heads ≡ true
name_is_taken head part heads some = name_in part (head_of head heads) some

-- of a snapshot that is there nothing but its own end touches it
pub untouched : (act : Act) (family : FamilyState) (of_head : ℕ) (snap : Option (List ℕ)) → IsDone act family
    → is_snapshot (spot_at of_head snap) family.heads ≡ true → drops (spot_at of_head snap) act ≡ false
    → touches (spot_at of_head snap) act ≡ false
untouched act family of_head None is_done there kept = absurd (true_is_false (sym there))
untouched (Change head change) family of_head (Some part) is_done there kept = and_false (of_head == head)
untouched (Note of_note what) family of_head (Some part) is_done there kept = refl
untouched (Lend salts shelf) family of_head (Some part) is_done there kept = refl
untouched (MakeSnapshot head asked guid) family of_head (Some part) is_done there kept =
    by_space (same_spot (snap_spot of_head part) (snap_spot head asked))
    (λ same. let is = same_spot-is (snap_spot of_head part) (snap_spot head asked) same in
    let some : is_some (table_of (snap_spot head asked) family.heads) ≡ true =
    subst (λ (spot : Spot). is_some (table_of spot family.heads) ≡ true) is there in
    absurd (true_is_false (sym (name_is_taken head asked family.heads some) ∙ name_is_new family head asked is_done)))
    (λ other. other)
untouched (MakeClone from head) family of_head (Some part) is_done there kept = and_false (of_head == head)
untouched (DropHead head) family of_head (Some part) is_done there kept = kept
untouched (DropSnapshot dropped) family of_head (Some part) is_done there kept = kept

pub still_snapshot : (earlier later : FamilyState) (spot : Spot) → KeepsSpot earlier later spot → is_snapshot spot earlier.heads ≡ true
    → is_snapshot spot later.heads ≡ true
still_snapshot earlier later spot keeps there =
    ap (λ (found : Option Table). is_some spot.snap && is_some found) keeps.table ∙ there

pub stands : (acts : List Act) (family later : FamilyState) (spot : Spot) → Follows acts family later
    → is_snapshot spot family.heads ≡ true → All (λ (act : Act). drops spot act ≡ false) acts → KeepsSpot family later spot
stands [] family later spot follows there others =
    subst (λ (after : FamilyState). KeepsSpot family after spot) (sym follows) (stays family spot)
stands (act ∷ acts) family later spot follows there others =
    let apart = untouched act family spot.head spot.snap follows.0.1 there (others zero act (omega arith)) in
    let now = once act family spot follows.0.0 follows.0.1 apart in
    keeps_then family (done act family) later spot now
    (stands acts (done act family) later spot follows.1 (still_snapshot family (done act family) spot now there)
    (λ k d within. others (suc k) d (omega arith)))
