-- A snapshot is held by its clone's head, and a head is made once.
use Rattle.std.proofs.Common.{◌≡◌, ℕ, zero, suc, Bool, true, false, ◌&&◌, ◌||◌, List, [], ◌∷◌, ◌++◌, Option, Some, None, Result, Ok, Err, IfSome, refl, ap, sym, ◌∙◌, subst, arith}
use Rattle.std.specs.Prelude.{◌==◌, is_none, is_some}
use Rattle.std.specs.List.{All, list_any}
use Rattle.std.specs.Option.{option_and_then, option_map, option_map_or}
use Rattle.std.proofs.lemmas.Bool.Decides.{Decides-eqb}
use Rattle.std.proofs.lemmas.List.Folds.{list_any-append}
use Rattle.std.proofs.lemmas.Slice.Eq.{bytes_eq-Decides}
use Rattle.dataset_tree.specs.declared.refusal.Refusal.{Refusal}
use Rattle.dataset_tree.specs.declared.refusal.Refusal.TheVariants.{HasClones, NoSnapshot}
use Rattle.family_log.specs.declared.table.Table.{Table}
use Rattle.family_log.specs.declared.head.Head.{Head}
use Rattle.family_log.specs.declared.entry.Spot.{Spot}
use Rattle.family_log.specs.declared.entry.LogEntry.{LogEntry}
use Rattle.family_log.specs.declared.entry.LogEntry.TheVariants.{Make, Write, Cut, Remove, Receive, Snapshot, Clone, Read, Refused}
use Rattle.family_log.specs.Log.{head_spot}
use Rattle.family_log.specs.Model.{FamilyState, IsFamily, head_of, table_in, table_of}
use Rattle.family_log.specs.Calls.{given, with_head}
use Rattle.family_log.specs.Noted.{noted}
use Rattle.family_log.specs.Snapshots.{IsNewHead, clone_added, clones, has_clone, names_head, same_spot, clone_of, with_guid, with_snapshot, without_snapshot}
use Rattle.family_log.proofs.SpotLemmas.{clone-made, clone-others, head-others, id_stays, same_spot-is, spot_at}
use Rattle.snap_clone.specs.Answers.{HasNoSnapshots, clone_answer, drop_snapshot_answer, is_snapshot, spot_removed}
use Rattle.snap_clone.specs.Acts.{Act, Change, Note, Lend, MakeSnapshot, MakeClone, DropHead, DropSnapshot, Follows, IsDone, done, drops}
use Rattle.snap_clone.proofs.ActLemmas.{by_space, once, still_snapshot, true_is_false, untouched}

-- ---- the log goes on

or_true : (a b : Bool) → a ≡ true → (a || b) ≡ true
or_true true b is = refl
or_true false b is = absurd (true_is_false (sym is))

true_or : (a : Bool) → (a || true) ≡ true
true_or true = refl
true_or false = refl

still_in : {X : Type 0} (p : X → Bool) (xs more : List X) → list_any p xs ≡ true → list_any p (xs ++ more) ≡ true
still_in p xs more is = list_any-append p xs more ∙ or_true (list_any p xs) (list_any p more) is

spot_left : (p : LogEntry → Bool) (of_head : ℕ) (snap : Option (List ℕ)) (family : FamilyState) → list_any p family.log ≡ true
    → list_any p (spot_removed (spot_at of_head snap) family).log ≡ true
spot_left p of_head None family is = is
spot_left p of_head (Some part) family is = is

-- what an entry of the log is, one is later on too
pub in_log : (p : LogEntry → Bool) (act : Act) (family : FamilyState) → list_any p family.log ≡ true → list_any p (done act family).log ≡ true
in_log p (Change head change) family is = still_in p family.log (change.entry ∷ []) is
in_log p (Note spot what) family is = still_in p family.log (noted spot what ∷ []) is
in_log p (Lend salts shelf) family is = is
in_log p (MakeSnapshot head part guid) family is = still_in p family.log (Snapshot head part ∷ []) is
in_log p (MakeClone from head) family is = still_in p family.log (Clone from head ∷ []) is
in_log p (DropHead head) family is = is
in_log p (DropSnapshot spot) family is = spot_left p spot.head spot.snap family is

pub in_later_log : (p : LogEntry → Bool) (acts : List Act) (family later : FamilyState) → Follows acts family later
    → list_any p family.log ≡ true → list_any p later.log ≡ true
in_later_log p [] family later follows is = subst (λ (after : FamilyState). list_any p after.log ≡ true) (sym follows) is
in_later_log p (act ∷ acts) family later follows is =
    in_later_log p acts (done act family) later follows.1 (in_log p act family is)

-- ---- a head is made once

none_of : (p : LogEntry → Bool) (log : List LogEntry) → list_any p log ≡ true → All (λ entry. p entry ≡ false) log → ⊥
none_of p [] is none = true_is_false (sym is)
none_of p (entry ∷ log) is none =
    none_of p log (rw (none zero entry (omega arith)) at is) (λ k d within. none (suc k) d (omega arith))

pub not_again : (acts : List Act) (family later : FamilyState) (head : ℕ) → Follows acts family later
    → list_any (names_head head) family.log ≡ true → IsNewHead head later → ⊥
not_again acts family later head follows is new =
    none_of (names_head head) later.log (in_later_log (names_head head) acts family later follows is) new.never

same_id : (head : ℕ) → (head == head) ≡ true
same_id head = (Decides-eqb head head).1 refl

pub clone_is_named : (family : FamilyState) (from : Spot) (head : ℕ) → list_any (names_head head) (clone_added from head family).log ≡ true
clone_is_named family from head =
    list_any-append (names_head head) family.log (Clone from head ∷ [])
    ∙ rw (same_id head) (true_or (list_any (names_head head) family.log))

-- ---- a clone's head is there

bare_behind : (id : ℕ) (heads : List Head) (found : Option Table) → is_none (head_of id heads) ≡ true
    → IfSome (head_of id (heads ++ option_map_or (λ table. clone_of id table ∷ []) found [])) (λ head. head.parts ≡ [])
bare_behind id [] None none = tt
bare_behind id [] (Some table) none = rw (same_id id) refl
bare_behind id (head ∷ heads) found none =
    by_space (head.id == id)
    (λ here. absurd (true_is_false (sym (rw here at none))))
    (λ beside. rw beside (bare_behind id heads found (rw beside at none)))

-- and it has no snapshots
pub clone_is_bare : (family : FamilyState) (from : Spot) (id : ℕ) → is_none (head_of id family.heads) ≡ true
    → HasNoSnapshots id (clone_added from id family)
clone_is_bare family from id none = bare_behind id family.heads (table_of from family.heads) none

head_stays : (asked id : ℕ) (change : Head → Head) (heads : List Head) → ((head : Head) → (change head).id ≡ head.id)
    → is_some (head_of asked (with_head id change heads)) ≡ is_some (head_of asked heads)
head_stays asked id change [] keeps = refl
head_stays asked id change (head ∷ heads) keeps =
    by_space (head.id == id)
    (λ found. rw found (by_space (head.id == asked)
    (λ here. let still : ((change head).id == asked) ≡ true = ap (λ n. n == asked) (keeps head) ∙ here in rw (here, still) refl)
    (λ beside. let still : ((change head).id == asked) ≡ false = ap (λ n. n == asked) (keeps head) ∙ beside in rw (beside, still) refl)))
    (λ apart. rw apart (by_space (head.id == asked) (λ here. rw here refl) (λ beside. rw beside (head_stays asked id change heads keeps))))

head_before : (asked : ℕ) (heads more : List Head) → is_some (head_of asked heads) ≡ true → is_some (head_of asked (heads ++ more)) ≡ true
head_before asked [] more there = absurd (true_is_false (sym there))
head_before asked (head ∷ heads) more there =
    by_space (head.id == asked) (λ here. rw here refl) (λ beside. rw beside (head_before asked heads more (rw beside at there)))

with_table_there : (found : Option Head) → is_some (option_and_then (λ (head : Head). table_in None head) found) ≡ is_some found
with_table_there None = refl
with_table_there (Some head) = refl

dropped_other : (family : FamilyState) (asked id : ℕ) → (asked == id) ≡ false → is_some (head_of asked family.heads) ≡ true
    → is_some (head_of asked (done (DropHead id) family).heads) ≡ true
dropped_other family asked id other there =
    let later = done (DropHead id) family in
    sym (with_table_there (head_of asked later.heads))
    ∙ ap (λ (found : Option Table). is_some found) (head-others family id (head_spot asked) other).table
    ∙ with_table_there (head_of asked family.heads) ∙ there

without_spot : (family : FamilyState) (asked of_head : ℕ) (snap : Option (List ℕ)) → is_some (head_of asked family.heads) ≡ true
    → is_some (head_of asked (spot_removed (spot_at of_head snap) family).heads) ≡ true
without_spot family asked of_head None there = there
without_spot family asked of_head (Some part) there =
    head_stays asked of_head (without_snapshot part) family.heads (λ head. id_stays part head) ∙ there

head_goes_on : (act : Act) (family : FamilyState) (head : ℕ) → drops (head_spot head) act ≡ false
    → is_some (head_of head family.heads) ≡ true → is_some (head_of head (done act family).heads) ≡ true
head_goes_on (Change id change) family head kept there = head_stays head id (given change.table) family.heads (λ of_id. refl) ∙ there
head_goes_on (Note spot what) family head kept there = there
head_goes_on (Lend salts shelf) family head kept there = there
head_goes_on (MakeSnapshot id part guid) family head kept there = head_stays head id (with_snapshot part guid) family.heads (λ of_id. refl) ∙ there
head_goes_on (MakeClone from id) family head kept there =
    head_before head family.heads (option_map_or (λ table. clone_of id table ∷ []) (table_of from family.heads) []) there
head_goes_on (DropHead id) family head kept there = dropped_other family head id kept there
head_goes_on (DropSnapshot spot) family head kept there = without_spot family head spot.head spot.snap there

-- ---- a snapshot is held

-- by this entry this head was cloned from the spot
abbrev made_by : Spot → (head : ℕ) → LogEntry → Bool
made_by spot head (Make id lengths refs) = false
made_by spot head (Write id lengths refs) = false
made_by spot head (Cut id lengths refs) = false
made_by spot head (Remove id lengths refs) = false
made_by spot head (Receive id lengths refs) = false
made_by spot head (Snapshot id part) = false
made_by spot head (Clone from id) = same_spot from spot && id == head
made_by spot head (Read other) = false
made_by spot head (Refused other why draws puts) = false

both : (a b c : Bool) → (a && b) ≡ true → (b ≡ true → c ≡ true) → (a && c) ≡ true
both true b c is then_c = then_c is
both false b c is then_c = absurd (true_is_false (sym is))

clones_it : (spot : Spot) (head : ℕ) (heads : List Head) (entry : LogEntry) → is_some (head_of head heads) ≡ true
    → made_by spot head entry ≡ true → clones spot heads entry ≡ true
clones_it spot head heads (Make id lengths refs) there is = absurd (true_is_false (sym is))
clones_it spot head heads (Write id lengths refs) there is = absurd (true_is_false (sym is))
clones_it spot head heads (Cut id lengths refs) there is = absurd (true_is_false (sym is))
clones_it spot head heads (Remove id lengths refs) there is = absurd (true_is_false (sym is))
clones_it spot head heads (Receive id lengths refs) there is = absurd (true_is_false (sym is))
clones_it spot head heads (Snapshot id part) there is = absurd (true_is_false (sym is))
clones_it spot head heads (Clone from id) there is =
    both (same_spot from spot) (id == head) (is_some (head_of id heads)) is
    (λ same. let it : id ≡ head = (Decides-eqb id head).0 same in
    ap (λ n. is_some (head_of n heads)) it ∙ there)
clones_it spot head heads (Read other) there is = absurd (true_is_false (sym is))
clones_it spot head heads (Refused other why draws puts) there is = absurd (true_is_false (sym is))

any_clones : (spot : Spot) (head : ℕ) (heads : List Head) (log : List LogEntry) → is_some (head_of head heads) ≡ true
    → list_any (made_by spot head) log ≡ true → list_any (clones spot heads) log ≡ true
any_clones spot head heads [] there is = is
any_clones spot head heads (entry ∷ log) there is =
    by_space (made_by spot head entry)
    (λ made. or_true (clones spot heads entry) (list_any (clones spot heads) log) (clones_it spot head heads entry there made))
    (λ other. let later : list_any (clones spot heads) log ≡ true = any_clones spot head heads log there (rw other at is) in
    rw later (true_or (clones spot heads entry)))

-- a head that was cloned from a spot, both there
record Held (from : Spot) (head : ℕ) (family : FamilyState) : Type 0 where
  snapshot : is_snapshot from family.heads ≡ true
  there : is_some (head_of head family.heads) ≡ true
  entry : list_any (made_by from head) family.log ≡ true

held_back : (from : Spot) (head : ℕ) (family : FamilyState) → Held from head family → drop_snapshot_answer from family ≡ Err HasClones
held_back from head family held =
    let cloned : has_clone from family ≡ true = any_clones from head family.heads family.log held.there held.entry in
    rw (held.snapshot, cloned) refl

is_head_of : (found : Option Head) → is_some (option_and_then (λ (head : Head). table_in None head) found) ≡ true → is_some found ≡ true
is_head_of None some = some
is_head_of (Some head) some = refl

snapshots_then_not_dropped : (found : Option Head) (part : List ℕ) → IfSome found (λ head. head.parts ≡ [])
    → is_some (option_and_then (λ (head : Head). table_in (Some part) head) found) ≡ true → ⊥
snapshots_then_not_dropped None part none some = true_is_false (sym some)
snapshots_then_not_dropped (Some head) part none some = true_is_false (sym (rw none at some))

same_byte_spot : (of_head : ℕ) (snap : Option (List ℕ)) → same_spot (spot_at of_head snap) (spot_at of_head snap) ≡ true
same_byte_spot of_head None = rw (same_id of_head) refl
same_byte_spot of_head (Some part) = rw (same_id of_head, (bytes_eq-Decides part part).1 refl) refl

no_answer : (why : Refusal) (answer : Result (Unit {0}) Refusal) → answer ≡ Err why → answer ≡ Ok tt → ⊥
no_answer why answer refused is = cc

-- an origin isn't dropped
origin_stays : (act : Act) (family : FamilyState) (of_head : ℕ) (snap : Option (List ℕ)) (head : ℕ) → Held (spot_at of_head snap) head family
    → IsDone act family → drops (spot_at of_head snap) act ≡ false
origin_stays act family of_head None head held is_done = absurd (true_is_false (sym held.snapshot))
origin_stays (Change id change) family of_head (Some part) head held is_done = refl
origin_stays (Note spot what) family of_head (Some part) head held is_done = refl
origin_stays (Lend salts shelf) family of_head (Some part) head held is_done = refl
origin_stays (MakeSnapshot id asked guid) family of_head (Some part) head held is_done = refl
origin_stays (MakeClone from id) family of_head (Some part) head held is_done = refl
origin_stays (DropHead id) family of_head (Some part) head held is_done =
    by_space (of_head == id)
    (λ here. let same : of_head ≡ id = (Decides-eqb of_head id).0 here in
    let none : HasNoSnapshots of_head family = subst (λ (n : ℕ). HasNoSnapshots n family) (sym same) is_done in
    absurd (snapshots_then_not_dropped (head_of of_head family.heads) part none held.snapshot))
    (λ other. other)
origin_stays (DropSnapshot dropped) family of_head (Some part) head held is_done =
    by_space (same_spot (spot_at of_head (Some part)) dropped)
    (λ same. let is = same_spot-is (spot_at of_head (Some part)) dropped same in
    let back : drop_snapshot_answer dropped family ≡ Err HasClones =
    subst (λ (spot : Spot). drop_snapshot_answer spot family ≡ Err HasClones) is (held_back (spot_at of_head (Some part)) head family held) in
    absurd (no_answer HasClones (drop_snapshot_answer dropped family) back is_done))
    (λ other. other)

held_on : (act : Act) (family : FamilyState) (from : Spot) (head : ℕ) → IsFamily family → IsDone act family
    → drops (head_spot head) act ≡ false → Held from head family → Held from head (done act family)
held_on act family from head kept is_done stays held =
    let dropped = origin_stays act family from.head from.snap head held is_done in
    let apart = untouched act family from.head from.snap is_done held.snapshot dropped in
    record {
      snapshot = still_snapshot family (done act family) from (once act family from kept is_done apart) held.snapshot;
      there = head_goes_on act family head stays held.there;
      entry = in_log (made_by from head) act family held.entry;
    }

held_later : (acts : List Act) (family later : FamilyState) (from : Spot) (head : ℕ) → Follows acts family later
    → All (λ (act : Act). drops (head_spot head) act ≡ false) acts → Held from head family → Held from head later
held_later [] family later from head follows others held = subst (λ (after : FamilyState). Held from head after) (sym follows) held
held_later (act ∷ acts) family later from head follows others held =
    held_later acts (done act family) later from head follows.1 (λ k d within. others (suc k) d (omega arith))
    (held_on act family from head follows.0.0 follows.0.1 (others zero act (omega arith)) held)

-- ---- from the clone on

is_there : (family : FamilyState) (from : Spot) → clone_answer from family ≡ Ok tt → is_snapshot from family.heads ≡ true
is_there family from is =
    by_space (is_snapshot from family.heads) (λ there. there) (λ none. absurd (no_answer NoSnapshot (clone_answer from family) (rw none refl) is))

second : (a b : Bool) → (a && b) ≡ true → b ≡ true
second true b is = is
second false b is = absurd (true_is_false (sym is))

mapped_some : (f : Table → Table) (found : Option Table) → is_some (option_map f found) ≡ is_some found
mapped_some f None = refl
mapped_some f (Some table) = refl

held_first : (family : FamilyState) (from : Spot) (head : ℕ) → clone_answer from family ≡ Ok tt → IsNewHead head family
    → Held from head (clone_added from head family)
held_first family from head is new =
    let there = is_there family from is in
    let made = clone_added from head family in
    let apart = untouched (MakeClone from head) family from.head from.snap (is, new) there refl in
    let table : is_some (table_of (head_spot head) made.heads) ≡ true =
    ap (λ (found : Option Table). is_some found) (clone-made family from head new.absent)
    ∙ mapped_some (with_guid 0) (table_of from family.heads)
    ∙ second (is_some from.snap) (is_some (table_of from family.heads)) there in
    record {
      snapshot = still_snapshot family made from (clone-others family from head from new.absent apart) there;
      there = is_head_of (head_of head made.heads) table;
      entry = list_any-append (made_by from head) family.log (Clone from head ∷ [])
          ∙ rw (same_byte_spot from.head from.snap, same_id head) (true_or (list_any (made_by from head) family.log));
    }

pub clone_holds : (acts : List Act) (family later : FamilyState) (from : Spot) (head : ℕ) → clone_answer from family ≡ Ok tt
    → IsNewHead head family → Follows acts (clone_added from head family) later
    → All (λ (act : Act). drops (head_spot head) act ≡ false) acts → drop_snapshot_answer from later ≡ Err HasClones
clone_holds acts family later from head is new follows others =
    held_back from head later
    (held_later acts (clone_added from head family) later from head follows others (held_first family from head is new))
