-- Snapshots among those of a head, by recursion on their names.
use Rattle.std.proofs.Common.{◌≡◌, ◌≢◌, ℕ, ◌<◌, ◌≤◌, zero, suc, Bool, true, false, List, [], ◌∷◌, ◌++◌, length, length-append, get_or, Option, Some, None, refl, ap, sym, ◌∙◌, ◌+◌, subst, arith}
use Rattle.std.specs.Prelude.{if◌then◌else◌, nat_lt}
use Rattle.std.proofs.lemmas.Bool.Decides.{nat_tests}
use Rattle.std.specs.List.{All, AllPairs, position, remove, slice_get}
use Rattle.std.specs.Option.{option_and_then, option_or}
use Rattle.std.specs.Str.{bytes_eq}
use Rattle.std.proofs.lemmas.List.Edits.{length-remove, get_or-remove_below, get_or-remove_above}
use Rattle.std.proofs.lemmas.List.Elements.{All-push}
use Rattle.std.proofs.lemmas.List.Quantifiers.{all_pairs_push, all_pairs_remove, position-Some}
use Rattle.std.proofs.lemmas.Slice.Eq.{bytes_eq-Decides}
use Rattle.family_log.specs.declared.table.Table.{Table}
use Rattle.family_log.specs.declared.head.Head.{Head}
use Rattle.family_log.specs.Tables.{IsTable}
use Rattle.family_log.specs.Model.{IsHead, snap_table}
use Rattle.family_log.specs.Snapshots.{has_part, with_snapshot, without_place, without_snapshot}
use Rattle.family_log.proofs.HeadLemmas.{all_fail}

by_space : {P : Type 0} (b : Bool) → (b ≡ true → P) → (b ≡ false → P) → P
by_space true yes_case no_case = yes_case refl
by_space false yes_case no_case = no_case refl

true_is_false : true ≡ false → ⊥
true_is_false e = cc

pub unlike : (a b : List ℕ) → a ≢ b → bytes_eq a b ≡ false
unlike a b apart = by_space (bytes_eq a b) (λ same. absurd (apart ((bytes_eq-Decides a b).0 same))) (λ other. other)

pub alike : (a b : List ℕ) → bytes_eq a b ≡ true → a ≡ b
alike a b same = (bytes_eq-Decides a b).0 same

pub turned : (a b : List ℕ) → bytes_eq a b ≡ false → bytes_eq b a ≡ false
turned a b apart = unlike b a (λ same. true_is_false (sym ((bytes_eq-Decides a b).1 (sym same)) ∙ apart))

-- the table at the place of a name
abbrev pub row_in : List ℕ → List (List ℕ) → List Table → Option Table
row_in part [] tables = None
row_in part (other ∷ parts) [] = None
row_in part (other ∷ parts) (table ∷ tables) = if bytes_eq other part then Some table else row_in part parts tables

row_in-at : (part : List ℕ) (parts : List (List ℕ)) (tables : List Table) (at : ℕ) (d : List ℕ) → at < length parts
    → length tables ≡ length parts → bytes_eq (get_or parts at d) part ≡ true
    → ((k : ℕ) → k < at → bytes_eq (get_or parts k d) part ≡ false) → slice_get tables at ≡ row_in part parts tables
row_in-at part [] tables at d within paired here before = absurd (omega arith)
row_in-at part (other ∷ parts) [] at d within paired here before = absurd (omega arith)
row_in-at part (other ∷ parts) (table ∷ tables) zero d within paired here before = rw here refl
row_in-at part (other ∷ parts) (table ∷ tables) (suc at) d within paired here before =
    rw (before 0 (omega arith))
    (row_in-at part parts tables at d (omega arith) (omega arith) here (λ k below. before (suc k) (omega arith)))

row_in-none : (part : List ℕ) (parts : List (List ℕ)) (tables : List Table) (d : List ℕ)
    → ((k : ℕ) → k < length parts → bytes_eq (get_or parts k d) part ≡ false) → None ≡ row_in part parts tables
row_in-none part [] tables d apart = refl
row_in-none part (other ∷ parts) [] d apart = refl
row_in-none part (other ∷ parts) (table ∷ tables) d apart =
    rw (apart 0 (omega arith)) (row_in-none part parts tables d (λ k below. apart (suc k) (omega arith)))

row_found : (part : List ℕ) (parts : List (List ℕ)) (tables : List Table) (found : Option ℕ) → length tables ≡ length parts
    → position (λ other. bytes_eq other part) parts ≡ found → option_and_then (λ at. slice_get tables at) found ≡ row_in part parts tables
row_found part parts tables None paired is =
    row_in-none part parts tables [] (all_fail (λ (other : List ℕ). bytes_eq other part) parts [] is)
row_found part parts tables (Some at) paired is =
    let facts = position-Some (λ (other : List ℕ). bytes_eq other part) parts at [] is in
    row_in-at part parts tables at [] facts.0 paired facts.1 facts.2

pub snap_table-row : (part : List ℕ) (head : Head) → length head.tables ≡ length head.parts
    → snap_table part head ≡ row_in part head.parts head.tables
snap_table-row part head paired =
    row_found part head.parts head.tables (position (λ other. bytes_eq other part) head.parts) paired refl

-- ---- one more

row_in-push : (asked part : List ℕ) (parts : List (List ℕ)) (tables : List Table) (table : Table) → length tables ≡ length parts
    → row_in asked (parts ++ part ∷ []) (tables ++ table ∷ [])
    ≡ option_or (row_in asked parts tables) (if bytes_eq part asked then Some table else None)
row_in-push asked part [] [] table paired = refl
row_in-push asked part [] (other ∷ tables) table paired = absurd (omega arith)
row_in-push asked part (name ∷ parts) [] table paired = absurd (omega arith)
row_in-push asked part (name ∷ parts) (other ∷ tables) table paired =
    by_space (bytes_eq name asked) (λ here. rw here refl)
    (λ apart. rw apart (row_in-push asked part parts tables table (omega arith)))

row_in-absent : (part : List ℕ) (parts : List (List ℕ)) (tables : List Table) → has_part part parts ≡ false
    → row_in part parts tables ≡ None
row_in-absent part [] tables none = refl
row_in-absent part (name ∷ parts) [] none = refl
row_in-absent part (name ∷ parts) (table ∷ tables) none =
    by_space (bytes_eq name part)
    (λ here. absurd (true_is_false (rw here at none)))
    (λ apart. rw apart (row_in-absent part parts tables (rw apart at none)))

pushed_pair : (part : List ℕ) (guid : ℕ) (head : Head) → length head.tables ≡ length head.parts
    → length (with_snapshot part guid head).tables ≡ length (with_snapshot part guid head).parts
pushed_pair part guid head paired =
    let table : Table = record head.table { guid = guid } in
    omega (arith, length-append head.tables (table ∷ []), length-append head.parts (part ∷ []))

or_none : {X : Type 0} (found : Option X) → option_or found None ≡ found
or_none None = refl
or_none (Some x) = refl

-- the new snapshot has the head's table, with its guid
pub snap_table-added : (part : List ℕ) (guid : ℕ) (head : Head) → length head.tables ≡ length head.parts → has_part part head.parts ≡ false
    → snap_table part (with_snapshot part guid head) ≡ Some (record head.table { guid = guid })
snap_table-added part guid head paired none =
    snap_table-row part (with_snapshot part guid head) (pushed_pair part guid head paired)
    ∙ row_in-push part part head.parts head.tables (record head.table { guid = guid }) paired
    ∙ rw (row_in-absent part head.parts head.tables none, (bytes_eq-Decides part part).1 refl) refl

pub snap_table-beside : (asked part : List ℕ) (guid : ℕ) (head : Head) → length head.tables ≡ length head.parts → bytes_eq asked part ≡ false
    → snap_table asked (with_snapshot part guid head) ≡ snap_table asked head
snap_table-beside asked part guid head paired apart =
    snap_table-row asked (with_snapshot part guid head) (pushed_pair part guid head paired)
    ∙ row_in-push asked part head.parts head.tables (record head.table { guid = guid }) paired
    ∙ rw (turned asked part apart) (or_none (row_in asked head.parts head.tables))
    ∙ sym (snap_table-row asked head paired)

none_passes : (part : List ℕ) (parts : List (List ℕ)) → has_part part parts ≡ false
    → (k : ℕ) (d : List ℕ) → k < length parts → bytes_eq (get_or parts k d) part ≡ false
none_passes part [] none k d within = absurd (omega arith)
none_passes part (name ∷ parts) none zero d within =
    by_space (bytes_eq name part) (λ here. absurd (true_is_false (rw here at none))) (λ apart. apart)
none_passes part (name ∷ parts) none (suc k) d within =
    by_space (bytes_eq name part) (λ here. absurd (true_is_false (rw here at none)))
    (λ apart. none_passes part parts (rw apart at none) k d (omega arith))

with_guid-is_table : (record_size guid : ℕ) (table : Table) → IsTable record_size table → IsTable record_size (record table { guid = guid })
with_guid-is_table record_size guid table is =
    record { block = is.block; count = is.count; first = is.first; rising = is.rising; rows = is.rows }

pub IsHead-with_snapshot : (record_size : ℕ) (part : List ℕ) (guid : ℕ) (head : Head) → IsHead record_size head → has_part part head.parts ≡ false
    → IsHead record_size (with_snapshot part guid head)
IsHead-with_snapshot record_size part guid head kept none = record {
  table = kept.table;
  no_guid = kept.no_guid;
  snapshots = All-push (IsTable record_size) head.tables (record head.table { guid = guid }) kept.snapshots
      (with_guid-is_table record_size guid head.table kept.table);
  paired = pushed_pair part guid head kept.paired;
  apart = all_pairs_push (λ (earlier later : List ℕ). earlier ≢ later) head.parts part kept.apart
      (λ k d within same. true_is_false (sym ((bytes_eq-Decides (get_or head.parts k d) part).1 same) ∙ none_passes part head.parts none k d within));
}

-- ---- one less

row_in-others : (asked : List ℕ) (parts : List (List ℕ)) (tables : List Table) (at : ℕ) (d : List ℕ) → at < length parts
    → length tables ≡ length parts → bytes_eq (get_or parts at d) asked ≡ false
    → row_in asked (remove parts at) (remove tables at) ≡ row_in asked parts tables
row_in-others asked [] tables at d within paired apart = absurd (omega arith)
row_in-others asked (name ∷ parts) [] at d within paired apart = absurd (omega arith)
row_in-others asked (name ∷ parts) (table ∷ tables) zero d within paired apart = rw apart refl
row_in-others asked (name ∷ parts) (table ∷ tables) (suc at) d within paired apart =
    by_space (bytes_eq name asked) (λ here. rw here refl)
    (λ other. rw other (row_in-others asked parts tables at d (omega arith) (omega arith) apart))

row_in-gone : (part : List ℕ) (parts : List (List ℕ)) (tables : List Table) (at : ℕ) (d : List ℕ)
    → AllPairs (λ (earlier later : List ℕ). earlier ≢ later) parts → at < length parts
    → length tables ≡ length parts → get_or parts at d ≡ part → row_in part (remove parts at) (remove tables at) ≡ None
row_in-gone part [] tables at d pairs within paired is = absurd (omega arith)
row_in-gone part (name ∷ parts) [] at d pairs within paired is = absurd (omega arith)
row_in-gone part (name ∷ parts) (table ∷ tables) zero d pairs within paired is =
    sym (row_in-none part parts tables d
    (λ k below. unlike (get_or parts k d) part (λ same. pairs 0 (suc k) d (omega arith) (omega arith) (is ∙ sym same))))
row_in-gone part (name ∷ parts) (table ∷ tables) (suc at) d pairs within paired is =
    let other : bytes_eq name part ≡ false = unlike name part (λ same. pairs 0 (suc at) d (omega arith) within (same ∙ sym is)) in
    rw other (row_in-gone part parts tables at d (λ i j e before below. pairs (suc i) (suc j) e (omega arith) (omega arith)) (omega arith) (omega arith) is)

removed_pair : (at : ℕ) (head : Head) → at < length head.parts → length head.tables ≡ length head.parts
    → length (remove head.tables at) ≡ length (remove head.parts at)
removed_pair at head within paired =
    let more : length (remove head.parts at) + 1 ≡ length head.parts = length-remove head.parts at within in
    let also : length (remove head.tables at) + 1 ≡ length head.tables = length-remove head.tables at (omega arith) in
    omega arith

place_others : (asked part : List ℕ) (head : Head) (found : Option ℕ) → length head.tables ≡ length head.parts → bytes_eq asked part ≡ false
    → position (λ other. bytes_eq other part) head.parts ≡ found → snap_table asked (without_place found head) ≡ snap_table asked head
place_others asked part head None paired apart is = refl
place_others asked part head (Some at) paired apart is =
    let facts = position-Some (λ (other : List ℕ). bytes_eq other part) head.parts at [] is in
    let here : get_or head.parts at [] ≡ part = alike (get_or head.parts at []) part facts.1 in
    let other : bytes_eq (get_or head.parts at []) asked ≡ false = ap (λ name. bytes_eq name asked) here ∙ turned asked part apart in
    snap_table-row asked (without_place (Some at) head) (removed_pair at head facts.0 paired)
    ∙ row_in-others asked head.parts head.tables at [] facts.0 paired other
    ∙ sym (snap_table-row asked head paired)

pub snap_table-others : (asked part : List ℕ) (head : Head) → length head.tables ≡ length head.parts → bytes_eq asked part ≡ false
    → snap_table asked (without_snapshot part head) ≡ snap_table asked head
snap_table-others asked part head paired apart =
    place_others asked part head (position (λ other. bytes_eq other part) head.parts) paired apart refl

place_gone : (record_size : ℕ) (part : List ℕ) (head : Head) (found : Option ℕ) → IsHead record_size head
    → position (λ other. bytes_eq other part) head.parts ≡ found → snap_table part (without_place found head) ≡ None
place_gone record_size part head None kept is =
    snap_table-row part head kept.paired
    ∙ sym (row_in-none part head.parts head.tables [] (all_fail (λ (other : List ℕ). bytes_eq other part) head.parts [] is))
place_gone record_size part head (Some at) kept is =
    let facts = position-Some (λ (other : List ℕ). bytes_eq other part) head.parts at [] is in
    snap_table-row part (without_place (Some at) head) (removed_pair at head facts.0 kept.paired)
    ∙ row_in-gone part head.parts head.tables at [] kept.apart facts.0 kept.paired (alike (get_or head.parts at []) part facts.1)

pub snap_table-gone : (record_size : ℕ) (part : List ℕ) (head : Head) → IsHead record_size head → snap_table part (without_snapshot part head) ≡ None
snap_table-gone record_size part head kept =
    place_gone record_size part head (position (λ other. bytes_eq other part) head.parts) kept refl

by_order : {P : Type 0} (k at : ℕ) → (k < at → P) → (at ≤ k → P) → P
by_order k at below above =
    by_space (nat_lt k at) (λ yes_lt. below (grind (arith, nat_tests))) (λ no_lt. above (grind (arith, nat_tests)))

All-removed : {X : Type 0} (P : X → Type 0) (xs : List X) (at : ℕ) → at < length xs → All P xs → All P (remove xs at)
All-removed P xs at within all k d below =
    let less : length (remove xs at) + 1 ≡ length xs = length-remove xs at within in
    by_order k at
    (λ before. subst P (sym (get_or-remove_below xs at d k before within)) (all k d (omega arith)))
    (λ behind. subst P (sym (get_or-remove_above xs at d k behind within)) (all (k + 1) d (omega arith)))

IsHead-without_place : (record_size : ℕ) (part : List ℕ) (head : Head) (found : Option ℕ) → IsHead record_size head
    → position (λ other. bytes_eq other part) head.parts ≡ found → IsHead record_size (without_place found head)
IsHead-without_place record_size part head None kept is = kept
IsHead-without_place record_size part head (Some at) kept is =
    let facts = position-Some (λ (other : List ℕ). bytes_eq other part) head.parts at [] is in
    let within : at < length head.parts = facts.0 in
    let pair : length head.tables ≡ length head.parts = kept.paired in
    record {
      table = kept.table;
      no_guid = kept.no_guid;
      snapshots = All-removed (IsTable record_size) head.tables at (omega arith) kept.snapshots;
      paired = removed_pair at head within kept.paired;
      apart = all_pairs_remove (λ (earlier later : List ℕ). earlier ≢ later) head.parts at within kept.apart;
    }

pub IsHead-without_snapshot : (record_size : ℕ) (part : List ℕ) (head : Head) → IsHead record_size head
    → IsHead record_size (without_snapshot part head)
IsHead-without_snapshot record_size part head kept =
    IsHead-without_place record_size part head (position (λ other. bytes_eq other part) head.parts) kept refl

-- no head has more snapshots afterwards than one more, or than before
pub count-added : (part : List ℕ) (guid : ℕ) (head : Head) → length (with_snapshot part guid head).parts ≤ length head.parts + 1
count-added part guid head = omega (arith, length-append head.parts (part ∷ []))

count_place : (part : List ℕ) (head : Head) (found : Option ℕ) → position (λ other. bytes_eq other part) head.parts ≡ found
    → length (without_place found head).parts ≤ length head.parts + 0
count_place part head None is = omega arith
count_place part head (Some at) is =
    let facts = position-Some (λ (other : List ℕ). bytes_eq other part) head.parts at [] is in
    let less : length (remove head.parts at) + 1 ≡ length head.parts = length-remove head.parts at facts.0 in
    omega arith

pub count-removed : (part : List ℕ) (head : Head) → length (without_snapshot part head).parts ≤ length head.parts + 0
count-removed part head = count_place part head (position (λ other. bytes_eq other part) head.parts) refl
