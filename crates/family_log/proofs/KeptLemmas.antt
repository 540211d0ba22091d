-- What a family's type keeps where snapshots, clones and heads come and go, and honest shelves then.
use Rattle.std.proofs.Common.{◌≡◌, ◌≢◌, ℕ, ◌+◌, ◌<◌, ◌≤◌, zero, suc, Bool, true, false, not, List, [], ◌∷◌, ◌++◌, length, length-append, get_or, Option, Some, None, IfSome, refl, ap, sym, subst, arith}
use Rattle.std.specs.Prelude.{◌==◌, is_none}
use Rattle.std.specs.List.{All, filter, position, slice_get}
use Rattle.std.specs.Option.{option_and_then, option_map_or}
use Rattle.std.specs.Str.{bytes_eq}
use Rattle.std.proofs.lemmas.Bool.Decides.{Decides-eqb}
use Rattle.std.proofs.lemmas.List.Elements.{All-append, All-filter}
use Rattle.std.proofs.lemmas.List.Kept.{AllPairs-filter}
use Rattle.std.proofs.lemmas.List.Quantifiers.{all_pairs_push}
use Rattle.std.proofs.lemmas.List.Sums.{sum_by-append}
use Rattle.family_log.specs.declared.table.Table.{Table}
use Rattle.family_log.specs.declared.head.Head.{Head}
use Rattle.family_log.specs.declared.head.TheConstants.{MAX_SNAPSHOTS}
use Rattle.family_log.specs.declared.entry.Spot.{Spot}
use Rattle.family_log.specs.declared.entry.LogEntry.{LogEntry}
use Rattle.family_log.specs.declared.entry.LogEntry.TheVariants.{Clone, Snapshot}
use Rattle.family_log.specs.Tables.{IsTable}
use Rattle.family_log.specs.Model.{FamilyState, HasLengths, IsFamily, IsHead, IsKept, head_of, snapshot_count, table_in, table_of}
use Rattle.family_log.specs.Calls.{with_head}
use Rattle.family_log.specs.Honest.{IsHonest, TellsTheLog}
use Rattle.family_log.specs.Snapshots.{clone_added, clone_of, has_part, has_snapshot, head_removed, snapshot_added, snapshot_removed, with_snapshot, without_snapshot}
use Rattle.family_log.proofs.HeadLemmas.{IsKept-with_head, count-cons, found_has, with_head-count}
use Rattle.family_log.proofs.SnapLemmas.{IsHead-with_snapshot, IsHead-without_snapshot, count-added, count-removed}
use Rattle.family_log.proofs.SpotLemmas.{id_stays}
use Rattle.family_log.proofs.ToldLemmas.{lengths-along, tells-along, told-clone, told-removed, told-snapshot, told-without_head}

by_space : {P : Type 0} (b : Bool) → (b ≡ true → P) → (b ≡ false → P) → P
by_space true yes_case no_case = yes_case refl
by_space false yes_case no_case = no_case refl

true_is_false : true ≡ false → ⊥
true_is_false e = cc

one_longer : (log : List LogEntry) (entry : LogEntry) (room : ℕ) → length log < room → length (log ++ entry ∷ []) ≤ room
one_longer log entry room left = omega (arith, length-append log (entry ∷ []))

-- ---- what the type keeps

added_head : (record_size guid : ℕ) (part : List ℕ) (found : Option Head) → IfSome found (IsHead record_size)
    → option_map_or (λ (head : Head). has_part part head.parts) found false ≡ false
    → IfSome found (λ (head : Head). IsHead record_size (with_snapshot part guid head))
added_head record_size guid part None kept none = tt
added_head record_size guid part (Some head) kept none = IsHead-with_snapshot record_size part guid head kept none

pub IsFamily-snapshot : (family : FamilyState) (id : ℕ) (part : List ℕ) (guid : ℕ) → IsFamily family → has_snapshot id part family.heads ≡ false
    → snapshot_count family.heads < MAX_SNAPSHOTS → length family.log < family.room → IsFamily (snapshot_added id part guid family)
IsFamily-snapshot family id part guid kept none few left =
    let count : snapshot_count (with_head id (with_snapshot part guid) family.heads) ≤ snapshot_count family.heads + 1 =
    with_head-count id (with_snapshot part guid) family.heads 1 (λ head. count-added part guid head) in
    IsKept-with_head family.block family.room id (with_snapshot part guid) family.heads family.log (family.log ++ Snapshot id part ∷ []) kept (λ head. refl)
    (added_head family.block guid part (head_of id family.heads) (found_has (IsHead family.block) id family.heads kept.tables) none) (omega arith)
    (one_longer family.log (Snapshot id part) family.room left)
    (told-snapshot HasLengths lengths-along family kept.lengths id part guid kept none)

removed_head : (record_size : ℕ) (part : List ℕ) (found : Option Head) → IfSome found (IsHead record_size)
    → IfSome found (λ (head : Head). IsHead record_size (without_snapshot part head))
removed_head record_size part None kept = tt
removed_head record_size part (Some head) kept = IsHead-without_snapshot record_size part head kept

pub IsFamily-removed : (family : FamilyState) (id : ℕ) (part : List ℕ) → IsFamily family → IsFamily (snapshot_removed id part family)
IsFamily-removed family id part kept =
    let count : snapshot_count (with_head id (without_snapshot part) family.heads) ≤ snapshot_count family.heads + 0 =
    with_head-count id (without_snapshot part) family.heads 0 (λ head. count-removed part head) in
    let few : snapshot_count family.heads ≤ MAX_SNAPSHOTS = kept.few_snapshots in
    IsKept-with_head family.block family.room id (without_snapshot part) family.heads family.log family.log kept (λ head. id_stays part head)
    (removed_head family.block part (head_of id family.heads) (found_has (IsHead family.block) id family.heads kept.tables)) (omega arith) kept.in_room
    (told-removed HasLengths lengths-along family kept.lengths id part kept)

dropped : (id : ℕ) (head : Head) (heads : List Head) → (head.id == id) ≡ true
    → filter (λ (other : Head). not (other.id == id)) (head ∷ heads) ≡ filter (λ (other : Head). not (other.id == id)) heads
dropped id head heads found = rw found refl

stays : (id : ℕ) (head : Head) (heads : List Head) → (head.id == id) ≡ false
    → filter (λ (other : Head). not (other.id == id)) (head ∷ heads) ≡ head ∷ filter (λ (other : Head). not (other.id == id)) heads
stays id head heads apart = rw apart refl

filtered_count : (id : ℕ) (heads : List Head) → snapshot_count (filter (λ head. not (head.id == id)) heads) ≤ snapshot_count heads
filtered_count id [] = omega arith
filtered_count id (head ∷ heads) =
    let rest : snapshot_count (filter (λ head. not (head.id == id)) heads) ≤ snapshot_count heads = filtered_count id heads in
    let all : snapshot_count (head ∷ heads) ≡ length head.parts + snapshot_count heads = count-cons head heads in
    let with_rest : snapshot_count (head ∷ filter (λ head. not (head.id == id)) heads)
    ≡ length head.parts + snapshot_count (filter (λ head. not (head.id == id)) heads) = count-cons head (filter (λ head. not (head.id == id)) heads) in
    by_space (head.id == id)
    (λ found. subst (λ (n : ℕ). n ≤ snapshot_count (head ∷ heads)) (ap snapshot_count (sym (dropped id head heads found))) (omega arith))
    (λ apart. subst (λ (n : ℕ). n ≤ snapshot_count (head ∷ heads)) (ap snapshot_count (sym (stays id head heads apart))) (omega arith))

pub IsFamily-without_head : (family : FamilyState) (id : ℕ) → IsFamily family → IsFamily (head_removed id family)
IsFamily-without_head family id kept =
    let few : snapshot_count family.heads ≤ MAX_SNAPSHOTS = kept.few_snapshots in
    let count : snapshot_count (filter (λ head. not (head.id == id)) family.heads) ≤ snapshot_count family.heads = filtered_count id family.heads in
    record {
      record_size = kept.record_size;
      room_least = kept.room_least;
      room_most = kept.room_most;
      in_room = kept.in_room;
      tables = All-filter (λ (head : Head). not (head.id == id)) (IsHead family.block) family.heads kept.tables;
      apart = AllPairs-filter (λ (earlier later : Head). earlier.id ≢ later.id) (λ (head : Head). not (head.id == id)) family.heads kept.apart;
      few_snapshots = omega arith;
      lengths = told-without_head HasLengths lengths-along family kept.lengths id;
    }

clone_of-is_head : (record_size id : ℕ) (table : Table) → IsTable record_size table → IsHead record_size (clone_of id table)
clone_of-is_head record_size id table is = record {
  table = record { block = is.block; count = is.count; first = is.first; rising = is.rising; rows = is.rows };
  no_guid = refl;
  snapshots = λ k d within. absurd (omega arith);
  paired = refl;
  apart = λ i j d before within. absurd (omega arith);
}

absent_apart : (id : ℕ) (heads : List Head) → is_none (head_of id heads) ≡ true → (k : ℕ) (d : Head) → k < length heads → (get_or heads k d).id ≢ id
absent_apart id [] none k d within same = absurd (omega arith)
absent_apart id (head ∷ heads) none zero d within same =
    let here : (head.id == id) ≡ true = (Decides-eqb head.id id).1 same in true_is_false (sym (rw here at none))
absent_apart id (head ∷ heads) none (suc k) d within same =
    by_space (head.id == id)
    (λ here. true_is_false (sym (rw here at none)))
    (λ beside. absent_apart id heads (rw beside at none) k d (omega arith) same)

only_clone : (record_size id : ℕ) (table : Table) → IsTable record_size table → All (IsHead record_size) (clone_of id table ∷ [])
only_clone record_size id table is zero d within = clone_of-is_head record_size id table is
only_clone record_size id table is (suc k) d within = absurd (omega arith)

got_is : (P : Table → Type 0) (tables : List Table) (at : ℕ) → All P tables → IfSome (slice_get tables at) P
got_is P [] at all = tt
got_is P (table ∷ tables) zero all = all 0 table (omega arith)
got_is P (table ∷ tables) (suc at) all = got_is P tables at (λ k d within. all (suc k) d (omega arith))

snap_in-is : (record_size : ℕ) (head : Head) (found : Option ℕ) → IsHead record_size head
    → IfSome (option_and_then (λ at. slice_get head.tables at) found) (IsTable record_size)
snap_in-is record_size head None kept = tt
snap_in-is record_size head (Some at) kept = got_is (IsTable record_size) head.tables at kept.snapshots

-- the table of each spot has its form
table_in-is : (record_size : ℕ) (snap : Option (List ℕ)) (head : Head) → IsHead record_size head → IfSome (table_in snap head) (IsTable record_size)
table_in-is record_size None head kept = kept.table
table_in-is record_size (Some part) head kept = snap_in-is record_size head (position (λ other. bytes_eq other part) head.parts) kept

of_found : (record_size : ℕ) (snap : Option (List ℕ)) (found : Option Head) → IfSome found (IsHead record_size)
    → IfSome (option_and_then (λ head. table_in snap head) found) (IsTable record_size)
of_found record_size snap None kept = tt
of_found record_size snap (Some head) kept = table_in-is record_size snap head kept

pub table_of-is : (block room : ℕ) (spot : Spot) (heads : List Head) (log : List LogEntry) (table : Table) → IsKept block room heads log
    → Some table ≡ table_of spot heads → IsTable block table
table_of-is block room spot heads log table kept is =
    subst (λ (found : Option Table). IfSome found (IsTable block)) (sym is)
    (of_found block spot.snap (head_of spot.head heads) (found_has (IsHead block) spot.head heads kept.tables))

-- the family with a clone, by the table that the clone begins with
pub clone_built : (family : FamilyState) (from : Spot) (id : ℕ) (table : Table) → Some table ≡ table_of from family.heads
    → record family { heads = family.heads ++ clone_of id table ∷ []; log = family.log ++ Clone from id ∷ [] } ≡ clone_added from id family
clone_built family from id table is = rw (sym is) refl

cloned_lengths : (family : FamilyState) (from : Spot) (id : ℕ) (table : Table) → IsFamily family → Some table ≡ table_of from family.heads
    → is_none (head_of id family.heads) ≡ true
    → (spot : Spot) → IfSome (table_of spot (family.heads ++ clone_of id table ∷ [])) (λ table. HasLengths (family.log ++ Clone from id ∷ []) spot table)
cloned_lengths family from id table kept is none spot =
    subst (λ (later : FamilyState). IfSome (table_of spot later.heads) (λ table. HasLengths later.log spot table))
    (sym (clone_built family from id table is)) (told-clone HasLengths lengths-along family kept.lengths from id none spot)

pub IsKept-clone : (family : FamilyState) (from : Spot) (id : ℕ) (table : Table) → IsFamily family → Some table ≡ table_of from family.heads
    → is_none (head_of id family.heads) ≡ true → length family.log < family.room
    → IsKept family.block family.room (family.heads ++ clone_of id table ∷ []) (family.log ++ Clone from id ∷ [])
IsKept-clone family from id table kept is none left =
    let few : snapshot_count family.heads ≤ MAX_SNAPSHOTS = kept.few_snapshots in
    let count : snapshot_count (family.heads ++ clone_of id table ∷ []) ≡ snapshot_count family.heads + snapshot_count (clone_of id table ∷ []) =
    sum_by-append (λ (head : Head). length head.parts) family.heads (clone_of id table ∷ []) in
    let one : snapshot_count (clone_of id table ∷ []) ≡ 0 = refl in
    let has_form = table_of-is family.block family.room from family.heads family.log table kept is in
    record {
      record_size = kept.record_size;
      room_least = kept.room_least;
      room_most = kept.room_most;
      in_room = one_longer family.log (Clone from id) family.room left;
      tables = All-append (IsHead family.block) family.heads (clone_of id table ∷ []) kept.tables (only_clone family.block id table has_form);
      apart = all_pairs_push (λ (earlier later : Head). earlier.id ≢ later.id) family.heads (clone_of id table) kept.apart
          (λ k d within same. absent_apart id family.heads none k d within same);
      few_snapshots = omega arith;
      lengths = cloned_lengths family from id table kept is none;
    }

-- ---- honest shelves

pub IsHonest-snapshot : (family : FamilyState) (id : ℕ) (part : List ℕ) (guid : ℕ) → IsFamily family → has_snapshot id part family.heads ≡ false
    → IsHonest family → IsHonest (snapshot_added id part guid family)
IsHonest-snapshot family id part guid kept none honest = record {
  blocks = honest.blocks;
  placed = honest.placed;
  held = honest.held;
  bytes = honest.bytes;
  spots = told-snapshot (TellsTheLog honest.blocks) (tells-along honest.blocks) family honest.spots id part guid kept none;
}

pub IsHonest-clone : (family : FamilyState) (from : Spot) (id : ℕ) → is_none (head_of id family.heads) ≡ true
    → IsHonest family → IsHonest (clone_added from id family)
IsHonest-clone family from id none honest = record {
  blocks = honest.blocks;
  placed = honest.placed;
  held = honest.held;
  bytes = honest.bytes;
  spots = told-clone (TellsTheLog honest.blocks) (tells-along honest.blocks) family honest.spots from id none;
}

pub IsHonest-without_head : (family : FamilyState) (id : ℕ) → IsHonest family → IsHonest (head_removed id family)
IsHonest-without_head family id honest = record {
  blocks = honest.blocks;
  placed = honest.placed;
  held = honest.held;
  bytes = honest.bytes;
  spots = told-without_head (TellsTheLog honest.blocks) (tells-along honest.blocks) family honest.spots id;
}

pub IsHonest-removed : (family : FamilyState) (id : ℕ) (part : List ℕ) → IsFamily family → IsHonest family
    → IsHonest (snapshot_removed id part family)
IsHonest-removed family id part kept honest = record {
  blocks = honest.blocks;
  placed = honest.placed;
  held = honest.held;
  bytes = honest.bytes;
  spots = told-removed (TellsTheLog honest.blocks) (tells-along honest.blocks) family honest.spots id part kept;
}
