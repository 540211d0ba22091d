-- What is told of the tables of spots goes along with what the log gives.
use Rattle.std.proofs.Common.{◌≡◌, ℕ, Bool, true, false, List, Option, Some, None, Ok, IfSome, refl, ap, sym, ◌∙◌, subst}
use Rattle.std.specs.Prelude.{◌==◌, is_none}
use Rattle.std.specs.Option.{option_map}
use Rattle.family_log.specs.declared.table.Table.{Table}
use Rattle.family_log.specs.declared.entry.Spot.{Spot}
use Rattle.family_log.specs.declared.entry.LogEntry.{LogEntry}
use Rattle.family_log.specs.Log.{KeepsLast, head_spot, is_past, snap_spot}
use Rattle.family_log.specs.Model.{FamilyState, HasLengths, IsFamily, head_of, table_of}
use Rattle.family_log.specs.Honest.{TellsTheLog}
use Rattle.family_log.specs.Snapshots.{KeepsSpot, clone_added, has_snapshot, head_removed, same_spot, snapshot_added, snapshot_removed, with_guid}
use Rattle.family_log.proofs.SpotLemmas.{clone-made, clone-others, head-gone, head-others, kept-clone, kept-snapshot, removed-gone, removed-others, same_spot-is, snapshot-made, snapshot-others}

by_space : {P : Type 0} (b : Bool) → (b ≡ true → P) → (b ≡ false → P) → P
by_space true yes_case no_case = yes_case refl
by_space false yes_case no_case = no_case refl

-- it is told of each spot that is read as that one, and of the table with any guid
pub record GoesAlong (P : List LogEntry → Spot → Table → Type 0) : Type 0 where
  pub read : (log later : List LogEntry) (from spot : Spot) (table : Table) → KeepsLast log from later spot → P log from table → P later spot table
  pub guids : (log : List LogEntry) (spot : Spot) (guid : ℕ) (table : Table) → P log spot table → P log spot (with_guid guid table)

pub lengths-along : GoesAlong HasLengths
lengths-along = record {
  read = λ log later from spot table kept lengths. λ object. lengths object ∙ sym (kept.lengths object);
  guids = λ log spot guid table lengths. λ object. lengths object;
}

pub tells-along : (blocks : List (List ℕ)) → GoesAlong (TellsTheLog blocks)
tells-along blocks = record {
  read = λ log later from spot table kept tells. record {
    refs = λ object index. tells.refs object index ∙ ap Ok (sym (kept.refs table.block object index));
    ends = λ object index past. kept.refs table.block object index
        ∙ tells.ends object index (sym (ap (is_past table.block index) (kept.lengths object)) ∙ past);
  };
  guids = λ log spot guid table tells. record { refs = tells.refs; ends = tells.ends };
}

-- of a table that a spot has and had
pub still_told : (P : List LogEntry → Spot → Table → Type 0) → GoesAlong P → (log later : List LogEntry) (spot : Spot) (found : Option Table)
    → KeepsLast log spot later spot → IfSome found (λ table. P log spot table) → IfSome found (λ table. P later spot table)
still_told P along log later spot None kept told = tt
still_told P along log later spot (Some table) kept told = along.read log later spot spot table kept told

pub kept_told : (P : List LogEntry → Spot → Table → Type 0) → GoesAlong P → (family later : FamilyState) (spot : Spot) → KeepsSpot family later spot
    → IfSome (table_of spot family.heads) (λ table. P family.log spot table)
    → IfSome (table_of spot later.heads) (λ table. P later.log spot table)
kept_told P along family later spot keeps told =
    subst (λ (found : Option Table). IfSome found (λ table. P later.log spot table)) (sym keeps.table)
    (still_told P along family.log later.log spot (table_of spot family.heads) keeps.last told)

-- of a table that is made of another spot's
made_told : (P : List LogEntry → Spot → Table → Type 0) → GoesAlong P → (log later : List LogEntry) (from spot : Spot) (guid : ℕ) (found : Option Table)
    → KeepsLast log from later spot → IfSome found (λ table. P log from table)
    → IfSome (option_map (with_guid guid) found) (λ table. P later spot table)
made_told P along log later from spot guid None kept told = tt
made_told P along log later from spot guid (Some table) kept told =
    along.guids later spot guid table (along.read log later from spot table kept told)

-- of none
none_told : (P : Table → Type 0) (found : Option Table) → found ≡ None → IfSome found P
none_told P found is = rw is tt

-- ---- families: what is told of each spot is told of each afterwards

module _ (P : List LogEntry → Spot → Table → Type 0) (along : GoesAlong P) (family : FamilyState)
    (told : (spot : Spot) → IfSome (table_of spot family.heads) (λ table. P family.log spot table)) where
  pub told-snapshot : (id : ℕ) (part : List ℕ) (guid : ℕ) → IsFamily family → has_snapshot id part family.heads ≡ false
      → (spot : Spot) → IfSome (table_of spot (snapshot_added id part guid family).heads) (λ table. P (snapshot_added id part guid family).log spot table)
  told-snapshot id part guid kept none spot =
      let later : FamilyState = snapshot_added id part guid family in
      by_space (same_spot spot (snap_spot id part))
      (λ same. subst (λ (s : Spot). IfSome (table_of s later.heads) (λ table. P later.log s table)) (sym (same_spot-is spot (snap_spot id part) same))
      (subst (λ (found : Option Table). IfSome found (λ table. P later.log (snap_spot id part) table)) (sym (snapshot-made family id part guid kept none))
      (made_told P along family.log later.log (head_spot id) (snap_spot id part) guid (table_of (head_spot id) family.heads)
      (kept-snapshot family.log id part) (told (head_spot id)))))
      (λ apart. kept_told P along family later spot (snapshot-others family id part guid spot kept apart) (told spot))

  pub told-clone : (from : Spot) (id : ℕ) → is_none (head_of id family.heads) ≡ true
      → (spot : Spot) → IfSome (table_of spot (clone_added from id family).heads) (λ table. P (clone_added from id family).log spot table)
  told-clone from id none spot =
      let later : FamilyState = clone_added from id family in
      by_space (same_spot spot (head_spot id))
      (λ same. subst (λ (s : Spot). IfSome (table_of s later.heads) (λ table. P later.log s table)) (sym (same_spot-is spot (head_spot id) same))
      (subst (λ (found : Option Table). IfSome found (λ table. P later.log (head_spot id) table)) (sym (clone-made family from id none))
      (made_told P along family.log later.log from (head_spot id) 0 (table_of from family.heads) (kept-clone family.log from id) (told from))))
      (λ apart. kept_told P along family later spot (clone-others family from id spot none apart) (told spot))

  pub told-without_head : (id : ℕ) (spot : Spot) → IfSome (table_of spot (head_removed id family).heads) (λ table. P family.log spot table)
  told-without_head id spot =
      by_space (spot.head == id)
      (λ same. none_told (P family.log spot) (table_of spot (head_removed id family).heads) (head-gone family id spot same))
      (λ other. kept_told P along family (head_removed id family) spot (head-others family id spot other) (told spot))

  pub told-removed : (id : ℕ) (part : List ℕ) → IsFamily family
      → (spot : Spot) → IfSome (table_of spot (snapshot_removed id part family).heads) (λ table. P family.log spot table)
  told-removed id part kept spot =
      let later : FamilyState = snapshot_removed id part family in
      by_space (same_spot spot (snap_spot id part))
      (λ same. subst (λ (s : Spot). IfSome (table_of s later.heads) (λ table. P family.log s table)) (sym (same_spot-is spot (snap_spot id part) same))
      (none_told (P family.log (snap_spot id part)) (table_of (snap_spot id part) later.heads) (removed-gone family id part kept)))
      (λ apart. kept_told P along family later spot (removed-others family id part spot kept apart) (told spot))
