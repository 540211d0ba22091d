-- A table as the type of its family keeps it.
use Rattle.std.proofs.Common.{◌≡◌, ℕ, sym, subst, Option, Some, Result, Ok, Err}
use Rattle.std.specs.Prelude.{IfOk, IfSome}
use Rattle.family_log.specs.declared.entry.Spot.{Spot}
use Rattle.family_log.specs.declared.table.Table.{Table}
use Rattle.family_log.specs.Log.{last_length}
use Rattle.family_log.specs.Model.{FamilyState, IsFamily, table_of}
use Rattle.family_log.specs.Tables.{length_in}
use Rattle.family_log.proofs.KeptLemmas.{table_of-is}
use Rattle.file_dataset.specs.Steps.{IsTableAt}
use Rattle.file_dataset.proofs.Sizes.{readable_table}

pub kept_table : (family : FamilyState) (spot : Spot) (table : Table) → IsFamily family → Some table ≡ table_of spot family.heads
    → IsTableAt family spot table
kept_table family spot table kept found =
    record {
      found = sym found;
      in_form = readable_table family spot table kept found;
      record_size = (table_of-is family.block family.room spot family.heads family.log table kept found).block;
      lengths =
          subst (λ (o : Option Table). IfSome o (λ t. (object : ℕ) → length_in t object ≡ last_length family.log spot object)) (sym found) (kept.lengths spot);
    }

pub kept_copy : {E : Type 0} (copy : Result Table E) (family : FamilyState) (spot : Spot) (table : Table) → IfOk copy (λ t. t ≡ table)
    → IsTableAt family spot table → IfOk copy (IsTableAt family spot)
kept_copy (Ok t) family spot table same is = subst (IsTableAt family spot) (sym same) is
kept_copy (Err e) family spot table same is = tt
