-- The row of a file behind the directory that names it, over plain variables.
use Rattle.std.proofs.Common.{◌≡◌, ℕ, ◌==◌, true, List, [], ◌∷◌, refl, sym, subst, arith, Option, Some, None, Result, Ok, Err}
use Rattle.std.specs.List.{find}
use Rattle.std.specs.Option.{option_and_then, option_map_or}
use Rattle.std.specs.Prelude.{IfErr}
use Rattle.std.proofs.lemmas.Bool.Decides.{nat_tests}
use Rattle.std.proofs.lemmas.Option.{IfSome_then}
use Rattle.dataset_tree.specs.declared.refusal.Refusal.{Refusal}
use Rattle.dataset_tree.specs.declared.refusal.Refusal.TheVariants as refusals
use Rattle.shelf_store.specs.ShelfState.{ShelfState}
use Rattle.family_log.specs.declared.table.Table.{Table}
use Rattle.family_log.specs.declared.table.TableRow.{TableRow}
use Rattle.family_log.specs.declared.entry.Spot.{Spot}
use Rattle.family_log.specs.Tables.{row_of}
use Rattle.family_log.specs.Model.{FamilyState, table_of}
use Rattle.file_directory.specs.declared.directory.DirectoryEntry.{DirectoryEntry}
use Rattle.file_directory.specs.Entries.{object_named}
use Rattle.file_dataset.specs.declared.halt.Halt.TheVariants as halts
use Rattle.file_dataset.specs.Calls.{by_table, is_of_reading, tested_portable}
use Rattle.file_dataset.specs.Reads.{file_row, then_read}
use Rattle.file_dataset.specs.Steps.{IsOneHalt, IsUnreadBy, Visits, row_stops}
use Rattle.file_dataset.proofs.StepLemmas.{walked_then}

object_found : (object : ℕ) (rows : List TableRow) (row : TableRow) → find (λ (r : TableRow). r.object == object) rows ≡ Some row
    → row.object ≡ object
object_found object [] row found = absurd (cc)
object_found object (first ∷ rows) row found =
    let rest = object_found object rows row in
    grind (arith, nat_tests)

-- a row that is found by its object is found by its own
pub row_itself : (table : Table) (object : ℕ) (row : TableRow) → row_of object table ≡ Some row → row_of row.object table ≡ Some row
row_itself table object row found =
    subst (λ (n : ℕ). row_of n table ≡ Some row) (sym (object_found object table.rows row found)) found

pub file_row_itself : (table : Table) (name : List ℕ) (entries : List DirectoryEntry) (row : TableRow)
    → Ok row ≡ file_row table name entries → row_of row.object table ≡ Some row
file_row_itself table name entries row is = by_object (object_named name entries) is
  where
    by_row : (object : ℕ) (found : Option TableRow) → row_of object table ≡ found
        → Ok row ≡ option_map_or (λ r. Ok r) found (Err refusals.NoFile) → row_of row.object table ≡ Some row
    by_row object None same is = absurd (cc)
    by_row object (Some other) same is = let here : other ≡ row = cc in row_itself table object row (rw (← here) same)

    by_object : (object : Option ℕ)
        → Ok row ≡ option_map_or (λ r. Ok r) (option_and_then (λ n. row_of n table) object) (Err refusals.NoFile)
        → row_of row.object table ≡ Some row
    by_object None is = absurd (cc)
    by_object (Some object) is = by_row object (row_of object table) refl is

-- no file is why there is no row
pub no_file : (table : Table) (name : List ℕ) (entries : List DirectoryEntry) (why : Refusal)
    → Err why ≡ file_row table name entries → why ≡ refusals.NoFile
no_file table name entries why is = by_row (option_and_then (λ object. row_of object table) (object_named name entries)) is
  where
    by_row : (row : Option TableRow) → Err why ≡ option_map_or (λ r. Ok r) row (Err refusals.NoFile) → why ≡ refusals.NoFile
    by_row (Some row) is = absurd (cc)
    by_row None is = cc

pub no_file_stop : (why : Refusal) → why ≡ refusals.NoFile → IsOneHalt row_stops (halts.Refused why)
no_file_stop why is = rw is refl

-- a step without a call of the shelf refuses, behind a reading that went well
pub visits_stop : {X Y Z W : Type 0} (sees : X → Y) (other : Z → W) (answer : (held : List (List ℕ)) → Table → Result Y Refusal)
    (next : Table → Y → Result W Refusal) (most : Table → ℕ) (hmac_key : List ℕ) (spot : Spot) (x : X) (why : Refusal)
    (old new : FamilyState) (table : Table) → table_of spot old.heads ≡ Some table
    → Visits sees answer most hmac_key spot (Ok x) old new → next table (sees x) ≡ Err why → is_of_reading why ≡ true
    → Visits other (λ held of_spot. then_read (next of_spot) (answer held of_spot)) most hmac_key spot (Err (halts.Refused why)) old new
visits_stop {X = X} {Z = Z} sees other answer next most hmac_key spot x why old new table at visits stops among =
    record {
      left = visits.left;
      walked = walked_then _ x _ _ _ visits.walked refl among;
      told =
          IfSome_then old.shelf.held visits.told (λ held found.
          let answered : answer held table ≡ Ok (sees x) = rw at at found in
          rw (at, answered, stops) refl);
      before = by_test (by_table (tested_portable hmac_key) old spot) visits.before;
    }
  where
    by_test : (tested : Result (Unit {0}) Refusal) → IfErr tested (IsUnreadBy {X = X} (Ok x) old.shelf new.shelf)
        → IfErr tested (IsUnreadBy {X = Z} (Err (halts.Refused why)) old.shelf new.shelf)
    by_test (Ok passes) before = tt
    by_test (Err fails) before = absurd before.halted
