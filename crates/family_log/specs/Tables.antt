-- The tables of heads and snapshots, and the form that they keep.
use Rattle.std.specs.Prelude.{ℕ, ◌≡◌, ◌==◌, ◌<◌, ◌≤◌, ◌^◌, true, List, [], ◌∷◌, length, Option, Some, None}
use Rattle.std.specs.Int.{div_ceil}
use Rattle.std.specs.List.{All, AllPairs, find, list_any, slice_get}
use Rattle.std.specs.Option.{option_map}
use Rattle.family_log.specs.declared.table.Table.{Table}
use Rattle.family_log.specs.declared.table.TableRow.{TableRow}

-- a record size is a power of two from 512 to 131072
abbrev pub IsRecordSize : ℕ → Type 0
IsRecordSize size = list_any (λ k. size == 2 ^ k) (9 ∷ 10 ∷ 11 ∷ 12 ∷ 13 ∷ 14 ∷ 15 ∷ 16 ∷ 17 ∷ []) ≡ true

-- how many blocks an object of this length has
abbrev pub blocks_of : (record_size bytes : ℕ) → ℕ
blocks_of record_size bytes = div_ceil bytes record_size

-- the levels of a tree over so many blocks: the least number of at least 1 with room for them
pub record AreLevels (blocks levels : ℕ) : Type 0 where
  pub positive : 1 ≤ levels
  pub enough : blocks ≤ 32 ^ levels
  pub least : (fewer : ℕ) → 1 ≤ fewer → fewer < levels → 32 ^ fewer < blocks

pub record IsRow (record_size : ℕ) (row : TableRow) : Type 0 where
  pub object : row.object ≤ 16777216
  pub bytes : row.length ≤ 4294967296
  pub levels : AreLevels (blocks_of record_size row.length) row.tree.levels

-- a table of this record size has 1 to 1025 objects in rising order, of which the first is the directory, object 1
pub record IsTable (record_size : ℕ) (table : Table) : Type 0 where
  pub block : table.block ≡ record_size
  pub count : length table.rows ≤ 1025
  pub first : option_map (λ row. row.object) (slice_get table.rows 0) ≡ Some 1
  pub rising : AllPairs (λ earlier later. earlier.object < later.object) table.rows
  pub rows : All (IsRow record_size) table.rows

-- the row of an object, none where the table doesn't have it
abbrev pub row_of : ℕ → Table → Option TableRow
row_of object table = find (λ row. row.object == object) table.rows

abbrev pub length_in : Table → ℕ → Option ℕ
length_in table object = option_map (λ row. row.length) (row_of object table)

-- the table of a fresh head: an empty directory
abbrev pub fresh_table : (record_size : ℕ) → (portable : List ℕ) → Table
fresh_table record_size portable = record {
  block = record_size;
  rows = record { object = 1; length = 0; tree = record { levels = 1; top = None } } ∷ [];
  portable = portable;
  guid = 0;
}
