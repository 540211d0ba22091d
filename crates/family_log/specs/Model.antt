-- What contracts see of a family, and what its type keeps.
use Rattle.std.specs.Prelude.{ℕ, ◌≡◌, ◌≢◌, ◌==◌, ◌≤◌, Bool, List, [], ◌∷◌, length, Option, Some, None, IfSome}
use Rattle.std.specs.List.{All, AllPairs, find, position, slice_get, sum_by}
use Rattle.std.specs.Option.{option_and_then}
use Rattle.std.specs.Str.{bytes_eq}
use Rattle.salt_rotation.specs.SaltState.{SaltState}
use Rattle.shelf_store.specs.ShelfState.{ShelfState, empty_shelf}
use Rattle.family_log.specs.declared.table.Table.{Table}
use Rattle.family_log.specs.declared.entry.Spot.{Spot}
use Rattle.family_log.specs.declared.entry.LogEntry.{LogEntry}
use Rattle.family_log.specs.declared.entry.LogEntry.TheVariants.{Make}
use Rattle.family_log.specs.declared.head.Head.{Head}
use Rattle.family_log.specs.declared.head.TheConstants.{MAX_SNAPSHOTS}
use Rattle.family_log.specs.Tables.{IsRecordSize, IsTable, fresh_table, length_in}
use Rattle.family_log.specs.Log.{last_length}

-- A family: the guid of its key, its record size, how many entries its log may have, its heads, its log, its
-- salts, and what its shelf tells. A head has its table, and its snapshots in the order they were made: the
-- parts of their names, and at the same places the tables that they keep.
pub record FamilyState : Type 0 where
  pub guid : ℕ
  pub block : ℕ
  pub room : ℕ
  pub heads : List Head
  pub log : List LogEntry
  pub salts : SaltState
  pub shelf : ShelfState

-- the head of a dataset
abbrev pub head_of : ℕ → List Head → Option Head
head_of id heads = find (λ head. head.id == id) heads

-- the table of a snapshot of the head, none where it has none of this name
abbrev pub snap_table : List ℕ → Head → Option Table
snap_table part head =
    option_and_then (λ at. slice_get head.tables at) (position (λ other. bytes_eq other part) head.parts)

-- the head's own table, or that of a snapshot
abbrev pub table_in : Option (List ℕ) → Head → Option Table
table_in None head = Some head.table
table_in (Some part) head = snap_table part head

-- the table of a spot, none where the family has no such head or snapshot
abbrev pub table_of : Spot → List Head → Option Table
table_of spot heads = option_and_then (λ head. table_in spot.snap head) (head_of spot.head heads)

-- how many snapshots the heads have together
abbrev pub snapshot_count : List Head → ℕ
snapshot_count heads = sum_by (λ head. length head.parts) heads

-- the tables of a head have this record size and their form; its own has no guid; each snapshot has one
-- table, and no two have one name
pub record IsHead (record_size : ℕ) (head : Head) : Type 0 where
  pub table : IsTable record_size head.table
  pub no_guid : head.table.guid ≡ 0
  pub snapshots : All (IsTable record_size) head.tables
  pub paired : length head.tables ≡ length head.parts
  pub apart : AllPairs (λ earlier later. earlier ≢ later) head.parts

-- the table has the objects and lengths that the log gives
abbrev pub HasLengths : List LogEntry → Spot → Table → Type 0
HasLengths log spot table = (object : ℕ) → length_in table object ≡ last_length log spot object

-- what the type keeps, no two heads of one dataset among it, at most 64 snapshots of all heads together, and the
-- lengths that the log gives, whatever a borrower makes of salts and shelf
pub record IsKept (block room : ℕ) (heads : List Head) (log : List LogEntry) : Type 0 where
  pub record_size : IsRecordSize block
  pub room_least : 1 ≤ room
  pub room_most : room ≤ 1048576
  pub in_room : length log ≤ room
  pub tables : All (IsHead block) heads
  pub apart : AllPairs (λ earlier later. earlier.id ≢ later.id) heads
  pub few_snapshots : snapshot_count heads ≤ MAX_SNAPSHOTS
  pub lengths : (spot : Spot) → IfSome (table_of spot heads) (λ table. HasLengths log spot table)

abbrev pub IsFamily : FamilyState → Type 0
IsFamily family = IsKept family.block family.room family.heads family.log

-- a family of one fresh head, on a shelf that tells its blocks or not
abbrev pub fresh_family : Bool → (guid block : ℕ) → SaltState → (room head : ℕ) → (portable : List ℕ) → FamilyState
fresh_family tells guid block salts room head portable = record {
  guid = guid;
  block = block;
  room = room;
  heads = record { id = head; table = fresh_table block portable; parts = []; tables = [] } ∷ [];
  log = Make head (record { object = 1; length = Some 0 } ∷ []) [] ∷ [];
  salts = salts;
  shelf = empty_shelf tells;
}
