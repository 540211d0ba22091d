-- What becomes of a family where snapshots and clones are made, and where snapshots and heads go.
use Rattle.std.specs.Prelude.{ℕ, ◌≡◌, ◌==◌, ◌&&◌, not, Bool, true, false, List, [], ◌∷◌, ◌++◌, Option, Some, None, is_none, is_some}
use Rattle.std.specs.List.{All, filter, list_any, position, remove}
use Rattle.std.specs.Option.{option_eq, option_map_or}
use Rattle.std.specs.Str.{bytes_eq}
use Rattle.family_log.specs.declared.table.Table.{Table}
use Rattle.family_log.specs.declared.entry.Spot.{Spot}
use Rattle.family_log.specs.declared.entry.LogEntry.{LogEntry}
use Rattle.family_log.specs.declared.entry.LogEntry.TheVariants.{Make, Write, Cut, Remove, Receive, Snapshot, Clone, Read, Refused}
use Rattle.family_log.specs.declared.head.Head.{Head}
use Rattle.family_log.specs.Log.{KeepsLast, is_head, is_snap}
use Rattle.family_log.specs.Model.{FamilyState, head_of, table_of}
use Rattle.family_log.specs.Calls.{with_entry, with_head}

-- a table with the guid of a snapshot, or with 0 as that of a head
abbrev pub with_guid : (guid : ℕ) → Table → Table
with_guid guid table = record table { guid = guid }

-- one of the snapshots with these names has this one
abbrev pub has_part : (part : List ℕ) → List (List ℕ) → Bool
has_part part parts = list_any (λ other. bytes_eq other part) parts

-- the head has a snapshot of this name; a head that isn't there has none
abbrev pub has_snapshot : (head : ℕ) → (part : List ℕ) → List Head → Bool
has_snapshot id part heads = option_map_or (λ head. has_part part head.parts) (head_of id heads) false

-- a head with one more snapshot, the newest: its own table with this guid, under this name
abbrev pub with_snapshot : (part : List ℕ) → (guid : ℕ) → Head → Head
with_snapshot part guid head = record head {
  parts = head.parts ++ part ∷ [];
  tables = head.tables ++ with_guid guid head.table ∷ [];
}

-- a head without the snapshot at this place
abbrev pub without_place : Option ℕ → Head → Head
without_place None head = head
without_place (Some at) head = record head { parts = remove head.parts at; tables = remove head.tables at }

-- a head without the snapshot of this name
abbrev pub without_snapshot : (part : List ℕ) → Head → Head
without_snapshot part head = without_place (position (λ other. bytes_eq other part) head.parts) head

-- the head of a clone, which begins with a snapshot's table and has no snapshots
abbrev pub clone_of : (head : ℕ) → Table → Head
clone_of id table = record { id = id; table = with_guid 0 table; parts = []; tables = [] }

-- ---- families

-- a snapshot of a head was made
abbrev pub snapshot_added : (head : ℕ) → (part : List ℕ) → (guid : ℕ) → FamilyState → FamilyState
snapshot_added head part guid family =
    record (with_entry (Snapshot head part) family) { heads = with_head head (with_snapshot part guid) family.heads }

-- a head was made of what a spot has
abbrev pub clone_added : (from : Spot) → (head : ℕ) → FamilyState → FamilyState
clone_added from head family =
    record (with_entry (Clone from head) family) {
      heads = family.heads ++ option_map_or (λ table. clone_of head table ∷ []) (table_of from family.heads) [];
    }

-- a head is gone, with its snapshots; the log stays
abbrev pub head_removed : (head : ℕ) → FamilyState → FamilyState
head_removed id family = record family { heads = filter (λ head. not (head.id == id)) family.heads }

-- a snapshot is gone; the log stays
abbrev pub snapshot_removed : (head : ℕ) → (part : List ℕ) → FamilyState → FamilyState
snapshot_removed head part family = record family { heads = with_head head (without_snapshot part) family.heads }

-- ---- what the log says of heads

-- an entry is of this head
abbrev pub names_head : (head : ℕ) → LogEntry → Bool
names_head id (Make head lengths refs) = head == id
names_head id (Write head lengths refs) = head == id
names_head id (Cut head lengths refs) = head == id
names_head id (Remove head lengths refs) = head == id
names_head id (Receive head lengths refs) = head == id
names_head id (Snapshot head part) = head == id
names_head id (Clone from head) = head == id
names_head id (Read spot) = spot.head == id
names_head id (Refused spot why draws puts) = spot.head == id

-- the family never had a head of this id: there is none, and no entry of the log is of one
pub record IsNewHead (head : ℕ) (family : FamilyState) : Type 0 where
  pub absent : is_none (head_of head family.heads) ≡ true
  pub never : All (λ entry. names_head head entry ≡ false) family.log

abbrev pub same_spot : Spot → Spot → Bool
same_spot a b = a.head == b.head && option_eq bytes_eq a.snap b.snap

-- by this entry a head was cloned from the spot, and it is still there
abbrev pub clones : Spot → List Head → LogEntry → Bool
clones spot heads (Make head lengths refs) = false
clones spot heads (Write head lengths refs) = false
clones spot heads (Cut head lengths refs) = false
clones spot heads (Remove head lengths refs) = false
clones spot heads (Receive head lengths refs) = false
clones spot heads (Snapshot head part) = false
clones spot heads (Clone from head) = same_spot from spot && is_some (head_of head heads)
clones spot heads (Read other) = false
clones spot heads (Refused other why draws puts) = false

-- a head was cloned from the spot, and is still there
abbrev pub has_clone : Spot → FamilyState → Bool
has_clone spot family = list_any (clones spot family.heads) family.log

-- an entry changes the spot, or makes it
abbrev pub is_about : Spot → LogEntry → Bool
is_about spot (Make head lengths refs) = is_head head spot
is_about spot (Write head lengths refs) = is_head head spot
is_about spot (Cut head lengths refs) = is_head head spot
is_about spot (Remove head lengths refs) = is_head head spot
is_about spot (Receive head lengths refs) = is_head head spot
is_about spot (Snapshot head part) = is_snap head part spot
is_about spot (Clone from head) = is_head head spot
is_about spot (Read other) = false
is_about spot (Refused other why draws puts) = false

-- a spot has in the later family what it had in the earlier one, and its log tells the same of it
pub record KeepsSpot (earlier later : FamilyState) (spot : Spot) : Type 0 where
  pub table : table_of spot later.heads ≡ table_of spot earlier.heads
  pub last : KeepsLast earlier.log spot later.log spot
