-- What the calls on a family answer and leave.
use Rattle.std.specs.Prelude.{ℕ, ◌≡◌, ◌==◌, nat_le, if◌then◌else◌, List, [], ◌∷◌, ◌++◌, length, Some, is_none, IsSome, Result, Ok, Err, ⊤}
use Rattle.std.specs.Option.{option_map}
use Rattle.dataset_tree.specs.declared.refusal.Refusal.{Refusal}
use Rattle.dataset_tree.specs.declared.refusal.Refusal.TheVariants.{NoHead, Full}
use Rattle.family_log.specs.declared.table.Table.{Table}
use Rattle.family_log.specs.declared.entry.HeadChange.{HeadChange}
use Rattle.family_log.specs.declared.entry.LogEntry.{LogEntry}
use Rattle.family_log.specs.declared.family.FamilyPart.{FamilyPart}
use Rattle.family_log.specs.declared.family.FamilyPart.TheVariants as parts
use Rattle.family_log.specs.declared.head.Head.{Head}
use Rattle.family_log.specs.Tables.{IsTable}
use Rattle.family_log.specs.Log.{changed_head, head_spot}
use Rattle.family_log.specs.Model.{FamilyState, HasLengths, head_of}

-- the place of a new entry of this head: at the log's end, unless there is no such head or the log has no room
abbrev pub new_place : FamilyState → (head : ℕ) → Result ℕ Refusal
new_place family head =
    if is_none (head_of head family.heads) then Err (NoHead head)
    else (if nat_le family.room (length family.log) then Err (Full family.room) else Ok (length family.log))

abbrev pub with_entry : LogEntry → FamilyState → FamilyState
with_entry entry family = record family { log = family.log ++ entry ∷ [] }

-- the heads, of which the one of this dataset is changed so
abbrev pub with_head : (id : ℕ) → (Head → Head) → List Head → List Head
with_head id change [] = []
with_head id change (head ∷ heads) =
    if head.id == id then change head ∷ heads else head ∷ with_head id change heads

-- a head with this table as its own; the guid of a head's table is 0
abbrev pub given : Table → Head → Head
given table head = record head { table = record table { guid = 0 } }

abbrev pub with_table : (id : ℕ) → Table → List Head → List Head
with_table id table heads = with_head id (given table) heads

abbrev pub with_change : ℕ → HeadChange → FamilyState → FamilyState
with_change head change family =
    record (with_entry change.entry family) { heads = with_table head change.table family.heads }

-- a change of this head: its table has the form, and the objects and lengths that the log with the new entry gives
pub record IsChangeOf (family : FamilyState) (head : ℕ) (change : HeadChange) : Type 0 where
  pub of_head : changed_head change.entry ≡ Some head
  pub table : IsTable family.block change.table
  pub lengths : HasLengths (family.log ++ change.entry ∷ []) (head_spot head) change.table

-- the snapshots of a head: the parts of their names, and their tables
abbrev pub snapshots_of : Head → List (List ℕ) × List Table
snapshots_of head = (head.parts, head.tables)

-- two families have the same part
abbrev pub SamePart : (head : ℕ) → FamilyState → FamilyState → FamilyPart → Type 0
SamePart head a b parts.Head =
    (a.guid ≡ b.guid) × (a.block ≡ b.block)
    × (option_map (λ found. found.table) (head_of head a.heads)
    ≡ option_map (λ found. found.table) (head_of head b.heads))
SamePart head a b parts.Snapshots =
    option_map snapshots_of (head_of head a.heads) ≡ option_map snapshots_of (head_of head b.heads)
SamePart head a b parts.Salts = a.salts ≡ b.salts
SamePart head a b parts.Blocks = a.shelf ≡ b.shelf

-- they have the same parts before this one
abbrev pub SameBefore : (head : ℕ) → FamilyState → FamilyState → FamilyPart → Type 0
SameBefore head a b parts.Head = ⊤
SameBefore head a b parts.Snapshots = SamePart head a b parts.Head
SameBefore head a b parts.Salts = SamePart head a b parts.Head × SamePart head a b parts.Snapshots
SameBefore head a b parts.Blocks =
    SamePart head a b parts.Head × SamePart head a b parts.Snapshots × SamePart head a b parts.Salts

-- they differ in this part; of blocks it isn't known where the shelf doesn't tell them
abbrev pub DiffersAt : (head : ℕ) → FamilyState → FamilyState → FamilyPart → Type 0
DiffersAt head a b parts.Head = ¬ SamePart head a b parts.Head
DiffersAt head a b parts.Snapshots = ¬ SamePart head a b parts.Snapshots
DiffersAt head a b parts.Salts = ¬ SamePart head a b parts.Salts
DiffersAt head a b parts.Blocks = IsSome a.shelf.placed → IsSome a.shelf.held → ¬ SamePart head a b parts.Blocks
