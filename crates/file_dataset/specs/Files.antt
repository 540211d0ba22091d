-- The files of a head or a snapshot, by the log of its family and the blocks that were put on the shelf: no tree is
-- walked for them.
use Rattle.std.specs.Prelude.{ℕ, ◌≡◌, true, false, List, length, map, Option, Some, None, is_some, IfSome, Result, Ok, Err}
use Rattle.std.specs.Option.{option_and_then, option_map}
use Rattle.block_crypt.specs.Blocks.{KeyValue}
use Rattle.family_log.specs.declared.entry.Spot.{Spot}
use Rattle.family_log.specs.declared.entry.LogEntry.{LogEntry}
use Rattle.family_log.specs.Log.{head_spot, last_ref, last_length}
use Rattle.family_log.specs.declared.table.Table.{Table}
use Rattle.family_log.specs.Honest.{IsHonest}
use Rattle.family_log.specs.Model.{FamilyState, IsFamily, table_of}
use Rattle.family_log.specs.Snapshots.{same_spot}
use Rattle.file_blocks.specs.Wholes.{all_of, bytes_of_refs}
use Rattle.file_directory.specs.declared.directory.DirectoryEntry.{DirectoryEntry}
use Rattle.file_directory.specs.Reading.{read_directory}
use Rattle.file_dataset.specs.declared.file.FileRow.{FileRow}
use Rattle.file_dataset.specs.Edits.{Files}
use Rattle.file_dataset.specs.Reads.{has_portable}

abbrev pub if_ok : {X E : Type 0} → Result X E → Option X
if_ok (Ok x) = Some x
if_ok (Err e) = None

-- the bytes of an object, none where it isn't there or one of its blocks gives none
abbrev pub object_bytes : KeyValue → (blocks : List (List ℕ)) → List LogEntry → (record_size : ℕ) → Spot
    → (object : ℕ) → Option (List ℕ)
object_bytes key blocks log record_size spot object =
    option_and_then (λ bytes. bytes_of_refs key blocks record_size bytes (last_ref record_size log spot object))
    (last_length log spot object)

-- the entries of the directory, object 1; none where it isn't in form
abbrev pub last_entries : KeyValue → (blocks : List (List ℕ)) → List LogEntry → (record_size : ℕ) → Spot
    → Option (List DirectoryEntry)
last_entries key blocks log record_size spot =
    option_and_then (λ text. if_ok (read_directory (λ object. is_some (last_length log spot object)) text))
    (object_bytes key blocks log record_size spot 1)

-- an entry's name, with the bytes of its object
abbrev pub file_of : KeyValue → (blocks : List (List ℕ)) → List LogEntry → (record_size : ℕ) → Spot
    → DirectoryEntry → Option (List ℕ × List ℕ)
file_of key blocks log record_size spot entry =
    option_map (λ bytes. (entry.name, bytes)) (object_bytes key blocks log record_size spot entry.object)

abbrev pub files_in : KeyValue → (blocks : List (List ℕ)) → List LogEntry → (record_size : ℕ) → Spot → Option Files
files_in key blocks log record_size spot =
    option_and_then (λ entries. all_of (map (file_of key blocks log record_size spot) entries))
    (last_entries key blocks log record_size spot)

-- the files of a spot; none where the shelf doesn't tell what was put on it
unfoldable pub files : KeyValue → FamilyState → Spot → Option Files
files key family spot =
    option_and_then (λ blocks. files_in key blocks family.log family.block spot) family.shelf.placed

-- the files of a spot are those that it had with this edit, wherever they are defined
abbrev pub ChangesFiles : KeyValue → (Files → Files) → Spot → (old new : FamilyState) → Type 0
ChangesFiles key edit spot old new =
    IfSome (files key old spot) (λ before. files key new spot ≡ Some (edit before))

-- a spot of the later family has the files that a spot of the earlier one had, wherever they are defined
abbrev pub HasFilesOf : KeyValue → (earlier : FamilyState) → (from : Spot) → (later : FamilyState) → (spot : Spot)
    → Type 0
HasFilesOf key earlier from later spot =
    IfSome (files key earlier from) (λ before. files key later spot ≡ Some before)

abbrev pub KeepsFiles : KeyValue → Spot → (old new : FamilyState) → Type 0
KeepsFiles key spot old new = ChangesFiles key (λ before. before) spot old new

-- every other spot than this head has the files that it had
abbrev pub KeepsOthers : KeyValue → (head : ℕ) → (old new : FamilyState) → Type 0
KeepsOthers key head old new =
    (spot : Spot) → same_spot spot (head_spot head) ≡ false → KeepsFiles key spot old new

-- ---- what is read

-- a spot of a family on an honest shelf that holds these blocks has this table, whose portable MAC is right, and
-- these files
pub record ShowsFiles (key : KeyValue) (hmac_key : List ℕ) (family : FamilyState) (spot : Spot)
    (held : List (List ℕ)) (table : Table) (shown : Files) : Type 0 where
  pub kept : IsFamily family
  pub honest : IsHonest family
  pub holds : family.shelf.held ≡ Some held
  pub of_spot : table_of spot family.heads ≡ Some table
  pub passes : has_portable hmac_key table ≡ true
  pub are : files key family spot ≡ Some shown

-- a file's name, with its length
abbrev pub file_length : List ℕ × List ℕ → FileRow
file_length file = record { name = file.0; length = length file.1 }
