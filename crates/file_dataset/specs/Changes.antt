-- What a call makes of a head, by its table and the blocks that a shelf holds, or why it can't: before a block is put.
use Rattle.std.specs.Prelude.{ℕ, ◌+◌, ◌==◌, max, nat_lt, not, if◌then◌else◌, List, [], ◌∷◌, ◌++◌, length, map, Option, Some, None, is_some, Result, Ok, Err}
use Rattle.std.specs.List.{filter}
use Rattle.std.specs.Option.{option_map_or}
use Rattle.std.specs.Result.{result_map_both}
use Rattle.dataset_tree.specs.declared.refusal.Refusal.{Refusal}
use Rattle.dataset_tree.specs.declared.refusal.Refusal.TheVariants as refusals
use Rattle.block_crypt.specs.Blocks.{KeyValue}
use Rattle.salt_rotation.specs.SaltState.{SaltState}
use Rattle.indirect_macs.specs.declared.refs.BlockRef.{BlockRef}
use Rattle.family_log.specs.declared.table.Table.{Table}
use Rattle.family_log.specs.declared.table.TableRow.{TableRow}
use Rattle.family_log.specs.declared.entry.HeadChange.{HeadChange}
use Rattle.family_log.specs.declared.entry.LengthAt.{LengthAt}
use Rattle.family_log.specs.declared.entry.LogEntry.{LogEntry}
use Rattle.family_log.specs.declared.entry.LogEntry.TheVariants as entries
use Rattle.family_log.specs.declared.entry.RefAt.{RefAt}
use Rattle.file_blocks.specs.declared.object.Object.{Object}
use Rattle.file_blocks.specs.Changes.{Change, object_in, puts_in, refs_to}
use Rattle.file_blocks.specs.WriteFields.{write_to}
use Rattle.file_blocks.specs.Writes.{change_of_cut, change_of_write}
use Rattle.file_directory.specs.declared.directory.DirectoryEntry.{DirectoryEntry}
use Rattle.file_directory.specs.Entries.{directory_text, object_named, with_entry, without_name}
use Rattle.file_dataset.specs.declared.kind.Kind.{Kind}
use Rattle.file_dataset.specs.declared.kind.Kind.TheVariants as kinds
use Rattle.file_dataset.specs.declared.limits.TheConstants.{MAX_FILES, MAX_LENGTH, MAX_OBJECT}
use Rattle.file_dataset.specs.Portable.{portable}
use Rattle.file_dataset.specs.Reads.{file_row, held_directory, in_object, then_read}

-- ---- what changes

-- one object of a head gets new blocks. The table then has these rows, among them the object's as it was, and the log
-- tells the length of one other object at most
pub record Edit : Type 0 where
  pub object : ℕ
  pub change : Change
  pub rows : List TableRow
  pub other : Option LengthAt

abbrev pub if_read : {X Y E : Type 0} → (X → Y) → Result X E → Result Y E
if_read make found = result_map_both make (λ why. why) found

-- ---- the directory

-- an object without bytes
abbrev pub empty_object : Object
empty_object = record { length = 0; tree = record { levels = 1; top = None } }

-- the object of a row
abbrev pub object_at : TableRow → Object
object_at row = record { length = row.length; tree = row.tree }

-- the directory is written anew, as into an object without bytes, whatever blocks it had
abbrev pub directory_anew : KeyValue → (held : List (List ℕ)) → (record_size : ℕ) → List DirectoryEntry
    → Result Change Refusal
directory_anew key held record_size entries =
    in_object 1 (change_of_write key held (write_to empty_object record_size 0 (directory_text entries)))

-- ---- a new file

abbrev pub greatest_object : List TableRow → ℕ
greatest_object [] = 0
greatest_object (row ∷ rows) = max row.object (greatest_object rows)

-- its object's number is one more than the greatest in the table
abbrev pub new_object : Table → ℕ
new_object table = greatest_object table.rows + 1

-- why no file of this name can be made: there is one, the table has as many files as it may beside the directory, or
-- the number would be too great
abbrev pub make_fault : Table → (name : List ℕ) → List DirectoryEntry → Option Refusal
make_fault table name entries =
    if is_some (object_named name entries) then Some refusals.FileExists
    else (if nat_lt MAX_FILES (length table.rows) then Some (refusals.Full MAX_FILES)
    else (if nat_lt MAX_OBJECT (new_object table) then Some (refusals.Full MAX_OBJECT) else None))

abbrev pub empty_row : (object : ℕ) → TableRow
empty_row object = record { object = object; length = empty_object.length; tree = empty_object.tree }

-- the directory gets a file with a new object, which is empty
abbrev pub edit_of_make : Table → Change → Edit
edit_of_make table change = record {
  object = 1;
  change = change;
  rows = table.rows ++ empty_row (new_object table) ∷ [];
  other = Some (record { object = new_object table; length = Some 0 });
}

abbrev pub made_in : KeyValue → (held : List (List ℕ)) → Table → (name : List ℕ) → List DirectoryEntry
    → Result Edit Refusal
made_in key held table name entries =
    option_map_or (λ why. Err why) (make_fault table name entries)
    (if_read (edit_of_make table)
    (directory_anew key held table.block (with_entry (record { object = new_object table; name = name }) entries)))

unfoldable pub make_edit : KeyValue → (hmac_key : List ℕ) → (name : List ℕ) → (held : List (List ℕ)) → Table
    → Result Edit Refusal
make_edit key hmac_key name held table =
    then_read (made_in key held table name) (held_directory key hmac_key held table)

-- ---- a file's bytes

-- the file's own object gets new blocks
abbrev pub edit_of_row : Table → (object : ℕ) → Change → Edit
edit_of_row table object change = record { object = object; change = change; rows = table.rows; other = None }

-- of a file of this name, which may end here at most
abbrev pub file_edit : KeyValue → (hmac_key : List ℕ) → (name : List ℕ) → (end : ℕ)
    → (TableRow → Result Change Refusal) → (held : List (List ℕ)) → Table → Result Edit Refusal
file_edit key hmac_key name end change held table =
    if nat_lt MAX_LENGTH end then Err (refusals.TooBig MAX_LENGTH)
    else then_read (λ row. if_read (edit_of_row table row.object) (change row))
    (then_read (file_row table name) (held_directory key hmac_key held table))

unfoldable pub write_edit : KeyValue → (hmac_key : List ℕ) → (name : List ℕ) → (from : ℕ) → (bytes : List ℕ)
    → (held : List (List ℕ)) → Table → Result Edit Refusal
write_edit key hmac_key name from bytes held table =
    file_edit key hmac_key name (from + length bytes)
    (λ row. in_object row.object (change_of_write key held (write_to (object_at row) table.block from bytes)))
    held table

unfoldable pub cut_edit : KeyValue → (hmac_key : List ℕ) → (name : List ℕ) → (to : ℕ) → (held : List (List ℕ))
    → Table → Result Edit Refusal
cut_edit key hmac_key name to held table =
    file_edit key hmac_key name to
    (λ row. in_object row.object (change_of_cut key held table.block (object_at row) to)) held table

-- ---- a file that is removed

abbrev pub without_row : (object : ℕ) → List TableRow → List TableRow
without_row object rows = filter (λ row. not (row.object == object)) rows

-- the directory loses the file, and the table its object
abbrev pub edit_of_remove : Table → (object : ℕ) → Change → Edit
edit_of_remove table object change = record {
  object = 1;
  change = change;
  rows = without_row object table.rows;
  other = Some (record { object = object; length = None });
}

abbrev pub removed_in : KeyValue → (held : List (List ℕ)) → Table → (name : List ℕ) → List DirectoryEntry
    → Result Edit Refusal
removed_in key held table name entries =
    then_read
    (λ row. if_read (edit_of_remove table row.object)
    (directory_anew key held table.block (without_name name entries)))
    (file_row table name entries)

unfoldable pub remove_edit : KeyValue → (hmac_key : List ℕ) → (name : List ℕ) → (held : List (List ℕ)) → Table
    → Result Edit Refusal
remove_edit key hmac_key name held table =
    then_read (removed_in key held table name) (held_directory key hmac_key held table)

-- ---- the new table, and what the log tells

-- the rows with this one in the place of its object's
abbrev pub put_row : TableRow → List TableRow → List TableRow
put_row new rows = map (λ row. if row.object == new.object then new else row) rows

abbrev pub row_with : (object : ℕ) → Object → TableRow
row_with object made = record { object = object; length = made.length; tree = made.tree }

-- a table with the portable MAC of what it has
abbrev pub renewed : (hmac_key : List ℕ) → Table → Table
renewed hmac_key table = record table { portable = portable hmac_key table }

abbrev pub table_with : (hmac_key : List ℕ) → Table → Edit → Object → Table
table_with hmac_key table e made =
    renewed hmac_key (record table { rows = put_row (row_with e.object made) e.rows })

abbrev pub lengths_with : Edit → Object → List LengthAt
lengths_with e made =
    record { object = e.object; length = Some made.length } ∷ option_map_or (λ other. other ∷ []) e.other []

-- references to blocks of an object one after another, from this index on
unfoldable pub refs_from : (object index : ℕ) → List (Option BlockRef) → List RefAt
refs_from object index [] = []
refs_from object index (to ∷ rest) =
    record { object = object; index = index; to = to } ∷ refs_from object (index + 1) rest

-- the entry that tells a change of a head
abbrev pub entry_of : Kind → (head : ℕ) → List LengthAt → List RefAt → LogEntry
entry_of kinds.Make head lengths refs = entries.Make head lengths refs
entry_of kinds.Write head lengths refs = entries.Write head lengths refs
entry_of kinds.Cut head lengths refs = entries.Cut head lengths refs
entry_of kinds.Remove head lengths refs = entries.Remove head lengths refs

abbrev pub change_with : Kind → (hmac_key : List ℕ) → (head : ℕ) → Table → Edit → Object → List (Option BlockRef)
    → HeadChange
change_with kind hmac_key head table e made refs = record {
  table = table_with hmac_key table e made;
  entry = entry_of kind head (lengths_with e made) (refs_from e.object e.change.first refs);
}

-- the change of a head by an edit, where its blocks are sealed under these salts and put behind so many others
abbrev pub change_by : Kind → KeyValue → (hmac_key : List ℕ) → SaltState → (held : List (List ℕ)) → (base : ℕ)
    → (head : ℕ) → Table → Edit → HeadChange
change_by kind key hmac_key salts held base head table e =
    change_with kind hmac_key head table e (object_in key salts held base e.change)
    (refs_to key salts base e.change.texts)

-- what is put for it, and how many draws are made; nothing where the head can't be changed so
abbrev pub edit_puts : KeyValue → SaltState → (held : List (List ℕ)) → (base : ℕ) → Result Edit Refusal
    → List (List ℕ)
edit_puts key salts held base (Ok e) = puts_in key salts held base e.change
edit_puts key salts held base (Err why) = []

abbrev pub edit_draws : Result Edit Refusal → ℕ
edit_draws (Ok e) = length e.change.texts
edit_draws (Err why) = 0
