-- What is read of a head or a snapshot, by its table and the blocks that a shelf holds, or why it can't be read: the
-- first of the portable MAC, the places of the directory, its form, the file's name and the places of the file that
-- fails.
use Rattle.std.specs.Prelude.{ℕ, ◌+◌, min, Bool, if◌then◌else◌, List, [], ◌∷◌, map, Result, Ok, Err}
use Rattle.std.specs.Option.{option_and_then, option_map_or}
use Rattle.std.specs.Result.{result_map_both}
use Rattle.std.specs.Str.{bytes_eq}
use Rattle.dataset_tree.specs.declared.refusal.Refusal.{Refusal}
use Rattle.dataset_tree.specs.declared.refusal.Refusal.TheVariants as refusals
use Rattle.shelf_store.specs.declared.shelf.TheConstants.{SHELF_BYTES}
use Rattle.block_crypt.specs.Blocks.{KeyValue}
use Rattle.indirect_macs.specs.declared.refs.MacError.{MacError}
use Rattle.indirect_macs.specs.declared.refs.MacError.TheVariants as mac_error
use Rattle.family_log.specs.declared.table.Table.{Table}
use Rattle.family_log.specs.declared.table.TableRow.{TableRow}
use Rattle.family_log.specs.Tables.{length_in, row_of}
use Rattle.file_blocks.specs.Objects.{blocks_for, object_range, tested_blocks}
use Rattle.file_directory.specs.declared.directory.DirectoryEntry.{DirectoryEntry}
use Rattle.file_directory.specs.Entries.{object_named}
use Rattle.file_directory.specs.Form.{objects_of}
use Rattle.file_directory.specs.Reading.{directory_answer, read_directory}
use Rattle.file_dataset.specs.declared.file.FileRow.{FileRow}
use Rattle.file_dataset.specs.Portable.{portable}

-- what is read next, where what is read before doesn't fail
abbrev pub then_read : {X Y E : Type 0} → (X → Result Y E) → Result X E → Result Y E
then_read next (Ok x) = next x
then_read next (Err e) = Err e

-- the refusal of an object of which this fails. Where blocks are held, nothing but the test of a place can fail
abbrev pub refused_in : (object : ℕ) → MacError → Refusal
refused_in object (mac_error.MacFailed level index) = refusals.MacFailed object level index
refused_in object mac_error.ShelfFault = refusals.ShelfFault
refused_in object mac_error.Full = refusals.Full SHELF_BYTES
refused_in object mac_error.NoMemory = refusals.ShelfFault

abbrev pub in_object : {X : Type 0} → (object : ℕ) → Result X MacError → Result X Refusal
in_object object found = result_map_both (λ x. x) (refused_in object) found

-- the bytes of an object from a place on, at most so many, and none past its end; or the first place that fails
abbrev pub row_range : KeyValue → (held : List (List ℕ)) → (record_size : ℕ) → TableRow → (from len : ℕ)
    → Result (List ℕ) Refusal
row_range key held record_size row from len =
    in_object row.object
    (object_range key held record_size row.tree (min from row.length) (min (from + len) row.length))

-- the table's portable MAC is that of what it has
abbrev pub has_portable : (hmac_key : List ℕ) → Table → Bool
has_portable hmac_key table = bytes_eq (portable hmac_key table) table.portable

-- the text of the directory, all of object 1, or the first place of it that fails
abbrev pub held_text : KeyValue → (held : List (List ℕ)) → Table → Result (List ℕ) Refusal
held_text key held table =
    option_map_or (λ own. row_range key held table.block own 0 own.length) (row_of 1 table) (Ok [])

-- the entries of the directory
unfoldable pub held_entries : KeyValue → (held : List (List ℕ)) → Table → Result (List DirectoryEntry) Refusal
held_entries key held table =
    then_read (λ text. directory_answer (read_directory (objects_of table) text)) (held_text key held table)

-- so, behind the portable MAC: the place 0 of level 0 of object 0 where it fails
unfoldable pub held_directory : KeyValue → (hmac_key : List ℕ) → (held : List (List ℕ)) → Table
    → Result (List DirectoryEntry) Refusal
held_directory key hmac_key held table =
    if has_portable hmac_key table then held_entries key held table else Err (refusals.MacFailed 0 0 0)

-- the object of the file with this name
abbrev pub file_row : Table → (name : List ℕ) → List DirectoryEntry → Result TableRow Refusal
file_row table name entries =
    option_map_or (λ row. Ok row) (option_and_then (λ object. row_of object table) (object_named name entries))
    (Err refusals.NoFile)

-- the bytes of a file from a place on, at most so many, and none past its end
abbrev pub plain_read : KeyValue → (hmac_key : List ℕ) → (held : List (List ℕ)) → (name : List ℕ) → (from len : ℕ)
    → Table → Result (List ℕ) Refusal
plain_read key hmac_key held name from len table =
    then_read (λ row. row_range key held table.block row from len)
    (then_read (file_row table name) (held_directory key hmac_key held table))

-- a file of a directory, with its length
abbrev pub row_for : Table → DirectoryEntry → FileRow
row_for table entry = record {
  name = entry.name;
  length = option_map_or (λ n. n) (length_in table entry.object) 0;
}

-- the files of a directory
abbrev pub file_rows : Table → List DirectoryEntry → List FileRow
file_rows table entries = map (row_for table) entries

abbrev pub plain_names : KeyValue → (hmac_key : List ℕ) → (held : List (List ℕ)) → Table → Result (List FileRow) Refusal
plain_names key hmac_key held table =
    then_read (λ entries. Ok (file_rows table entries)) (held_directory key hmac_key held table)

-- how many blocks of an object are no holes, where all its places pass
abbrev pub tested_row : KeyValue → (held : List (List ℕ)) → (record_size : ℕ) → TableRow → Result ℕ Refusal
tested_row key held record_size row =
    in_object row.object (tested_blocks key held record_size row.tree (blocks_for record_size row.length))

-- how many of all these objects
abbrev pub tested_rows : KeyValue → (held : List (List ℕ)) → (record_size : ℕ) → List TableRow → Result ℕ Refusal
tested_rows key held record_size [] = Ok 0
tested_rows key held record_size (row ∷ rows) =
    then_read (λ count. result_map_both (λ more. count + more) (λ why. why) (tested_rows key held record_size rows))
    (tested_row key held record_size row)

-- how many blocks of all objects are no holes, the directory's among them, where all places pass, in the order of
-- the objects behind the directory and its form
abbrev pub plain_count : KeyValue → (hmac_key : List ℕ) → (held : List (List ℕ)) → Table → Result ℕ Refusal
plain_count key hmac_key held table =
    then_read (λ _. tested_rows key held table.block table.rows) (held_directory key hmac_key held table)
