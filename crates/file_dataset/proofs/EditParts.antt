-- What an edit that can be made is made of.
use Rattle.std.proofs.Common.{◌≡◌, ℕ, ◌+◌, Bool, true, false, nat_lt, if◌then◌else◌, List, [], ◌∷◌, length, Option, Some, None, Result, Ok, Err, refl, sym, ap, ◌∙◌}
use Rattle.std.specs.Prelude.{is_some}
use Rattle.std.specs.Option.{option_and_then, option_map_or}
use Rattle.std.specs.Result.{result_map_both}
use Rattle.dataset_tree.specs.declared.refusal.Refusal.{Refusal}
use Rattle.dataset_tree.specs.declared.refusal.Refusal.TheVariants as refusals
use Rattle.block_crypt.specs.Blocks.{KeyValue}
use Rattle.indirect_macs.specs.declared.refs.MacError.{MacError}
use Rattle.family_log.specs.declared.table.Table.{Table}
use Rattle.family_log.specs.declared.table.TableRow.{TableRow}
use Rattle.family_log.specs.Tables.{row_of}
use Rattle.file_blocks.specs.Changes.{Change}
use Rattle.file_blocks.specs.WriteFields.{write_to}
use Rattle.file_blocks.specs.Writes.{change_of_cut, change_of_write}
use Rattle.file_directory.specs.declared.directory.DirectoryEntry.{DirectoryEntry}
use Rattle.file_directory.specs.Entries.{directory_text, object_named, with_entry, without_name}
use Rattle.file_dataset.specs.Changes.{Edit, cut_edit, directory_anew, edit_of_make, edit_of_remove, edit_of_row, empty_object, file_edit, if_read, made_in, make_edit, make_fault, new_object, object_at, remove_edit, removed_in, write_edit}
use Rattle.file_dataset.specs.Reads.{file_row, held_directory, in_object, refused_in, then_read}
use Rattle.file_dataset.specs.declared.limits.TheConstants.{MAX_FILES, MAX_LENGTH, MAX_OBJECT}

-- ---- readings that don't fail

pub then_ok : {X Y E : Type 0} (next : X → Result Y E) (read : Result X E) (y : Y) → then_read next read ≡ Ok y
    → (x : X) × (read ≡ Ok x) × (next x ≡ Ok y)
then_ok next (Ok x) y is = (x, refl, is)
then_ok next (Err e) y is = absurd (cc)

if_ok_read : {X Y E : Type 0} (make : X → Y) (found : Result X E) (y : Y) → if_read make found ≡ Ok y → (x : X) × (found ≡ Ok x) × (y ≡ make x)
if_ok_read make (Ok x) y is = (x, refl, cc)
if_ok_read make (Err e) y is = absurd (cc)

pub object_ok : {X : Type 0} (object : ℕ) (found : Result X MacError) (x : X) → in_object object found ≡ Ok x → found ≡ Ok x
object_ok object (Ok y) x is = cc
object_ok object (Err e) x is = absurd (cc)

-- the row of a name
record NamedRow (table : Table) (name : List ℕ) (entries : List DirectoryEntry) (row : TableRow) : Type 0 where
  pub object : ℕ
  pub named : object_named name entries ≡ Some object
  pub found : row_of object table ≡ Some row

row_ok : (table : Table) (name : List ℕ) (entries : List DirectoryEntry) (row : TableRow) → file_row table name entries ≡ Ok row
    → NamedRow table name entries row
row_ok table name entries row is = by_name (object_named name entries) refl is
  where
    by_row : (object : ℕ) → object_named name entries ≡ Some object → (found : Option TableRow) → row_of object table ≡ found
        → option_map_or (λ r. Ok r) found (Err refusals.NoFile) ≡ Ok row → NamedRow table name entries row
    by_row object named None found is = absurd (cc)
    by_row object named (Some own) found is = let same : own ≡ row = cc in record { object = object; named = named; found = found ∙ ap Some same }

    by_name : (object : Option ℕ) → object_named name entries ≡ object
        → option_map_or (λ r. Ok r) (option_and_then (λ o. row_of o table) object) (Err refusals.NoFile) ≡ Ok row → NamedRow table name entries row
    by_name None named is = absurd (cc)
    by_name (Some object) named is = by_row object named (row_of object table) refl is

-- ---- a file's bytes

pub record RowEdit (key : KeyValue) (hmac_key name : List ℕ) (end : ℕ) (change : TableRow → Result Change Refusal) (held : List (List ℕ))
    (table : Table) (e : Edit) : Type 0 where
  pub entries : List DirectoryEntry
  pub object : ℕ
  pub row : TableRow
  pub made : Change
  pub fits : nat_lt MAX_LENGTH end ≡ false
  pub reads : held_directory key hmac_key held table ≡ Ok entries
  pub named : object_named name entries ≡ Some object
  pub found : row_of object table ≡ Some row
  pub changes : change row ≡ Ok made
  pub is : e ≡ edit_of_row table row.object made

pub row_edit : (key : KeyValue) (hmac_key name : List ℕ) (end : ℕ) (change : TableRow → Result Change Refusal) (held : List (List ℕ)) (table : Table)
    (e : Edit) → file_edit key hmac_key name end change held table ≡ Ok e → RowEdit key hmac_key name end change held table e
row_edit key hmac_key name end change held table e is = by_end (nat_lt MAX_LENGTH end) refl is
  where
    by_end : (past : Bool) → nat_lt MAX_LENGTH end ≡ past
        → (if past then Err (refusals.TooBig MAX_LENGTH) else then_read (λ row. if_read (edit_of_row table row.object) (change row))
        (then_read (file_row table name) (held_directory key hmac_key held table))) ≡ Ok e
        → RowEdit key hmac_key name end change held table e
    by_end true same is = absurd (cc)
    by_end false same is =
        let outer = then_ok (λ row. if_read (edit_of_row table row.object) (change row)) (then_read (file_row table name) (held_directory key hmac_key held table)) e is in
        let inner = then_ok (file_row table name) (held_directory key hmac_key held table) outer.0 outer.1 in
        let own = row_ok table name inner.0 outer.0 inner.2 in
        let made = if_ok_read (edit_of_row table outer.0.object) (change outer.0) e outer.2 in
        record {
          entries = inner.0;
          object = own.object;
          row = outer.0;
          made = made.0;
          fits = same;
          reads = inner.1;
          named = own.named;
          found = own.found;
          changes = made.1;
          is = made.2;
        }

pub record Wrote (key : KeyValue) (hmac_key name : List ℕ) (from : ℕ) (bytes : List ℕ) (held : List (List ℕ)) (table : Table) (e : Edit) : Type 0 where
  pub parts : RowEdit key hmac_key name (from + length bytes)
      (λ row. in_object row.object (change_of_write key held (write_to (object_at row) table.block from bytes))) held table e
  pub change : change_of_write key held (write_to (object_at parts.row) table.block from bytes) ≡ Ok parts.made

pub wrote : (key : KeyValue) (hmac_key name : List ℕ) (from : ℕ) (bytes : List ℕ) (held : List (List ℕ)) (table : Table) (e : Edit)
    → write_edit key hmac_key name from bytes held table ≡ Ok e → Wrote key hmac_key name from bytes held table e
unfolding write_edit
wrote key hmac_key name from bytes held table e is =
    let parts = row_edit key hmac_key name (from + length bytes)
    (λ row. in_object row.object (change_of_write key held (write_to (object_at row) table.block from bytes))) held table e is in
    record { parts = parts; change = object_ok parts.row.object (change_of_write key held (write_to (object_at parts.row) table.block from bytes)) parts.made parts.changes }

pub record IsCut (key : KeyValue) (hmac_key name : List ℕ) (to : ℕ) (held : List (List ℕ)) (table : Table) (e : Edit) : Type 0 where
  pub parts : RowEdit key hmac_key name to (λ row. in_object row.object (change_of_cut key held table.block (object_at row) to)) held table e
  pub change : change_of_cut key held table.block (object_at parts.row) to ≡ Ok parts.made

pub is_cut : (key : KeyValue) (hmac_key name : List ℕ) (to : ℕ) (held : List (List ℕ)) (table : Table) (e : Edit)
    → cut_edit key hmac_key name to held table ≡ Ok e → IsCut key hmac_key name to held table e
unfolding cut_edit
is_cut key hmac_key name to held table e is =
    let parts = row_edit key hmac_key name to (λ row. in_object row.object (change_of_cut key held table.block (object_at row) to)) held table e is in
    record { parts = parts; change = object_ok parts.row.object (change_of_cut key held table.block (object_at parts.row) to) parts.made parts.changes }

-- ---- the directory

-- the directory is written with these entries
pub record Anew (key : KeyValue) (held : List (List ℕ)) (record_size : ℕ) (entries : List DirectoryEntry) (made : Change) : Type 0 where
  pub change : change_of_write key held (write_to empty_object record_size 0 (directory_text entries)) ≡ Ok made

-- a file of this name is made in a directory of these entries
pub record MadeIn (key : KeyValue) (name : List ℕ) (held : List (List ℕ)) (table : Table) (entries : List DirectoryEntry) (e : Edit) : Type 0 where
  pub made : Change
  pub free : object_named name entries ≡ None
  pub low : nat_lt MAX_OBJECT (new_object table) ≡ false
  pub anew : Anew key held table.block (with_entry (record { object = new_object table; name = name }) entries) made
  pub is : e ≡ edit_of_make table made

-- in the directory that is read
pub record MadeFile (key : KeyValue) (hmac_key name : List ℕ) (held : List (List ℕ)) (table : Table) (e : Edit) : Type 0 where
  pub entries : List DirectoryEntry
  pub reads : held_directory key hmac_key held table ≡ Ok entries
  pub within : MadeIn key name held table entries e

record NoFault (table : Table) (name : List ℕ) (entries : List DirectoryEntry) : Type 0 where
  pub free : object_named name entries ≡ None
  pub low : nat_lt MAX_OBJECT (new_object table) ≡ false

no_fault : (table : Table) (name : List ℕ) (entries : List DirectoryEntry) → make_fault table name entries ≡ None → NoFault table name entries
no_fault table name entries is = by_name (object_named name entries) refl is
  where
    by_rows : object_named name entries ≡ None → (many high : Bool) → nat_lt MAX_OBJECT (new_object table) ≡ high
        → (if many then Some (refusals.Full MAX_FILES) else (if high then Some (refusals.Full MAX_OBJECT) else None)) ≡ None → NoFault table name entries
    by_rows free true high same is = absurd (cc)
    by_rows free false true same is = absurd (cc)
    by_rows free false false same is = record { free = free; low = same }

    by_name : (found : Option ℕ) → object_named name entries ≡ found
        → (if is_some found then Some refusals.FileExists else (if nat_lt MAX_FILES (length table.rows) then Some (refusals.Full MAX_FILES)
        else (if nat_lt MAX_OBJECT (new_object table) then Some (refusals.Full MAX_OBJECT) else None))) ≡ None → NoFault table name entries
    by_name (Some object) same is = absurd (cc)
    by_name None same is = by_rows same (nat_lt MAX_FILES (length table.rows)) (nat_lt MAX_OBJECT (new_object table)) refl is

pub made_within : (key : KeyValue) (name : List ℕ) (held : List (List ℕ)) (table : Table) (entries : List DirectoryEntry) (e : Edit)
    → made_in key held table name entries ≡ Ok e → MadeIn key name held table entries e
made_within key name held table entries e is = by_fault (make_fault table name entries) refl is
  where
    by_fault : (fault : Option Refusal) → make_fault table name entries ≡ fault
        → option_map_or (λ why. Err why) fault (if_read (edit_of_make table)
        (directory_anew key held table.block (with_entry (record { object = new_object table; name = name }) entries))) ≡ Ok e
        → MadeIn key name held table entries e
    by_fault (Some why) same is = absurd (cc)
    by_fault None same is =
        let new : DirectoryEntry = record { object = new_object table; name = name } in
        let none = no_fault table name entries same in
        let made = if_ok_read (edit_of_make table) (directory_anew key held table.block (with_entry new entries)) e is in
        record {
          made = made.0;
          free = none.free;
          low = none.low;
          anew = record { change = object_ok 1 (change_of_write key held (write_to empty_object table.block 0 (directory_text (with_entry new entries)))) made.0 made.1 };
          is = made.2;
        }

pub made_file : (key : KeyValue) (hmac_key name : List ℕ) (held : List (List ℕ)) (table : Table) (e : Edit)
    → make_edit key hmac_key name held table ≡ Ok e → MadeFile key hmac_key name held table e
unfolding make_edit
made_file key hmac_key name held table e is =
    let read = then_ok (made_in key held table name) (held_directory key hmac_key held table) e is in
    record { entries = read.0; reads = read.1; within = made_within key name held table read.0 e read.2 }

pub record RemovedIn (key : KeyValue) (name : List ℕ) (held : List (List ℕ)) (table : Table) (entries : List DirectoryEntry) (e : Edit) : Type 0 where
  pub object : ℕ
  pub row : TableRow
  pub made : Change
  pub named : object_named name entries ≡ Some object
  pub found : row_of object table ≡ Some row
  pub anew : Anew key held table.block (without_name name entries) made
  pub is : e ≡ edit_of_remove table row.object made

pub record RemovedFile (key : KeyValue) (hmac_key name : List ℕ) (held : List (List ℕ)) (table : Table) (e : Edit) : Type 0 where
  pub entries : List DirectoryEntry
  pub reads : held_directory key hmac_key held table ≡ Ok entries
  pub within : RemovedIn key name held table entries e

pub removed_within : (key : KeyValue) (name : List ℕ) (held : List (List ℕ)) (table : Table) (entries : List DirectoryEntry) (e : Edit)
    → removed_in key held table name entries ≡ Ok e → RemovedIn key name held table entries e
removed_within key name held table entries e is =
    let read = then_ok (λ row. if_read (edit_of_remove table row.object) (directory_anew key held table.block (without_name name entries)))
    (file_row table name entries) e is in
    let own = row_ok table name entries read.0 read.1 in
    let made = if_ok_read (edit_of_remove table read.0.object) (directory_anew key held table.block (without_name name entries)) e read.2 in
    record {
      object = own.object;
      row = read.0;
      made = made.0;
      named = own.named;
      found = own.found;
      anew = record { change = object_ok 1 (change_of_write key held (write_to empty_object table.block 0 (directory_text (without_name name entries)))) made.0 made.1 };
      is = made.2;
    }

pub removed_file : (key : KeyValue) (hmac_key name : List ℕ) (held : List (List ℕ)) (table : Table) (e : Edit)
    → remove_edit key hmac_key name held table ≡ Ok e → RemovedFile key hmac_key name held table e
unfolding remove_edit
removed_file key hmac_key name held table e is =
    let read = then_ok (removed_in key held table name) (held_directory key hmac_key held table) e is in
    record { entries = read.0; reads = read.1; within = removed_within key name held table read.0 e read.2 }
