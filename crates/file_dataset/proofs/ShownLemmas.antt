-- What is read of a spot on an honest shelf, by its files.
use Rattle.std.proofs.Common.{◌≡◌, ℕ, ◌+◌, ◌<◌, true, List, [], length, take, drop, map, Option, Some, None, Result, Ok, Err, refl, ap, sym, subst, ◌∙◌}
use Rattle.std.specs.Prelude.{IfSome, min}
use Rattle.std.specs.Option.{option_and_then, option_map, option_map_or}
use Rattle.dataset_tree.specs.declared.refusal.Refusal.{Refusal}
use Rattle.dataset_tree.specs.declared.refusal.Refusal.TheVariants as refusals
use Rattle.block_crypt.specs.Blocks.{KeyValue}
use Rattle.indirect_macs.specs.declared.refs.MacError.{MacError}
use Rattle.family_log.specs.declared.entry.Spot.{Spot}
use Rattle.family_log.specs.declared.table.Table.{Table}
use Rattle.family_log.specs.declared.table.TableRow.{TableRow}
use Rattle.family_log.specs.Honest.{IsHonest, TellsTheLog}
use Rattle.family_log.specs.Log.{last_length, last_ref}
use Rattle.family_log.specs.Model.{FamilyState, table_of}
use Rattle.family_log.specs.Tables.{length_in, row_of}
use Rattle.file_blocks.specs.Objects.{object_range}
use Rattle.file_blocks.proofs.WholeBytes.{given_parts}
use Rattle.file_directory.specs.declared.directory.DirectoryEntry.{DirectoryEntry}
use Rattle.file_directory.specs.Entries.{object_named}
use Rattle.file_dataset.specs.declared.file.FileRow.{FileRow}
use Rattle.file_dataset.specs.Edits.{Files, bytes_of}
use Rattle.file_dataset.specs.Files.{ShowsFiles, file_length, files, files_in, object_bytes}
use Rattle.file_dataset.specs.Reads.{file_row, file_rows, held_directory, in_object, plain_names, plain_read, row_for, row_range, then_read}
use Rattle.file_dataset.specs.Steps.{IsTableAt}
use Rattle.file_dataset.proofs.CallLemmas.{of_some}
use Rattle.file_dataset.proofs.FileLists.{found_has, named_bytes, rows_by}
use Rattle.file_dataset.proofs.FilesLemmas.{HasFiles, files_parts, object_parts}
use Rattle.file_dataset.proofs.RangeLemmas.{cut_range}
use Rattle.file_dataset.proofs.KeptLemmas.{kept_table}
use Rattle.file_dataset.proofs.TellLemmas.{directory_held, row_whole, some_wide}

-- an object that has a length has a row
record RowLong (table : Table) (object size : ℕ) : Type 0 where
  pub row : TableRow
  pub found : row_of object table ≡ Some row
  pub long : row.length ≡ size

row_long : (table : Table) (object size : ℕ) → length_in table object ≡ Some size → RowLong table object size
row_long table object size is = by_row (row_of object table) refl is
  where
    by_row : (found : Option TableRow) → row_of object table ≡ found → option_map (λ row. row.length) found ≡ Some size → RowLong table object size
    by_row None same is = absurd (cc)
    by_row (Some row) same is = record { row = row; found = same; long = cc }

-- the object of a name
record NamedObject (b : ℕ → Option (List ℕ)) (name : List ℕ) (entries : List DirectoryEntry) (bytes : List ℕ) : Type 0 where
  pub object : ℕ
  pub named : object_named name entries ≡ Some object
  pub has : b object ≡ Some bytes

module _ (key : KeyValue) (hmac_key : List ℕ) (family : FamilyState) (spot : Spot) (held : List (List ℕ)) (table : Table) (all : Files)
    (shows : ShowsFiles key hmac_key family spot held table all) where
  blocks_are : shows.honest.blocks ≡ held
  blocks_are = some_same (sym shows.honest.held ∙ shows.holds)
    where
      some_same : {a b : List (List ℕ)} → Some a ≡ Some b → a ≡ b
      some_same is = cc

  at : IsTableAt family spot table
  at = kept_table family spot table shows.kept (sym shows.of_spot)

  tells : TellsTheLog held family.log spot table
  tells =
      subst (λ (bs : List (List ℕ)). TellsTheLog bs family.log spot table) blocks_are
      (of_some (λ t. TellsTheLog shows.honest.blocks family.log spot t) (table_of spot family.heads) table shows.of_spot (shows.honest.spots spot))

  in_log : files_in key held family.log table.block spot ≡ Some all
  unfolding files
  in_log =
      ap (λ (n : ℕ). files_in key held family.log n spot) at.record_size
      ∙ ap (λ (bs : List (List ℕ)). files_in key bs family.log family.block spot) (sym blocks_are)
      ∙ sym (ap (option_and_then (λ bs. files_in key bs family.log family.block spot)) shows.honest.placed) ∙ shows.are

  parts : HasFiles key held family.log table.block spot all
  parts = files_parts key held family.log table.block spot all in_log

  abbrev bytes_by : ℕ → Option (List ℕ)
  bytes_by = object_bytes key held family.log table.block spot

  directory : held_directory key hmac_key held table ≡ Ok parts.entries
  directory = directory_held held family.log spot table tells at.lengths at.in_form key all parts hmac_key shows.passes

  named_object : (name bytes : List ℕ) → bytes_of name all ≡ Some bytes → NamedObject bytes_by name parts.entries bytes
  named_object name bytes is =
      by_name (object_named name parts.entries) refl (sym (named_bytes bytes_by name parts.entries all parts.are) ∙ is)
    where
      by_name : (found : Option ℕ) → object_named name parts.entries ≡ found → option_and_then bytes_by found ≡ Some bytes
          → NamedObject bytes_by name parts.entries bytes
      by_name None same is = absurd (cc)
      by_name (Some object) same is = record { object = object; named = same; has = is }

  object_long : (object : ℕ) (bytes : List ℕ) → bytes_by object ≡ Some bytes → length_in table object ≡ Some (length bytes)
  object_long object bytes has =
      let own = object_parts key held family.log table.block spot object bytes has in
      let size = (given_parts key held table.block own.size (last_ref table.block family.log spot object)
      (some_wide held family.log spot table tells at.lengths at.in_form) bytes own.has).0 in
      at.lengths object ∙ own.long ∙ ap Some (sym size)

  pub read_shown : (name bytes : List ℕ) (from len : ℕ) → bytes_of name all ≡ Some bytes
      → plain_read key hmac_key held name from len table ≡ Ok (take len (drop from bytes))
  read_shown name bytes from len is =
      let own = named_object name bytes is in
      let row = row_long table own.object (length bytes) (object_long own.object bytes own.has) in
      let whole = row_whole held family.log spot table tells at.lengths at.in_form key own.object row.row bytes row.found own.has in
      let range : row_range key held table.block row.row from len ≡ Ok (take len (drop from bytes)) =
      ap (in_object row.row.object) (cut_range key held table.block row.row.tree row.row.length bytes
      (some_wide held family.log spot table tells at.lengths at.in_form) whole from len) in
      rw (directory, own.named, row.found) range

  pub none_shown : (name : List ℕ) (from len : ℕ) → bytes_of name all ≡ None → plain_read key hmac_key held name from len table ≡ Err refusals.NoFile
  none_shown name from len is =
      rw directory (by_name (object_named name parts.entries) refl (sym (named_bytes bytes_by name parts.entries all parts.are) ∙ is))
    where
      by_name : (found : Option ℕ) → object_named name parts.entries ≡ found → option_and_then bytes_by found ≡ None
          → then_read (λ row. row_range key held table.block row from len)
          (option_map_or (λ row. Ok row) (option_and_then (λ object. row_of object table) (object_named name parts.entries)) (Err refusals.NoFile)) ≡ Err refusals.NoFile
      by_name None same is = rw same refl
      by_name (Some object) same is = absurd (found_has bytes_by name parts.entries object all parts.are same is)

  pub names_shown : plain_names key hmac_key held table ≡ Ok (map file_length all)
  names_shown =
      rw directory (ap (λ (rows : List FileRow). let r : Result (List FileRow) Refusal = Ok rows in r)
      (rows_by bytes_by (row_for table) file_length parts.entries all (λ entry bytes has. rw (object_long entry.object bytes has) refl) parts.are))
