-- A table that tells what the log gives: its objects by their references, its directory, and its files.
use Rattle.std.proofs.Common.{◌≡◌, ℕ, ◌+◌, ◌-◌, ◌<◌, ◌≤◌, ◌^◌, Bool, true, false, nat_le, nat_lt, if◌then◌else◌, List, [], length, take, drop, map, Option, Some, None, Result, Ok, Err, refl, ap, sym, subst, ◌∙◌, arith}
use Rattle.std.specs.Prelude.{IfSome, is_some, min}
use Rattle.std.specs.List.{All}
use Rattle.std.specs.Option.{option_and_then, option_map, option_map_or}
use Rattle.std.proofs.Math.Path.{fun_ext}
use Rattle.std.proofs.lemmas.Bool.Decides.{nat_tests}
use Rattle.dataset_tree.specs.declared.refusal.Refusal.{Refusal}
use Rattle.dataset_tree.specs.declared.refusal.Refusal.TheVariants as refusals
use Rattle.block_crypt.specs.Blocks.{KeyValue}
use Rattle.indirect_macs.specs.declared.refs.BlockRef.{BlockRef}
use Rattle.indirect_macs.specs.declared.refs.MacError.{MacError}
use Rattle.indirect_macs.specs.RunFields.{run_for}
use Rattle.indirect_macs.specs.Runs.{walk_to}
use Rattle.indirect_macs.specs.Trees.{HoldsBytes}
use Rattle.family_log.specs.declared.entry.LogEntry.{LogEntry}
use Rattle.family_log.specs.declared.entry.Spot.{Spot}
use Rattle.family_log.specs.declared.table.Table.{Table}
use Rattle.family_log.specs.declared.table.TableRow.{TableRow}
use Rattle.family_log.specs.Honest.{TellsTheLog, row_leads}
use Rattle.family_log.specs.Log.{is_past, last_length, last_ref}
use Rattle.family_log.specs.Model.{HasLengths}
use Rattle.family_log.specs.Tables.{IsRow, blocks_of, row_of}
use Rattle.file_blocks.specs.Changes.{ref_in}
use Rattle.file_blocks.specs.Objects.{IsObject, object_range}
use Rattle.file_blocks.specs.Wholes.{HasRefs, bytes_of_refs, whole_object}
use Rattle.file_directory.specs.declared.directory.DirectoryEntry.{DirectoryEntry}
use Rattle.file_directory.specs.Form.{IsDirectory, objects_of}
use Rattle.file_directory.specs.Reading.{directory_answer, read_directory}
use Rattle.file_directory.proofs.ReadLemmas.{is_read}
use Rattle.file_dataset.specs.Changes.{object_at}
use Rattle.file_dataset.specs.Files.{object_bytes}
use Rattle.file_dataset.specs.Edits.{Files}
use Rattle.file_dataset.specs.Reads.{held_directory, held_entries, held_text, has_portable, in_object, row_range}
use Rattle.file_dataset.specs.Steps.{IsReadable}
use Rattle.file_dataset.proofs.FilesLemmas.{HasFiles, HasObject, object_parts}
use Rattle.file_dataset.proofs.ObjectLemmas.{object_has_bytes, whole_of_refs}
use Rattle.file_dataset.proofs.TableLemmas.{first_found}
use Rattle.file_dataset.proofs.Sizes.{row_in_form, row_object, size_bounds}

same_ok : {X E : Type 0} (r : Result X E) (a b : X) → r ≡ Ok a → r ≡ Ok b → a ≡ b
same_ok r a b one other = cc

some_row : (record_size : ℕ) (found : Option TableRow) (row : TableRow) → found ≡ Some row → IfSome found (IsRow record_size) → IsRow record_size row
some_row record_size None row is form = absurd (cc)
some_row record_size (Some other) row is form = let same : other ≡ row = cc in subst (IsRow record_size) same form

module _ (blocks : List (List ℕ)) (log : List LogEntry) (spot : Spot) (table : Table) (tells : TellsTheLog blocks log spot table)
    (lengths : HasLengths log spot table) (form : IsReadable table) where
  abbrev pub refs_of : (object : ℕ) → ℕ → Option BlockRef
  refs_of object = last_ref table.block log spot object

  -- ---- objects

  pub row_length : (object : ℕ) (row : TableRow) → row_of object table ≡ Some row → last_length log spot object ≡ Some row.length
  row_length object row found = sym (lengths object) ∙ rw found refl

  pub row_refs : (object : ℕ) (row : TableRow) → row_of object table ≡ Some row → HasRefs blocks table.block (object_at row) (refs_of object)
  unfolding walk_to
  row_refs object row found = record {
    leads = λ index. leads_in index (row_of object table) found (tells.refs object index);
    holes = λ index past. tells.ends object index (rw (row_length object row found) (behind index past));
  }
    where
      leads_in : (index : ℕ) (own : Option TableRow) → own ≡ Some row
          → option_map_or (row_leads blocks table.block index) own (Ok None) ≡ Ok (refs_of object index)
          → ref_in blocks table.block row.tree index ≡ Ok (refs_of object index)
      leads_in index None is leads = absurd (cc)
      leads_in index (Some own) is leads =
          let same : own ≡ row = cc in
          subst (λ (r : TableRow). ref_in blocks table.block r.tree index ≡ Ok (refs_of object index)) same leads

      behind : (index : ℕ) → blocks_of table.block row.length ≤ index → nat_le (blocks_of table.block row.length) index ≡ true
      behind index past = grind (arith, past)

  pub row_is : (object : ℕ) (row : TableRow) → row_of object table ≡ Some row → IsRow table.block row
  row_is object row found = some_row table.block (row_of object table) row found (row_in_form table object form)

  pub is_object : (object : ℕ) (row : TableRow) → row_of object table ≡ Some row → IsObject table.block (object_at row)
  is_object object row found = row_object table.block row (object_at row) form.record_size (row_is object row found) refl refl

  pub wide : 512 ≤ table.block
  wide = (size_bounds table.block form.record_size).0

  pub some_wide : 0 < table.block
  some_wide = let large : 512 ≤ table.block = wide in omega (arith, large)

  -- what the log gives is what the row's tree gives
  pub row_has : (key : KeyValue) (object : ℕ) (row : TableRow) (bytes : List ℕ) → row_of object table ≡ Some row
      → object_bytes key blocks log table.block spot object ≡ Some bytes
      → bytes_of_refs key blocks table.block row.length (refs_of object) ≡ Some bytes
  row_has key object row bytes found has =
      let parts = object_parts key blocks log table.block spot object bytes has in
      let same : parts.size ≡ row.length = some_number (sym parts.long ∙ row_length object row found) in
      ap (λ (n : ℕ). bytes_of_refs key blocks table.block n (refs_of object)) (sym same) ∙ parts.has
    where
      some_number : {a b : ℕ} → Some a ≡ Some b → a ≡ b
      some_number is = cc

  pub row_whole : (key : KeyValue) (object : ℕ) (row : TableRow) (bytes : List ℕ) → row_of object table ≡ Some row
      → object_bytes key blocks log table.block spot object ≡ Some bytes → whole_object key blocks table.block (object_at row) ≡ Ok bytes
  row_whole key object row bytes found has =
      (whole_of_refs key blocks table.block (object_at row) (refs_of object) bytes wide (is_object object row found) (row_refs object row found)
      (row_has key object row bytes found has)).0

  -- ---- the directory

  pub same_objects : objects_of table ≡ (λ object. is_some (last_length log spot object))
  same_objects = fun_ext (λ object. by_row (row_of object table) ∙ ap is_some (lengths object))
    where
      by_row : (found : Option TableRow) → is_some found ≡ is_some (option_map (λ row. row.length) found)
      by_row None = refl
      by_row (Some row) = refl

  module _ (key : KeyValue) (all : Files) (has : HasFiles key blocks log table.block spot all) where
    pub read_as : read_directory (objects_of table) has.text ≡ Ok has.entries
    read_as = ap (λ (f : ℕ → Bool). read_directory f has.text) same_objects ∙ has.read

    text_held : held_text key blocks table ≡ Ok has.text
    text_held =
        let first = first_found table.block table form.form in
        rw first.1 (whole_row first.0 (row_whole key 1 first.0 has.text first.1 has.has_text))
      where
        whole_row : (own : TableRow) → object_range key blocks table.block own.tree 0 own.length ≡ Ok has.text
            → row_range key blocks table.block own 0 own.length ≡ Ok has.text
        whole_row own is =
            let start : min 0 own.length ≡ 0 = omega arith in
            let end : min (0 + own.length) own.length ≡ own.length = omega arith in
            rw (start, end, is) refl

    pub entries_held : held_entries key blocks table ≡ Ok has.entries
    unfolding held_entries
    entries_held = rw (text_held, read_as) refl

    pub directory_held : (hmac_key : List ℕ) → has_portable hmac_key table ≡ true → held_directory key hmac_key blocks table ≡ Ok has.entries
    unfolding held_directory
    directory_held hmac_key passes = rw passes entries_held

    -- and no other directory is read, whether the portable MAC is tested or not
    pub directory_same : (hmac_key : List ℕ) (entries : List DirectoryEntry) → held_directory key hmac_key blocks table ≡ Ok entries → entries ≡ has.entries
    unfolding held_directory
    directory_same hmac_key entries reads = by_portable (has_portable hmac_key table) reads
      where
        by_portable : (b : Bool) → (if b then held_entries key blocks table else Err (refusals.MacFailed 0 0 0)) ≡ Ok entries → entries ≡ has.entries
        by_portable true reads = same_ok (held_entries key blocks table) entries has.entries reads entries_held
        by_portable false reads = absurd (cc)

    pub in_form : HoldsBytes blocks → IsDirectory (objects_of table) has.entries
    in_form bytes =
        let parts = object_parts key blocks log table.block spot 1 has.text has.has_text in
        (is_read (objects_of table) has.text has.entries (object_has_bytes key blocks table.block parts.size (refs_of 1) has.text some_wide bytes parts.has) read_as).in_form
