-- The files of a head behind a file that is made or removed: the directory is written anew.
use Rattle.std.proofs.Common.{◌≡◌, ◌≢◌, ℕ, ◌+◌, ◌-◌, ◌/◌, ◌<◌, ◌≤◌, ◌^◌, Bool, true, false, ◌==◌, ◌&&◌, nat_le, nat_lt, not, if◌then◌else◌, List, [], ◌∷◌, ◌++◌, length, drop, replicate, take, Option, Some, None, Result, Ok, Err, refl, ap, sym, subst, ◌∙◌, inl, inr, arith}
use Rattle.std.specs.Prelude.{◌⊎◌, is_some, max}
use Rattle.std.specs.List.{All, filter}
use Rattle.std.specs.Str.{bytes_eq}
use Rattle.std.proofs.lemmas.Bool.Decides.{Decides-eqb, nat_tests}
use Rattle.std.proofs.lemmas.List.{append-nil, drop_all}
use Rattle.std.proofs.lemmas.List.Elements.{All-filter, filter_passes}
use Rattle.dataset_tree.specs.ShortNames.{file_fault}
use Rattle.block_crypt.specs.Blocks.{KeyValue}
use Rattle.salt_rotation.specs.SaltState.{SaltState}
use Rattle.indirect_macs.specs.declared.refs.BlockRef.{BlockRef}
use Rattle.indirect_macs.specs.Trees.{HoldsBytes}
use Rattle.family_log.specs.declared.entry.LengthAt.{LengthAt}
use Rattle.family_log.specs.declared.entry.LogEntry.{LogEntry}
use Rattle.family_log.specs.declared.table.Table.{Table}
use Rattle.family_log.specs.Honest.{TellsTheLog}
use Rattle.family_log.specs.Log.{head_spot, last_length, last_ref}
use Rattle.family_log.specs.Model.{HasLengths}
use Rattle.file_blocks.specs.Changes.{Change, object_in, refs_to, sealed_texts}
use Rattle.file_blocks.specs.Objects.{blocks_for, filled, spliced}
use Rattle.file_blocks.specs.Wholes.{bytes_of_refs, refs_behind}
use Rattle.file_blocks.specs.Writes.{Write, change_of_write, end_of, first_of, length_after}
use Rattle.file_blocks.specs.WriteFields.{write_to}
use Rattle.file_blocks.proofs.Behind.{write_cases}
use Rattle.file_blocks.proofs.BehindBytes.{write_bytes}
use Rattle.file_blocks.proofs.WholeRanges.{no_refs}
use Rattle.file_blocks.proofs.NewTexts.{IsWrite, counted_up}
use Rattle.file_blocks.proofs.Passing.{blocks_none, blocks_some, texts_count}
use Rattle.file_directory.specs.declared.directory.DirectoryEntry.{DirectoryEntry}
use Rattle.file_directory.specs.Entries.{directory_text, has_name, object_named, with_entry, without_name}
use Rattle.file_directory.specs.Form.{IsDirectory, IsEntry, IsNew, objects_of}
use Rattle.file_directory.specs.Reading.{read_directory}
use Rattle.file_directory.proofs.ChangeLemmas.{free_object, inserted_form, removed_form, same_form}
use Rattle.file_directory.proofs.ReadLemmas.{written_reads}
use Rattle.file_dataset.specs.Changes.{Edit, edit_of_make, edit_of_remove, empty_object, new_object}
use Rattle.file_dataset.specs.Edits.{Files, removed, touched}
use Rattle.file_dataset.specs.Files.{files_in, object_bytes}
use Rattle.file_dataset.specs.Steps.{IsReadable}
use Rattle.file_dataset.specs.declared.kind.Kind.{Kind}
use Rattle.file_dataset.specs.declared.limits.TheConstants.{MAX_OBJECT}
use Rattle.file_dataset.proofs.ChangedLemmas.{kept_bytes, kept_length, later_log, made_bytes, made_length, made_object, write_size}
use Rattle.file_dataset.proofs.EditParts.{Anew, MadeFile, RemovedFile}
use Rattle.file_dataset.proofs.EntryLemmas.{other_number, outside, same_number, told_length, told_other}
use Rattle.file_dataset.proofs.FileLists.{Matches, by_space, files_by, found_matches, removed_files, same_files, touched_files}
use Rattle.file_dataset.proofs.FilesLemmas.{HasFiles, files_are, files_parts, object_is}
use Rattle.file_dataset.proofs.TableLemmas.{found_is, new_is_free, new_is_high}
use Rattle.file_dataset.proofs.TellLemmas.{directory_same, in_form, same_objects, some_wide}

-- ---- an object that is written whole

-- its new texts cover all of its blocks
pub record Covers (c : Change) : Type 0 where
  pub first : c.first ≡ 0
  pub whole : blocks_for c.record_size c.new_length ≤ length c.texts

pub written_whole : (key : KeyValue) (held : List (List ℕ)) (record_size : ℕ) (bytes : List ℕ) (c : Change) → 0 < record_size
    → change_of_write key held (write_to empty_object record_size 0 bytes) ≡ Ok c → Covers c
written_whole key held record_size bytes c some is =
    let w : Write = write_to empty_object record_size 0 bytes in
    write_cases Covers key held w c is
    (λ none. let size : length_after w ≡ 0 = omega (arith, none) in
    let blocks : blocks_for record_size (length_after w) ≡ 0 = ap (blocks_for record_size) size ∙ blocks_none record_size some in
    record { first = refl; whole = omega (arith, blocks) })
    (λ full texts are. let write : IsWrite w = record { levels = omega arith; wide = some; some = full } in
    let size : length_after w ≡ end_of w = omega arith in
    let blocks : blocks_for record_size (length_after w) ≡ (end_of w - 1) / record_size + 1 =
    ap (blocks_for record_size) size ∙ blocks_some record_size (end_of w) some (omega (arith, full)) in
    let first : first_of w ≡ 0 = omega arith in
    record { first = first; whole = omega (arith, blocks, texts_count key held w texts are, counted_up w write, first) })

-- so it makes no difference what its blocks were
pub covered : (key : KeyValue) (salts : SaltState) (addr : ℕ) (c : Change) (before other : ℕ → Option BlockRef) (index : ℕ) → Covers c
    → refs_behind key salts addr c before index ≡ refs_behind key salts addr c other index
covered key salts addr c before other index covers =
    by_space (nat_le c.first index && nat_lt index (c.first + length c.texts)) (λ within. rw within refl)
    (λ out. let past : nat_le (blocks_for c.record_size c.new_length) index ≡ true = behind (outside c.first (c.first + length c.texts) index out) in rw (out, past) refl)
  where
    behind : (index < c.first) ⊎ (c.first + length c.texts ≤ index) → nat_le (blocks_for c.record_size c.new_length) index ≡ true
    behind (inl low) = let first = covers.first in absurd (omega (arith, low, first))
    behind (inr high) =
        let whole = covers.whole in
        let past : blocks_for c.record_size c.new_length ≤ index = omega (arith, whole, high) in grind (arith, past)

-- no bytes
pub no_bytes : (key : KeyValue) (held : List (List ℕ)) (record_size : ℕ) (refs : ℕ → Option BlockRef) → 0 < record_size
    → bytes_of_refs key held record_size 0 refs ≡ Some []
unfolding bytes_of_refs
no_bytes key held record_size refs some = rw (blocks_none record_size some) refl

-- a piece over nothing
spliced_nothing : (piece : List ℕ) → spliced [] 0 piece ≡ piece
unfolding spliced filled
spliced_nothing piece = ap (λ (rest : List ℕ). piece ++ rest) (drop_all (0 + length piece) [] (omega arith)) ∙ append-nil piece

module _ (key : KeyValue) (hmac_key : List ℕ) (salts : SaltState) (blocks nodes : List (List ℕ)) (log : List LogEntry) (head : ℕ) (table : Table) (kind : Kind)
    (tells : TellsTheLog blocks log (head_spot head) table) (lengths : HasLengths log (head_spot head) table) (form : IsReadable table)
    (bytes_held : HoldsBytes blocks) (all : Files) (has : HasFiles key blocks log table.block (head_spot head) all) where
  wider : 0 < table.block
  wider = some_wide blocks log (head_spot head) table tells lengths form

  abbrev later : Edit → List LogEntry
  later e = later_log key salts blocks log head table.block kind e

  abbrev behind : Edit → List (List ℕ)
  behind e = sealed_texts key salts e.change.texts ++ nodes

  abbrev more_objects : Edit → ℕ → Bool
  more_objects e object = is_some (last_length (later e) (head_spot head) object)

  abbrev new_bytes : Edit → ℕ → Option (List ℕ)
  new_bytes e = object_bytes key (blocks ++ behind e) (later e) table.block (head_spot head)

  abbrev old_bytes : ℕ → Option (List ℕ)
  old_bytes = object_bytes key blocks log table.block (head_spot head)

  -- the new directory is that of the new files, where it is in form
  anew_files : (e : Edit) (entries : List DirectoryEntry) (fs : Files) → e.object ≡ 1 → Anew key blocks table.block entries e.change
      → IsDirectory (more_objects e) entries → files_by (new_bytes e) entries ≡ Some fs
      → files_in key (blocks ++ behind e) (later e) table.block (head_spot head) ≡ Some fs
  anew_files e entries fs own anew directory are =
      let text : List ℕ = directory_text entries in
      let covers = written_whole key blocks table.block text e.change wider anew.change in
      let spliced_text : bytes_of_refs key (blocks ++ behind e) table.block e.change.new_length (refs_behind key salts (length blocks) e.change (λ index. None)) ≡ Some text =
      write_bytes key salts blocks nodes table.block empty_object (λ index. None) wider (omega arith) (no_refs blocks table.block) []
      (no_bytes key blocks table.block (λ index. None) wider) 0 text e.change anew.change
      ∙ ap Some (spliced_nothing text) in
      let made : new_bytes e e.object ≡ Some text =
      made_bytes key salts blocks log head table.block kind e (behind e) (λ index. None) text
      (write_size key blocks (write_to empty_object table.block 0 text) e.change anew.change)
      (λ index. covered key salts (length blocks) e.change (last_ref table.block log (head_spot head) e.object) (λ i. None) index covers) spliced_text in
      files_are key (blocks ++ behind e) (later e) table.block (head_spot head) text entries fs (ap (new_bytes e) (sym own) ∙ made)
      (written_reads (more_objects e) entries directory) are

  -- an object is in the new table too, unless the entry tells otherwise
  still_there : (e : Edit) (object : ℕ) → e.object ≡ 1 → (object ≢ 1 → told_other e.other object ≡ None) → objects_of table object ≡ true → more_objects e object ≡ true
  still_there e object own untold there =
      by_space (object == 1)
      (λ first. ap is_some (ap (last_length (later e) (head_spot head)) ((Decides-eqb object 1).0 first ∙ sym own) ∙ made_length key salts blocks log head table.block kind e))
      (λ apart. let other : object ≢ 1 = λ same. true_is_false (sym ((Decides-eqb object 1).1 same) ∙ apart) in
      ap is_some (kept_length key salts blocks log head table.block kind e object (λ same. other (same ∙ own)) (untold other))
      ∙ sym (ap (λ (f : ℕ → Bool). f object) (same_objects blocks log (head_spot head) table tells lengths form)) ∙ there)
    where
      true_is_false : true ≡ false → ⊥
      true_is_false e = cc

  old_directory : IsDirectory (objects_of table) has.entries
  old_directory = in_form blocks log (head_spot head) table tells lengths form key all has bytes_held

  not_first : (entry : DirectoryEntry) → IsEntry (objects_of table) entry → entry.object ≢ 1
  not_first entry is same = let least : 2 ≤ entry.object = is.least in omega (arith, least, same)

  -- ---- a new file

  abbrev new_entry : List ℕ → DirectoryEntry
  new_entry name = record { object = new_object table; name = name }

  new_absent : objects_of table (new_object table) ≡ false
  new_absent = ap is_some (new_is_free table)

  new_apart : (object : ℕ) → objects_of table object ≡ true → object ≢ new_object table
  new_apart object there same = true_is_false (sym there ∙ ap (objects_of table) same ∙ new_absent)
    where
      true_is_false : true ≡ false → ⊥
      true_is_false e = cc

  new_high : 2 ≤ new_object table
  new_high = new_is_high table.block table form.form

  made_untold : (c : Change) (object : ℕ) → object ≢ new_object table → told_other (edit_of_make table c).other object ≡ None
  made_untold c object apart = rw (other_number (new_object table) object (λ same. apart (sym same))) refl

  made_told : (c : Change) → last_length (later (edit_of_make table c)) (head_spot head) (new_object table) ≡ Some 0
  made_told c =
      let high : 2 ≤ new_object table = new_high in
      told_length log kind head (edit_of_make table c) (made_object key salts blocks log head table.block kind (edit_of_make table c))
      (refs_to key salts (length blocks) c.texts) (new_object table) (Some 0) (λ same. omega (arith, high, same)) (rw (same_number (new_object table)) refl)

  pub files_made : (name : List ℕ) (e : Edit) → file_fault name ≡ None → MadeFile key hmac_key name blocks table e
      → files_in key (blocks ++ behind e) (later e) table.block (head_spot head) ≡ Some (touched name all)
  files_made name e sound file =
      let same : file.entries ≡ has.entries =
      directory_same blocks log (head_spot head) table tells lengths form key all has hmac_key file.entries file.reads in
      subst (λ (f : Edit). files_in key (blocks ++ behind f) (later f) table.block (head_spot head) ≡ Some (touched name all)) (sym file.within.is)
      (anew_files edit (with_entry new has.entries) (touched name all) refl
      (subst (λ (es : List DirectoryEntry). Anew key blocks table.block (with_entry new es) file.within.made) same file.within.anew)
      (inserted_form (more_objects edit) has.entries new (same_form (objects_of table) (more_objects edit) has.entries old_directory still)
      (record { entry = fresh; no_name = ap (object_named name) (sym same) ∙ file.within.free; no_object = free_object (objects_of table) has.entries (new_object table) old_directory new_absent }))
      (touched_files (new_bytes edit) new has.entries all empty (same_files old_bytes (new_bytes edit) has.entries all kept has.are)))
    where
      edit : Edit
      edit = edit_of_make table file.within.made

      new : DirectoryEntry
      new = new_entry name

      still : (object : ℕ) → objects_of table object ≡ true → more_objects edit object ≡ true
      still object there = still_there edit object refl (λ other. made_untold file.within.made object (new_apart object there)) there

      fresh : IsEntry (more_objects edit) new
      fresh =
          let high : 2 ≤ new_object table = new_high in
          let low = file.within.low in
          let most : new_object table ≤ MAX_OBJECT = grind (arith, nat_tests) in
          record { name = sound; least = high; greatest = omega (arith, most); in_table = ap is_some (made_told file.within.made) }

      empty : new_bytes edit (new_object table) ≡ Some []
      empty =
          object_is key (blocks ++ behind edit) (later edit) table.block (head_spot head) (new_object table) 0 [] (made_told file.within.made)
          (no_bytes key (blocks ++ behind edit) table.block (last_ref table.block (later edit) (head_spot head) (new_object table)) wider)

      kept : All (λ entry. (bytes : List ℕ) → old_bytes entry.object ≡ Some bytes → new_bytes edit entry.object ≡ Some bytes) has.entries
      kept k d within bytes was =
          let entry = old_directory.each k d within in
          kept_bytes key salts blocks log head table.block kind edit (behind edit) _ bytes (not_first _ entry)
          (made_untold file.within.made _ (new_apart _ entry.in_table)) was

  -- ---- a file that is removed

  removed_untold : (c : Change) (gone object : ℕ) → object ≢ gone → told_other (edit_of_remove table gone c).other object ≡ None
  removed_untold c gone object apart = rw (other_number gone object (λ same. apart (sym same))) refl

  pub files_removed : (name : List ℕ) (e : Edit) → RemovedFile key hmac_key name blocks table e
      → files_in key (blocks ++ behind e) (later e) table.block (head_spot head) ≡ Some (removed name all)
  files_removed name e file =
      subst (λ (f : Edit). files_in key (blocks ++ behind f) (later f) table.block (head_spot head) ≡ Some (removed name all)) (sym file.within.is)
      (anew_files edit (without_name name has.entries) (removed name all) refl
      (subst (λ (es : List DirectoryEntry). Anew key blocks table.block (without_name name es) file.within.made) same file.within.anew)
      (removed_form (objects_of table) (more_objects edit) has.entries name file.within.row.object old_directory named still)
      (same_files old_bytes (new_bytes edit) (without_name name has.entries) (removed name all) kept (removed_files old_bytes name has.entries all has.are)))
    where
      edit : Edit
      edit = edit_of_remove table file.within.row.object file.within.made

      same : file.entries ≡ has.entries
      same = directory_same blocks log (head_spot head) table tells lengths form key all has hmac_key file.entries file.reads

      own : file.within.row.object ≡ file.within.object
      own = found_is file.within.object table.rows file.within.row file.within.found

      named : object_named name has.entries ≡ Some file.within.row.object
      named = ap (object_named name) (sym same) ∙ file.within.named ∙ ap Some (sym own)

      still : (object : ℕ) → objects_of table object ≡ true → object ≢ file.within.row.object → more_objects edit object ≡ true
      still object there apart = still_there edit object refl (λ other. removed_untold file.within.made file.within.row.object object apart) there

      test : DirectoryEntry → Bool
      test entry = not (has_name name entry)

      other_name : (b : Bool) → not b ≡ true → b ≡ false
      other_name true is = absurd (cc)
      other_name false is = refl

      kept : All (λ entry. (bytes : List ℕ) → old_bytes entry.object ≡ Some bytes → new_bytes edit entry.object ≡ Some bytes) (without_name name has.entries)
      kept k d within bytes was =
          let matches = All-filter test (Matches name file.within.row.object) has.entries
          (found_matches name has.entries file.within.row.object old_directory.rising old_directory.apart named) k d within in
          let entry = All-filter test (IsEntry (objects_of table)) has.entries old_directory.each k d within in
          let passes = filter_passes test has.entries k d within in
          kept_bytes key salts blocks log head table.block kind edit (behind edit) _ bytes (not_first _ entry)
          (removed_untold file.within.made file.within.row.object _ (matches.1 (other_name _ passes))) was
