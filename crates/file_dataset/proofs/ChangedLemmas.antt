-- The files of a head behind a change of the bytes of one of them.
use Rattle.std.proofs.Common.{◌≡◌, ◌≢◌, ℕ, ◌+◌, ◌-◌, ◌<◌, ◌≤◌, Bool, true, false, ◌==◌, ◌&&◌, nat_le, nat_lt, if◌then◌else◌, List, [], ◌∷◌, ◌++◌, length, Option, Some, None, Result, Ok, Err, refl, ap, sym, subst, ◌∙◌, arith}
use Rattle.std.specs.Prelude.{is_some, slice_index_or}
use Rattle.std.specs.List.{All}
use Rattle.std.specs.Option.{option_map}
use Rattle.std.specs.Str.{bytes_eq}
use Rattle.std.proofs.Math.Path.{fun_ext}
use Rattle.std.proofs.lemmas.Bool.Decides.{Decides-eqb}
use Rattle.std.proofs.lemmas.List.Elements.{All-head, All-tail}
use Rattle.dataset_tree.specs.declared.refusal.Refusal.{Refusal}
use Rattle.block_crypt.specs.Blocks.{KeyValue}
use Rattle.salt_rotation.specs.SaltState.{SaltState}
use Rattle.indirect_macs.specs.declared.refs.BlockRef.{BlockRef}
use Rattle.indirect_macs.specs.Trees.{HoldsBytes}
use Rattle.family_log.specs.declared.entry.LogEntry.{LogEntry}
use Rattle.family_log.specs.declared.entry.Spot.{Spot}
use Rattle.family_log.specs.declared.table.Table.{Table}
use Rattle.family_log.specs.declared.table.TableRow.{TableRow}
use Rattle.family_log.specs.Honest.{TellsTheLog}
use Rattle.family_log.specs.Log.{head_spot, last_length, last_ref}
use Rattle.family_log.specs.Model.{HasLengths}
use Rattle.family_log.specs.Tables.{blocks_of, row_of}
use Rattle.file_blocks.specs.declared.object.Object.{Object}
use Rattle.file_blocks.specs.Changes.{Change, object_in, refs_to, sealed_texts}
use Rattle.file_blocks.specs.Objects.{blocks_for, filled, spliced}
use Rattle.file_blocks.specs.Wholes.{bytes_of_refs, refs_behind}
use Rattle.file_blocks.specs.Writes.{Write, change_of_cut, change_of_write}
use Rattle.file_blocks.specs.WriteFields.{write_to}
use Rattle.file_blocks.proofs.Behind.{cut_cases, write_cases}
use Rattle.file_blocks.proofs.BehindBytes.{cut_bytes, write_bytes}
use Rattle.file_blocks.proofs.Sealing.{length-refs}
use Rattle.file_directory.specs.declared.directory.DirectoryEntry.{DirectoryEntry}
use Rattle.file_directory.specs.Entries.{object_named}
use Rattle.file_directory.specs.Form.{IsDirectory, IsEntry, objects_of}
use Rattle.file_directory.specs.Reading.{read_directory}
use Rattle.file_dataset.specs.Changes.{Edit, edit_of_row, object_at}
use Rattle.file_dataset.specs.Edits.{Files, changed, cut, written}
use Rattle.file_dataset.specs.Files.{files_in, object_bytes}
use Rattle.file_dataset.specs.Reads.{in_object}
use Rattle.file_dataset.specs.Steps.{IsReadable}
use Rattle.file_dataset.specs.declared.kind.Kind.{Kind}
use Rattle.file_dataset.proofs.EditParts.{IsCut, RowEdit, Wrote}
use Rattle.file_dataset.proofs.EntryLemmas.{edit_log, other_length, other_ref, own_length, own_ref, told_other}
use Rattle.file_dataset.proofs.FileLists.{Matches, by_space, changed_files, files_by, found_matches, one_file}
use Rattle.file_dataset.proofs.FilesLemmas.{HasFiles, files_are, files_parts, object_goes_on, object_is}
use Rattle.file_dataset.proofs.TableLemmas.{found_is}
use Rattle.file_dataset.proofs.TellLemmas.{directory_same, in_form, row_has, row_is, row_length, row_refs, some_wide}

-- ---- a change keeps the record size

pub write_size : (key : KeyValue) (held : List (List ℕ)) (w : Write) (c : Change) → change_of_write key held w ≡ Ok c → c.record_size ≡ w.record_size
write_size key held w c is = write_cases (λ (d : Change). d.record_size ≡ w.record_size) key held w c is (λ none. refl) (λ some texts are. refl)

pub cut_size : (key : KeyValue) (held : List (List ℕ)) (record_size : ℕ) (object : Object) (to : ℕ) (c : Change)
    → change_of_cut key held record_size object to ≡ Ok c → c.record_size ≡ record_size
cut_size key held record_size object to c is =
    cut_cases (λ (d : Change). d.record_size ≡ record_size) key held record_size object to c is (λ grown. refl) (λ less none. refl) (λ less kept front reads. refl)

-- ---- behind an edit

module _ (key : KeyValue) (salts : SaltState) (blocks : List (List ℕ)) (log : List LogEntry) (head record_size : ℕ) (kind : Kind) (e : Edit) where
  abbrev pub made_object : Object
  made_object = object_in key salts blocks (length blocks) e.change

  abbrev pub later_log : List LogEntry
  later_log = edit_log log kind head e made_object (refs_to key salts (length blocks) e.change.texts)

  pub made_length : last_length later_log (head_spot head) e.object ≡ Some e.change.new_length
  unfolding object_in
  made_length = own_length log kind head e made_object (refs_to key salts (length blocks) e.change.texts)

  -- its own object has the new references, and else those that it had
  pub made_refs : e.change.record_size ≡ record_size → (index : ℕ) → last_ref record_size later_log (head_spot head) e.object index
      ≡ refs_behind key salts (length blocks) e.change (last_ref record_size log (head_spot head) e.object) index
  unfolding object_in
  made_refs size index =
      own_ref log kind head e made_object (refs_to key salts (length blocks) e.change.texts) record_size index
      ∙ rw (length-refs key salts (length blocks) e.change.texts, size) refl

  -- so its bytes are those of the new references
  pub made_bytes : (more : List (List ℕ)) (before : ℕ → Option BlockRef) (bytes : List ℕ) → e.change.record_size ≡ record_size
      → ((index : ℕ) → refs_behind key salts (length blocks) e.change (last_ref record_size log (head_spot head) e.object) index
      ≡ refs_behind key salts (length blocks) e.change before index)
      → bytes_of_refs key (blocks ++ more) record_size e.change.new_length (refs_behind key salts (length blocks) e.change before) ≡ Some bytes
      → object_bytes key (blocks ++ more) later_log record_size (head_spot head) e.object ≡ Some bytes
  made_bytes more before bytes size same has =
      let refs : last_ref record_size later_log (head_spot head) e.object ≡ refs_behind key salts (length blocks) e.change before =
      fun_ext (λ index. made_refs size index ∙ same index) in
      object_is key (blocks ++ more) later_log record_size (head_spot head) e.object e.change.new_length bytes made_length
      (ap (bytes_of_refs key (blocks ++ more) record_size e.change.new_length) refs ∙ has)

  -- an object of which the entry says nothing has the bytes that it had
  pub kept_bytes : (more : List (List ℕ)) (object : ℕ) (bytes : List ℕ) → object ≢ e.object → told_other e.other object ≡ None
      → object_bytes key blocks log record_size (head_spot head) object ≡ Some bytes
      → object_bytes key (blocks ++ more) later_log record_size (head_spot head) object ≡ Some bytes
  kept_bytes more object bytes apart none has =
      object_goes_on key blocks more log later_log record_size (head_spot head) (head_spot head) object bytes
      (other_length log kind head e made_object (refs_to key salts (length blocks) e.change.texts) object apart none)
      (λ index. other_ref log kind head e made_object (refs_to key salts (length blocks) e.change.texts) record_size object index apart none) has

  pub kept_length : (object : ℕ) → object ≢ e.object → told_other e.other object ≡ None
      → last_length later_log (head_spot head) object ≡ last_length log (head_spot head) object
  kept_length object apart none = other_length log kind head e made_object (refs_to key salts (length blocks) e.change.texts) object apart none

-- ---- a file's bytes

not_both : (n : ℕ) → 2 ≤ n → 1 ≡ n → ⊥
not_both n high same = omega (arith, high, same)

-- the entry that is found is one of the directory
pub found_entry : (objects : ℕ → Bool) (name : List ℕ) (entries : List DirectoryEntry) (object : ℕ) → All (IsEntry objects) entries
    → object_named name entries ≡ Some object → 2 ≤ object
found_entry objects name [] object all found = absurd (cc)
found_entry objects name (entry ∷ entries) object all found =
    by_space (bytes_eq entry.name name)
    (λ here. let same : entry.object ≡ object = (let is = rw here at found in cc) in
    subst (λ (n : ℕ). 2 ≤ n) same (All-head (IsEntry objects) entry entries all).least)
    (λ other. found_entry objects name entries object (All-tail (IsEntry objects) entry entries all) (rw other at found))

module _ (key : KeyValue) (hmac_key : List ℕ) (salts : SaltState) (blocks more : List (List ℕ)) (log : List LogEntry) (head : ℕ) (table : Table) (kind : Kind)
    (tells : TellsTheLog blocks log (head_spot head) table) (lengths : HasLengths log (head_spot head) table) (form : IsReadable table)
    (bytes_held : HoldsBytes blocks) (all : Files) (has : HasFiles key blocks log table.block (head_spot head) all) where
  -- the object of a name gets other bytes
  changed_in : (name : List ℕ) (change : List ℕ → List ℕ) (entries : List DirectoryEntry) (object : ℕ) (row : TableRow) (e : Edit)
      → entries ≡ has.entries → object_named name entries ≡ Some object → row_of object table ≡ Some row → e.object ≡ object → e.other ≡ None
      → ((old : List ℕ) → object_bytes key blocks log table.block (head_spot head) object ≡ Some old
      → object_bytes key (blocks ++ more) (later_log key salts blocks log head table.block kind e) table.block (head_spot head) object ≡ Some (change old))
      → files_in key (blocks ++ more) (later_log key salts blocks log head table.block kind e) table.block (head_spot head) ≡ Some (changed change name all)
  changed_in name change entries object row e are named found own none makes =
      let directory : IsDirectory (objects_of table) has.entries = in_form blocks log (head_spot head) table tells lengths form key all has bytes_held in
      let named_too : object_named name has.entries ≡ Some object = rw are at named in
      let high : 2 ≤ object = found_entry (objects_of table) name has.entries object directory.each named_too in
      let untold : (o : ℕ) → told_other e.other o ≡ None = λ o. rw none refl in
      files_are key (blocks ++ more) later table.block (head_spot head) has.text has.entries (changed change name all)
      (kept_bytes key salts blocks log head table.block kind e more 1 has.text (λ same. not_both object high (same ∙ own)) (untold 1) has.has_text)
      (ap (λ (f : ℕ → Bool). read_directory f has.text) (fun_ext (λ o. alike untold o)) ∙ has.read)
      (changed_files (object_bytes key blocks log table.block (head_spot head)) (object_bytes key (blocks ++ more) later table.block (head_spot head)) change name
      has.entries all
      (λ k d within bytes was. each untold _ (found_matches name has.entries object directory.rising directory.apart named_too k d within) bytes was)
      has.are)
    where
      later : List LogEntry
      later = later_log key salts blocks log head table.block kind e

      alike : ((o : ℕ) → told_other e.other o ≡ None) → (o : ℕ) → is_some (last_length later (head_spot head) o) ≡ is_some (last_length log (head_spot head) o)
      alike untold o =
          by_space (o == object)
          (λ here. let same : o ≡ object = (Decides-eqb o object).0 here in
          ap is_some (ap (last_length later (head_spot head)) (same ∙ sym own) ∙ made_length key salts blocks log head table.block kind e)
          ∙ ap is_some (sym (ap (last_length log (head_spot head)) same ∙ row_length blocks log (head_spot head) table tells lengths form object row found)))
          (λ apart. ap is_some (kept_length key salts blocks log head table.block kind e o (λ same. other_is o apart (same ∙ own)) (untold o)))
        where
          other_is : (o : ℕ) → (o == object) ≡ false → o ≡ object → ⊥
          other_is o apart same = let e = (Decides-eqb o object).1 same in cc

      each : ((o : ℕ) → told_other e.other o ≡ None) → (entry : DirectoryEntry) → Matches name object entry → (bytes : List ℕ)
          → object_bytes key blocks log table.block (head_spot head) entry.object ≡ Some bytes
          → object_bytes key (blocks ++ more) later table.block (head_spot head) entry.object
          ≡ Some (if bytes_eq entry.name name then change bytes else bytes)
      each untold entry matches bytes was =
          by_space (bytes_eq entry.name name)
          (λ here. let same : entry.object ≡ object = matches.0 here in
          rw here (ap (object_bytes key (blocks ++ more) later table.block (head_spot head)) same
          ∙ makes bytes (sym (ap (object_bytes key blocks log table.block (head_spot head)) same) ∙ was)))
          (λ other. rw other (kept_bytes key salts blocks log head table.block kind e more entry.object bytes
          (λ same. matches.1 other (same ∙ own)) (untold entry.object) was))

  -- the same of an edit of a file's bytes
  pub row_changed : (name : List ℕ) (change : List ℕ → List ℕ) (end : ℕ) (make : TableRow → Result Change Refusal) (e : Edit)
      (parts : RowEdit key hmac_key name end make blocks table e) → parts.made.record_size ≡ table.block
      → ((old : List ℕ) → bytes_of_refs key blocks table.block parts.row.length (last_ref table.block log (head_spot head) parts.object) ≡ Some old
      → bytes_of_refs key (blocks ++ more) table.block parts.made.new_length
      (refs_behind key salts (length blocks) parts.made (last_ref table.block log (head_spot head) parts.object)) ≡ Some (change old))
      → files_in key (blocks ++ more) (later_log key salts blocks log head table.block kind e) table.block (head_spot head) ≡ Some (changed change name all)
  row_changed name change end make e parts size makes =
      subst (λ (f : Edit). files_in key (blocks ++ more) (later_log key salts blocks log head table.block kind f) table.block (head_spot head) ≡ Some (changed change name all))
      (sym parts.is)
      (changed_in name change parts.entries parts.object parts.row edit
      (directory_same blocks log (head_spot head) table tells lengths form key all has hmac_key parts.entries parts.reads) parts.named parts.found own refl
      (λ old before. ap (object_bytes key (blocks ++ more) (later_log key salts blocks log head table.block kind edit) table.block (head_spot head)) (sym own)
      ∙ made_bytes key salts blocks log head table.block kind edit more (last_ref table.block log (head_spot head) parts.row.object) (change old) size (λ index. refl)
      (subst (λ (o : ℕ). bytes_of_refs key (blocks ++ more) table.block parts.made.new_length
      (refs_behind key salts (length blocks) parts.made (last_ref table.block log (head_spot head) o)) ≡ Some (change old)) (sym own)
      (makes old (row_has blocks log (head_spot head) table tells lengths form key parts.object parts.row old parts.found before)))))
    where
      edit : Edit
      edit = edit_of_row table parts.row.object parts.made

      own : parts.row.object ≡ parts.object
      own = found_is parts.object table.rows parts.row parts.found

module _ (key : KeyValue) (hmac_key : List ℕ) (salts : SaltState) (blocks nodes : List (List ℕ)) (log : List LogEntry) (head : ℕ) (table : Table) (kind : Kind)
    (tells : TellsTheLog blocks log (head_spot head) table) (lengths : HasLengths log (head_spot head) table) (form : IsReadable table)
    (bytes_held : HoldsBytes blocks) (all : Files) (is : files_in key blocks log table.block (head_spot head) ≡ Some all) (e : Edit) where
  abbrev later_blocks : List (List ℕ)
  later_blocks = blocks ++ (sealed_texts key salts e.change.texts ++ nodes)

  some_levels : (object : ℕ) (row : TableRow) → row_of object table ≡ Some row → 1 ≤ row.tree.levels
  some_levels object row found = (row_is blocks log (head_spot head) table tells lengths form object row found).levels.positive

  same_texts : (c : Change) → e.change ≡ c → later_blocks ≡ blocks ++ (sealed_texts key salts c.texts ++ nodes)
  same_texts c same = ap (λ (d : Change). blocks ++ (sealed_texts key salts d.texts ++ nodes)) same

  pub files_written : (name : List ℕ) (from : ℕ) (bytes : List ℕ) → Wrote key hmac_key name from bytes blocks table e
      → files_in key later_blocks (later_log key salts blocks log head table.block kind e) table.block (head_spot head) ≡ Some (written name from bytes all)
  files_written name from bytes wrote =
      let parts = wrote.parts in
      row_changed key hmac_key salts blocks (sealed_texts key salts e.change.texts ++ nodes) log head table kind tells lengths form bytes_held all
      (files_parts key blocks log table.block (head_spot head) all is) name (λ old. spliced old from bytes) (from + length bytes)
      (λ row. in_object row.object (change_of_write key blocks (write_to (object_at row) table.block from bytes))) e parts
      (write_size key blocks (write_to (object_at parts.row) table.block from bytes) parts.made wrote.change)
      (λ old before. ap (λ (bs : List (List ℕ)). bytes_of_refs key bs table.block parts.made.new_length
      (refs_behind key salts (length blocks) parts.made (last_ref table.block log (head_spot head) parts.object))) (same_texts parts.made (ap (λ (f : Edit). f.change) parts.is))
      ∙ write_bytes key salts blocks nodes table.block (object_at parts.row) (last_ref table.block log (head_spot head) parts.object)
      (some_wide blocks log (head_spot head) table tells lengths form) (some_levels parts.object parts.row parts.found)
      (row_refs blocks log (head_spot head) table tells lengths form parts.object parts.row parts.found) old before from bytes parts.made wrote.change)

  pub files_cut : (name : List ℕ) (to : ℕ) → IsCut key hmac_key name to blocks table e
      → files_in key later_blocks (later_log key salts blocks log head table.block kind e) table.block (head_spot head) ≡ Some (cut name to all)
  files_cut name to cuts =
      let parts = cuts.parts in
      row_changed key hmac_key salts blocks (sealed_texts key salts e.change.texts ++ nodes) log head table kind tells lengths form bytes_held all
      (files_parts key blocks log table.block (head_spot head) all is) name (filled to) to
      (λ row. in_object row.object (change_of_cut key blocks table.block (object_at row) to)) e parts
      (cut_size key blocks table.block (object_at parts.row) to parts.made cuts.change)
      (λ old before. ap (λ (bs : List (List ℕ)). bytes_of_refs key bs table.block parts.made.new_length
      (refs_behind key salts (length blocks) parts.made (last_ref table.block log (head_spot head) parts.object))) (same_texts parts.made (ap (λ (f : Edit). f.change) parts.is))
      ∙ cut_bytes key salts blocks nodes table.block (object_at parts.row) (last_ref table.block log (head_spot head) parts.object)
      (some_wide blocks log (head_spot head) table tells lengths form) (some_levels parts.object parts.row parts.found)
      (row_refs blocks log (head_spot head) table tells lengths form parts.object parts.row parts.found) old before to parts.made cuts.change)
