-- The changes of an edit fit on an honest shelf, and what is put for them is bytes.
use Rattle.std.proofs.Common.{◌≡◌, ◌≢◌, ℕ, zero, suc, ◌+◌, ◌*◌, ◌^◌, ◌<◌, ◌≤◌, Bool, true, false, ◌==◌, ◌&&◌, ◌||◌, not, nat_lt, if◌then◌else◌, min, max, List, [], ◌∷◌, ◌++◌, length, slice_index, Option, Some, None, Ok, refl, ap, sym, subst, ◌∙◌, inl, inr, arith}
use Rattle.std.specs.List.{All, prefix_len}
use Rattle.std.proofs.lemmas.Bool.Decides.{Decides-eqb, nat_tests}
use Rattle.std.proofs.lemmas.List.Elements.{All-cons, All-filter, All-head, All-tail, All-weaker}
use Rattle.dataset_tree.specs.ShortNames.{file_fault, is_file_byte, short_fault_at}
use Rattle.byte_fields.specs.LittleEndian.{little_endian_bytes}
use Rattle.byte_fields.proofs.FieldLaws.{little_endian_bytes-lt}
use Rattle.block_crypt.specs.Blocks.{KeyValue}
use Rattle.salt_rotation.specs.SaltState.{SaltState}
use Rattle.indirect_macs.specs.declared.refs.BlockRef.{BlockRef}
use Rattle.indirect_macs.specs.Trees.{AreBytes, HoldsBytes}
use Rattle.family_log.specs.declared.entry.LogEntry.{LogEntry}
use Rattle.family_log.specs.declared.entry.Spot.{Spot}
use Rattle.family_log.specs.declared.table.Table.{Table}
use Rattle.family_log.specs.declared.table.TableRow.{TableRow}
use Rattle.family_log.specs.Honest.{TellsTheLog}
use Rattle.family_log.specs.Log.{last_ref}
use Rattle.family_log.specs.Model.{HasLengths}
use Rattle.file_blocks.specs.declared.object.Object.{Object}
use Rattle.file_blocks.specs.Changes.{Change, puts_in}
use Rattle.file_blocks.specs.Objects.{IsObject}
use Rattle.file_blocks.specs.Wholes.{ChangeFits, GivesChange, HasRefs}
use Rattle.file_blocks.specs.WriteFields.{write_to}
use Rattle.file_blocks.specs.Writes.{change_of_write}
use Rattle.file_blocks.proofs.Fitting.{cut_texts_bytes, write_texts_bytes}
use Rattle.file_blocks.proofs.FittingRuns.{Shape, change_fits, cut_shape, puts_bytes, write_shape}
use Rattle.file_blocks.proofs.Leading.{cut_length, levels_some, write_length}
use Rattle.file_blocks.proofs.Passing.{blocks_none}
use Rattle.file_blocks.proofs.WholeRanges.{no_refs}
use Rattle.file_directory.specs.declared.directory.DirectoryEntry.{DirectoryEntry}
use Rattle.file_directory.specs.Entries.{directory_text, entry_bytes, has_name, stands_before, with_entry, without_name}
use Rattle.file_directory.specs.Form.{IsDirectory, IsEntry, objects_of}
use Rattle.file_directory.proofs.BoundLemmas.{entries_bound, text_bound_each}
use Rattle.file_dataset.specs.Changes.{Edit, empty_object, new_object, object_at}
use Rattle.file_dataset.specs.Steps.{IsReadable}
use Rattle.file_dataset.specs.declared.limits.TheConstants.{MAX_LENGTH, MAX_OBJECT}
use Rattle.file_dataset.proofs.EditParts.{IsCut, MadeIn, RemovedIn, Wrote}
use Rattle.file_dataset.proofs.FileLists.{by_space}
use Rattle.file_dataset.proofs.Sizes.{size_bounds}
use Rattle.file_dataset.proofs.TableLemmas.{new_is_high}
use Rattle.file_dataset.proofs.TellLemmas.{is_object, row_is, row_refs, some_wide, wide}

-- ---- bytes

append_bytes : (xs ys : List ℕ) → AreBytes xs → AreBytes ys → AreBytes (xs ++ ys)
append_bytes [] ys left right i = right i
append_bytes (x ∷ xs) ys left right zero = left zero
append_bytes (x ∷ xs) ys left right (suc i) = append_bytes xs ys (λ k. left (suc k)) right i

cons_bytes : (x : ℕ) (xs : List ℕ) → x < 256 → AreBytes xs → AreBytes (x ∷ xs)
cons_bytes x xs small rest zero = small
cons_bytes x xs small rest (suc i) = rest i

-- a byte of a file's name
name_byte : (b : ℕ) → is_file_byte b ≡ true → b < 256
name_byte b is = grind (arith, nat_tests)

front_bytes : (name : List ℕ) → length name ≤ prefix_len is_file_byte name → AreBytes name
front_bytes [] whole = λ i. omega arith
front_bytes (b ∷ bs) whole =
    by_space (is_file_byte b)
    (λ good. cons_bytes b bs (name_byte b good) (front_bytes bs (shorter (rw good at whole))))
    (λ bad. absurd (none (rw bad at whole)))
  where
    shorter : suc (length bs) ≤ 1 + prefix_len is_file_byte bs → length bs ≤ prefix_len is_file_byte bs
    shorter more = omega (arith, more)

    none : suc (length bs) ≤ 0 → ⊥
    none less = omega (arith, less)

record ShortName (name : List ℕ) (good : ℕ) : Type 0 where
  pub whole : length name ≤ good
  pub short : length name ≤ 64

short_name : (name : List ℕ) (good : ℕ) → short_fault_at name (min 64 good) ≡ None → ShortName name good
short_name name good none =
    let same : min 64 good ≡ length name = grind (arith, nat_tests) in record { whole = omega (arith, same); short = omega (arith, same) }

named_bytes : (name : List ℕ) → file_fault name ≡ None → AreBytes name
named_bytes name sound = front_bytes name (short_name name (prefix_len is_file_byte name) sound).whole

entry_are_bytes : (objects : ℕ → Bool) (entry : DirectoryEntry) → IsEntry objects entry → AreBytes (entry_bytes entry)
entry_are_bytes objects entry is =
    let short : length entry.name ≤ 64 = (short_name entry.name (prefix_len is_file_byte entry.name) is.name).short in
    append_bytes (little_endian_bytes 4 entry.object) (length entry.name ∷ entry.name) (little_endian_bytes-lt 4 entry.object)
    (cons_bytes (length entry.name) entry.name (omega (arith, short)) (named_bytes entry.name is.name))

text_bytes : (objects : ℕ → Bool) (entries : List DirectoryEntry) → All (IsEntry objects) entries → AreBytes (directory_text entries)
text_bytes objects [] each = λ i. omega arith
text_bytes objects (entry ∷ entries) each =
    append_bytes (entry_bytes entry) (directory_text entries) (entry_are_bytes objects entry (All-head (IsEntry objects) entry entries each))
    (text_bytes objects entries (All-tail (IsEntry objects) entry entries each))

-- ---- a change of an object that fits

pub record Sound (key : KeyValue) (blocks : List (List ℕ)) (record_size : ℕ) (base : Object) (c : Change) : Type 0 where
  pub before : ℕ → Option BlockRef
  pub change : GivesChange key blocks record_size base c
  pub texts : All AreBytes c.texts
  pub is : IsObject record_size base
  pub has : HasRefs blocks record_size base before
  pub bytes : c.new_length ≤ 4294967296

module _ (key : KeyValue) (salts : SaltState) (blocks : List (List ℕ)) (log : List LogEntry) (spot : Spot) (table : Table)
    (tells : TellsTheLog blocks log spot table) (lengths : HasLengths log spot table) (form : IsReadable table) (bytes_held : HoldsBytes blocks) where
  shape_of : (base : Object) (c : Change) → GivesChange key blocks table.block base c → IsObject table.block base → Shape table.block base c
  shape_of base c made is =
      let some = some_wide blocks log spot table tells lengths form in
      elim made [
        | inl write ↦ write_shape key blocks table.block base write.0 write.1 c some (levels_some base is) write.2
        | inr cuts ↦ cut_shape key blocks table.block base cuts.0 c some cuts.1
      ]

  pub sound_puts : (base : Object) (c : Change) → Sound key blocks table.block base c → HoldsBytes (puts_in key salts blocks (length blocks) c)
  sound_puts base c sound =
      puts_bytes key salts blocks table.block base sound.before c sound.is (shape_of base c sound.change sound.is) sound.texts bytes_held sound.has

  pub sound_fits : (base : Object) (c : Change) → Sound key blocks table.block base c → length blocks + length (puts_in key salts blocks (length blocks) c) ≤ 2 ^ 64
      → ChangeFits key salts blocks table.block base c
  sound_fits base c sound room =
      change_fits key salts blocks table.block base sound.before c sound.is (shape_of base c sound.change sound.is) sound.texts bytes_held sound.has
      (wide blocks log spot table tells lengths form) (size_bounds table.block form.record_size).1 sound.bytes room

  -- ---- a file's bytes

  pub wrote_sound : (hmac_key name : List ℕ) (from : ℕ) (bytes : List ℕ) (e : Edit) (written : Wrote key hmac_key name from bytes blocks table e) → AreBytes bytes
      → Sound key blocks table.block (object_at written.parts.row) written.parts.made
  wrote_sound hmac_key name from bytes e written fair =
      let parts = written.parts in
      let row = row_is blocks log spot table tells lengths form parts.object parts.row parts.found in
      let size = write_length key blocks table.block (object_at parts.row) from bytes parts.made written.change in
      let most : from + length bytes ≤ MAX_LENGTH = (let fits = parts.fits in grind (arith, nat_tests)) in
      let row_most : parts.row.length ≤ 4294967296 = row.bytes in
      record {
        before = last_ref table.block log spot parts.object;
        change = inl (from, bytes, written.change);
        texts = write_texts_bytes key blocks (write_to (object_at parts.row) table.block from bytes) parts.made written.change fair bytes_held;
        is = is_object blocks log spot table tells lengths form parts.object parts.row parts.found;
        has = row_refs blocks log spot table tells lengths form parts.object parts.row parts.found;
        bytes = omega (arith, size, most, row_most);
      }

  pub cut_sound : (hmac_key name : List ℕ) (to : ℕ) (e : Edit) (cuts : IsCut key hmac_key name to blocks table e)
      → Sound key blocks table.block (object_at cuts.parts.row) cuts.parts.made
  cut_sound hmac_key name to e cuts =
      let parts = cuts.parts in
      let size = cut_length key blocks table.block (object_at parts.row) to parts.made cuts.change in
      let most : to ≤ MAX_LENGTH = (let fits = parts.fits in grind (arith, nat_tests)) in
      record {
        before = last_ref table.block log spot parts.object;
        change = inr (to, cuts.change);
        texts = cut_texts_bytes key blocks table.block (object_at parts.row) to parts.made cuts.change bytes_held;
        is = is_object blocks log spot table tells lengths form parts.object parts.row parts.found;
        has = row_refs blocks log spot table tells lengths form parts.object parts.row parts.found;
        bytes = omega (arith, size, most);
      }

  -- ---- the directory, written anew

  empty_is : IsObject table.block empty_object
  empty_is = record {
    bytes = omega arith;
    levels = rw (blocks_none table.block (some_wide blocks log spot table tells lengths form)) refl;
  }

  anew_sound : (text : List ℕ) (c : Change) → change_of_write key blocks (write_to empty_object table.block 0 text) ≡ Ok c → AreBytes text → length text ≤ 4294967296
      → Sound key blocks table.block empty_object c
  anew_sound text c change fair few =
      let size = write_length key blocks table.block empty_object 0 text c change in
      record {
        before = λ index. None;
        change = inl (0, text, change);
        texts = write_texts_bytes key blocks (write_to empty_object table.block 0 text) c change fair bytes_held;
        is = empty_is;
        has = no_refs blocks table.block;
        bytes = omega (arith, size, few);
      }

  any_entry : (entry : DirectoryEntry) → IsEntry (objects_of table) entry → IsEntry (λ object. true) entry
  any_entry entry is = record { name = is.name; least = is.least; greatest = is.greatest; in_table = refl }

  short_text : (entries : List DirectoryEntry) → All (IsEntry (λ object. true)) entries → length entries ≤ 1025 → length (directory_text entries) ≤ 4294967296
  short_text entries each few = let bound = text_bound_each (λ object. true) entries each in omega (arith, bound, few)

  longer : (new : DirectoryEntry) (entries : List DirectoryEntry) → length (with_entry new entries) ≡ length entries + 1
  longer new [] = omega arith
  longer new (entry ∷ entries) =
      by_space (stands_before entry.name new.name) (λ before. rw before (let rest = longer new entries in omega (arith, rest))) (λ behind. rw behind (omega arith))

  shorter_list : (name : List ℕ) (entries : List DirectoryEntry) → length (without_name name entries) ≤ length entries
  shorter_list name [] = omega arith
  shorter_list name (entry ∷ entries) =
      let rest = shorter_list name entries in
      by_space (has_name name entry) (λ gone. rw gone (omega (arith, rest))) (λ stays. rw stays (omega (arith, rest)))

  all_with : (new : DirectoryEntry) (entries : List DirectoryEntry) → IsEntry (λ object. true) new → All (IsEntry (λ object. true)) entries
      → All (IsEntry (λ object. true)) (with_entry new entries)
  all_with new [] good each = All-cons (IsEntry (λ object. true)) new [] good each
  all_with new (entry ∷ entries) good each =
      let first = All-head (IsEntry (λ object. true)) entry entries each in
      let rest = all_with new entries good (All-tail (IsEntry (λ object. true)) entry entries each) in
      by_space (stands_before entry.name new.name)
      (λ before. rw before (All-cons (IsEntry (λ object. true)) entry (with_entry new entries) first rest))
      (λ behind. rw behind (All-cons (IsEntry (λ object. true)) new (entry ∷ entries) good each))

  pub made_sound : (name : List ℕ) (entries : List DirectoryEntry) (e : Edit) → IsDirectory (objects_of table) entries → file_fault name ≡ None
      → (make : MadeIn key name blocks table entries e) → Sound key blocks table.block empty_object make.made
  made_sound name entries e directory sound make =
      let new : DirectoryEntry = record { object = new_object table; name = name } in
      let high : 2 ≤ new_object table = new_is_high table.block table form.form in
      let most : new_object table ≤ MAX_OBJECT = (let low = make.low in grind (arith, nat_tests)) in
      let fresh : IsEntry (λ object. true) new = record { name = sound; least = high; greatest = omega (arith, most); in_table = refl } in
      let each = all_with new entries fresh (All-weaker (IsEntry (objects_of table)) (IsEntry (λ object. true)) any_entry entries directory.each) in
      let few : length entries ≤ 1024 = entries_bound table.block table entries form.form directory in
      anew_sound (directory_text (with_entry new entries)) make.made make.anew.change (text_bytes (λ object. true) (with_entry new entries) each)
      (short_text (with_entry new entries) each (omega (arith, few, longer new entries)))

  pub removed_sound : (name : List ℕ) (entries : List DirectoryEntry) (e : Edit) → IsDirectory (objects_of table) entries
      → (remove : RemovedIn key name blocks table entries e) → Sound key blocks table.block empty_object remove.made
  removed_sound name entries e directory remove =
      let test : DirectoryEntry → Bool = λ entry. not (has_name name entry) in
      let each : All (IsEntry (λ object. true)) (without_name name entries) =
      All-filter test (IsEntry (λ object. true)) entries (All-weaker (IsEntry (objects_of table)) (IsEntry (λ object. true)) any_entry entries directory.each) in
      let few : length entries ≤ 1024 = entries_bound table.block table entries form.form directory in
      anew_sound (directory_text (without_name name entries)) remove.made remove.anew.change (text_bytes (λ object. true) (without_name name entries) each)
      (short_text (without_name name entries) each (omega (arith, few, shorter_list name entries)))
