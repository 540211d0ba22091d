-- What the files of a spot are made of, and that a spot has those of another, or its own of before, while the
-- log tells the same of it and the shelf grows.
use Rattle.std.proofs.Common.{◌≡◌, ℕ, Bool, List, [], ◌∷◌, ◌++◌, Option, Some, None, Result, Ok, Err, IfSome, refl, ap, sym, subst, ◌∙◌}
use Rattle.std.specs.Prelude.{is_some}
use Rattle.std.specs.List.{All}
use Rattle.std.specs.Option.{option_and_then, option_map}
use Rattle.std.proofs.Math.Path.{fun_ext}
use Rattle.block_crypt.specs.Blocks.{KeyValue}
use Rattle.indirect_macs.specs.declared.refs.BlockRef.{BlockRef}
use Rattle.family_log.specs.declared.entry.Spot.{Spot}
use Rattle.family_log.specs.declared.entry.LogEntry.{LogEntry}
use Rattle.family_log.specs.Log.{KeepsLast, last_length, last_ref}
use Rattle.family_log.specs.Model.{FamilyState}
use Rattle.file_blocks.specs.Wholes.{bytes_of_refs}
use Rattle.file_blocks.proofs.WholeBytes.{refs_grown}
use Rattle.file_directory.specs.declared.directory.DirectoryEntry.{DirectoryEntry}
use Rattle.file_directory.specs.Reading.{read_directory}
use Rattle.file_dataset.specs.Edits.{Files}
use Rattle.file_dataset.specs.Files.{HasFilesOf, KeepsFiles, files, files_in, if_ok, last_entries, object_bytes}
use Rattle.file_dataset.proofs.FileLists.{files_by, same_files}

-- ---- the parts

-- an object that is there, with the bytes of its references
pub record HasObject (key : KeyValue) (blocks : List (List ℕ)) (log : List LogEntry) (record_size : ℕ) (spot : Spot)
    (object : ℕ) (bytes : List ℕ) : Type 0 where
  pub size : ℕ
  pub long : last_length log spot object ≡ Some size
  pub has : bytes_of_refs key blocks record_size size (last_ref record_size log spot object) ≡ Some bytes

-- a directory that is in form, and the files of its entries
pub record HasFiles (key : KeyValue) (blocks : List (List ℕ)) (log : List LogEntry) (record_size : ℕ) (spot : Spot)
    (all : Files) : Type 0 where
  pub text : List ℕ
  pub entries : List DirectoryEntry
  pub has_text : object_bytes key blocks log record_size spot 1 ≡ Some text
  pub read : read_directory (λ object. is_some (last_length log spot object)) text ≡ Ok entries
  pub are : files_by (object_bytes key blocks log record_size spot) entries ≡ Some all

module _ (key : KeyValue) (blocks : List (List ℕ)) (log : List LogEntry) (record_size : ℕ) (spot : Spot) where
  pub object_parts : (object : ℕ) (bytes : List ℕ) → object_bytes key blocks log record_size spot object ≡ Some bytes
      → HasObject key blocks log record_size spot object bytes
  object_parts object bytes is = by_length (last_length log spot object) refl is
    where
      by_length : (size : Option ℕ) → last_length log spot object ≡ size
          → option_and_then (λ n. bytes_of_refs key blocks record_size n (last_ref record_size log spot object)) size ≡ Some bytes
          → HasObject key blocks log record_size spot object bytes
      by_length None same is = absurd (cc)
      by_length (Some size) same is = record { size = size; long = same; has = is }

  pub object_is : (object size : ℕ) (bytes : List ℕ) → last_length log spot object ≡ Some size
      → bytes_of_refs key blocks record_size size (last_ref record_size log spot object) ≡ Some bytes
      → object_bytes key blocks log record_size spot object ≡ Some bytes
  object_is object size bytes long has = rw long has

  pub files_parts : (all : Files) → files_in key blocks log record_size spot ≡ Some all → HasFiles key blocks log record_size spot all
  unfolding files_by
  files_parts all is = by_text (object_bytes key blocks log record_size spot 1) refl is
    where
      by_entries : (text : List ℕ) → object_bytes key blocks log record_size spot 1 ≡ Some text
          → (read : Result (List DirectoryEntry) ℕ) → read_directory (λ object. is_some (last_length log spot object)) text ≡ read
          → option_and_then (λ entries. files_by (object_bytes key blocks log record_size spot) entries) (if_ok read) ≡ Some all
          → HasFiles key blocks log record_size spot all
      by_entries text has (Err at) same is = absurd (cc)
      by_entries text has (Ok entries) same is = record { text = text; entries = entries; has_text = has; read = same; are = is }

      by_text : (text : Option (List ℕ)) → object_bytes key blocks log record_size spot 1 ≡ text
          → option_and_then (λ entries. files_by (object_bytes key blocks log record_size spot) entries)
          (option_and_then (λ t. if_ok (read_directory (λ object. is_some (last_length log spot object)) t)) text) ≡ Some all
          → HasFiles key blocks log record_size spot all
      by_text None same is = absurd (cc)
      by_text (Some text) same is = by_entries text same (read_directory (λ object. is_some (last_length log spot object)) text) refl is

  pub files_are : (text : List ℕ) (entries : List DirectoryEntry) (all : Files) → object_bytes key blocks log record_size spot 1 ≡ Some text
      → read_directory (λ object. is_some (last_length log spot object)) text ≡ Ok entries
      → files_by (object_bytes key blocks log record_size spot) entries ≡ Some all → files_in key blocks log record_size spot ≡ Some all
  unfolding files_by
  files_are text entries all has read are = rw (has, read) are

-- ---- what goes on

module _ (key : KeyValue) (blocks more : List (List ℕ)) (log later : List LogEntry) (record_size : ℕ) (from spot : Spot) where
  -- of an object of which the later log tells what the earlier one told
  pub object_goes_on : (object : ℕ) (bytes : List ℕ) → last_length later spot object ≡ last_length log from object
      → ((index : ℕ) → last_ref record_size later spot object index ≡ last_ref record_size log from object index)
      → object_bytes key blocks log record_size from object ≡ Some bytes
      → object_bytes key (blocks ++ more) later record_size spot object ≡ Some bytes
  object_goes_on object bytes long refs is =
      let was = object_parts key blocks log record_size from object bytes is in
      let same : last_ref record_size later spot object ≡ last_ref record_size log from object = fun_ext refs in
      object_is key (blocks ++ more) later record_size spot object was.size bytes (long ∙ was.long)
      (ap (bytes_of_refs key (blocks ++ more) record_size was.size) same
      ∙ refs_grown key blocks more record_size was.size (last_ref record_size log from object) bytes was.has)

  pub all_go_on : (all : Files) → KeepsLast log from later spot → files_in key blocks log record_size from ≡ Some all
      → files_in key (blocks ++ more) later record_size spot ≡ Some all
  all_go_on all kept is =
      let was = files_parts key blocks log record_size from all is in
      let goes_on : (object : ℕ) (bytes : List ℕ) → object_bytes key blocks log record_size from object ≡ Some bytes
      → object_bytes key (blocks ++ more) later record_size spot object ≡ Some bytes
      = λ object bytes has. object_goes_on object bytes (kept.lengths object) (λ index. kept.refs record_size object index) has in
      let objects : (λ object. is_some (last_length later spot object)) ≡ (λ object. is_some (last_length log from object)) =
      fun_ext (λ object. ap is_some (kept.lengths object)) in
      files_are key (blocks ++ more) later record_size spot was.text was.entries all (goes_on 1 was.text was.has_text)
      (ap (λ (f : ℕ → Bool). read_directory f was.text) objects ∙ was.read)
      (same_files (object_bytes key blocks log record_size from) (object_bytes key (blocks ++ more) later record_size spot) was.entries all
      (λ k d within bytes has. goes_on _ bytes has) was.are)

pub files_go_on : (key : KeyValue) (from spot : Spot) (put : List (List ℕ)) (old new : FamilyState) → new.block ≡ old.block
    → KeepsLast old.log from new.log spot → new.shelf.placed ≡ option_map (λ blocks. blocks ++ put) old.shelf.placed
    → HasFilesOf key old from new spot
unfolding files
files_go_on key from spot put old new block kept placed = by_placed old.shelf.placed refl
  where
    by_files : (blocks : List (List ℕ)) → old.shelf.placed ≡ Some blocks → (found : Option Files) → files_in key blocks old.log old.block from ≡ found
        → IfSome found (λ before. option_and_then (λ blocks. files_in key blocks new.log new.block spot) new.shelf.placed ≡ Some before)
    by_files blocks has None same = tt
    by_files blocks has (Some all) same = rw (placed, has, block) (all_go_on key blocks put old.log new.log old.block from spot all kept same)

    by_placed : (found : Option (List (List ℕ))) → old.shelf.placed ≡ found
        → IfSome (option_and_then (λ blocks. files_in key blocks old.log old.block from) found)
        (λ before. option_and_then (λ blocks. files_in key blocks new.log new.block spot) new.shelf.placed ≡ Some before)
    by_placed None has = tt
    by_placed (Some blocks) has = by_files blocks has (files_in key blocks old.log old.block from) refl

pub keeps_files : (key : KeyValue) (spot : Spot) (put : List (List ℕ)) (old new : FamilyState) → new.block ≡ old.block → KeepsLast old.log spot new.log spot
    → new.shelf.placed ≡ option_map (λ blocks. blocks ++ put) old.shelf.placed → KeepsFiles key spot old new
keeps_files key spot put old new block kept placed = files_go_on key spot spot put old new block kept placed
