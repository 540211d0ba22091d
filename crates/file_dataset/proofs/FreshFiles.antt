-- The head of a fresh family shows that it has no files.
use Rattle.std.proofs.Common.{◌≡◌, ℕ, ◌<◌, ◌≤◌, ◌==◌, true, List, [], ◌∷◌, Option, Some, None, refl, ap, sym, ◌∙◌, arith, lit≤}
use Rattle.std.proofs.lemmas.Slice.Eq.{bytes_eq-Decides}
use Rattle.block_crypt.specs.Blocks.{KeyValue}
use Rattle.salt_rotation.specs.SaltState.{SaltState}
use Rattle.family_log.specs.declared.table.Table.{Table}
use Rattle.family_log.specs.Log.{head_spot, last_length, last_ref}
use Rattle.family_log.specs.Model.{FamilyState, HasLengths, IsFamily, fresh_family, table_of}
use Rattle.family_log.specs.Tables.{IsRecordSize, fresh_table}
use Rattle.family_log.proofs.FreshLemmas.{fresh-is_family}
use Rattle.family_log.proofs.HonestLemmas.{fresh_family-is_honest}
use Rattle.file_directory.specs.Reading.{read_behind}
use Rattle.file_dataset.specs.Files.{ShowsFiles, files, object_bytes}
use Rattle.file_dataset.specs.Portable.{portable}
use Rattle.file_dataset.proofs.CallLemmas.{of_some}
use Rattle.file_dataset.proofs.DirectoryLemmas.{no_bytes}
use Rattle.file_dataset.proofs.EntryLemmas.{same_number}
use Rattle.file_dataset.proofs.FileLists.{files_by}
use Rattle.file_dataset.proofs.FilesLemmas.{files_are, object_is}
use Rattle.file_dataset.proofs.Sizes.{size_bounds}

module _ (key : KeyValue) (hmac_key : List ℕ) (guid block : ℕ) (salts : SaltState) (room head : ℕ)
    (sizes : IsRecordSize block) (least : 1 ≤ room) (most : room ≤ 1048576) where
  abbrev table : Table
  table = fresh_table block (portable hmac_key (fresh_table block []))

  abbrev state : FamilyState
  state = fresh_family true guid block salts room head table.portable

  kept : IsFamily state
  kept = fresh-is_family true guid block salts room head table.portable sizes least most

  of_head : table_of (head_spot head) state.heads ≡ Some table
  of_head = rw (same_number head) refl

  long : last_length state.log (head_spot head) 1 ≡ Some 0
  long = sym (of_some (HasLengths state.log (head_spot head)) (table_of (head_spot head) state.heads) table of_head
      (kept.lengths (head_spot head)) 1)

  wide : 0 < block
  wide = let large = (size_bounds block sizes).0 in omega (arith, large)

  text : object_bytes key [] state.log block (head_spot head) 1 ≡ Some []
  text = object_is key [] state.log block (head_spot head) 1 0 [] long
      (no_bytes key [] block (last_ref block state.log (head_spot head) 1) wide)

  none : files key state (head_spot head) ≡ Some []
  unfolding files files_by read_behind
  none = files_are key [] state.log block (head_spot head) [] [] [] text refl refl

  pub shows_no_files : ShowsFiles key hmac_key state (head_spot head) [] table []
  shows_no_files = record {
    kept = kept;
    honest = fresh_family-is_honest guid block salts room head table.portable;
    holds = refl;
    of_spot = of_head;
    passes = (bytes_eq-Decides (portable hmac_key table) (portable hmac_key table)).1 refl;
    are = none;
  }
