-- The files of a head behind a call that changes it.
use Rattle.std.proofs.Common.{◌≡◌, ℕ, ◌+◌, List, [], ◌∷◌, ◌++◌, length, map, Option, Some, None, Result, Ok, Err, refl, ap, sym, subst, ◌∙◌}
use Rattle.std.specs.Prelude.{IfSome, OnOk, is_ok, true}
use Rattle.std.specs.Option.{option_and_then, option_map}
use Rattle.std.proofs.lemmas.List.{append-nil, length-map}
use Rattle.dataset_tree.specs.declared.refusal.Refusal.{Refusal}
use Rattle.dataset_tree.specs.declared.refusal.Stop.{Stop}
use Rattle.dataset_tree.specs.ShortNames.{file_fault}
use Rattle.block_crypt.specs.Blocks.{KeyValue}
use Rattle.shelf_store.specs.ShelfState.{HasToldSizes}
use Rattle.indirect_macs.specs.Replaced.{with_blocks}
use Rattle.family_log.specs.declared.entry.LogEntry.{LogEntry}
use Rattle.family_log.specs.declared.entry.Spot.{Spot}
use Rattle.family_log.specs.declared.table.Table.{Table}
use Rattle.family_log.specs.Calls.{new_place, with_change}
use Rattle.family_log.specs.Honest.{IsHonest, TellsTheLog}
use Rattle.family_log.specs.Log.{head_spot}
use Rattle.family_log.specs.Model.{FamilyState, HasLengths, IsFamily, table_of}
use Rattle.file_blocks.specs.Changes.{nodes_in, object_in, puts_in, refs_to, sealed_texts}
use Rattle.file_dataset.specs.Calls.{answered_at, by_table}
use Rattle.file_dataset.specs.ChangeCalls.{Edits, HasEdited, IsToldEdit, used}
use Rattle.file_dataset.specs.Changes.{Edit, change_by, cut_edit, edit_puts, entry_of, lengths_with, make_edit, refs_from, remove_edit, write_edit}
use Rattle.file_dataset.specs.Edits.{Files, cut, removed, touched, written}
use Rattle.file_dataset.specs.Files.{ChangesFiles, files, files_in}
use Rattle.file_dataset.specs.Steps.{IsReadable, IsTableAt}
use Rattle.file_dataset.specs.declared.kind.Kind.{Kind}
use Rattle.file_dataset.proofs.ChangedLemmas.{files_cut, files_written, later_log}
use Rattle.file_dataset.proofs.DirectoryLemmas.{files_made, files_removed}
use Rattle.file_dataset.proofs.EditParts.{is_cut, made_file, removed_file, wrote}
use Rattle.file_dataset.proofs.FilesLemmas.{files_parts}
use Rattle.file_dataset.proofs.KeepLemmas.{placed_still}
use Rattle.file_dataset.proofs.NoteLemmas.{answered_there}
use Rattle.file_dataset.proofs.KeptLemmas.{kept_table}

-- what is told of what is there
pub of_some : {X : Type 0} (P : X → Type 0) (found : Option X) (x : X) → found ≡ Some x → IfSome found P → P x
of_some {X = X} P found x is told = subst (λ (o : Option X). IfSome o P) is told

-- as many sizes as blocks
pub told_count : (family : FamilyState) (blocks : List (List ℕ)) → HasToldSizes family.shelf → family.shelf.held ≡ Some blocks
    → length family.shelf.sizes ≡ length blocks
told_count family blocks sizes held =
    sym (ap length (of_some (λ bs. map length bs ≡ family.shelf.sizes) family.shelf.held blocks held sizes.of_held)) ∙ length-map blocks length

-- the files of a family whose log and shelf are these
files_now : (key : KeyValue) (new : FamilyState) (spot : Spot) (blocks : List (List ℕ)) (log : List LogEntry) (block : ℕ)
    → new.shelf.placed ≡ Some blocks → new.log ≡ log → new.block ≡ block → files key new spot ≡ files_in key blocks log block spot
unfolding files
files_now key new spot blocks log block placed entries size = rw (placed, entries, size) refl

module _ (key : KeyValue) (hmac_key : List ℕ) (head : ℕ) (kind : Kind) (old : FamilyState) (kept : IsFamily old) (sizes : HasToldSizes old.shelf)
    (honest : IsHonest old) where
  -- the head's table, and the blocks
  pub head_table : (table : Table) → table_of (head_spot head) old.heads ≡ Some table → IsTableAt old (head_spot head) table
  head_table table of_head = kept_table old (head_spot head) table kept (sym of_head)

  pub head_tells : (table : Table) → table_of (head_spot head) old.heads ≡ Some table → TellsTheLog honest.blocks old.log (head_spot head) table
  head_tells table of_head =
      of_some (λ t. TellsTheLog honest.blocks old.log (head_spot head) t) (table_of (head_spot head) old.heads) table of_head (honest.spots (head_spot head))

  -- an edit makes these files of those before, whatever else is put behind its texts
  abbrev Makes : (List (List ℕ) → Table → Result Edit Refusal) → (Files → Files) → Type 0
  Makes edit change =
      (table : Table) (e : Edit) (all : Files) (nodes : List (List ℕ)) → TellsTheLog honest.blocks old.log (head_spot head) table
      → HasLengths old.log (head_spot head) table → IsReadable table → edit honest.blocks table ≡ Ok e
      → files_in key honest.blocks old.log table.block (head_spot head) ≡ Some all
      → files_in key (honest.blocks ++ (sealed_texts key old.salts e.change.texts ++ nodes)) (later_log key old.salts honest.blocks old.log head table.block kind e)
      table.block (head_spot head) ≡ Some (change all)

  changed_by : {X : Type 0} {cost : Table → ℕ} (edit : List (List ℕ) → Table → Result Edit Refusal) (change : Files → Files) (numbers : List ℕ) (answer : ℕ → X) (x : X)
      (new : FamilyState) → Makes edit change → is_ok (new_place old head) ≡ true → Edits kind key hmac_key head edit cost numbers answer (Ok x) old new
      → ChangesFiles key change (head_spot head) old new
  unfolding files
  changed_by {X = X} edit change numbers answer x new makes place edits = rw honest.placed (by_files (files_in key honest.blocks old.log old.block (head_spot head)) refl)
    where
      spent : FamilyState
      spent = used edits.calls edits.put edits.draws old

      told : IsToldEdit kind key hmac_key head honest.blocks (edit honest.blocks) edits.put edits.draws (Ok x) old spent new
      told =
          of_some (λ held. IsToldEdit kind key hmac_key head held (edit held) edits.put edits.draws (Ok x) old spent new) old.shelf.held honest.blocks honest.held edits.told

      has : HasEdited kind key hmac_key head honest.blocks (edit honest.blocks) edits.put told.rest old spent new
      has = told.ended

      base : length old.shelf.sizes ≡ length honest.blocks
      base = told_count old honest.blocks sizes honest.held

      answered : answered_at (edit honest.blocks) old (head_spot head) ≡ Ok has.made
      answered = answered_there (edit honest.blocks) old (head_spot head) place ∙ rw has.of_head has.is

      put : edits.put ≡ sealed_texts key old.salts has.made.change.texts ++ nodes_in key old.salts honest.blocks (length old.shelf.sizes) has.made.change
      put =
          sym (ap (λ (rest : List (List ℕ)). edits.put ++ rest) has.all ∙ append-nil edits.put) ∙ told.parts
          ∙ ap (edit_puts key old.salts honest.blocks (length old.shelf.sizes)) answered

      now : FamilyState
      now = with_change head (change_by kind key hmac_key old.salts honest.blocks (length old.shelf.sizes) head has.table has.made) spent

      placed : new.shelf.placed ≡ Some (honest.blocks ++ edits.put)
      placed =
          ap (λ (f : FamilyState). f.shelf.placed) has.left ∙ placed_still edits.calls (with_blocks edits.put old.shelf)
          ∙ ap (option_map (λ blocks. blocks ++ edits.put)) honest.placed

      log_now : new.log ≡ later_log key old.salts honest.blocks old.log head has.table.block kind has.made
      log_now =
          ap (λ (f : FamilyState). f.log) has.left
          ∙ ap (λ (n : ℕ). old.log ++ entry_of kind head (lengths_with has.made (object_in key old.salts honest.blocks n has.made.change))
          (refs_from has.made.object has.made.change.first (refs_to key old.salts n has.made.change.texts)) ∷ []) base

      size : new.block ≡ has.table.block
      size = ap (λ (f : FamilyState). f.block) has.left ∙ sym (head_table has.table has.of_head).record_size

      by_files : (found : Option Files) → files_in key honest.blocks old.log old.block (head_spot head) ≡ found
          → IfSome found (λ before. files key new (head_spot head) ≡ Some (change before))
      by_files None same = tt
      by_files (Some all) same =
          let at = head_table has.table has.of_head in
          files_now key new (head_spot head) (honest.blocks ++ edits.put) (later_log key old.salts honest.blocks old.log head has.table.block kind has.made) has.table.block
          placed log_now size
          ∙ ap (λ (bs : List (List ℕ)). files_in key (honest.blocks ++ bs) (later_log key old.salts honest.blocks old.log head has.table.block kind has.made) has.table.block (head_spot head)) put
          ∙ makes has.table has.made all (nodes_in key old.salts honest.blocks (length old.shelf.sizes) has.made.change) (head_tells has.table has.of_head) at.lengths at.in_form has.is
          (ap (λ (n : ℕ). files_in key honest.blocks old.log n (head_spot head)) at.record_size ∙ same)

-- ---- the four calls

module _ {X : Type 0} (key : KeyValue) (hmac_key : List ℕ) (head : ℕ) (kind : Kind) (name numbers : List ℕ) (answer : ℕ → X) (old new : FamilyState)
    (kept : IsFamily old) (sizes : HasToldSizes old.shelf) (place : is_ok (new_place old head) ≡ true) where
  pub write_files : {cost : Table → ℕ} (from : ℕ) (bytes : List ℕ) (result : Result X Stop)
      → Edits kind key hmac_key head (write_edit key hmac_key name from bytes) cost numbers answer result old new
      → IsHonest old → OnOk result (ChangesFiles key (written name from bytes) (head_spot head) old new)
  write_files from bytes (Err stop) edits honest = tt
  write_files from bytes (Ok x) edits honest =
      changed_by key hmac_key head kind old kept sizes honest (write_edit key hmac_key name from bytes) (written name from bytes) numbers answer x new
      (λ table e all nodes tells lengths form is has. files_written key hmac_key old.salts honest.blocks nodes old.log head table kind tells lengths form honest.bytes all has e
      name from bytes (wrote key hmac_key name from bytes honest.blocks table e is)) place edits

  pub cut_files : {cost : Table → ℕ} (to : ℕ) (result : Result X Stop) → Edits kind key hmac_key head (cut_edit key hmac_key name to) cost numbers answer result old new
      → IsHonest old → OnOk result (ChangesFiles key (cut name to) (head_spot head) old new)
  cut_files to (Err stop) edits honest = tt
  cut_files to (Ok x) edits honest =
      changed_by key hmac_key head kind old kept sizes honest (cut_edit key hmac_key name to) (cut name to) numbers answer x new
      (λ table e all nodes tells lengths form is has. files_cut key hmac_key old.salts honest.blocks nodes old.log head table kind tells lengths form honest.bytes all has e
      name to (is_cut key hmac_key name to honest.blocks table e is)) place edits

  pub make_files : {cost : Table → ℕ} (result : Result X Stop) → file_fault name ≡ None → Edits kind key hmac_key head (make_edit key hmac_key name) cost numbers answer result old new
      → IsHonest old → OnOk result (ChangesFiles key (touched name) (head_spot head) old new)
  make_files (Err stop) sound edits honest = tt
  make_files (Ok x) sound edits honest =
      changed_by key hmac_key head kind old kept sizes honest (make_edit key hmac_key name) (touched name) numbers answer x new
      (λ table e all nodes tells lengths form is has. files_made key hmac_key old.salts honest.blocks nodes old.log head table kind tells lengths form honest.bytes all
      (files_parts key honest.blocks old.log table.block (head_spot head) all has) name e sound (made_file key hmac_key name honest.blocks table e is)) place edits

  pub remove_files : {cost : Table → ℕ} (result : Result X Stop) → Edits kind key hmac_key head (remove_edit key hmac_key name) cost numbers answer result old new
      → IsHonest old → OnOk result (ChangesFiles key (removed name) (head_spot head) old new)
  remove_files (Err stop) edits honest = tt
  remove_files (Ok x) edits honest =
      changed_by key hmac_key head kind old kept sizes honest (remove_edit key hmac_key name) (removed name) numbers answer x new
      (λ table e all nodes tells lengths form is has. files_removed key hmac_key old.salts honest.blocks nodes old.log head table kind tells lengths form honest.bytes all
      (files_parts key honest.blocks old.log table.block (head_spot head) all has) name e (removed_file key hmac_key name honest.blocks table e is)) place edits
