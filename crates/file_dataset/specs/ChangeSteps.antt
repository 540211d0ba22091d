-- What the steps of a call that changes a head answer and leave, before its entry.
use Rattle.std.specs.Prelude.{ℕ, ◌-◌, ◌≤◌, ◌≡◌, ◌⊎◌, min, List, [], ◌∷◌, ◌++◌, length, Option, Some, None, Result, Ok, Err, IfErr, IfOk, IfSome}
use Rattle.std.specs.Option.{option_map_or}
use Rattle.std.specs.Result.{result_map_both}
use Rattle.dataset_tree.specs.declared.refusal.Refusal.{Refusal}
use Rattle.dataset_tree.specs.declared.refusal.Refusal.TheVariants as refusals
use Rattle.dataset_tree.specs.declared.refusal.Stop.{Stop}
use Rattle.dataset_tree.specs.declared.refusal.Stop.TheVariants as stops
use Rattle.block_crypt.specs.Blocks.{KeyValue}
use Rattle.salt_rotation.specs.declared.salts.TheConstants.{MAX_DRAWS}
use Rattle.indirect_macs.specs.Calls.{fails_within}
use Rattle.family_log.specs.declared.table.Table.{Table}
use Rattle.family_log.specs.declared.table.TableRow.{TableRow}
use Rattle.family_log.specs.declared.entry.LengthAt.{LengthAt}
use Rattle.family_log.specs.declared.entry.LogEntry.TheVariants as entries
use Rattle.family_log.specs.declared.entry.ReadNote.{ReadNote}
use Rattle.family_log.specs.declared.entry.ReadNote.TheVariants as notes
use Rattle.family_log.specs.Log.{head_spot}
use Rattle.family_log.specs.Model.{FamilyState, table_of}
use Rattle.family_log.specs.Calls.{with_change, with_entry}
use Rattle.file_blocks.specs.declared.change.Wrote.{Wrote as Sealed}
use Rattle.file_blocks.specs.declared.write_error.WriteError.{WriteError}
use Rattle.file_blocks.specs.declared.write_error.WriteError.TheVariants as write_error
use Rattle.file_blocks.specs.Changes.{AreDraws, HasDraws}
use Rattle.file_dataset.specs.declared.edit.Draft.{Draft}
use Rattle.file_dataset.specs.declared.edit.Made.{Made}
use Rattle.file_dataset.specs.declared.halt.Halt.{Halt}
use Rattle.file_dataset.specs.declared.halt.Halt.TheVariants as halts
use Rattle.file_dataset.specs.declared.kind.Kind.{Kind}
use Rattle.file_dataset.specs.declared.limits.TheConstants.{MAX_PUTS}
use Rattle.file_dataset.specs.declared.wrote.Wrote.{Wrote}
use Rattle.file_dataset.specs.Calls.{by_table}
use Rattle.file_dataset.specs.ChangeCalls.{DrawsForAll, IsCause, IsEditOf, used, wrote_by}
use Rattle.file_dataset.specs.Changes.{Edit, change_by, edit_draws, edit_puts, entry_of, put_row, refs_from, renewed, row_with}
use Rattle.file_dataset.specs.Steps.{IsHaltedBy, IsOneHalt, halt_in, is_fault, stop_of}

-- what ends a call whose blocks of an object can't be written
abbrev pub halt_at : (object : ℕ) → WriteError → Halt
halt_at object (write_error.Stopped stop) = halt_in object stop
halt_at object write_error.DrawsFull = halts.Refused (refusals.Full MAX_DRAWS)

-- ---- the change that is made of blocks

-- what of a head changes beside the blocks of one object
abbrev pub IsDraft : Kind → (object : ℕ) → (rows : List TableRow) → (other : Option LengthAt) → Draft → Type 0
IsDraft kind object rows other draft =
    (draft.kind ≡ kind) × (draft.object ≡ object) × (draft.rows.items ≡ rows) × (draft.other ≡ other)

-- the head's new table and its entry, where the draft's object got these blocks, and what a write answers
abbrev pub IsMadeOf : (hmac_key : List ℕ) → (head : ℕ) → Table → Draft → Sealed → Made → Type 0
IsMadeOf hmac_key head table draft sealed made =
    (made.change.table ≡ renewed hmac_key
    (record table { rows = put_row (row_with draft.object sealed.object) draft.rows.items }))
    × (made.change.entry ≡ entry_of draft.kind head
    (record { object = draft.object; length = Some sealed.object.length }
    ∷ option_map_or (λ other. other ∷ []) draft.other [])
    (refs_from draft.object sealed.first sealed.refs.items))
    × (made.wrote ≡ record {
      blocks = length sealed.refs.items;
      number = option_map_or (λ number. number) sealed.last_number 0;
    })

-- ---- before the entry

-- the change that is made is that of the edit, all its blocks are put, and each has a draw of its own
pub record HasMade (kind : Kind) (key : KeyValue) (hmac_key : List ℕ) (head : ℕ) (held : List (List ℕ))
    (edit : Table → Result Edit Refusal) (rest : List (List ℕ)) (made : Made) (old : FamilyState) : Type 0 where
  pub table : Table
  pub e : Edit
  pub of_head : table_of (head_spot head) old.heads ≡ Some table
  pub is : edit table ≡ Ok e
  pub all : rest ≡ []
  pub enough : HasDraws old.salts (length e.change.texts)
  pub change : made.change ≡ change_by kind key hmac_key old.salts held (length old.shelf.sizes) head table e

-- what an ending says of the edit, of what was put, and of what wasn't
abbrev pub WorkEnded : Kind → KeyValue → (hmac_key : List ℕ) → (head : ℕ) → (held : List (List ℕ))
    → (Table → Result Edit Refusal) → (put rest : List (List ℕ)) → (draws : ℕ) → Result Made Halt
    → (old new : FamilyState) → Type 0
WorkEnded kind key hmac_key head held edit put rest draws (Ok made) old new =
    HasMade kind key hmac_key head held edit rest made old
WorkEnded kind key hmac_key head held edit put rest draws (Err (halts.Refused why)) old new =
    DrawsForAll old.salts (by_table edit old (head_spot head)) draws
    × IsCause old.salts (by_table edit old (head_spot head)) put rest draws new.shelf why
WorkEnded kind key hmac_key head held edit put rest draws (Err halts.ShelfFault) old new =
    DrawsForAll old.salts (by_table edit old (head_spot head)) draws
WorkEnded kind key hmac_key head held edit put rest draws (Err halts.NoMemory) old new =
    DrawsForAll old.salts (by_table edit old (head_spot head)) draws

pub record IsToldWork (kind : Kind) (key : KeyValue) (hmac_key : List ℕ) (head : ℕ) (held : List (List ℕ))
    (edit : Table → Result Edit Refusal) (put : List (List ℕ)) (draws : ℕ) (result : Result Made Halt)
    (old new : FamilyState) : Type 0 where
  pub rest : List (List ℕ)
  pub parts : put ++ rest
      ≡ edit_puts key old.salts held (length old.shelf.sizes) (by_table edit old (head_spot head))
  pub counted : AreDraws (edit_draws (by_table edit old (head_spot head))) (length put) draws
  pub ended : WorkEnded kind key hmac_key head held edit put rest draws result old new

-- a change of a head of a family, before its entry: of the family draws, blocks and calls were used alone, of these
-- so many at most by the head's table
pub record Works (kind : Kind) (key : KeyValue) (hmac_key : List ℕ) (head : ℕ)
    (edit : (held : List (List ℕ)) → Table → Result Edit Refusal) (most : Table → ℕ) (numbers : List ℕ)
    (result : Result Made Halt) (old new : FamilyState) : Type 0 where
  pub calls : ℕ
  pub put : List (List ℕ)
  pub draws : ℕ
  pub bound : calls ≤ option_map_or most (table_of (head_spot head) old.heads) 0
  pub left : new ≡ used calls put draws old
  pub fault : is_fault result ≡ fails_within calls old.shelf.armed
  pub among : IfErr result (IsOneHalt numbers)
  pub made : IfOk result (λ made. IsEditOf hmac_key old head made.change × (made.wrote ≡ wrote_by old.salts draws))
  pub told : IfSome old.shelf.held (λ held. IsToldWork kind key hmac_key head held (edit held) put draws result old new)

-- ---- refused before a block is read

-- a call ends so, unless memory ran out, and nothing of the family was used
pub record IsUnused {X : Type 0} (result : Result X Halt) (old new : FamilyState) (why : Refusal) : Type 0 where
  pub halted : IsHaltedBy result why
  pub same : new ≡ old

-- ---- the entry

-- the family with the entry of a call that ended so, where so many draws and blocks were used before it
abbrev pub with_end : (head : ℕ) → (before : ℕ × ℕ) → Result Made Halt → FamilyState → FamilyState
with_end head before (Ok made) family = with_change head made.change family
with_end head before (Err (halts.Refused why)) family =
    with_entry (entries.Refused (head_spot head) why 0 0) family
with_end head before (Err halts.ShelfFault) family =
    with_entry (entries.Refused (head_spot head) refusals.ShelfFault (family.salts.made - before.0)
    (min (length family.shelf.sizes - before.1) MAX_PUTS)) family
with_end head before (Err halts.NoMemory) family = family

-- the note of a call that ended so, after so many draws and puts
abbrev pub change_note : Halt → (draws puts : ℕ) → Option ReadNote
change_note (halts.Refused why) draws puts = Some (notes.Refused why 0 0)
change_note halts.ShelfFault draws puts = Some (notes.Refused refusals.ShelfFault draws (min puts MAX_PUTS))
change_note halts.NoMemory draws puts = None

-- the answer with its entry in the log, or want of memory and none
abbrev pub IsEnded : (head : ℕ) → (before : ℕ × ℕ) → Result Made Halt → Result Wrote Stop → (old new : FamilyState)
    → Type 0
IsEnded head before answer result old new =
    ((result ≡ result_map_both (λ made. made.wrote) stop_of answer) × (new ≡ with_end head before answer old))
    ⊎ ((result ≡ Err stops.NoMemory) × (new ≡ old))
