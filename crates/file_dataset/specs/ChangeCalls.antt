-- What the calls that change a head answer and leave.
use Rattle.std.specs.Prelude.{ℕ, ◌+◌, ◌*◌, ◌<◌, ◌≤◌, ◌≡◌, ◌⊎◌, ◌==◌, min, nat_lt, true, if◌then◌else◌, List, [], ◌∷◌, ◌++◌, length, Some, Result, Ok, Err, IsOk, IfErr, IfOk, IfSome, is_err, ⊤}
use Rattle.std.specs.List.{list_any}
use Rattle.std.specs.Option.{option_map_or}
use Rattle.dataset_tree.specs.declared.refusal.Refusal.{Refusal}
use Rattle.dataset_tree.specs.declared.refusal.Refusal.TheVariants as refusals
use Rattle.dataset_tree.specs.declared.refusal.Stop.{Stop}
use Rattle.dataset_tree.specs.declared.refusal.Stop.TheVariants as stops
use Rattle.dataset_tree.specs.Refusal.{number_of}
use Rattle.block_crypt.specs.Blocks.{KeyValue}
use Rattle.salt_rotation.specs.SaltState.{SaltState}
use Rattle.salt_rotation.specs.declared.salts.TheConstants.{MAX_DRAWS}
use Rattle.shelf_store.specs.declared.shelf.TheConstants.{SHELF_BYTES}
use Rattle.shelf_store.specs.ShelfState.{ShelfState, after_calls}
use Rattle.indirect_macs.specs.Calls.{fails_within}
use Rattle.indirect_macs.specs.Replaced.{IsTooMuch, with_blocks}
use Rattle.family_log.specs.declared.table.Table.{Table}
use Rattle.family_log.specs.declared.entry.HeadChange.{HeadChange}
use Rattle.family_log.specs.declared.entry.LogEntry.TheVariants as entries
use Rattle.family_log.specs.Log.{head_spot}
use Rattle.family_log.specs.Model.{FamilyState, table_of}
use Rattle.family_log.specs.Calls.{IsChangeOf, new_place, with_change, with_entry}
use Rattle.file_blocks.specs.Changes.{AreDraws, HasDraws, after_draws, calls_of, last_number}
use Rattle.file_blocks.specs.Objects.{count_touched}
use Rattle.file_blocks.specs.Writes.{groups_touched}
use Rattle.file_dataset.specs.declared.kind.Kind.{Kind}
use Rattle.file_dataset.specs.declared.limits.TheConstants.{MAX_LENGTH, MAX_PUTS}
use Rattle.file_dataset.specs.declared.wrote.Wrote.{Wrote}
use Rattle.file_dataset.specs.Calls.{TellsFault, answered_at, calls_for, directory_blocks, tested_portable}
use Rattle.file_dataset.specs.Changes.{Edit, change_by, edit_draws, edit_puts}
use Rattle.file_dataset.specs.Portable.{portable}
use Rattle.file_dataset.specs.Reads.{then_read}

-- ---- what every shelf does

-- of a family so many draws were made, these blocks put, and so many calls of its shelf counted
abbrev pub used : (calls : ℕ) → (put : List (List ℕ)) → (draws : ℕ) → FamilyState → FamilyState
used calls put draws family = record family {
  salts = after_draws draws family.salts;
  shelf = after_calls calls (with_blocks put family.shelf);
}

-- a number in the entry of a refusal: 0 where it is no failure of the shelf
abbrev pub if_fault : Refusal → (count : ℕ) → ℕ
if_fault why count = if number_of why == 25 then count else 0

-- the family with the entry of a refusal, which says how many draws were made and how many blocks put where the
-- shelf failed. There is none where the head isn't there, or where the log has no room
abbrev pub with_refusal : (head : ℕ) → Refusal → (draws puts : ℕ) → FamilyState → FamilyState
with_refusal head why draws puts family =
    if is_err (new_place family head) then family
    else with_entry
    (entries.Refused (head_spot head) why (if_fault why draws) (if_fault why (min puts MAX_PUTS))) family

-- a change of a head that its entry tells, and whose table has the portable MAC of what it has
pub record IsEditOf (hmac_key : List ℕ) (family : FamilyState) (head : ℕ) (change : HeadChange) : Type 0 where
  pub told : IsChangeOf family head change
  pub portable : change.table.portable ≡ portable hmac_key change.table

-- the head is changed and the log tells it; or head and log are as before, but for the entry of a refusal; and as
-- before where memory ran out
abbrev pub LeavesHead : {X : Type 0} → (hmac_key : List ℕ) → (head draws puts : ℕ) → Result X Stop
    → (spent new : FamilyState) → Type 0
LeavesHead hmac_key head draws puts (Ok x) spent new =
    (change : HeadChange) × IsEditOf hmac_key spent head change × (new ≡ with_change head change spent)
LeavesHead hmac_key head draws puts (Err (stops.Refused why)) spent new =
    new ≡ with_refusal head why draws puts spent
LeavesHead hmac_key head draws puts (Err stops.NoMemory) spent new = new ≡ spent

-- a failure of the shelf, one of these refusals by number, or want of memory
abbrev pub IsOneOf : (numbers : List ℕ) → Stop → Type 0
IsOneOf numbers (stops.Refused why) =
    (why ≡ refusals.ShelfFault) ⊎ (list_any (λ number. number == number_of why) numbers ≡ true)
IsOneOf numbers stops.NoMemory = ⊤

-- the refusals of each call beside a failure of the shelf: a name that is taken or not there, a length that is too
-- great, a place that fails, no room, no head, a directory out of form
abbrev pub make_stops : List ℕ
make_stops = 22 ∷ 24 ∷ 27 ∷ 34 ∷ 38 ∷ []

abbrev pub write_stops : List ℕ
write_stops = 21 ∷ 23 ∷ 24 ∷ 27 ∷ 34 ∷ 38 ∷ []

abbrev pub remove_stops : List ℕ
remove_stops = 21 ∷ 24 ∷ 27 ∷ 34 ∷ 38 ∷ []

-- ---- how many calls of the shelf are made

-- where the blocks that hold the bytes from one place up to another get new texts, in an object of so many levels: for
-- the old texts of two of them, the nodes over each group of 32, the new texts and the nodes over them
abbrev pub write_calls : (levels record_size from end : ℕ) → ℕ
write_calls levels record_size from end =
    (levels + 1) * (groups_touched record_size from end + 1) + calls_of (count_touched record_size from end)

-- where the directory is read, and then written anew, as into an object without bytes: it has 70656 at most
abbrev pub directory_calls : Table → ℕ
directory_calls table = calls_for (directory_blocks table) + write_calls 1 table.block 0 70656

-- where the directory is read, and then a file is written from one place up to another
abbrev pub file_calls : (from end : ℕ) → Table → ℕ
file_calls from end table = calls_for (directory_blocks table) + write_calls 5 table.block from end

-- and where one block of a file is cut
abbrev pub cut_calls : Table → ℕ
cut_calls table = calls_for (directory_blocks table) + (6 + calls_of 1)

-- ---- where the shelf tells what it holds

-- the head got this edit: all its blocks are put, and each has a draw of its own
pub record HasEdited (kind : Kind) (key : KeyValue) (hmac_key : List ℕ) (head : ℕ) (held : List (List ℕ))
    (edit : Table → Result Edit Refusal) (put rest : List (List ℕ)) (old spent new : FamilyState) : Type 0 where
  pub table : Table
  pub made : Edit
  pub of_head : table_of (head_spot head) old.heads ≡ Some table
  pub is : edit table ≡ Ok made
  pub all : rest ≡ []
  pub enough : HasDraws old.salts (length made.change.texts)
  pub left : new ≡ with_change head
      (change_by kind key hmac_key old.salts held (length old.shelf.sizes) head table made) spent

-- the draws that are left are too few for all blocks, and none was made
abbrev pub IsDrained : SaltState → Result Edit Refusal → (put : List (List ℕ)) → (draws : ℕ) → Type 0
IsDrained salts edit put draws =
    IsOk edit × (MAX_DRAWS < salts.made + edit_draws edit) × (put ≡ []) × (draws ≡ 0)

-- of the blocks that weren't put the first doesn't fit
abbrev pub IsCrowded : SaltState → Result Edit Refusal → (put rest : List (List ℕ)) → (draws : ℕ) → ShelfState
    → Type 0
IsCrowded salts edit put rest draws shelf =
    IsOk edit × IsTooMuch rest shelf × (draws ≡ min (edit_draws edit) (length put + 1))

-- draws are made only where there are enough for all blocks
abbrev pub DrawsForAll : SaltState → Result Edit Refusal → (draws : ℕ) → Type 0
DrawsForAll salts edit draws = (draws ≡ 0) ⊎ HasDraws salts (edit_draws edit)

-- why a call is refused: the shelf failed, the head can't be changed so, or there is no room for its blocks
abbrev pub IsCause : SaltState → Result Edit Refusal → (put rest : List (List ℕ)) → (draws : ℕ) → ShelfState
    → Refusal → Type 0
IsCause salts edit put rest draws shelf why =
    (why ≡ refusals.ShelfFault)
    ⊎ ((edit ≡ Err why)
    ⊎ (((why ≡ refusals.Full MAX_DRAWS) × IsDrained salts edit put draws)
    ⊎ ((why ≡ refusals.Full SHELF_BYTES) × IsCrowded salts edit put rest draws shelf)))

-- what an answer says of the edit, of what was put, and of what wasn't
abbrev pub EditEnded : {X : Type 0} → Kind → KeyValue → (hmac_key : List ℕ) → (head : ℕ) → (held : List (List ℕ))
    → (Table → Result Edit Refusal) → (put rest : List (List ℕ)) → (draws : ℕ) → Result X Stop
    → (old spent new : FamilyState) → Type 0
EditEnded kind key hmac_key head held edit put rest draws (Ok x) old spent new =
    HasEdited kind key hmac_key head held edit put rest old spent new
EditEnded kind key hmac_key head held edit put rest draws (Err (stops.Refused why)) old spent new =
    DrawsForAll old.salts (answered_at edit old (head_spot head)) draws
    × IsCause old.salts (answered_at edit old (head_spot head)) put rest draws spent.shelf why
EditEnded kind key hmac_key head held edit put rest draws (Err stops.NoMemory) old spent new =
    DrawsForAll old.salts (answered_at edit old (head_spot head)) draws

-- what was put is a front of what the edit puts, under a draw for each block, and for one more at most
pub record IsToldEdit {X : Type 0} (kind : Kind) (key : KeyValue) (hmac_key : List ℕ) (head : ℕ)
    (held : List (List ℕ)) (edit : Table → Result Edit Refusal) (put : List (List ℕ)) (draws : ℕ)
    (result : Result X Stop) (old spent new : FamilyState) : Type 0 where
  pub rest : List (List ℕ)
  pub parts : put ++ rest
      ≡ edit_puts key old.salts held (length old.shelf.sizes) (answered_at edit old (head_spot head))
  pub counted : AreDraws (edit_draws (answered_at edit old (head_spot head))) (length put) draws
  pub ended : EditEnded kind key hmac_key head held edit put rest draws result old spent new

-- ---- a call

-- what a call that changes a head leaves, which made so many calls of the shelf at most by the head's table, and what
-- it answers for so many draws
pub record Edits {X : Type 0} (kind : Kind) (key : KeyValue) (hmac_key : List ℕ) (head : ℕ)
    (edit : (held : List (List ℕ)) → Table → Result Edit Refusal) (most : Table → ℕ) (numbers : List ℕ)
    (answer : ℕ → X) (result : Result X Stop) (old new : FamilyState) : Type 0 where
  pub calls : ℕ
  pub put : List (List ℕ)
  pub draws : ℕ
  pub bound : calls ≤ option_map_or most (table_of (head_spot head) old.heads) 0
  pub left : LeavesHead hmac_key head draws (length put) result (used calls put draws old) new
  pub fault : TellsFault (fails_within calls old.shelf.armed) result
  pub among : IfErr result (IsOneOf numbers)
  pub answered : IfOk result (λ x. x ≡ answer draws)
  pub told : IfSome old.shelf.held (λ held. IsToldEdit kind key hmac_key head held (edit held) put draws result
      old (used calls put draws old) new)

-- the answer of a write that made so many draws: how many blocks it sealed, and the number of the salt of the last
abbrev pub wrote_by : SaltState → (draws : ℕ) → Wrote
wrote_by salts draws = record {
  blocks = draws;
  number = option_map_or (λ number. number) (last_number salts draws) 0;
}

-- why a change of a file up to this end is refused before a block is read: by what the family has, by the end, or by
-- the portable MAC
abbrev pub tested_end : (end : ℕ) → Result (Unit {0}) Refusal
tested_end end = if nat_lt MAX_LENGTH end then Err (refusals.TooBig MAX_LENGTH) else Ok tt

abbrev pub tested_edit : (hmac_key : List ℕ) → (end : ℕ) → Table → Result (Unit {0}) Refusal
tested_edit hmac_key end table = then_read (λ _. tested_portable hmac_key table) (tested_end end)

abbrev pub refused_edit : (hmac_key : List ℕ) → (end head : ℕ) → FamilyState → Result (Unit {0}) Refusal
refused_edit hmac_key end head family = answered_at (tested_edit hmac_key end) family (head_spot head)
