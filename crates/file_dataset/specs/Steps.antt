-- What the steps of a call that reads answer and leave, on whatever shelf.
use Rattle.std.specs.Prelude.{ℕ, ◌≤◌, ◌≡◌, ◌⊎◌, ◌==◌, Bool, true, false, List, [], ◌∷◌, Option, Some, None, Result, Ok, Err, IfErr, IfSome, ⊤}
use Rattle.std.specs.List.{list_any}
use Rattle.std.specs.Option.{option_map_or}
use Rattle.std.specs.Result.{result_map_both}
use Rattle.dataset_tree.specs.declared.refusal.Refusal.{Refusal}
use Rattle.dataset_tree.specs.declared.refusal.Refusal.TheVariants as refusals
use Rattle.dataset_tree.specs.declared.refusal.Stop.{Stop}
use Rattle.dataset_tree.specs.declared.refusal.Stop.TheVariants as stops
use Rattle.dataset_tree.specs.Refusal.{number_of}
use Rattle.shelf_store.specs.declared.shelf.TheConstants.{SHELF_BYTES}
use Rattle.shelf_store.specs.ShelfState.{ShelfState, after_calls}
use Rattle.indirect_macs.specs.Calls.{fails_within}
use Rattle.indirect_macs.specs.declared.refs.MacError.{MacError}
use Rattle.indirect_macs.specs.declared.refs.MacError.TheVariants as mac_error
use Rattle.family_log.specs.Log.{last_length}
use Rattle.family_log.specs.Tables.{IsRecordSize, IsTable, length_in}
use Rattle.family_log.specs.declared.table.Table.{Table}
use Rattle.family_log.specs.declared.entry.Spot.{Spot}
use Rattle.family_log.specs.declared.entry.ReadNote.{ReadNote}
use Rattle.family_log.specs.declared.entry.ReadNote.TheVariants as notes
use Rattle.family_log.specs.Model.{FamilyState, table_of}
use Rattle.file_dataset.specs.declared.halt.Halt.{Halt}
use Rattle.file_dataset.specs.declared.halt.Halt.TheVariants as halts
use Rattle.file_dataset.specs.Calls.{by_table, calls_for, is_of_reading, tested_portable, with_note}

-- a table in form
pub record IsReadable (table : Table) : Type 0 where
  pub record_size : IsRecordSize table.block
  pub form : IsTable table.block table

-- the table of a spot of a family, as its type keeps it: in form, and with the lengths that the log gives
pub record IsTableAt (family : FamilyState) (spot : Spot) (table : Table) : Type 0 where
  pub found : table_of spot family.heads ≡ Some table
  pub in_form : IsReadable table
  pub record_size : table.block ≡ family.block
  pub lengths : (object : ℕ) → length_in table object ≡ last_length family.log spot object

-- what ends a call that fails in an object
abbrev pub halt_in : (object : ℕ) → MacError → Halt
halt_in object (mac_error.MacFailed level index) = halts.Refused (refusals.MacFailed object level index)
halt_in object mac_error.ShelfFault = halts.ShelfFault
halt_in object mac_error.Full = halts.Refused (refusals.Full SHELF_BYTES)
halt_in object mac_error.NoMemory = halts.NoMemory

abbrev pub halt_of : Stop → Halt
halt_of (stops.Refused why) = halts.Refused why
halt_of stops.NoMemory = halts.NoMemory

abbrev pub stop_of : Halt → Stop
stop_of (halts.Refused why) = stops.Refused why
stop_of halts.ShelfFault = stops.Refused refusals.ShelfFault
stop_of halts.NoMemory = stops.NoMemory

-- the answer is this one, seen so, unless the shelf failed or memory ran out
abbrev pub Finds : {X Y : Type 0} → (X → Y) → Result Y Refusal → Result X Halt → Type 0
Finds sees answer (Ok x) = answer ≡ Ok (sees x)
Finds sees answer (Err (halts.Refused why)) = answer ≡ Err why
Finds sees answer (Err halts.ShelfFault) = ⊤
Finds sees answer (Err halts.NoMemory) = ⊤

abbrev pub is_fault : {X : Type 0} → Result X Halt → Bool
is_fault (Ok x) = false
is_fault (Err (halts.Refused why)) = false
is_fault (Err halts.ShelfFault) = true
is_fault (Err halts.NoMemory) = false

abbrev pub IsReadHalt : Halt → Type 0
IsReadHalt (halts.Refused why) = is_of_reading why ≡ true
IsReadHalt halts.ShelfFault = ⊤
IsReadHalt halts.NoMemory = ⊤

-- some calls of the shelf were made, those for so many blocks at most, and the answer is a failure of the shelf
-- exactly where one of them was the armed one
pub record Walked {X : Type 0} (blocks : ℕ) (result : Result X Halt) (old new : ShelfState) : Type 0 where
  pub calls : ℕ
  pub bound : calls ≤ calls_for blocks
  pub after : new ≡ after_calls calls old
  pub fault : is_fault result ≡ fails_within calls old.armed
  pub among : IfErr result IsReadHalt

-- a step ends in this refusal, unless memory ran out
abbrev pub IsHaltedBy : {X : Type 0} → Result X Halt → Refusal → Type 0
IsHaltedBy (Ok x) why = ⊥
IsHaltedBy (Err (halts.Refused other)) why = other ≡ why
IsHaltedBy (Err halts.ShelfFault) why = ⊥
IsHaltedBy (Err halts.NoMemory) why = ⊤

-- so, and no block was read
pub record IsUnreadBy {X : Type 0} (result : Result X Halt) (old new : ShelfState) (why : Refusal) : Type 0 where
  pub halted : IsHaltedBy result why
  pub same : new ≡ old

-- a failure of the shelf, one of these refusals by number, or want of memory
abbrev pub IsOneHalt : (numbers : List ℕ) → Halt → Type 0
IsOneHalt numbers (halts.Refused why) = list_any (λ number. number == number_of why) numbers ≡ true
IsOneHalt numbers halts.ShelfFault = ⊤
IsOneHalt numbers halts.NoMemory = ⊤

-- the refusals of a reading of the directory: a place that fails, and a directory out of form; and no file
abbrev pub directory_stops : List ℕ
directory_stops = 24 ∷ 38 ∷ []

abbrev pub row_stops : List ℕ
row_stops = 21 ∷ 24 ∷ 38 ∷ []

-- ---- before and behind a reading

-- a call stops where the log has no place for its entry, or for want of memory
abbrev pub IsStopAt : Result ℕ Refusal → Stop → Type 0
IsStopAt place (stops.Refused why) = place ≡ Err why
IsStopAt place stops.NoMemory = ⊤

-- a reading ends where there is no table, or for want of memory
abbrev pub IsHaltAt : Option Table → Halt → Type 0
IsHaltAt table (halts.Refused why) = (table ≡ None) × (why ≡ refusals.NoSnapshot)
IsHaltAt table halts.ShelfFault = ⊥
IsHaltAt table halts.NoMemory = ⊤

-- the note of a reading that ended so
abbrev pub note_of : Halt → Option ReadNote
note_of (halts.Refused why) = Some (notes.Refused why 0 0)
note_of halts.ShelfFault = Some (notes.Refused refusals.ShelfFault 0 0)
note_of halts.NoMemory = None

-- the answer with its entry in the log, or want of memory and none
abbrev pub IsNoted : {X : Type 0} → Spot → Result X Halt → Result X Stop → (old new : FamilyState) → Type 0
IsNoted spot answer result old new =
    ((result ≡ result_map_both (λ x. x) stop_of answer) × (new ≡ with_note spot result old))
    ⊎ ((result ≡ Err stops.NoMemory) × (new ≡ old))

-- a reading at a spot of a family: it took so many blocks of the table at most, and answers what the table gives
pub record Visits {X Y : Type 0} (sees : X → Y) (answer : (held : List (List ℕ)) → Table → Result Y Refusal)
    (most : Table → ℕ) (hmac_key : List ℕ) (spot : Spot) (result : Result X Halt) (old new : FamilyState) : Type 0 where
  pub left : new ≡ record old { shelf = new.shelf }
  pub walked : Walked (option_map_or most (table_of spot old.heads) 0) result old.shelf new.shelf
  pub told : IfSome old.shelf.held (λ held. Finds sees (by_table (answer held) old spot) result)
  pub before : IfErr (by_table (tested_portable hmac_key) old spot) (IsUnreadBy result old.shelf new.shelf)
