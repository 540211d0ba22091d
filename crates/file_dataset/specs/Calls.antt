-- What the calls that read answer and leave.
use Rattle.std.specs.Prelude.{ℕ, ◌+◌, ◌*◌, ◌≤◌, ◌≡◌, ◌⊎◌, ◌↔◌, ◌==◌, Bool, true, false, if◌then◌else◌, List, [], ◌∷◌, Result, Ok, Err, IfErr, ⊤, is_err}
use Rattle.std.specs.List.{list_any}
use Rattle.std.specs.Option.{option_map_or}
use Rattle.dataset_tree.specs.declared.refusal.Refusal.{Refusal}
use Rattle.dataset_tree.specs.declared.refusal.Refusal.TheVariants as refusals
use Rattle.dataset_tree.specs.declared.refusal.Stop.{Stop}
use Rattle.dataset_tree.specs.declared.refusal.Stop.TheVariants as stops
use Rattle.dataset_tree.specs.Refusal.{number_of}
use Rattle.block_crypt.specs.Blocks.{KeyValue}
use Rattle.wrapped_keys.specs.Values.{MasterValue}
use Rattle.shelf_store.specs.ShelfState.{after_calls}
use Rattle.indirect_macs.specs.Calls.{fails_within}
use Rattle.family_log.specs.declared.table.Table.{Table}
use Rattle.family_log.specs.declared.table.TableRow.{TableRow}
use Rattle.family_log.specs.declared.entry.Spot.{Spot}
use Rattle.family_log.specs.declared.entry.LogEntry.TheVariants as entries
use Rattle.family_log.specs.Tables.{row_of}
use Rattle.family_log.specs.Model.{FamilyState, table_of}
use Rattle.family_log.specs.Calls.{new_place, with_entry}
use Rattle.file_blocks.specs.Objects.{blocks_for, count_touched}
use Rattle.file_dataset.specs.Reads.{has_portable, then_read}

-- what the table of a spot gives; a head that is there has its own table, so that a snapshot is missing where there
-- is none
abbrev pub by_table : {X : Type 0} → (Table → Result X Refusal) → FamilyState → Spot → Result X Refusal
by_table answer family spot = option_map_or answer (table_of spot family.heads) (Err refusals.NoSnapshot)

-- the answer for a spot: no head, no room in the log, no such snapshot, and then what its table gives
abbrev pub answered_at : {X : Type 0} → (Table → Result X Refusal) → FamilyState → Spot → Result X Refusal
answered_at answer family spot = then_read (λ _. by_table answer family spot) (new_place family spot.head)

-- whether the portable MAC of a table passes
abbrev pub tested_portable : (hmac_key : List ℕ) → Table → Result (Unit {0}) Refusal
tested_portable hmac_key table = if has_portable hmac_key table then Ok tt else Err (refusals.MacFailed 0 0 0)

-- what seals the blocks of a family, by its master key
abbrev pub block_key_of : MasterValue → KeyValue
block_key_of key = record { suite = key.suite; master = key.master }

-- why a call is refused before a block is read: by what the family has, or by the portable MAC
abbrev pub refused_before : (hmac_key : List ℕ) → FamilyState → Spot → Result (Unit {0}) Refusal
refused_before hmac_key family spot = answered_at (tested_portable hmac_key) family spot

-- a call is refused so, unless memory ran out
abbrev pub IsRefusedBy : {X : Type 0} → Result X Stop → Refusal → Type 0
IsRefusedBy (Ok x) why = ⊥
IsRefusedBy (Err (stops.Refused other)) why = other ≡ why
IsRefusedBy (Err stops.NoMemory) why = ⊤

-- a call answers this, seen so, unless the shelf failed in it or memory ran out
abbrev pub Answers : {X Y : Type 0} → (X → Y) → Result Y Refusal → Result X Stop → Type 0
Answers sees answer (Ok x) = answer ≡ Ok (sees x)
Answers sees answer (Err (stops.Refused why)) = (why ≡ refusals.ShelfFault) ⊎ (answer ≡ Err why)
Answers sees answer (Err stops.NoMemory) = ⊤

-- a call is refused by a failure of the shelf exactly where the shelf failed in it
abbrev pub TellsFault : {X : Type 0} → (failed : Bool) → Result X Stop → Type 0
TellsFault failed (Ok x) = failed ≡ false
TellsFault failed (Err (stops.Refused why)) = (why ≡ refusals.ShelfFault) ↔ (failed ≡ true)
TellsFault failed (Err stops.NoMemory) = ⊤

-- the refusals of a call that reads, by number: no file, a place that fails, no snapshot, no room in the log, no
-- head, and a directory out of form
abbrev pub is_of_reading : Refusal → Bool
is_of_reading why = list_any (λ number. number == number_of why) (21 ∷ 24 ∷ 26 ∷ 27 ∷ 34 ∷ 38 ∷ [])

abbrev pub IsReadStop : Stop → Type 0
IsReadStop (stops.Refused why) = (why ≡ refusals.ShelfFault) ⊎ (is_of_reading why ≡ true)
IsReadStop stops.NoMemory = ⊤

-- the family with the entry of a call: none where memory ran out, and none where the head isn't there or the log
-- has no room
abbrev pub with_note : {X : Type 0} → Spot → Result X Stop → FamilyState → FamilyState
with_note spot (Ok x) family = with_entry (entries.Read spot) family
with_note spot (Err (stops.Refused why)) family = with_entry (entries.Refused spot why 0 0) family
with_note spot (Err stops.NoMemory) family = family

abbrev pub noted_by : {X : Type 0} → Spot → Result X Stop → FamilyState → FamilyState
noted_by spot result family = if is_err (new_place family spot.head) then family else with_note spot result family

-- the calls of a shelf that so many blocks take at most: of each block, the block and the nodes over it
abbrev pub calls_for : (blocks : ℕ) → ℕ
calls_for blocks = 6 * blocks

-- how many blocks the directory has
abbrev pub directory_blocks : Table → ℕ
directory_blocks table = option_map_or (λ row. count_touched table.block 0 row.length) (row_of 1 table) 0

-- how many blocks a file's bytes from a place on are in, with those of the directory
abbrev pub range_blocks : (from len : ℕ) → Table → ℕ
range_blocks from len table = directory_blocks table + count_touched table.block from (from + len)

-- how many blocks these objects have together
abbrev pub blocks_in : (record_size : ℕ) → List TableRow → ℕ
blocks_in record_size [] = 0
blocks_in record_size (row ∷ rows) = blocks_for record_size row.length + blocks_in record_size rows

-- how many blocks all objects have together, those of the directory counted twice
abbrev pub all_blocks : Table → ℕ
all_blocks table = directory_blocks table + blocks_in table.block table.rows

-- a call that is refused so before a block is read leaves the shelf as it was
pub record IsRefusedBefore {X : Type 0} (spot : Spot) (result : Result X Stop) (old new : FamilyState)
    (why : Refusal) : Type 0 where
  pub refused : IsRefusedBy result why
  pub left : new ≡ noted_by spot result old

-- what a call that reads leaves, which took so many blocks of a table at most: some calls of the shelf
-- were counted, and the entry of the call was added to the log
pub record Reads {X : Type 0} (most : Table → ℕ) (spot : Spot) (result : Result X Stop)
    (old new : FamilyState) : Type 0 where
  pub calls : ℕ
  pub bound : calls ≤ calls_for (option_map_or most (table_of spot old.heads) 0)
  pub left : new ≡ noted_by spot result (record old { shelf = after_calls calls old.shelf })
  pub fault : TellsFault (fails_within calls old.shelf.armed) result
  pub among : IfErr result IsReadStop
