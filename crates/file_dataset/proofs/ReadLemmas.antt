-- The steps from the directory to a file, over plain variables.
use Rattle.std.proofs.Common.{◌≡◌, ℕ, ◌<◌, Bool, true, false, List, get_or, refl, sym, ◌∙◌, subst, inl, inr, Option, Some, None, Result, Ok, Err}
use Rattle.std.specs.Prelude.{IfSome, ◌⊎◌}
use Rattle.std.specs.Option.{option_and_then, option_map_or}
use Rattle.std.proofs.lemmas.List.{get_or_default}
use Rattle.std.proofs.lemmas.Option.{IfSome_then}
use Rattle.dataset_tree.specs.declared.refusal.Refusal.{Refusal}
use Rattle.dataset_tree.specs.declared.refusal.Refusal.TheVariants as refusals
use Rattle.dataset_tree.specs.declared.refusal.Stop.{Stop}
use Rattle.dataset_tree.specs.declared.refusal.Stop.TheVariants as stops
use Rattle.block_crypt.specs.Blocks.{KeyValue}
use Rattle.shelf_store.specs.ShelfState.{ShelfState}
use Rattle.indirect_macs.proofs.Reading.{both}
use Rattle.family_log.specs.declared.table.Table.{Table}
use Rattle.family_log.specs.declared.table.TableRow.{TableRow}
use Rattle.family_log.specs.declared.entry.Spot.{Spot}
use Rattle.family_log.specs.declared.entry.ReadNote.{ReadNote}
use Rattle.family_log.specs.declared.entry.ReadNote.TheVariants as notes
use Rattle.family_log.specs.Tables.{row_of}
use Rattle.family_log.specs.Model.{FamilyState}
use Rattle.family_log.specs.Calls.{with_entry}
use Rattle.family_log.specs.Noted.{noted}
use Rattle.file_directory.specs.declared.directory.DirectoryEntry.{DirectoryEntry}
use Rattle.file_directory.specs.Entries.{object_named}
use Rattle.file_directory.specs.Form.{IsDirectory, objects_of}
use Rattle.file_directory.specs.Reading.{directory_answer, read_directory}
use Rattle.file_directory.proofs.ReadLemmas.{is_read}
use Rattle.file_dataset.specs.declared.halt.Halt.{Halt}
use Rattle.file_dataset.specs.declared.halt.Halt.TheVariants as halts
use Rattle.file_dataset.specs.Calls.{is_of_reading}
use Rattle.file_dataset.specs.Reads.{file_row, has_portable, held_directory, held_entries, held_text, plain_read, row_range}
use Rattle.file_dataset.specs.Steps.{Finds, IsNoted, Walked, note_of, stop_of}
use Rattle.file_dataset.proofs.StepLemmas.{finds_then, finds_stop, walked_before}
use Rattle.file_dataset.proofs.NoteLemmas.{for_each}

pub entries_told : {X : Type 0} (f : X → List ℕ) (held : Option (List (List ℕ))) (key : KeyValue) (table : Table) (text : X)
    (bytes : List ℕ) (result : Result (List DirectoryEntry) Halt)
    → IfSome held (λ h. Finds f (held_text key h table) (Ok text)) → bytes ≡ f text
    → Finds (λ entries. entries) (directory_answer (read_directory (objects_of table) bytes)) result
    → IfSome held (λ h. Finds (λ entries. entries) (held_entries key h table) result)
unfolding held_entries
entries_told f held key table text bytes result told same answer =
    IfSome_then held told (λ h found.
    finds_then f (λ entries. entries) (held_text key h table) (λ text. directory_answer (read_directory (objects_of table) text)) text result found
    (subst (λ (b : List ℕ). Finds (λ entries. entries) (directory_answer (read_directory (objects_of table) b)) result) same answer))

pub entries_stop : {X : Type 0} (f : X → List ℕ) (held : Option (List (List ℕ))) (key : KeyValue) (table : Table) (halt : Halt)
    → IfSome held (λ h. Finds f (held_text key h table) (Err halt))
    → IfSome held (λ h. Finds {X = List DirectoryEntry} (λ entries. entries) (held_entries key h table) (Err halt))
unfolding held_entries
entries_stop f held key table halt told =
    IfSome_then held told (λ h found.
    finds_stop f (λ entries. entries) (held_text key h table) (λ text. directory_answer (read_directory (objects_of table) text)) halt found)

-- what is read of a slice of bytes is in form
pub parsed_form : (objects : ℕ → Bool) (text : List ℕ) (entries : List DirectoryEntry) → ((k : ℕ) → get_or text k 0 < 256)
    → directory_answer (read_directory objects text) ≡ Ok entries → IsDirectory objects entries
parsed_form objects text entries bytes is =
    (is_read objects text entries (λ k d within. rw (get_or_default text k d 0 within) (bytes k)) (answered (read_directory objects text) is)).in_form
  where
    answered : (r : Result (List DirectoryEntry) ℕ) → directory_answer r ≡ Ok entries → r ≡ Ok entries
    answered (Ok found) is = cc
    answered (Err at) is = absurd (cc)

pub portable_told : (held : Option (List (List ℕ))) (key : KeyValue) (hmac_key : List ℕ) (table : Table) (passes : Bool)
    (result : Result (List DirectoryEntry) Halt) → passes ≡ has_portable hmac_key table → passes ≡ true
    → IfSome held (λ h. Finds (λ entries. entries) (held_entries key h table) result)
    → IfSome held (λ h. Finds (λ entries. entries) (held_directory key hmac_key h table) result)
unfolding held_directory
portable_told held key hmac_key table passes result same is told =
    let yes_it_is : has_portable hmac_key table ≡ true = sym same ∙ is in
    IfSome_then held told (λ h found. rw yes_it_is found)

pub unportable_told : (held : Option (List (List ℕ))) (key : KeyValue) (hmac_key : List ℕ) (table : Table) (passes : Bool) (halt : Halt)
    → passes ≡ has_portable hmac_key table → passes ≡ false → halt ≡ halts.Refused (refusals.MacFailed 0 0 0)
    → IfSome held (λ h. Finds {X = List DirectoryEntry} (λ entries. entries) (held_directory key hmac_key h table) (Err halt))
unfolding held_directory
unportable_told held key hmac_key table passes halt same is halted =
    let none : has_portable hmac_key table ≡ false = sym same ∙ is in
    for_each held (λ h. rw (halted, none) refl)

pub file_told : {X : Type 0} (f : X → List ℕ) (key : KeyValue) (hmac_key name : List ℕ) (from len n : ℕ) (table : Table)
    (entries : List DirectoryEntry) (row : TableRow) (result : Result X Halt) (s t : ShelfState)
    → Walked {X = List DirectoryEntry} n (Ok entries) s t
    → IfSome s.held (λ h. Finds (λ entries. entries) (held_directory key hmac_key h table) (Ok entries))
    → file_row table name entries ≡ Ok row
    → IfSome t.held (λ h. Finds f (row_range key h table.block row from len) result)
    → IfSome s.held (λ h. Finds f (plain_read key hmac_key h name from len table) result)
file_told f key hmac_key name from len n table entries row result s t walked told found read =
    both s.held told (walked_before n _ s t _ walked read) (λ h finds range. rw (finds, found) range)

-- the refusal of a name
pub row_refusal : (table : Table) (name : List ℕ) (entries : List DirectoryEntry) (why : Refusal)
    → Err why ≡ file_row table name entries → is_of_reading why ≡ true
row_refusal table name entries why is =
    by_row (option_and_then (λ object. row_of object table) (object_named name entries)) is
  where
    by_row : (row : Option TableRow) → Err why ≡ option_map_or (λ r. Ok r) row (Err refusals.NoFile) → is_of_reading why ≡ true
    by_row (Some row) is = absurd (cc)
    by_row None is = let e : why ≡ refusals.NoFile = cc in rw e refl

-- the note of a halt
pub halt_noted : (spot : Spot) (halt : Halt) (note : ReadNote) (stop result : Stop) (old new : FamilyState) → Some note ≡ note_of halt
    → stop ≡ stop_of halt
    → ((result ≡ stop) × (new ≡ with_entry (noted spot note) old)) ⊎ ((result ≡ stops.NoMemory) × (new ≡ old))
    → IsNoted {X = Unit {0}} spot (Err halt) (Err result) old new
halt_noted spot halt note stop result old new is stops_so (inr none) = inr (rw none.0 refl, none.1)
halt_noted spot (halts.Refused why) note stop result old new is stops_so (inl noted_so) =
    let e : note ≡ notes.Refused why 0 0 = cc in
    let r : result ≡ stops.Refused why = noted_so.0 ∙ stops_so in
    inl (rw r refl, rw r (noted_so.1 ∙ rw e refl))
halt_noted spot halts.ShelfFault note stop result old new is stops_so (inl noted_so) =
    let e : note ≡ notes.Refused refusals.ShelfFault 0 0 = cc in
    let r : result ≡ stops.Refused refusals.ShelfFault = noted_so.0 ∙ stops_so in
    inl (rw r refl, rw r (noted_so.1 ∙ rw e refl))
halt_noted spot halts.NoMemory note stop result old new is stops_so (inl noted_so) = absurd (cc)
