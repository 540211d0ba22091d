-- A family stays on an honest shelf through a change of a head, before and behind its entry.
use Rattle.std.proofs.Common.{◌≡◌, ℕ, zero, suc, ◌+◌, ◌^◌, ◌<◌, ◌≤◌, List, [], ◌∷◌, ◌++◌, length, map, Option, Some, None, Result, Ok, Err, refl, ap, sym, subst, ◌∙◌, arith}
use Rattle.std.specs.Prelude.{IfOk, IfSome, slice_get}
use Rattle.std.specs.Option.{option_map, option_map_or}
use Rattle.std.proofs.lemmas.List.{append-nil, length-append, length-map}
use Rattle.dataset_tree.specs.declared.refusal.Refusal.{Refusal}
use Rattle.dataset_tree.specs.declared.refusal.Refusal.TheVariants as refusals
use Rattle.dataset_tree.specs.ShortNames.{file_fault}
use Rattle.block_crypt.specs.Blocks.{KeyValue}
use Rattle.salt_rotation.specs.SaltState.{SaltState}
use Rattle.shelf_store.specs.ShelfState.{HasToldSizes, ShelfState, after_calls, counted}
use Rattle.indirect_macs.specs.Replaced.{with_blocks}
use Rattle.indirect_macs.specs.Trees.{AreBytes, HoldsBytes}
use Rattle.indirect_macs.proofs.Growth.{slice_get-grown}
use Rattle.family_log.specs.declared.entry.HeadChange.{HeadChange}
use Rattle.family_log.specs.declared.entry.LogEntry.{LogEntry}
use Rattle.family_log.specs.declared.entry.Spot.{Spot}
use Rattle.family_log.specs.declared.table.Table.{Table}
use Rattle.family_log.specs.Honest.{HasGrown, IsHonest, LeadsAsLogged, TellsTheLog}
use Rattle.family_log.specs.Log.{head_spot}
use Rattle.family_log.specs.Model.{FamilyState, HasLengths, table_of}
use Rattle.family_log.proofs.GrownLemmas.{honest-grown}
use Rattle.file_blocks.specs.Changes.{after_draws, object_in, puts_in, refs_to}
use Rattle.file_blocks.specs.Wholes.{held_behind}
use Rattle.file_directory.specs.declared.directory.DirectoryEntry.{DirectoryEntry}
use Rattle.file_directory.specs.Form.{IsDirectory, objects_of}
use Rattle.file_dataset.specs.declared.edit.Made.{Made}
use Rattle.file_dataset.specs.declared.halt.Halt.{Halt}
use Rattle.file_dataset.specs.declared.kind.Kind.{Kind}
use Rattle.file_dataset.specs.Calls.{by_table}
use Rattle.file_dataset.specs.ChangeCalls.{used}
use Rattle.file_dataset.specs.Changes.{Edit, change_by, change_with, cut_edit, edit_puts, entry_of, lengths_with, made_in, make_edit, refs_from, remove_edit, removed_in, table_with, write_edit}
use Rattle.file_dataset.specs.ChangeSteps.{HasMade, IsToldWork, Works}
use Rattle.file_dataset.specs.Steps.{IsTableAt, Visits}
use Rattle.file_dataset.proofs.CallLemmas.{of_some, told_count}
use Rattle.file_dataset.proofs.ChangedLemmas.{found_entry, later_log, made_object}
use Rattle.file_dataset.proofs.EditParts.{is_cut, made_file, made_within, removed_file, removed_within, wrote}
use Rattle.file_dataset.proofs.HeldLemmas.{directory_form}
use Rattle.file_dataset.proofs.KeepLemmas.{placed_still}
use Rattle.file_dataset.proofs.LeadLemmas.{Leads, cut_leads, made_leads, removed_leads, tells_behind, wrote_leads}
use Rattle.file_dataset.proofs.SoundLemmas.{cut_sound, made_sound, removed_sound, sound_fits, sound_puts, wrote_sound}
use Rattle.file_dataset.proofs.TableLemmas.{found_is}
use Rattle.file_dataset.proofs.TellLemmas.{some_wide}
use Rattle.file_dataset.proofs.WorkLemmas.{walked_used}

-- ---- what is held

held_still : (calls : ℕ) (s : ShelfState) → (after_calls calls s).held ≡ s.held
held_still zero s = refl
held_still (suc calls) s = held_still calls (counted s)

sizes_still : (calls : ℕ) (s : ShelfState) → (after_calls calls s).sizes ≡ s.sizes
sizes_still zero s = refl
sizes_still (suc calls) s = sizes_still calls (counted s)

holds_front : (xs ys : List (List ℕ)) → HoldsBytes (xs ++ ys) → HoldsBytes xs
holds_front xs ys holds address block is = holds address block (slice_get-grown xs ys address block is)

holds_none : HoldsBytes []
holds_none address block is = absurd (cc)

-- draws are no part of it
pub honest_used : (calls draws : ℕ) (put : List (List ℕ)) (old new : FamilyState) → IsHonest old → HoldsBytes put → new ≡ used calls put draws old → IsHonest new
honest_used calls draws put old new honest bytes is =
    let shelf : ShelfState = after_calls calls (with_blocks put old.shelf) in
    let grown : HasGrown put old.shelf shelf = (placed_still calls (with_blocks put old.shelf), held_still calls (with_blocks put old.shelf)) in
    let so = honest-grown old put shelf honest grown bytes in
    subst IsHonest (sym is) (record { blocks = so.blocks; placed = so.placed; held = so.held; bytes = so.bytes; spots = so.spots })

-- nor calls that put nothing
pub honest_walked : (calls : ℕ) (old new : FamilyState) → IsHonest old → new ≡ used calls [] 0 old → IsHonest new
honest_walked calls old new honest is = honest_used calls 0 [] old new honest holds_none is

-- ---- a change of a head, before its entry

module _ (key : KeyValue) (hmac_key : List ℕ) (head : ℕ) (kind : Kind) (old : FamilyState) (honest : IsHonest old) (sizes : HasToldSizes old.shelf) where
  abbrev spot : Spot
  spot = head_spot head

  base : length old.shelf.sizes ≡ length honest.blocks
  base = told_count old honest.blocks sizes honest.held

  -- the head's table tells the log
  pub spot_tells : (table : Table) → table_of spot old.heads ≡ Some table → TellsTheLog honest.blocks old.log spot table
  spot_tells table of_head = of_some (λ t. TellsTheLog honest.blocks old.log spot t) (table_of spot old.heads) table of_head (honest.spots spot)

  -- what an edit puts is bytes
  abbrev pub PutsBytes : (List (List ℕ) → Table → Result Edit Refusal) → Type 0
  PutsBytes edit =
      (table : Table) (e : Edit) → table_of spot old.heads ≡ Some table → edit honest.blocks table ≡ Ok e
      → HoldsBytes (puts_in key old.salts honest.blocks (length honest.blocks) e.change)

  -- so is what of it was put, and the family stays on an honest shelf
  pub works_honest : {cost : Table → ℕ} (edit : List (List ℕ) → Table → Result Edit Refusal) (numbers : List ℕ) (result : Result Made Halt) (new : FamilyState) → PutsBytes edit
      → Works kind key hmac_key head edit cost numbers result old new → IsHonest new
  works_honest edit numbers result new puts works =
      honest_used works.calls works.draws works.put old new honest (holds_front works.put told.rest (subst HoldsBytes (sym told.parts) (all_bytes (table_of spot old.heads) refl))) works.left
    where
      told : IsToldWork kind key hmac_key head honest.blocks (edit honest.blocks) works.put works.draws result old new
      told = of_some (λ held. IsToldWork kind key hmac_key head held (edit held) works.put works.draws result old new) old.shelf.held honest.blocks honest.held works.told

      by_edit : (table : Table) → table_of spot old.heads ≡ Some table → (made : Result Edit Refusal) → edit honest.blocks table ≡ made
          → HoldsBytes (edit_puts key old.salts honest.blocks (length old.shelf.sizes) made)
      by_edit table of_head (Err why) same = holds_none
      by_edit table of_head (Ok e) same =
          subst (λ (n : ℕ). HoldsBytes (puts_in key old.salts honest.blocks n e.change)) (sym base) (puts table e of_head same)

      all_bytes : (found : Option Table) → table_of spot old.heads ≡ found
          → HoldsBytes (edit_puts key old.salts honest.blocks (length old.shelf.sizes) (option_map_or (edit honest.blocks) found (Err refusals.NoSnapshot)))
      all_bytes None same = holds_none
      all_bytes (Some table) same = by_edit table same (edit honest.blocks table) refl

  -- an edit leads where the log with its entry does
  abbrev pub EditLeads : (List (List ℕ) → Table → Result Edit Refusal) → Type 0
  EditLeads edit =
      (table : Table) (e : Edit) → table_of spot old.heads ≡ Some table → edit honest.blocks table ≡ Ok e
      → length honest.blocks + length (puts_in key old.salts honest.blocks (length honest.blocks) e.change) ≤ 2 ^ 64
      → (0 < table.block) × Leads key old.salts honest.blocks old.log head table e

  pub works_lead : {cost : Table → ℕ} (edit : List (List ℕ) → Table → Result Edit Refusal) (numbers : List ℕ) (made : Made) (new : FamilyState) → EditLeads edit
      → length new.shelf.sizes < 2 ^ 64 → Works kind key hmac_key head edit cost numbers (Ok made) old new → LeadsAsLogged new head made.change
  works_lead edit numbers made new leads few works = rw held (subst (λ (f : HeadChange). TellsTheLog (honest.blocks ++ works.put) (new.log ++ f.entry ∷ []) spot f.table) (sym change) behind)
    where
      told : IsToldWork kind key hmac_key head honest.blocks (edit honest.blocks) works.put works.draws (Ok made) old new
      told = of_some (λ held. IsToldWork kind key hmac_key head held (edit held) works.put works.draws (Ok made) old new) old.shelf.held honest.blocks honest.held works.told

      has : HasMade kind key hmac_key head honest.blocks (edit honest.blocks) told.rest made old
      has = told.ended

      put : works.put ≡ puts_in key old.salts honest.blocks (length honest.blocks) has.e.change
      put =
          sym (ap (λ (rest : List (List ℕ)). works.put ++ rest) has.all ∙ append-nil works.put) ∙ told.parts
          ∙ ap (edit_puts key old.salts honest.blocks (length old.shelf.sizes)) answered
          ∙ ap (λ (n : ℕ). puts_in key old.salts honest.blocks n has.e.change) base
        where
          answered : by_table (edit honest.blocks) old spot ≡ Ok has.e
          answered = rw has.of_head has.is

      held : new.shelf.held ≡ Some (honest.blocks ++ works.put)
      held =
          ap (λ (f : FamilyState). f.shelf.held) works.left ∙ held_still works.calls (with_blocks works.put old.shelf)
          ∙ ap (option_map (λ blocks. blocks ++ works.put)) honest.held

      log_same : new.log ≡ old.log
      log_same = ap (λ (f : FamilyState). f.log) works.left

      room : length honest.blocks + length (puts_in key old.salts honest.blocks (length honest.blocks) has.e.change) ≤ 2 ^ 64
      room =
          let all : length new.shelf.sizes ≡ length (old.shelf.sizes ++ map length works.put) =
          ap (λ (f : FamilyState). length f.shelf.sizes) works.left ∙ ap length (sizes_still works.calls (with_blocks works.put old.shelf)) in
          let both = length-append old.shelf.sizes (map length works.put) in
          let count = length-map works.put length in
          let same = ap length put in
          omega (arith, few, all, both, count, same, base)

      change : made.change ≡ change_by kind key hmac_key old.salts honest.blocks (length honest.blocks) head has.table has.e
      change = has.change ∙ ap (λ (n : ℕ). change_by kind key hmac_key old.salts honest.blocks n head has.table has.e) base

      behind : TellsTheLog (honest.blocks ++ works.put) (new.log ++ (change_by kind key hmac_key old.salts honest.blocks (length honest.blocks) head has.table has.e).entry ∷ []) spot
          (change_by kind key hmac_key old.salts honest.blocks (length honest.blocks) head has.table has.e).table
      behind =
          let led = leads has.table has.e has.of_head has.is room in
          let tells = tells_behind key hmac_key old.salts honest.blocks old.log head has.table kind (spot_tells has.table has.of_head) led.0 has.e led.1 in
          let entry : LogEntry = (change_by kind key hmac_key old.salts honest.blocks (length honest.blocks) head has.table has.e).entry in
          let table : Table = (change_by kind key hmac_key old.salts honest.blocks (length honest.blocks) head has.table has.e).table in
          subst (λ (l : List LogEntry). TellsTheLog (honest.blocks ++ works.put) (l ++ entry ∷ []) spot table) (sym log_same)
          (subst (λ (bs : List (List ℕ)). TellsTheLog (honest.blocks ++ bs) (old.log ++ entry ∷ []) spot table) (sym put) tells)

  -- ---- the four edits

  module _ (at : (table : Table) → table_of spot old.heads ≡ Some table → IsTableAt old spot table) where
    pub write_puts : (name : List ℕ) (from : ℕ) (bytes : List ℕ) → AreBytes bytes → PutsBytes (write_edit key hmac_key name from bytes)
    write_puts name from bytes fair table e of_head is =
        let own = at table of_head in
        let parts = wrote key hmac_key name from bytes honest.blocks table e is in
        subst (λ (f : Edit). HoldsBytes (puts_in key old.salts honest.blocks (length honest.blocks) f.change)) (sym parts.parts.is)
        (sound_puts key old.salts honest.blocks old.log spot table (spot_tells table of_head) own.lengths own.in_form honest.bytes _ _
        (wrote_sound key old.salts honest.blocks old.log spot table (spot_tells table of_head) own.lengths own.in_form honest.bytes hmac_key name from bytes e parts fair))

    pub write_leads : (name : List ℕ) (from : ℕ) (bytes : List ℕ) → AreBytes bytes → EditLeads (write_edit key hmac_key name from bytes)
    write_leads name from bytes fair table e of_head is room =
        let own = at table of_head in
        let tells = spot_tells table of_head in
        let parts = wrote key hmac_key name from bytes honest.blocks table e is in (
          some_wide honest.blocks old.log spot table tells own.lengths own.in_form,
          wrote_leads key hmac_key old.salts honest.blocks old.log head table tells own.lengths own.in_form name from bytes e parts
              (sound_fits key old.salts honest.blocks old.log spot table tells own.lengths own.in_form honest.bytes _ _
              (wrote_sound key old.salts honest.blocks old.log spot table tells own.lengths own.in_form honest.bytes hmac_key name from bytes e parts fair)
              (subst (λ (f : Edit). length honest.blocks + length (puts_in key old.salts honest.blocks (length honest.blocks) f.change) ≤ 2 ^ 64) parts.parts.is room)),
        )

    pub cut_puts : (name : List ℕ) (to : ℕ) → PutsBytes (cut_edit key hmac_key name to)
    cut_puts name to table e of_head is =
        let own = at table of_head in
        let parts = is_cut key hmac_key name to honest.blocks table e is in
        subst (λ (f : Edit). HoldsBytes (puts_in key old.salts honest.blocks (length honest.blocks) f.change)) (sym parts.parts.is)
        (sound_puts key old.salts honest.blocks old.log spot table (spot_tells table of_head) own.lengths own.in_form honest.bytes _ _
        (cut_sound key old.salts honest.blocks old.log spot table (spot_tells table of_head) own.lengths own.in_form honest.bytes hmac_key name to e parts))

    pub cut_leads_so : (name : List ℕ) (to : ℕ) → EditLeads (cut_edit key hmac_key name to)
    cut_leads_so name to table e of_head is room =
        let own = at table of_head in
        let tells = spot_tells table of_head in
        let parts = is_cut key hmac_key name to honest.blocks table e is in (
          some_wide honest.blocks old.log spot table tells own.lengths own.in_form,
          cut_leads key hmac_key old.salts honest.blocks old.log head table tells own.lengths own.in_form name to e parts
              (sound_fits key old.salts honest.blocks old.log spot table tells own.lengths own.in_form honest.bytes _ _
              (cut_sound key old.salts honest.blocks old.log spot table tells own.lengths own.in_form honest.bytes hmac_key name to e parts)
              (subst (λ (f : Edit). length honest.blocks + length (puts_in key old.salts honest.blocks (length honest.blocks) f.change) ≤ 2 ^ 64) parts.parts.is room)),
        )

    pub make_puts : (name : List ℕ) → file_fault name ≡ None → PutsBytes (make_edit key hmac_key name)
    make_puts name sound table e of_head is =
        let own = at table of_head in
        let tells = spot_tells table of_head in
        let file = made_file key hmac_key name honest.blocks table e is in
        let directory = directory_form key hmac_key honest.blocks table file.entries (some_wide honest.blocks old.log spot table tells own.lengths own.in_form) honest.bytes file.reads in
        subst (λ (f : Edit). HoldsBytes (puts_in key old.salts honest.blocks (length honest.blocks) f.change)) (sym file.within.is)
        (sound_puts key old.salts honest.blocks old.log spot table tells own.lengths own.in_form honest.bytes _ _
        (made_sound key old.salts honest.blocks old.log spot table tells own.lengths own.in_form honest.bytes name file.entries e directory sound file.within))

    pub remove_puts : (name : List ℕ) → PutsBytes (remove_edit key hmac_key name)
    remove_puts name table e of_head is =
        let own = at table of_head in
        let tells = spot_tells table of_head in
        let file = removed_file key hmac_key name honest.blocks table e is in
        let directory = directory_form key hmac_key honest.blocks table file.entries (some_wide honest.blocks old.log spot table tells own.lengths own.in_form) honest.bytes file.reads in
        subst (λ (f : Edit). HoldsBytes (puts_in key old.salts honest.blocks (length honest.blocks) f.change)) (sym file.within.is)
        (sound_puts key old.salts honest.blocks old.log spot table tells own.lengths own.in_form honest.bytes _ _
        (removed_sound key old.salts honest.blocks old.log spot table tells own.lengths own.in_form honest.bytes name file.entries e directory file.within))

    module _ (name : List ℕ) (entries : List DirectoryEntry) (sound : file_fault name ≡ None)
        (directory : (table : Table) → table_of spot old.heads ≡ Some table → IsDirectory (objects_of table) entries) where
      pub made_leads_so : EditLeads (λ held table. made_in key held table name entries)
      made_leads_so table e of_head is room =
          let own = at table of_head in
          let tells = spot_tells table of_head in
          let make = made_within key name honest.blocks table entries e is in (
            some_wide honest.blocks old.log spot table tells own.lengths own.in_form,
            made_leads key hmac_key old.salts honest.blocks old.log head table tells own.lengths own.in_form name e entries make
                (sound_fits key old.salts honest.blocks old.log spot table tells own.lengths own.in_form honest.bytes _ _
                (made_sound key old.salts honest.blocks old.log spot table tells own.lengths own.in_form honest.bytes name entries e (directory table of_head) sound make)
                (subst (λ (f : Edit). length honest.blocks + length (puts_in key old.salts honest.blocks (length honest.blocks) f.change) ≤ 2 ^ 64) make.is room)),
          )

    module _ (name : List ℕ) (entries : List DirectoryEntry)
        (directory : (table : Table) → table_of spot old.heads ≡ Some table → IsDirectory (objects_of table) entries) where
      pub removed_leads_so : EditLeads (λ held table. removed_in key held table name entries)
      removed_leads_so table e of_head is room =
          let own = at table of_head in
          let tells = spot_tells table of_head in
          let remove = removed_within key name honest.blocks table entries e is in
          let high : 2 ≤ remove.object = found_entry (objects_of table) name entries remove.object (directory table of_head).each remove.named in
          let same : remove.row.object ≡ remove.object = found_is remove.object table.rows remove.row remove.found in (
            some_wide honest.blocks old.log spot table tells own.lengths own.in_form,
            removed_leads key hmac_key old.salts honest.blocks old.log head table tells own.lengths own.in_form name e entries remove (λ first. omega (arith, high, same, first))
                (sound_fits key old.salts honest.blocks old.log spot table tells own.lengths own.in_form honest.bytes _ _
                (removed_sound key old.salts honest.blocks old.log spot table tells own.lengths own.in_form honest.bytes name entries e (directory table of_head) remove)
                (subst (λ (f : Edit). length honest.blocks + length (puts_in key old.salts honest.blocks (length honest.blocks) f.change) ≤ 2 ^ 64) remove.is room)),
          )

-- ---- functions that change a head

-- a spot has one table
pub only_table : (old : FamilyState) (spot : Spot) (table other : Table) → table_of spot old.heads ≡ Some table → table_of spot old.heads ≡ Some other → table ≡ other
only_table old spot table other one two = cc

pub only_at : (old : FamilyState) (spot : Spot) (table : Table) → IsTableAt old spot table → (other : Table) → table_of spot old.heads ≡ Some other
    → IsTableAt old spot other
only_at old spot table at other two = subst (IsTableAt old spot) (only_table old spot table other at.found two) at

pub only_directory : (old : FamilyState) (spot : Spot) (table : Table) (entries : List DirectoryEntry) → table_of spot old.heads ≡ Some table
    → IsDirectory (objects_of table) entries → (other : Table) → table_of spot old.heads ≡ Some other → IsDirectory (objects_of other) entries
only_directory old spot table entries one directory other two =
    subst (λ (t : Table). IsDirectory (objects_of t) entries) (only_table old spot table other one two) directory

-- what a change that is made says of the trees
abbrev pub LeadsThen : (head : ℕ) → (old new : FamilyState) → Made → Type 0
LeadsThen head old new made = IsHonest old → HasToldSizes old.shelf → length new.shelf.sizes < 2 ^ 64 → LeadsAsLogged new head made.change

pub works_leads : {cost : Table → ℕ} (key : KeyValue) (hmac_key : List ℕ) (head : ℕ) (kind : Kind) (old new : FamilyState) (edit : List (List ℕ) → Table → Result Edit Refusal)
    (numbers : List ℕ) (result : Result Made Halt)
    → ((honest : IsHonest old) (sizes : HasToldSizes old.shelf) → EditLeads key hmac_key head kind old honest sizes edit)
    → Works kind key hmac_key head edit cost numbers result old new → IfOk result (LeadsThen head old new)
works_leads key hmac_key head kind old new edit numbers (Err halt) leads works = tt
works_leads key hmac_key head kind old new edit numbers (Ok made) leads works = λ honest sizes few.
    works_lead key hmac_key head kind old honest sizes edit numbers made new (leads honest sizes) few works

-- behind a reading
sizes_walked : (calls : ℕ) (s : ShelfState) → HasToldSizes s → HasToldSizes (after_calls calls s)
sizes_walked zero s sizes = sizes
sizes_walked (suc calls) s sizes =
    sizes_walked calls (counted s) (record { within_limit = sizes.within_limit; of_placed = sizes.of_placed; of_held = sizes.of_held })

pub leads_behind : {X Y : Type 0} (sees : X → Y) (answer : List (List ℕ) → Table → Result Y Refusal) (most : Table → ℕ) (hmac_key : List ℕ) (place : Spot)
    (reading : Result X Halt) (head : ℕ) (old between new : FamilyState) (result : Result Made Halt) → Visits sees answer most hmac_key place reading old between
    → IfOk result (LeadsThen head between new) → IfOk result (LeadsThen head old new)
leads_behind sees answer most hmac_key place reading head old between new (Err halt) visits leads = tt
leads_behind sees answer most hmac_key place reading head old between new (Ok made) visits leads = λ honest sizes few.
    leads (honest_walked visits.walked.calls old between honest (walked_used visits.walked.calls old between between.shelf visits.left visits.walked.after))
    (subst HasToldSizes (sym visits.walked.after) (sizes_walked visits.walked.calls old.shelf sizes)) few

-- ---- a call

-- what was used of the family before its entry, and the entry, leave it on an honest shelf
pub call_honest : {cost : Table → ℕ} (key : KeyValue) (hmac_key : List ℕ) (head : ℕ) (kind : Kind) (old between new : FamilyState) (edit : List (List ℕ) → Table → Result Edit Refusal)
    (numbers : List ℕ) (note : Spot) (answer : Result Made Halt) (sizes : HasToldSizes old.shelf)
    → ((honest : IsHonest old) → PutsBytes key hmac_key head kind old honest sizes edit) → Works kind key hmac_key head edit cost numbers answer old between
    → IfOk answer (LeadsThen head old between) → note ≡ head_spot head → length between.shelf.sizes < 2 ^ 64
    → (IsHonest between → IfOk answer (λ made. LeadsAsLogged between note.head made.change) → IsHonest new) → IsHonest old → IsHonest new
call_honest key hmac_key head kind old between new edit numbers note answer sizes puts works leads copy room ended honest =
    subst (λ (s : Spot). IsHonest between → IfOk answer (λ made. LeadsAsLogged between s.head made.change) → IsHonest new) copy ended
    (works_honest key hmac_key head kind old honest sizes edit numbers answer between (puts honest) works) (by_answer answer leads)
  where
    by_answer : (r : Result Made Halt) → IfOk r (LeadsThen head old between) → IfOk r (λ made. LeadsAsLogged between head made.change)
    by_answer (Ok made) leads = leads honest sizes room
    by_answer (Err halt) leads = tt
