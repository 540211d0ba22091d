-- Behind an edit the new table of the head leads to what the log with its entry gives.
use Rattle.std.proofs.Common.{◌≡◌, ◌≢◌, ℕ, ◌+◌, ◌-◌, ◌<◌, ◌≤◌, ◌^◌, Bool, true, false, ◌==◌, nat_le, if◌then◌else◌, List, [], ◌∷◌, ◌++◌, length, Option, Some, None, Result, Ok, Err, refl, ap, sym, subst, ◌∙◌, inl, inr, arith}
use Rattle.std.specs.Prelude.{◌⊎◌}
use Rattle.std.specs.Option.{option_map_or, option_or}
use Rattle.std.proofs.lemmas.Bool.Decides.{Decides-eqb, nat_tests}
use Rattle.block_crypt.specs.Blocks.{KeyValue}
use Rattle.salt_rotation.specs.SaltState.{SaltState}
use Rattle.indirect_macs.specs.declared.refs.BlockRef.{BlockRef}
use Rattle.indirect_macs.specs.declared.refs.MacError.{MacError}
use Rattle.indirect_macs.specs.RunFields.{run_for}
use Rattle.indirect_macs.specs.Runs.{walk_to}
use Rattle.family_log.specs.declared.entry.LogEntry.{LogEntry}
use Rattle.family_log.specs.declared.table.Table.{Table}
use Rattle.family_log.specs.declared.table.TableRow.{TableRow}
use Rattle.family_log.specs.Honest.{TellsTheLog, leads, row_leads}
use Rattle.family_log.specs.Log.{head_spot, is_past, last_length, last_ref}
use Rattle.family_log.specs.Model.{HasLengths}
use Rattle.family_log.specs.Tables.{blocks_of, row_of}
use Rattle.family_log.proofs.GrownLemmas.{tells-grown}
use Rattle.file_blocks.specs.declared.object.Object.{Object}
use Rattle.file_blocks.specs.Changes.{Change, puts_in, ref_in, refs_to}
use Rattle.file_blocks.specs.Objects.{blocks_for}
use Rattle.file_blocks.specs.Wholes.{ChangeFits, GivesChange, HasRefs, held_behind, object_behind, refs_behind}
use Rattle.file_blocks.specs.WriteFields.{write_to}
use Rattle.file_blocks.specs.Writes.{change_of_write}
use Rattle.file_blocks.proofs.Leading.{cut_behind, length_is, write_behind}
use Rattle.file_blocks.proofs.Passing.{blocks_none}
use Rattle.file_blocks.proofs.WholeRanges.{no_refs}
use Rattle.file_directory.specs.declared.directory.DirectoryEntry.{DirectoryEntry}
use Rattle.file_directory.specs.Entries.{directory_text, with_entry, without_name}
use Rattle.file_dataset.specs.Changes.{Edit, edit_of_make, edit_of_remove, edit_of_row, empty_object, empty_row, new_object, object_at, put_row, row_with, table_with, without_row}
use Rattle.file_dataset.specs.Steps.{IsReadable}
use Rattle.file_dataset.specs.declared.kind.Kind.{Kind}
use Rattle.file_dataset.proofs.ChangedLemmas.{cut_size, kept_length, later_log, made_length, made_object, made_refs, write_size}
use Rattle.file_dataset.proofs.DirectoryLemmas.{Covers, covered, written_whole}
use Rattle.file_dataset.proofs.EditParts.{IsCut, MadeIn, RemovedIn, Wrote}
use Rattle.file_dataset.proofs.EntryLemmas.{other_number, other_ref, same_number, told_length, told_other, told_ref}
use Rattle.file_dataset.proofs.FileLists.{by_space}
use Rattle.file_dataset.proofs.TableLemmas.{first_found, found_is, found_pushed, found_row, new_is_free, new_is_high, put_others, put_own, without_others, without_own}
use Rattle.file_dataset.proofs.TellLemmas.{row_refs, some_wide}

-- ---- what an edit does

-- an object that isn't the edit's own: of which the entry says nothing, and whose row stays; or that has no blocks
abbrev pub Beside : (table : Table) → (e : Edit) → (object : ℕ) → Type 0
Beside table e object =
    ((told_other e.other object ≡ None) × (found_row object e.rows ≡ row_of object table))
    ⊎ ((now : Option ℕ) × (told_other e.other object ≡ Some now) × ((index : ℕ) → is_past table.block index now ≡ true)
    × ((held : List (List ℕ)) (index : ℕ) → option_map_or (row_leads held table.block index) (found_row object e.rows) (Ok None) ≡ Ok None))

-- an edit changes an object whose tree leads to these references, or writes it anew
pub record Leads (key : KeyValue) (salts : SaltState) (blocks : List (List ℕ)) (log : List LogEntry) (head : ℕ) (table : Table) (e : Edit) : Type 0 where
  pub base : Object
  pub before : ℕ → Option BlockRef
  pub change : GivesChange key blocks table.block base e.change
  pub fits : ChangeFits key salts blocks table.block base e.change
  pub has : HasRefs blocks table.block base before
  pub size : e.change.record_size ≡ table.block
  pub same : (index : ℕ) → refs_behind key salts (length blocks) e.change (last_ref table.block log (head_spot head) e.object) index
      ≡ refs_behind key salts (length blocks) e.change before index
  pub row : TableRow
  pub there : found_row e.object e.rows ≡ Some row
  pub others : (object : ℕ) → object ≢ e.object → Beside table e object

-- the tree of a row leads where its object does
row_leads-ref : (held : List (List ℕ)) (record_size index : ℕ) (row : TableRow) → row_leads held record_size index row ≡ ref_in held record_size row.tree index
unfolding walk_to
row_leads-ref held record_size index row = refl

module _ (key : KeyValue) (hmac_key : List ℕ) (salts : SaltState) (blocks : List (List ℕ)) (log : List LogEntry) (head : ℕ) (table : Table) (kind : Kind)
    (tells : TellsTheLog blocks log (head_spot head) table) (some : 0 < table.block) (e : Edit) (edit : Leads key salts blocks log head table e) where
  abbrev held_now : List (List ℕ)
  held_now = held_behind key salts blocks e.change

  abbrev log_now : List LogEntry
  log_now = later_log key salts blocks log head table.block kind e

  abbrev made : Object
  made = made_object key salts blocks log head table.block kind e

  abbrev table_now : Table
  table_now = table_with hmac_key table e made

  behind : HasRefs held_now table.block made (refs_behind key salts (length blocks) e.change edit.before)
  behind = elim edit.change [
    | inl write ↦ (write_behind key salts blocks table.block edit.base edit.before some edit.has write.0 write.1 e.change write.2 edit.fits).has_refs
    | inr cuts ↦ (cut_behind key salts blocks table.block edit.base edit.before some edit.has cuts.0 e.change cuts.1 edit.fits).has_refs
  ]

  own_refs : (index : ℕ) → last_ref table.block log_now (head_spot head) e.object index ≡ refs_behind key salts (length blocks) e.change edit.before index
  own_refs index = made_refs key salts blocks log head table.block kind e edit.size index ∙ edit.same index

  own_row : row_of e.object table_now ≡ Some (row_with e.object made)
  own_row = put_own (row_with e.object made) edit.row e.rows edit.there

  other_row : (object : ℕ) → object ≢ e.object → row_of object table_now ≡ found_row object e.rows
  other_row object apart = put_others (row_with e.object made) e.rows object apart

  -- the object that gets new blocks
  own_leads : (index : ℕ) → leads held_now table_now e.object index ≡ Ok (last_ref table.block log_now (head_spot head) e.object index)
  own_leads index =
      rw own_row (row_leads-ref held_now table.block index (row_with e.object made) ∙ behind.leads index
      ∙ ap (λ (found : Option BlockRef). let r : Result (Option BlockRef) MacError = Ok found in r) (sym (own_refs index)))

  own_ends : (index : ℕ) → is_past table.block index (last_length log_now (head_spot head) e.object) ≡ true
      → last_ref table.block log_now (head_spot head) e.object index ≡ None
  own_ends index past =
      let long : is_past table.block index (Some e.change.new_length) ≡ true =
      sym (ap (is_past table.block index) (made_length key salts blocks log head table.block kind e)) ∙ past in
      let size : made.length ≡ e.change.new_length = length_is key salts blocks e.change edit.before in
      own_refs index ∙ behind.holes index (subst (λ (n : ℕ). blocks_for table.block n ≤ index) (sym size) (below (blocks_for table.block e.change.new_length) index long))
    where
      below : (n index : ℕ) → nat_le n index ≡ true → n ≤ index
      below n index test = grind (arith, nat_tests)

  -- the others
  beside_leads : (object index : ℕ) → object ≢ e.object → Beside table e object
      → leads held_now table_now object index ≡ Ok (last_ref table.block log_now (head_spot head) object index)
  beside_leads object index apart (inl untold) =
      let was = (tells-grown blocks (puts_in key salts blocks (length blocks) e.change) log (head_spot head) table tells).refs object index in
      rw (other_row object apart, untold.1) was
      ∙ ap (λ (found : Option BlockRef). let r : Result (Option BlockRef) MacError = Ok found in r)
      (sym (other_ref log kind head e made (refs_to key salts (length blocks) e.change.texts) table.block object index apart untold.0))
  beside_leads object index apart (inr told) =
      rw (other_row object apart) (told.3 held_now index)
      ∙ ap (λ (found : Option BlockRef). let r : Result (Option BlockRef) MacError = Ok found in r)
      (sym (told_ref log kind head e made (refs_to key salts (length blocks) e.change.texts) table.block object index told.0 apart told.1 (told.2 index)))

  beside_ends : (object index : ℕ) → object ≢ e.object → Beside table e object → is_past table.block index (last_length log_now (head_spot head) object) ≡ true
      → last_ref table.block log_now (head_spot head) object index ≡ None
  beside_ends object index apart (inl untold) past =
      other_ref log kind head e made (refs_to key salts (length blocks) e.change.texts) table.block object index apart untold.0
      ∙ tells.ends object index (sym (ap (is_past table.block index) (kept_length key salts blocks log head table.block kind e object apart untold.0)) ∙ past)
  beside_ends object index apart (inr told) past =
      told_ref log kind head e made (refs_to key salts (length blocks) e.change.texts) table.block object index told.0 apart told.1 (told.2 index)

  pub tells_behind : TellsTheLog held_now log_now (head_spot head) table_now
  tells_behind = record {
    refs = λ object index. by_space (object == e.object)
        (λ own. subst (λ (o : ℕ). leads held_now table_now o index ≡ Ok (last_ref table.block log_now (head_spot head) o index)) (sym (equal object own)) (own_leads index))
        (λ off. beside_leads object index (differ object off) (edit.others object (differ object off)));
    ends = λ object index. by_space (object == e.object)
        (λ own. subst (λ (o : ℕ). is_past table.block index (last_length log_now (head_spot head) o) ≡ true → last_ref table.block log_now (head_spot head) o index ≡ None)
        (sym (equal object own)) (own_ends index))
        (λ off. beside_ends object index (differ object off) (edit.others object (differ object off)));
  }
    where
      equal : (object : ℕ) → (object == e.object) ≡ true → object ≡ e.object
      equal object is = (Decides-eqb object e.object).0 is

      differ : (object : ℕ) → (object == e.object) ≡ false → object ≢ e.object
      differ object off same = true_is_false (sym ((Decides-eqb object e.object).1 same) ∙ off)
        where
          true_is_false : true ≡ false → ⊥
          true_is_false e = cc

-- ---- the four edits

module _ (key : KeyValue) (hmac_key : List ℕ) (salts : SaltState) (blocks : List (List ℕ)) (log : List LogEntry) (head : ℕ) (table : Table)
    (tells : TellsTheLog blocks log (head_spot head) table) (lengths : HasLengths log (head_spot head) table) (form : IsReadable table) where
  -- a row's own bytes
  row_leads_so : (object : ℕ) (row : TableRow) (c : Change) → row_of object table ≡ Some row → GivesChange key blocks table.block (object_at row) c
      → ChangeFits key salts blocks table.block (object_at row) c → c.record_size ≡ table.block
      → Leads key salts blocks log head table (edit_of_row table row.object c)
  row_leads_so object row c found change fits size =
      let own : row.object ≡ object = found_is object table.rows row found in
      record {
        base = object_at row;
        before = last_ref table.block log (head_spot head) object;
        change = change;
        fits = fits;
        has = row_refs blocks log (head_spot head) table tells lengths form object row found;
        size = size;
        same = λ index. ap (λ (o : ℕ). refs_behind key salts (length blocks) c (last_ref table.block log (head_spot head) o) index) own;
        row = row;
        there = ap (λ (o : ℕ). found_row o table.rows) own ∙ found;
        others = λ other apart. inl (refl, refl);
      }

  pub wrote_leads : (name : List ℕ) (from : ℕ) (bytes : List ℕ) (e : Edit) (wrote : Wrote key hmac_key name from bytes blocks table e)
      → ChangeFits key salts blocks table.block (object_at wrote.parts.row) wrote.parts.made → Leads key salts blocks log head table e
  wrote_leads name from bytes e wrote fits =
      let parts = wrote.parts in
      subst (λ (f : Edit). Leads key salts blocks log head table f) (sym parts.is)
      (row_leads_so parts.object parts.row parts.made parts.found (inl (from, bytes, wrote.change)) fits
      (write_size key blocks (write_to (object_at parts.row) table.block from bytes) parts.made wrote.change))

  pub cut_leads : (name : List ℕ) (to : ℕ) (e : Edit) (cuts : IsCut key hmac_key name to blocks table e)
      → ChangeFits key salts blocks table.block (object_at cuts.parts.row) cuts.parts.made → Leads key salts blocks log head table e
  cut_leads name to e cuts fits =
      let parts = cuts.parts in
      subst (λ (f : Edit). Leads key salts blocks log head table f) (sym parts.is)
      (row_leads_so parts.object parts.row parts.made parts.found (inr (to, cuts.change)) fits
      (cut_size key blocks table.block (object_at parts.row) to parts.made cuts.change))

  -- the directory, written anew
  module _ (text : List ℕ) (c : Change) (change : change_of_write key blocks (write_to empty_object table.block 0 text) ≡ Ok c)
      (fits : ChangeFits key salts blocks table.block empty_object c) (e : Edit) (own : e.object ≡ 1) (is : e.change ≡ c) where
    anew_leads : (row : TableRow) → found_row 1 e.rows ≡ Some row → ((object : ℕ) → object ≢ 1 → Beside table e object) → Leads key salts blocks log head table e
    anew_leads row there others = record {
      base = empty_object;
      before = λ index. None;
      change = inl (0, text, change ∙ ap Ok (sym is));
      fits = subst (ChangeFits key salts blocks table.block empty_object) (sym is) fits;
      has = no_refs blocks table.block;
      size = ap (λ (d : Change). d.record_size) is ∙ write_size key blocks (write_to empty_object table.block 0 text) c change;
      same = λ index. covered key salts (length blocks) e.change (last_ref table.block log (head_spot head) e.object) (λ i. None) index
          (subst Covers (sym is) (written_whole key blocks table.block text c (some_wide blocks log (head_spot head) table tells lengths form) change));
      row = row;
      there = ap (λ (o : ℕ). found_row o e.rows) own ∙ there;
      others = λ object apart. others object (λ first. apart (first ∙ sym own));
    }

  nothing_past : (index : ℕ) → is_past table.block index (Some 0) ≡ true
  nothing_past index =
      let none : blocks_of table.block 0 ≡ 0 = blocks_none table.block (some_wide blocks log (head_spot head) table tells lengths form) in
      let low : 0 ≤ index = omega arith in
      rw none (grind (arith, low))

  empty_leads : (held : List (List ℕ)) (object index : ℕ) → row_leads held table.block index (empty_row object) ≡ Ok None
  empty_leads held object index = row_leads-ref held table.block index (empty_row object) ∙ (no_refs held table.block).leads index

  pub made_leads : (name : List ℕ) (e : Edit) (entries : List DirectoryEntry) (make : MadeIn key name blocks table entries e) → ChangeFits key salts blocks table.block empty_object make.made
      → Leads key salts blocks log head table e
  made_leads name e entries make fits =
      subst (λ (f : Edit). Leads key salts blocks log head table f) (sym make.is)
      (anew_leads (directory_text (with_entry (record { object = new_object table; name = name }) entries)) make.made make.anew.change fits
      (edit_of_make table make.made) refl refl first.0 (pushed 1 ∙ rw first.1 refl) (λ object apart. others object))
    where
      first : (row : TableRow) × (row_of 1 table ≡ Some row)
      first = first_found table.block table form.form

      pushed : (object : ℕ) → found_row object (edit_of_make table make.made).rows
          ≡ option_or (row_of object table) (if new_object table == object then Some (empty_row (new_object table)) else None)
      pushed object = found_pushed object table.rows (empty_row (new_object table))

      or_none : (found : Option TableRow) → option_or found None ≡ found
      or_none None = refl
      or_none (Some row) = refl

      others : (object : ℕ) → Beside table (edit_of_make table make.made) object
      others object =
          by_space (new_object table == object)
          (λ new. let same : new_object table ≡ object = (Decides-eqb (new_object table) object).0 new in
          inr (Some 0, rw new refl, nothing_past, λ held index. rw (pushed object, new, sym same, new_is_free table) (empty_leads held (new_object table) index)))
          (λ old. inl (rw old refl, pushed object ∙ rw old (or_none (row_of object table))))

  pub removed_leads : (name : List ℕ) (e : Edit) (entries : List DirectoryEntry) (remove : RemovedIn key name blocks table entries e) → remove.row.object ≢ 1
      → ChangeFits key salts blocks table.block empty_object remove.made → Leads key salts blocks log head table e
  removed_leads name e entries remove kept fits =
      subst (λ (f : Edit). Leads key salts blocks log head table f) (sym remove.is)
      (anew_leads (directory_text (without_name name entries)) remove.made remove.anew.change fits
      (edit_of_remove table remove.row.object remove.made) refl refl first.0
      (without_others remove.row.object 1 table.rows (λ same. kept (sym same)) ∙ first.1) (λ object apart. others object))
    where
      first : (row : TableRow) × (row_of 1 table ≡ Some row)
      first = first_found table.block table form.form

      others : (object : ℕ) → Beside table (edit_of_remove table remove.row.object remove.made) object
      others object =
          by_space (remove.row.object == object)
          (λ gone. let same : remove.row.object ≡ object = (Decides-eqb remove.row.object object).0 gone in
          inr (None, rw gone refl, λ index. refl, λ held index. rw (sym same, without_own remove.row.object table.rows) refl))
          (λ stays. inl (rw stays refl, without_others remove.row.object object table.rows (λ same. true_is_false (sym ((Decides-eqb remove.row.object object).1 (sym same)) ∙ stays))))
        where
          true_is_false : true ≡ false → ⊥
          true_is_false e = cc
