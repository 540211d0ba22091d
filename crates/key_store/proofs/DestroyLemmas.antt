-- A destroy: its step by the dataset's id, and what it leaves.
use Rattle.std.proofs.Common.{◌≡◌, ◌≢◌, ⊎_elim, ℕ, ◌≤◌, Bool, true, false, not, cond, ◌==◌, ◌||◌, List, [], ◌∷◌, length, get_or, Option, Some, None, is_some, is_none, Err, refl, ap, sym, ◌∙◌, subst, arith}
use Rattle.std.proofs.lemmas.Bool.{cases_Bool, cases_eq}
use Rattle.std.specs.Prelude.{vec_capacity}
use Rattle.std.specs.List.{All}
use Rattle.std.specs.Option.{option_and_then}
use Rattle.dataset_tree.specs.declared.refusal.Refusal.{Refusal}
use Rattle.dataset_tree.specs.declared.refusal.Refusal.TheVariants.{NoSuch, HasChildren, Mounted, Busy}
use Rattle.dataset_tree.specs.declared.tree.Row.{Row}
use Rattle.dataset_tree.specs.Tree.{Datasets, id_named, is_needed, row_of, without_row}
use Rattle.encryption_roots.specs.ById.{IsRisingById, at_id, without_id}
use Rattle.encryption_roots.specs.Owners.{family}
use Rattle.encryption_roots.specs.Props.{KeepsIterations}
use Rattle.encryption_roots.specs.RecordSize.{IsRecordSize}
use Rattle.encryption_roots.specs.declared.command.KeyCmd.TheVariants as commands
use Rattle.encryption_roots.specs.declared.props.Props.{Props}
use Rattle.encryption_roots.proofs.ByIdLemmas.{at_id-without_id, at_id-without_id_other}
use Rattle.mapping_words.specs.Told.{Told as Slots}
use Rattle.wrapped_keys.specs.Stored.{parsed_record}
use Rattle.key_machine.specs.Destroy.{destroy_done, is_needed_row, destroyed, destroyed_unless}
use Rattle.key_machine.specs.Kept.{KeepsKey}
use Rattle.key_machine.specs.Mount.{is_mounted_row}
use Rattle.key_machine.specs.Plain.{Plain, Stored, mkey}
use Rattle.key_machine.specs.Reap.{mapping_in_use, own_in_use, without_mapping}
use Rattle.key_machine.specs.Refusals.{first_of}
use Rattle.key_machine.specs.Reply.{Stepped, refused, unless_refused}
use Rattle.key_machine.specs.Sound.{Sound}
use Rattle.key_machine.specs.Step.{in_use, key_step, key_step_found, refusal_of, target}
use Rattle.key_machine.specs.Told.{nothing_told}
use Rattle.key_machine.specs.Unload.{InUse}
use Rattle.key_machine.specs.Users.{is_mounted, mkey_users}
use Rattle.key_machine.proofs.DestroyLaws.{destroyed_sound, family_after, record_of_family, record_of_other, relative}
use Rattle.key_machine.proofs.DestroySteps.{first_record, other_keeps}
use Rattle.key_machine.proofs.KeyLists.{All-kept, each_found}
use Rattle.key_machine.proofs.NamedLaws.{IsNamed, named}
use Rattle.key_ciphers.specs.Ciphers.{ciphers}
use Rattle.key_store.specs.Agrees.{Agrees}
use Rattle.key_store.specs.State.{plain_of, stored_of, stored_records, counted_by, AreCounted, IsKept}
use Rattle.key_store.specs.declared.state.FamilyRecord.{FamilyRecord}
use Rattle.key_store.specs.declared.state.KeyState.TheInside.{Inside}
use Rattle.key_store.proofs.MappingLemmas.{absent_stays}
use Rattle.key_store.proofs.OpenedLemmas.{AreOpened, mapped_of, opened_same}
use Rattle.key_store.proofs.RecordLemmas.{rising_records, without_id-stored}
use Rattle.key_store.proofs.UnloadLemmas.{fewer_or_same}
use Rattle.key_store.proofs.UseLemmas.{count_same, counted_alike, counted_without, rising_counts}

-- ---- the step, by the id

abbrev pub use_cases : Plain → ℕ → Bool → List (Bool × Refusal)
use_cases p id snaps = (is_needed id p.tree.rows || snaps, HasChildren) ∷ (is_mounted p id, Mounted) ∷ []

module _ (p : Plain) (id : ℕ) (snaps : Bool) (name : List ℕ) (found : id_named name p.tree.rows ≡ Some id) where
  pub refusal_by_id : refusal_of p (commands.Destroy name snaps) ≡ first_of (use_cases p id snaps)
  refusal_by_id =
      let is : IsNamed p name id = named p name id found in
      ap (λ (row : Option Row). first_of ((is_none row, NoSuch) ∷ (is_needed_row p row || snaps, HasChildren) ∷ (is_mounted_row p row, Mounted) ∷ [])) is.found
      ∙ ap (λ (n : ℕ). first_of (use_cases p n snaps)) is.same

  pub accepted_step : (busy : Option InUse) → first_of (use_cases p id snaps) ≡ None → key_step_found busy p (commands.Destroy name snaps) nothing_told ≡ destroyed_unless p id busy
  accepted_step busy none =
      ap (λ (why : Option Refusal). unless_refused p why (destroy_done p busy (target p (commands.Destroy name snaps)))) (refusal_by_id ∙ none)
      ∙ ap (λ (at : Option ℕ). destroy_done p busy at) found

  pub refused_step : (busy : Option InUse) (why : Refusal) → first_of (use_cases p id snaps) ≡ Some why → key_step_found busy p (commands.Destroy name snaps) nothing_told ≡ refused p why
  refused_step busy why refusal =
      ap (λ (first : Option Refusal). unless_refused p first (destroy_done p busy (target p (commands.Destroy name snaps)))) (refusal_by_id ∙ refusal)

  pub own_use : (busy : Option InUse) → own_in_use p id ≡ busy → key_step p (commands.Destroy name snaps) nothing_told ≡ key_step_found busy p (commands.Destroy name snaps) nothing_told
  own_use busy own =
      ap (λ (used : Option InUse). key_step_found used p (commands.Destroy name snaps) nothing_told) (ap (λ (at : Option ℕ). option_and_then (own_in_use p) at) found ∙ own)

-- what the state refuses isn't busy
pub never_busy : (p : Plain) (id : ℕ) (snaps : Bool) (dataset count : ℕ) → first_of (use_cases p id snaps) ≡ Some (Busy dataset count) → ⊥
never_busy p id snaps dataset count = by (is_needed id p.tree.rows || snaps) (is_mounted p id) where
  by : (needed mounted : Bool) → cond needed (Some HasChildren) (cond mounted (Some Mounted) None) ≡ Some (Busy dataset count) → ⊥
  by true mounted is = cc
  by false true is = cc
  by false false is = cc

pub unneeded : (p : Plain) (id : ℕ) (snaps : Bool) → first_of (use_cases p id snaps) ≡ None → is_needed id p.tree.rows ≡ false
unneeded p id snaps = by (is_needed id p.tree.rows) snaps (is_mounted p id) where
  by : (needed others mounted : Bool) → cond (needed || others) (Some HasChildren) (cond mounted (Some Mounted) None) ≡ None → needed ≡ false
  by false others mounted none = refl
  by true others mounted none = absurd (cc)

-- ---- what stays of others

pub mapping_kept : (p : Plain) (id : ℕ) → Sound ciphers p → is_needed id p.tree.rows ≡ false → (other slot : ℕ) → other ≢ id → at_id other p.mapped ≡ Some slot → KeepsKey ciphers p (destroyed p id) other slot
mapping_kept p id s free other slot apart there = other_keeps ciphers p s id free other slot there apart

pub record_kept : (p : Plain) (id other : ℕ) (row : Row) → other ≢ id → row_of other p.tree.rows ≡ Some row → at_id (family p.tree.rows other) (destroyed p id).wrapped ≡ at_id (family p.tree.rows other) p.wrapped
record_kept p id other row apart there =
    ⊎_elim (λ (same : family p.tree.rows other ≡ family p.tree.rows id). record_of_family p id (relative p id other row there apart same) (family p.tree.rows other))
    (λ (strange : family p.tree.rows other ≢ family p.tree.rows id). record_of_other p id (family p.tree.rows other) strange) (cases_eq (family p.tree.rows other) (family p.tree.rows id))

-- there may be no mapping to close
pub unmapped_is : (p : Plain) (id : ℕ) → at_id id p.mapped ≡ None → p ≡ without_mapping p id
unmapped_is p id none = ap (λ (mapped : List (ℕ × ℕ)). let q : Plain = record p { mapped = mapped } in q) (sym (absent_stays id p.mapped none))

-- its mapping may go before it
pub mapping_first : (p q : Plain) (id : ℕ) → q ≡ without_mapping p id → destroyed q id ≡ destroyed p id
mapping_first p q id is =
    ap (λ (r : Plain). destroyed r id) is
    ∙ ap (λ (mapped : List (ℕ × ℕ)). let r : Plain = record (destroyed p id) { mapped = mapped } in r) (absent_stays id (without_id id p.mapped) (at_id-without_id id p.mapped))

-- ---- the dataset goes

some_row : (found : Option Row) → is_some found ≡ true → (row : Row) × (found ≡ Some row)
some_row None there = absurd (cc)
some_row (Some row) there = (row, refl)

module _ (s : Inside) (now : Plain) (view_is : plain_of s ≡ now) (kept : IsKept s) (id : ℕ) (there_now : is_some (row_of id now.tree.rows) ≡ true) (free_now : is_needed id now.tree.rows ≡ false)
    (unmapped_now : at_id id now.mapped ≡ None) where
  abbrev p : Plain
  p = plain_of s

  abbrev q : Plain
  q = destroyed p id

  pub free : is_needed id p.tree.rows ≡ false
  free = ap (λ (state : Plain). is_needed id state.tree.rows) view_is ∙ free_now

  pub records_rise : IsRisingById s.records.items
  records_rise = rising_records s.records.items kept.sound.tree.records

  pub counts_rise : IsRisingById s.mkey_counts.items
  counts_rise = rising_counts ciphers p kept.sound s.mkey_counts.items kept.mkeys

  unmapped : at_id id p.mapped ≡ None
  unmapped = ap (λ (state : Plain). at_id id state.mapped) view_is ∙ unmapped_now

  row_there : (row : Row) × (row_of id p.tree.rows ≡ Some row)
  row_there = some_row (row_of id p.tree.rows) (ap (λ (state : Plain). is_some (row_of id state.tree.rows)) view_is ∙ there_now)

  mapped_stays : without_id id p.mapped ≡ p.mapped
  mapped_stays = absent_stays id p.mapped unmapped

  records_are : without_id id p.wrapped ≡ q.wrapped
  records_are = sym (first_record p id row_there.0 row_there.1 kept.sound.tree free)

  mappings_found : All (λ mapping. at_id mapping.0 p.mapped ≡ Some mapping.1) p.mapped
  mappings_found = each_found p.mapped kept.sound.mappings.mapped

  apart_of : (other slot : ℕ) → at_id other p.mapped ≡ Some slot → other ≢ id
  apart_of other slot there same = let both : Some slot ≡ None = sym there ∙ ap (λ (n : ℕ). at_id n p.mapped) same ∙ unmapped in cc

  users_same : (first : ℕ) → mkey_users q first ≡ mkey_users p first
  users_same first =
      ap (λ (mapped : List (ℕ × ℕ)). mkey_users (record q { mapped = mapped }) first) mapped_stays
      ∙ count_same (λ (mapping : ℕ × ℕ). family q.tree.rows mapping.0 == first) (λ (mapping : ℕ × ℕ). family p.tree.rows mapping.0 == first) p.mapped
      (λ k d within.
      let mapping : ℕ × ℕ = get_or p.mapped k d in
      ap (λ (n : ℕ). n == first) (family_after p id free kept.sound.tree mapping.0 (apart_of mapping.0 mapping.1 (mappings_found k d within))))

  masters_same : (first : ℕ) → not (mkey_users p first == 0) ≡ true → mkey ciphers q first ≡ mkey ciphers p first
  masters_same first used =
      let one : (mapping : ℕ × ℕ) × (at_id mapping.0 p.mapped ≡ Some mapping.1) × (family p.tree.rows mapping.0 ≡ first) = mapped_of (λ mapping. at_id mapping.0 p.mapped ≡ Some mapping.1) p first mappings_found used in
      let keeps : KeepsKey ciphers p q one.0.0 one.0.1 = other_keeps ciphers p kept.sound id free one.0.0 one.0.1 one.1 (apart_of one.0.0 one.0.1 one.1) in
      ap (λ (n : ℕ). mkey ciphers q n) (sym (keeps.of_family ∙ one.2)) ∙ keeps.master ∙ ap (λ (n : ℕ). mkey ciphers p n) one.2

  opened : AreOpened ciphers q s.opened.items
  opened = opened_same ciphers p q s.opened.items (λ first. ap (λ (n : ℕ). not (n == 0)) (users_same first)) masters_same kept.opened

  counted : AreCounted q (without_id id s.mkey_counts.items)
  counted =
      ap (λ (counts : List (ℕ × ℕ)). without_id id counts) kept.mkeys ∙ counted_without (mkey_users p) id p.wrapped
      ∙ counted_alike (mkey_users p) (mkey_users q) (without_id id p.wrapped) (λ first. sym (users_same first)) ∙ ap (λ (wrapped : List (ℕ × Stored)). counted_by (mkey_users q) wrapped) records_are

  sound : Sound ciphers q
  sound = destroyed_sound ciphers p kept.sound id free (ap (λ (found : Option ℕ). option_and_then (mapping_in_use p id) found) unmapped)

  left : {X : Type 0} (P : ℕ × X → Type 0) (entries : List (ℕ × X)) → All P entries → All P (without_id id entries)
  left P entries all = All-kept P P (λ entry. not (entry.0 == id)) entries (λ entry holds kept. holds) all

  module _ (made : Inside) (same : made ≡ record s { tree = made.tree; roots = made.roots; records = made.records; loaded = made.loaded; mkey_counts = made.mkey_counts }) (tree_is : made.tree ≡ without_row s.tree id)
      (roots_is : made.roots ≡ without_id id s.roots) (records_is : made.records.items ≡ without_id id s.records.items) (loaded_is : made.loaded.items ≡ without_id id s.loaded.items)
      (counts_is : made.mkey_counts.items ≡ without_id id s.mkey_counts.items) where
    abbrev made_by : Datasets → List (ℕ × Props) → List (ℕ × Stored) → List (ℕ × List ℕ) → List (ℕ × ℕ) → Plain
    made_by tree roots wrapped loaded mapped = record p { tree = tree; roots = roots; wrapped = wrapped; loaded = loaded; mapped = mapped }

    made_is : plain_of made ≡ q
    made_is =
        ap plain_of same ∙ ap (λ (tree : Datasets). made_by tree made.roots (stored_records made.records.items) made.loaded.items p.mapped) tree_is
        ∙ ap (λ (roots : List (ℕ × Props)). made_by q.tree roots (stored_records made.records.items) made.loaded.items p.mapped) roots_is
        ∙ ap (λ (wrapped : List (ℕ × Stored)). made_by q.tree q.roots wrapped made.loaded.items p.mapped) (ap stored_records records_is ∙ without_id-stored id s.records.items ∙ records_are)
        ∙ ap (λ (loaded : List (ℕ × List ℕ)). made_by q.tree q.roots q.wrapped loaded p.mapped) loaded_is
        ∙ ap (λ (mapped : List (ℕ × ℕ)). made_by q.tree q.roots q.wrapped q.loaded mapped) (sym mapped_stays)

    pub forgotten_is : plain_of made ≡ destroyed now id
    forgotten_is = made_is ∙ ap (λ (state : Plain). destroyed state id) view_is

    pub forgotten_agrees : (t : Slots) → Agrees t now → Agrees t (plain_of made)
    forgotten_agrees t agrees =
        let was : Agrees t p = subst (λ (state : Plain). Agrees t state) (sym view_is) agrees in
        let still : Agrees t (record q { mapped = p.mapped }) = record { slots = was.slots; each = was.each } in
        subst (λ (state : Plain). Agrees t state) (sym made_is) (subst (λ (mapped : List (ℕ × ℕ)). Agrees t (record q { mapped = mapped })) (sym mapped_stays) still)

    pub forgotten_kept : vec_capacity s.records ≤ vec_capacity made.records → vec_capacity s.loaded ≤ vec_capacity made.loaded → vec_capacity s.mkey_counts ≤ vec_capacity made.mkey_counts → IsKept made
    forgotten_kept records_room loaded_room counts_room =
        let few : length (without_row s.tree id).rows ≤ length s.tree.rows = fewer_or_same (λ (row : Row). not (row.id == id)) s.tree.rows in
        let rows : length made.tree.rows ≡ length (without_row s.tree id).rows = ap (λ (t : Datasets). length t.rows) tree_is in
        let unopened : made.opened ≡ s.opened = ap (λ (i : Inside). i.opened) same in
        record {
          sound = subst (λ (state : Plain). Sound ciphers state) (sym made_is) sound;
          records = subst (λ (records : List (ℕ × FamilyRecord)). All (λ entry. is_some (parsed_record entry.1.wrapped) ≡ true) records) (sym records_is) (left (λ entry. is_some (parsed_record entry.1.wrapped) ≡ true) s.records.items kept.records);
          sizes = subst (λ (records : List (ℕ × FamilyRecord)). All (λ entry. IsRecordSize entry.1.block) records) (sym records_is) (left (λ entry. IsRecordSize entry.1.block) s.records.items kept.sizes);
          props = subst (λ (roots : List (ℕ × Props)). All (λ entry. KeepsIterations entry.1) roots) (sym roots_is) (left (λ entry. KeepsIterations entry.1) s.roots kept.props);
          by_family = rw unopened kept.by_family;
          opened = rw unopened (subst (λ (state : Plain). AreOpened ciphers state s.opened.items) (sym made_is) opened);
          mkeys = counts_is ∙ subst (λ (state : Plain). AreCounted state (without_id id s.mkey_counts.items)) (sym made_is) counted;
          room = record {
            datasets = omega (arith, rows, few, kept.room.datasets);
            records = omega (arith, kept.room.records, records_room);
            loaded = omega (arith, kept.room.loaded, loaded_room);
            mapped = rw (ap (λ (i : Inside). i.mapped) same) kept.room.mapped;
            mounted = rw (ap (λ (i : Inside). i.mounted) same) kept.room.mounted;
            opened = rw unopened kept.room.opened;
            mkeys = omega (arith, kept.room.mkeys, counts_room);
          };
        }
