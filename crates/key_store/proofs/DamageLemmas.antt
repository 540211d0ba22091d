-- A record of a family in the place of another one, where no key is loaded, keeps a state sound.
use Rattle.std.proofs.Common.{◌≡◌, ◌≤◌, ⊎_elim, ℕ, true, List, [], Some, is_some, ap, sym, ◌∙◌, subst, arith}
use Rattle.std.proofs.lemmas.Bool.{cases_eq}
use Rattle.encryption_roots.specs.ById.{at_id, with_id}
use Rattle.encryption_roots.proofs.ByIdLemmas.{IsRisingById-with_id, at_id-with_id, at_id-with_id_other}
use Rattle.key_machine.specs.Plain.{Plain, Stored, Ciphers}
use Rattle.key_machine.specs.Sound.{Sound}
use Rattle.key_machine.proofs.KeyLists.{All-with_id, at_id_is}
use Rattle.std.specs.Prelude.{vec_capacity}
use Rattle.std.specs.List.{All}
use Rattle.std.proofs.lemmas.List.Elements.{All-map}
use Rattle.encryption_roots.specs.RecordSize.{IsRecordSize}
use Rattle.wrapped_keys.specs.Stored.{parsed_record}
use Rattle.key_ciphers.specs.Ciphers.{ciphers}
use Rattle.key_store.proofs.OpenedLemmas.{unloaded_opened}
use Rattle.key_store.specs.declared.state.FamilyRecord.{FamilyRecord}
use Rattle.key_store.specs.declared.state.KeyState.TheInside.{Inside}
use Rattle.key_store.specs.State.{plain_of, stored_of, stored_records, AreCounted, IsKept}
use Rattle.key_store.proofs.UseLemmas.{replaced_counted}
use Rattle.key_store.proofs.RecordLemmas.{with_id-stored}

module _ (c : Ciphers) (p : Plain) (s : Sound c p) (none : p.loaded ≡ []) (id : ℕ) (value : Stored) (there : is_some (at_id id p.wrapped) ≡ true) where
  same_there : (at : ℕ) → is_some (at_id at (with_id id value p.wrapped)) ≡ is_some (at_id at p.wrapped)
  same_there at =
      ⊎_elim
      (λ (same : at ≡ id). subst (λ (n : ℕ). is_some (at_id n (with_id id value p.wrapped)) ≡ is_some (at_id n p.wrapped)) (sym same) (ap (λ found. is_some found) (at_id-with_id id value p.wrapped) ∙ sym there))
      (λ apart. ap (λ found. is_some found) (at_id-with_id_other id at value p.wrapped apart)) (cases_eq at id)

  not_loaded : (root : ℕ) (key : List ℕ) → at_id root p.loaded ≡ Some key → ⊥
  not_loaded root key found = let gone : at_id root [] ≡ Some key = subst (λ (l : List (ℕ × List ℕ)). at_id root l ≡ Some key) none found in absurd (cc)

  pub replaced_sound : Sound c (record p { wrapped = with_id id value p.wrapped })
  replaced_sound = record {
    tree = record {
      tree = s.tree.tree;
      owners = s.tree.owners;
      roots = s.tree.roots;
      roots_encrypted = s.tree.roots_encrypted;
      no_clone = s.tree.no_clone;
      origins = s.tree.origins;
      records = IsRisingById-with_id id value p.wrapped s.tree.records;
      families = λ at. (λ found. (s.tree.families at).0 (sym (same_there at) ∙ found), λ dataset. same_there at ∙ (s.tree.families at).1 dataset);
    };
    mappings = record {
      mapped = s.mappings.mapped;
      encrypted = s.mappings.encrypted;
      slots = s.mappings.slots;
      keys = s.mappings.keys;
      mounted = s.mappings.mounted;
      mounts = s.mappings.mounts;
    };
    keys = record { loaded = s.keys.loaded; roots = s.keys.roots; opened = λ root at key found owner. absurd (not_loaded root key found) };
    users = record { one = s.users.one; mapped = s.users.mapped; present = s.users.present; few = s.users.few; riders = s.users.riders };
    slots = record { slots = s.slots.slots; generations = s.slots.generations; mapped = s.slots.mapped };
  }

-- ---- a record that is replaced

module _ (s : Inside) (now : Plain) (view_is : plain_of s ≡ now) (kept : IsKept s) (none : s.loaded.items ≡ []) (family : ℕ) (stored : FamilyRecord) (found : Some (stored_of stored) ≡ at_id family now.wrapped)
    (wrapped : List ℕ) (form : is_some (parsed_record wrapped) ≡ true) where
  abbrev value : FamilyRecord
  value = record { wrapped = wrapped; block = stored.block }

  here : at_id family (stored_records s.records.items) ≡ Some (stored_of stored)
  here = ap (λ (p : Plain). at_id family p.wrapped) view_is ∙ sym found

  size : IsRecordSize stored.block
  size = at_id_is (λ (entry : ℕ × Stored). IsRecordSize entry.1.block) family (stored_records s.records.items) (stored_of stored)
      (All-map (λ (entry : ℕ × Stored). IsRecordSize entry.1.block) (λ (entry : ℕ × FamilyRecord). (entry.0, stored_of entry.1)) s.records.items kept.sizes) here

  pub replaced_kept : (made : Inside) → made ≡ record s { records = made.records } → made.records.items ≡ with_id family value s.records.items → vec_capacity s.records ≤ vec_capacity made.records → IsKept made
  replaced_kept made same records_is records_room =
      let stored_is : stored_records made.records.items ≡ with_id family (stored_of value) (stored_records s.records.items) = ap stored_records records_is ∙ with_id-stored family value s.records.items in
      let made_is : plain_of (record s { records = made.records }) ≡ record (plain_of s) { wrapped = with_id family (stored_of value) (stored_records s.records.items) } =
      ap (λ (w : List (ℕ × Stored)). let q : Plain = record (plain_of s) { wrapped = w } in q) stored_is in
      subst IsKept (sym same)
      (record {
        sound = subst (λ (p : Plain). Sound ciphers p) (sym made_is) (replaced_sound ciphers (plain_of s) kept.sound none family (stored_of value) (ap (λ f. is_some f) here));
        records = subst (λ (records : List (ℕ × FamilyRecord)). All (λ entry. is_some (parsed_record entry.1.wrapped) ≡ true) records) (sym records_is)
            (All-with_id (λ (entry : ℕ × FamilyRecord). is_some (parsed_record entry.1.wrapped) ≡ true) family value s.records.items kept.records form);
        sizes = subst (λ (records : List (ℕ × FamilyRecord)). All (λ entry. IsRecordSize entry.1.block) records) (sym records_is)
            (All-with_id (λ (entry : ℕ × FamilyRecord). IsRecordSize entry.1.block) family value s.records.items kept.sizes size);
        props = kept.props;
        by_family = kept.by_family;
        opened = unloaded_opened ciphers (plain_of s) (stored_records made.records.items) s.opened.items kept.sound none kept.opened;
        mkeys = subst (λ (w : List (ℕ × Stored)). AreCounted (record (plain_of s) { wrapped = w }) s.mkey_counts.items) (sym stored_is)
            (replaced_counted (plain_of s) family (stored_of value) s.mkey_counts.items (ap (λ f. is_some f) here) kept.sound.tree.records kept.mkeys);
        room = record {
          datasets = kept.room.datasets;
          records = omega (arith, kept.room.records, records_room);
          loaded = kept.room.loaded;
          mapped = kept.room.mapped;
          mounted = kept.room.mounted;
          opened = kept.room.opened;
          mkeys = kept.room.mkeys;
        };
      })
