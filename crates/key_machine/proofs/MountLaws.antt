-- Mounts, unmounts and reaps keep a sound state sound.
use Rattle.std.proofs.Common.{◌≡◌, ◌≢◌, ℕ, ◌+◌, ◌<◌, ◌≤◌, Bool, true, false, not, ◌==◌, ◌||◌, List, length, get_or, set, map, Option, Some, None, is_some, refl, ap, sym, ◌∙◌, subst, arith, if◌then◌else◌}
use Rattle.std.proofs.lemmas.Bool.{eqb-true}
use Rattle.std.proofs.lemmas.List.{get_or-map, length-map, length-set}
use Rattle.std.proofs.lemmas.List.Elements.{All-filter, All-set, All-weaker}
use Rattle.std.proofs.lemmas.List.Kept.{AllPairs-filter}
use Rattle.std.specs.List.{All, Contains, filter}
use Rattle.std.specs.Option.{option_and_then}
use Rattle.dataset_tree.specs.declared.tree.Row.{Row}
use Rattle.dataset_tree.specs.Tree.{IsTree, row_named}
use Rattle.encryption_roots.specs.declared.command.KeyCmd.TheVariants as commands
use Rattle.encryption_roots.specs.ById.{at_id, with_id}
use Rattle.encryption_roots.proofs.ByIdLemmas.{IsRisingById-with_id, at_id-with_id, at_id-with_id_other}
use Rattle.key_machine.specs.Free.{IsLowestFree}
use Rattle.key_machine.specs.Mount.{free_slot, is_mapped, is_mounted_row, has_slot_row, mount_cases, with_mounted, with_mapping, mounted_on, mounted_at, mount_done}
use Rattle.key_machine.specs.Plain.{Plain, Ciphers, has_key}
use Rattle.key_machine.specs.Reap.{mapping_in_use, own_in_use, without_mapping, reaped, reap_step}
use Rattle.key_machine.specs.Rekey.{has_key_row}
use Rattle.key_machine.specs.Sound.{Sound, SoundTree, SoundKeys, IsEncrypted}
use Rattle.key_machine.specs.Step.{refusal_of, target}
use Rattle.key_machine.specs.Unload.{InUse}
use Rattle.key_machine.specs.Unmount.{unmount_cases, with_unmounted, unmount_done}
use Rattle.key_machine.specs.Users.{generation_of, is_mounted, users_of, is_used, with_mount}
use Rattle.key_machine.proofs.CreateLawsStep.{NoneHolds, none_holds}
use Rattle.key_machine.proofs.KeyLists.{All-with_id, each_found}
use Rattle.key_machine.proofs.NamedLaws.{IsNamed, named, not_false, encrypted_named}
use Rattle.key_machine.proofs.SlotLaws.{lowest_free, slots_with, with_contains, all_with_mount, mounts_rise, other_generation}
use Rattle.key_machine.proofs.UnloadLaws.{closing_sound}

-- ---- what the state doesn't refuse

pub record IsMountable (p : Plain) (id : ℕ) : Type 0 where
  pub new : is_mounted p id ≡ false
  pub key : has_key p id ≡ true
  pub place : (is_mapped p id || is_some (free_slot p)) ≡ true

pub mountable : (p : Plain) (name : List ℕ) (id : ℕ) → refusal_of p (commands.Mount name) ≡ None → target p (commands.Mount name) ≡ Some id → IsMountable p id
mountable p name id accepted at =
    let none : NoneHolds (mount_cases p name) = none_holds (mount_cases p name) accepted in
    let is : IsNamed p name id = named p name id at in
    record {
      new = ap (λ (m : ℕ). is_mounted p m) (sym is.same) ∙ ap (λ (found : Option Row). is_mounted_row p found) (sym is.found) ∙ none.1.1.0;
      key = ap (λ (m : ℕ). has_key p m) (sym is.same) ∙ ap (λ (found : Option Row). has_key_row p found) (sym is.found) ∙ not_false (has_key_row p (row_named name p.tree.rows)) none.1.1.1.0;
      place = ap (λ (m : ℕ). is_mapped p m || is_some (free_slot p)) (sym is.same) ∙ ap (λ (found : Option Row). has_slot_row p found) (sym is.found)
          ∙ not_false (has_slot_row p (row_named name p.tree.rows)) none.1.1.1.1.0;
    }

pub mount_encrypted : (p : Plain) (name : List ℕ) (id : ℕ) → IsTree p.tree → refusal_of p (commands.Mount name) ≡ None → target p (commands.Mount name) ≡ Some id → IsEncrypted p id
mount_encrypted p name id tree accepted at =
    let none : NoneHolds (mount_cases p name) = none_holds (mount_cases p name) accepted in
    encrypted_named p name id tree (named p name id at) none.1.0

pub unmountable : (p : Plain) (name : List ℕ) (id : ℕ) → refusal_of p (commands.Unmount name) ≡ None → target p (commands.Unmount name) ≡ Some id → is_mounted p id ≡ true
unmountable p name id accepted at =
    let none : NoneHolds (unmount_cases p name) = none_holds (unmount_cases p name) accepted in
    let is : IsNamed p name id = named p name id at in
    ap (λ (m : ℕ). is_mounted p m) (sym is.same) ∙ ap (λ (found : Option Row). is_mounted_row p found) (sym is.found) ∙ not_false (is_mounted_row p (row_named name p.tree.rows)) none.1.1.0

-- ---- other generations, mappings and mounts

module _ (c : Ciphers) (p : Plain) (s : Sound c p) (gens : List ℕ) (mapped : List (ℕ × ℕ)) (mounted : List ℕ) where
  abbrev moved : Plain
  moved = record p { gens = gens; mapped = mapped; mounted = mounted }

  tree_moved : SoundTree moved
  tree_moved = record {
    tree = s.tree.tree;
    owners = s.tree.owners;
    roots = s.tree.roots;
    roots_encrypted = s.tree.roots_encrypted;
    no_clone = s.tree.no_clone;
    origins = s.tree.origins;
    records = s.tree.records;
    families = s.tree.families;
  }

  keys_moved : SoundKeys c moved
  keys_moved = record { loaded = s.keys.loaded; roots = s.keys.roots; opened = s.keys.opened }

module _ (c : Ciphers) (p : Plain) (s : Sound c p) (id : ℕ) where
  -- ---- mounted again

  remounted : is_mounted p id ≡ false → is_some (at_id id p.mapped) ≡ true → Sound c (with_mounted p id)
  remounted new there = record {
    tree = tree_moved c p s p.gens p.mapped (with_mount id p.mounted);
    mappings = record {
      mapped = s.mappings.mapped;
      encrypted = s.mappings.encrypted;
      slots = s.mappings.slots;
      keys = s.mappings.keys;
      mounted = mounts_rise id p.mounted s.mappings.mounted new;
      mounts = all_with_mount (λ other. is_some (at_id other p.mapped) ≡ true) id p.mounted s.mappings.mounts there;
    };
    keys = keys_moved c p s p.gens p.mapped (with_mount id p.mounted);
    users = record { one = s.users.one; mapped = s.users.mapped; present = s.users.present; few = s.users.few; riders = s.users.riders };
    slots = record { slots = s.slots.slots; generations = s.slots.generations; mapped = s.slots.mapped };
  }

  -- ---- mapped and mounted

  module _ (slot : ℕ) (free : IsLowestFree p slot) (absent : at_id id p.mapped ≡ None) where
    abbrev gens : List ℕ
    gens = set p.gens slot (generation_of p slot + 1)

    abbrev mapped : List (ℕ × ℕ)
    mapped = with_id id slot p.mapped

    -- a hold is on a slot that was taken
    held_apart : (at : ℕ) → Contains (map (λ mapping. mapping.1) p.mapped) at → at ≢ slot
    held_apart at contained same =
        let inside : contained.0 < length p.mapped = omega (arith, contained.1, length-map p.mapped (λ mapping. mapping.1)) in
        free.idle contained.0 (0, 0) inside (sym (get_or-map (λ (m : ℕ × ℕ). m.1) p.mapped contained.0 (0, 0) at inside) ∙ contained.2 ∙ same)

    still_mapped : (other : ℕ) → is_some (at_id other p.mapped) ≡ true → is_some (at_id other mapped) ≡ true
    still_mapped other there =
        let apart : other ≢ id = λ same. (let gone : at_id other p.mapped ≡ None = ap (λ m. at_id m p.mapped) same ∙ absent in let none : is_some (at_id other p.mapped) ≡ false = ap (λ found. is_some found) gone in cc) in
        ap (λ found. is_some found) (at_id-with_id_other id other slot p.mapped apart) ∙ there

    newly_mounted : IsEncrypted p id → has_key p id ≡ true → is_mounted p id ≡ false → Sound c (with_mounted (with_mapping p id slot) id)
    newly_mounted encrypted key new = record {
      tree = tree_moved c p s gens mapped (with_mount id p.mounted);
      mappings = record {
        mapped = IsRisingById-with_id id slot p.mapped s.mappings.mapped;
        encrypted = All-with_id (λ mapping. IsEncrypted p mapping.0) id slot p.mapped s.mappings.encrypted encrypted;
        slots = slots_with id slot p.mapped s.mappings.slots free.idle;
        keys = All-with_id (λ mapping. has_key p mapping.0 ≡ true) id slot p.mapped s.mappings.keys key;
        mounted = mounts_rise id p.mounted s.mappings.mounted new;
        mounts = all_with_mount (λ other. is_some (at_id other mapped) ≡ true) id p.mounted
            (All-weaker (λ other. is_some (at_id other p.mapped) ≡ true) (λ other. is_some (at_id other mapped) ≡ true) still_mapped p.mounted s.mappings.mounts)
            (ap (λ found. is_some found) (at_id-with_id id slot p.mapped));
      };
      keys = keys_moved c p s gens mapped (with_mount id p.mounted);
      users = record {
        one = s.users.one;
        mapped = λ k d within. with_contains id slot (get_or p.users k d).slot p.mapped absent (s.users.mapped k d within);
        present = λ k d within. s.users.present k d within ∙ sym (other_generation p slot (get_or p.users k d).slot (generation_of p slot + 1) (held_apart (get_or p.users k d).slot (s.users.mapped k d within)));
        few = s.users.few;
        riders = s.users.riders;
      };
      slots = record {
        slots = length-set p.gens slot (generation_of p slot + 1) ∙ s.slots.slots;
        generations = All-set (λ generation. generation ≤ 1073741823) p.gens slot (generation_of p slot + 1) (let left : generation_of p slot < 1073741823 = free.left in omega (arith, left)) s.slots.generations;
        mapped = All-with_id (λ mapping. mapping.1 < 256) id slot p.mapped s.slots.mapped free.there;
      };
    }

  by_free : IsEncrypted p id → IsMountable p id → at_id id p.mapped ≡ None → (free : Option ℕ) → free_slot p ≡ free → Sound c (mounted_on p id free).state
  by_free encrypted is absent None found = s
  by_free encrypted is absent (Some slot) found = newly_mounted slot (lowest_free p slot found) absent encrypted is.key is.new

  by_place : IsEncrypted p id → IsMountable p id → (place : Option ℕ) → at_id id p.mapped ≡ place → Sound c (mounted_at p id place).state
  by_place encrypted is None absent = by_free encrypted is absent (free_slot p) refl
  by_place encrypted is (Some slot) there = remounted is.new (ap (λ found. is_some found) there)

  unmounted : Sound c (with_unmounted p id)
  unmounted = record {
    tree = tree_moved c p s p.gens p.mapped (filter (λ other. not (other == id)) p.mounted);
    mappings = record {
      mapped = s.mappings.mapped;
      encrypted = s.mappings.encrypted;
      slots = s.mappings.slots;
      keys = s.mappings.keys;
      mounted = AllPairs-filter (λ a b. a < b) (λ other. not (other == id)) p.mounted s.mappings.mounted;
      mounts = All-filter (λ other. not (other == id)) (λ other. is_some (at_id other p.mapped) ≡ true) p.mounted s.mappings.mounts;
    };
    keys = keys_moved c p s p.gens p.mapped (filter (λ other. not (other == id)) p.mounted);
    users = record { one = s.users.one; mapped = s.users.mapped; present = s.users.present; few = s.users.few; riders = s.users.riders };
    slots = record { slots = s.slots.slots; generations = s.slots.generations; mapped = s.slots.mapped };
  }

pub mount_sound : (c : Ciphers) (p : Plain) (name : List ℕ) → Sound c p → refusal_of p (commands.Mount name) ≡ None → (found : Option ℕ) → target p (commands.Mount name) ≡ found → Sound c (mount_done p found).state
mount_sound c p name s accepted None at = s
mount_sound c p name s accepted (Some id) at =
    by_place c p s id (mount_encrypted p name id s.tree.tree accepted at) (mountable p name id accepted at) (at_id id p.mapped) refl

pub unmount_sound : (c : Ciphers) (p : Plain) (found : Option ℕ) → Sound c p → Sound c (unmount_done p found).state
unmount_sound c p None s = s
unmount_sound c p (Some id) s = unmounted c p s id

-- ---- a mapping without users goes

unused : (p : Plain) (dataset slot : ℕ) → mapping_in_use p dataset slot ≡ None → users_of p (dataset, slot) ≡ 0
unused p dataset slot none = by (is_used p (dataset, slot)) refl none where
  zero_of : (n : ℕ) → not (n == 0) ≡ false → n ≡ 0
  zero_of n h = eqb-true n 0 (not_false (n == 0) h)

  by : (used : Bool) → is_used p (dataset, slot) ≡ used
      → (if used then Some (let busy : InUse = record { dataset = dataset; count = users_of p (dataset, slot) } in busy) else None) ≡ None → users_of p (dataset, slot) ≡ 0
  by true is none = absurd (cc)
  by false is none = zero_of (users_of p (dataset, slot)) is

module _ (c : Ciphers) (p : Plain) (s : Sound c p) (dataset : ℕ) where
  -- of its own mapping, which is the only one of the dataset
  idle_own : (slot : ℕ) → at_id dataset p.mapped ≡ Some slot → users_of p (dataset, slot) ≡ 0 → All (λ mapping. not (mapping.0 == dataset) ≡ false → users_of p mapping ≡ 0) p.mapped
  idle_own slot there none k d within own =
      let mapping : ℕ × ℕ = get_or p.mapped k d in
      let same : mapping.0 ≡ dataset = eqb-true mapping.0 dataset (not_false (mapping.0 == dataset) own) in
      let found : at_id mapping.0 p.mapped ≡ Some mapping.1 = each_found p.mapped s.mappings.mapped k d within in
      let both : Some mapping.1 ≡ Some slot = sym found ∙ ap (λ m. at_id m p.mapped) same ∙ there in
      let at : mapping.1 ≡ slot = cc in
      ap (λ m. users_of p (m, mapping.1)) same ∙ ap (λ m. users_of p (dataset, m)) at ∙ none

  -- where its close finds nothing, or there is nothing to close
  pub idle_unless : own_in_use p dataset ≡ None → All (λ mapping. not (mapping.0 == dataset) ≡ false → users_of p mapping ≡ 0) p.mapped
  idle_unless none = by (at_id dataset p.mapped) refl none where
    by : (place : Option ℕ) → at_id dataset p.mapped ≡ place → option_and_then (mapping_in_use p dataset) place ≡ None → All (λ mapping. not (mapping.0 == dataset) ≡ false → users_of p mapping ≡ 0) p.mapped
    by None absent none = λ k d within own.
        let mapping : ℕ × ℕ = get_or p.mapped k d in
        let same : mapping.0 ≡ dataset = eqb-true mapping.0 dataset (not_false (mapping.0 == dataset) own) in
        let found : at_id mapping.0 p.mapped ≡ Some mapping.1 = each_found p.mapped s.mappings.mapped k d within in
        absurd (let both : Some mapping.1 ≡ None = sym found ∙ ap (λ m. at_id m p.mapped) same ∙ absent in cc)
    by (Some slot) there none = idle_own slot there (unused p dataset slot none)

  pub unmapped_sound : (slot : ℕ) → at_id dataset p.mapped ≡ Some slot → users_of p (dataset, slot) ≡ 0 → Sound c (without_mapping p dataset)
  unmapped_sound slot there none =
      closing_sound c p s (λ id. not (id == dataset)) (idle_own slot there none) p.loaded (record { loaded = s.keys.loaded; roots = s.keys.roots; opened = s.keys.opened })
      (All-filter (λ mapping. not (mapping.0 == dataset)) (λ mapping. has_key p mapping.0 ≡ true) p.mapped s.mappings.keys)

  by_use : (slot : ℕ) → at_id dataset p.mapped ≡ Some slot → (found : Option InUse) → mapping_in_use p dataset slot ≡ found → Sound c (reaped p dataset (Some slot) found).state
  by_use slot there None none = unmapped_sound slot there (unused p dataset slot none)
  by_use slot there (Some busy) found = s

  by_mapping : (place : Option ℕ) → at_id dataset p.mapped ≡ place → Sound c (reaped p dataset place (own_in_use p dataset)).state
  by_mapping None absent = s
  by_mapping (Some slot) there =
      subst (λ (found : Option InUse). Sound c (reaped p dataset (Some slot) found).state) (sym (own_is slot there)) (by_use slot there (mapping_in_use p dataset slot) refl)
    where
      own_is : (slot : ℕ) → at_id dataset p.mapped ≡ Some slot → own_in_use p dataset ≡ mapping_in_use p dataset slot
      own_is slot there = rw there refl

pub reap_sound : (c : Ciphers) (p : Plain) (dataset : ℕ) → Sound c p → Sound c (reap_step p dataset).state
reap_sound c p dataset s = by_mapping c p s dataset (at_id dataset p.mapped) refl
