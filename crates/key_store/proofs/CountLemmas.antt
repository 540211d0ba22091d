-- What is counted, as lists.
use Rattle.std.proofs.Common.{◌≡◌, ⊎_elim, ℕ, ◌+◌, ◌<◌, ◌≤◌, Bool, true, false, cond, IfSome, List, [], ◌∷◌, ◌++◌, length, map, Some, refl, ap, sym, ◌∙◌, subst, arith}
use Rattle.std.proofs.lemmas.Bool.{cases_Bool}
use Rattle.std.proofs.lemmas.List.{map_push}
use Rattle.std.proofs.lemmas.List.Elements.{All-nil, All-push}
use Rattle.std.proofs.lemmas.List.Sums.{sum_by-cons, count_by-le-length}
use Rattle.std.specs.List.{All, count_by, filter}
use Rattle.encryption_roots.specs.ById.{at_id}
use Rattle.mapping_words.specs.Told.{Told, slot_at, told_count, mount_count}
use Rattle.mapping_words.specs.declared.slot.Slot.{Slot}
use Rattle.key_machine.specs.Plain.{Plain, Stored}
use Rattle.key_machine.specs.Users.{generation_of, is_mounted, users_of}
use Rattle.key_machine.proofs.KeyLists.{at_id_is, each_found}
use Rattle.key_ciphers.specs.Ciphers.{ciphers}
use Rattle.key_store.specs.Agrees.{Agrees, is_mounted_on}
use Rattle.key_store.specs.Counts.{mounts_of, ShowsMapping, ShowsMappings}
use Rattle.key_store.specs.State.{plain_of, stored_of, stored_records, IsKept}
use Rattle.key_store.specs.declared.state.FamilyRecord.{FamilyRecord}
use Rattle.key_store.specs.declared.state.KeyState.TheInside.{Inside}
use Rattle.key_store.proofs.SlotLemmas.{own_mounted}
use Rattle.key_store.proofs.RoomLemmas.{records_fit}

-- ---- records, by family

pub stored_listed : {Y : Type 0} (test : ℕ → Bool) (shown : ℕ → Y) (records : List (ℕ × FamilyRecord))
    → map (λ entry. shown entry.0) (filter (λ entry. test entry.0) records) ≡ map (λ entry. shown entry.0) (filter (λ entry. test entry.0) (stored_records records))
stored_listed test shown [] = refl
stored_listed test shown (entry ∷ records) = ⊎_elim (λ (passes : test entry.0 ≡ true). rw passes (ap (λ rest. shown entry.0 ∷ rest) (stored_listed test shown records)))
    (λ (fails : test entry.0 ≡ false). rw fails (stored_listed test shown records)) (cases_Bool (test entry.0))

pub stored_counted : (test : ℕ → Bool) (records : List (ℕ × FamilyRecord)) → count_by (λ entry. test entry.0) records ≡ count_by (λ entry. test entry.0) (stored_records records)
stored_counted test [] = refl
stored_counted test (entry ∷ records) =
    sum_by-cons (λ (e : ℕ × FamilyRecord). cond (test e.0) 1 0) entry records ∙ ap (λ n. cond (test entry.0) 1 0 + n) (stored_counted test records)
    ∙ sym (sum_by-cons (λ (e : ℕ × Stored). cond (test e.0) 1 0) (entry.0, stored_of entry.1) (stored_records records))

-- ---- few are counted

module _ (s : Inside) (kept : IsKept s) where
  pub few_records : (test : ℕ → Bool) → count_by (λ entry. test entry.0) s.records.items ≤ 256
  few_records test =
      let same : count_by (λ entry. test entry.0) s.records.items ≡ count_by (λ entry. test entry.0) (stored_records s.records.items) = stored_counted test s.records.items in
      let counted : count_by (λ entry. test entry.0) (stored_records s.records.items) ≤ length (stored_records s.records.items) = count_by-le-length (λ entry. test entry.0) (stored_records s.records.items) in
      let few : length (stored_records s.records.items) ≤ length s.tree.rows = records_fit ciphers (plain_of s) kept.sound in
      let rows : length s.tree.rows ≤ 256 = kept.room.datasets in
      omega (arith, same, counted, few, rows)

-- ---- mappings

no_holds : (b : Bool) → cond b 1 0 + 0 ≡ cond b 1 0
no_holds true = refl
no_holds false = refl

told_is : (tells : Bool) (slot : Slot) (count : ℕ) → tells ≡ true → IfSome (told_count tells slot) (λ n. count ≡ n) → count ≡ mount_count slot
told_is true slot count known told = told
told_is false slot count known told = absurd (cc)

pub row_shown : (now : Plain) (t : Told) (agrees : Agrees t now) (id slot : ℕ) → slot < 256 → is_mounted_on now slot ≡ is_mounted now id → users_of now (id, slot) ≡ mounts_of now id → (tells : Bool) (count generation : ℕ)
    → IfSome (told_count tells (slot_at t slot)) (λ n. count ≡ n) → mount_count (slot_at t slot) ≤ count → generation ≡ generation_of now slot → ShowsMapping tells now (id, slot) (id, count, generation)
row_shown now t agrees id slot within own users tells count generation told least risen =
    let mounted : (slot_at t slot).is_mounted ≡ is_mounted now id = ap (λ (found : Slot). found.is_mounted) (agrees.each slot within) ∙ own in
    let mount : mount_count (slot_at t slot) ≡ mounts_of now id = ap (λ b. cond b 1 0) mounted in
    record {
      dataset = refl;
      generation = risen;
      count = subst (λ (n : ℕ). n ≤ count) mount least;
      exact = λ known. told_is tells (slot_at t slot) count known told ∙ mount ∙ sym users;
    }

module _ (s : Inside) (now : Plain) (view_is : plain_of s ≡ now) (kept : IsKept s) where
  pub each_mapped : All (λ mapping. at_id mapping.0 now.mapped ≡ Some mapping.1) s.mapped.items
  each_mapped = subst (λ (q : Plain). All (λ mapping. at_id mapping.0 q.mapped ≡ Some mapping.1) s.mapped.items) view_is (each_found s.mapped.items kept.sound.mappings.mapped)

  module _ (id slot : ℕ) (there_now : at_id id now.mapped ≡ Some slot) where
    there : at_id id s.mapped.items ≡ Some slot
    there = ap (λ (q : Plain). at_id id q.mapped) view_is ∙ there_now

    pub slot_within : slot < 256
    slot_within = at_id_is (λ (mapping : ℕ × ℕ). mapping.1 < 256) id s.mapped.items slot kept.sound.slots.mapped there

    pub gens_there : slot < length s.gens.items
    gens_there = let within : slot < 256 = slot_within in let long : length s.gens.items ≡ 256 = kept.sound.slots.slots in omega (arith, within, long)

    pub own_mount_now : is_mounted_on now slot ≡ is_mounted now id
    own_mount_now = subst (λ (q : Plain). is_mounted_on q slot ≡ is_mounted q id) view_is (own_mounted (plain_of s) id slot kept.sound.mappings.mapped kept.sound.mappings.slots there)

    pub mount_alone : users_of now (id, slot) ≡ mounts_of now id
    mount_alone = subst (λ (q : Plain). users_of q (id, slot) ≡ mounts_of q id) view_is (no_holds (is_mounted (plain_of s) id))

pub none_shown : (tells : Bool) (p : Plain) → ShowsMappings tells p [] []
none_shown tells p = record { datasets = refl; generations = refl; counts = All-nil _; exact = λ known. refl }

pub more_shown : (tells : Bool) (p : Plain) (mapped : List (ℕ × ℕ)) (maps : List (ℕ × ℕ × ℕ)) (mapping : ℕ × ℕ) (row : ℕ × ℕ × ℕ) → ShowsMappings tells p mapped maps → ShowsMapping tells p mapping row
    → ShowsMappings tells p (mapped ++ mapping ∷ []) (maps ++ row ∷ [])
more_shown tells p mapped maps mapping row before shown =
    let row_of : ℕ × ℕ → ℕ × ℕ × ℕ = λ m. (m.0, users_of p m, generation_of p m.1) in
    record {
      datasets = map_push (λ (r : ℕ × ℕ × ℕ). r.0) maps row ∙ ap (λ ids. ids ++ row.0 ∷ []) before.datasets ∙ ap (λ id. map (λ (m : ℕ × ℕ). m.0) mapped ++ id ∷ []) shown.dataset ∙ sym (map_push (λ (m : ℕ × ℕ). m.0) mapped mapping);
      generations =
          map_push (λ (r : ℕ × ℕ × ℕ). r.2) maps row ∙ ap (λ ns. ns ++ row.2 ∷ []) before.generations ∙ ap (λ n. map (λ (m : ℕ × ℕ). generation_of p m.1) mapped ++ n ∷ []) shown.generation
          ∙ sym (map_push (λ (m : ℕ × ℕ). generation_of p m.1) mapped mapping);
      counts = All-push (λ (r : ℕ × ℕ × ℕ). mounts_of p r.0 ≤ r.1) maps row before.counts shown.count;
      exact = λ known.
          ap (λ rows. rows ++ row ∷ []) (before.exact known) ∙ ap (λ id. map row_of mapped ++ (id, row.1, row.2) ∷ []) shown.dataset
          ∙ ap (λ n. map row_of mapped ++ (mapping.0, n, row.2) ∷ []) (shown.exact known) ∙ ap (λ n. map row_of mapped ++ (mapping.0, users_of p mapping, n) ∷ []) shown.generation
          ∙ sym (map_push row_of mapped mapping);
    }
