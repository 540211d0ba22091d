-- The records as the plain state shows them.
use Rattle.std.proofs.Common.{◌≡◌, ℕ, ◌<◌, true, false, cond, not, ◌==◌, nat_lt, List, [], ◌∷◌, length, get_or, map, Some, refl, ap, arith}
use Rattle.std.proofs.lemmas.List.{get_or-map, length-map}
use Rattle.std.specs.Option.{option_map}
use Rattle.encryption_roots.specs.ById.{IsRisingById, at_id, with_id, without_id}
use Rattle.key_machine.specs.Plain.{Stored}
use Rattle.key_store.specs.declared.state.FamilyRecord.{FamilyRecord}
use Rattle.key_store.specs.State.{stored_of, stored_records}

abbrev shown : ℕ × FamilyRecord → ℕ × Stored
shown entry = (entry.0, stored_of entry.1)

pub rising_records : (records : List (ℕ × FamilyRecord)) → IsRisingById (stored_records records) → IsRisingById records
rising_records records rising i j d before within =
    let long : length (map shown records) ≡ length records = length-map records shown in
    let low : get_or (map shown records) i (shown d) ≡ shown (get_or records i d) = get_or-map shown records i d (shown d) (omega arith) in
    let high : get_or (map shown records) j (shown d) ≡ shown (get_or records j d) = get_or-map shown records j d (shown d) (omega arith) in
    let ordered : (get_or (map shown records) i (shown d)).0 < (get_or (map shown records) j (shown d)).0 = rising i j (shown d) before (omega arith) in
    rw (low, high) at ordered

pub at_id-stored : (id : ℕ) (records : List (ℕ × FamilyRecord)) → at_id id (stored_records records) ≡ option_map stored_of (at_id id records)
at_id-stored id [] = refl
at_id-stored id (entry ∷ records) =
    let rest : at_id id (stored_records records) ≡ option_map stored_of (at_id id records) = at_id-stored id records in
    elim (entry.0 == id) as (λ b. cond b (Some (stored_of entry.1)) (at_id id (stored_records records)) ≡ option_map stored_of (cond b (Some entry.1) (at_id id records))) [ true ↦ refl | false ↦ rest ]

pub with_id-stored : (id : ℕ) (value : FamilyRecord) (records : List (ℕ × FamilyRecord)) → stored_records (with_id id value records) ≡ with_id id (stored_of value) (stored_records records)
with_id-stored id value [] = refl
with_id-stored id value (entry ∷ records) =
    let rest : stored_records (with_id id value records) ≡ with_id id (stored_of value) (stored_records records) = with_id-stored id value records in
    let stored : List (ℕ × Stored) = stored_records records in
    elim (nat_lt entry.0 id) as (λ b. stored_records (cond b (entry ∷ with_id id value records) (cond (entry.0 == id) ((id, value) ∷ records) ((id, value) ∷ entry ∷ records)))
    ≡ cond b (shown entry ∷ with_id id (stored_of value) stored) (cond (entry.0 == id) ((id, stored_of value) ∷ stored) ((id, stored_of value) ∷ shown entry ∷ stored))) [
      | true ↦ ap (λ (tail : List (ℕ × Stored)). shown entry ∷ tail) rest
      | false ↦ elim (entry.0 == id) as (λ b. stored_records (cond b ((id, value) ∷ records) ((id, value) ∷ entry ∷ records)) ≡ cond b ((id, stored_of value) ∷ stored) ((id, stored_of value) ∷ shown entry ∷ stored)) [
        | true ↦ refl
        | false ↦ refl
      ]
    ]

pub without_id-stored : (id : ℕ) (records : List (ℕ × FamilyRecord)) → stored_records (without_id id records) ≡ without_id id (stored_records records)
without_id-stored id [] = refl
without_id-stored id (entry ∷ records) =
    let rest : stored_records (without_id id records) ≡ without_id id (stored_records records) = without_id-stored id records in
    elim (entry.0 == id) as (λ b. stored_records (cond (not b) (entry ∷ without_id id records) (without_id id records)) ≡ cond (not b) (shown entry ∷ without_id id (stored_records records)) (without_id id (stored_records records))) [
      | true ↦ rest
      | false ↦ ap (λ (tail : List (ℕ × Stored)). shown entry ∷ tail) rest
    ]
