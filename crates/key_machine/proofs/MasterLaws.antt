-- A family's master key is the same where its record, its owner and that owner's loaded key are.
use Rattle.std.proofs.Common.{◌≡◌, ℕ, List, Option, Some, None, refl, ap, ◌∙◌}
use Rattle.std.specs.Option.{option_and_then}
use Rattle.encryption_roots.specs.ById.{at_id}
use Rattle.key_machine.specs.Plain.{Plain, Stored, Ciphers, owner_of, mkey}

module _ (c : Ciphers) (p q : Plain) (first : ℕ) (records : at_id first q.wrapped ≡ at_id first p.wrapped) (owners : owner_of q first ≡ owner_of p first)
    (keys : (root : ℕ) → owner_of p first ≡ Some root → at_id root q.loaded ≡ at_id root p.loaded) where
  opened_by : (stored : Stored) (found : Option ℕ) → owner_of p first ≡ found
      → option_and_then (λ root. option_and_then (λ key. c.opens stored.wrapped key) (at_id root q.loaded)) found ≡ option_and_then (λ root. option_and_then (λ key. c.opens stored.wrapped key) (at_id root p.loaded)) found
  opened_by stored None owner = refl
  opened_by stored (Some root) owner = ap (λ (key : Option (List ℕ)). option_and_then (λ k. c.opens stored.wrapped k) key) (keys root owner)

  stored_by : (found : Option Stored)
      → option_and_then (λ stored. option_and_then (λ root. option_and_then (λ key. c.opens stored.wrapped key) (at_id root q.loaded)) (owner_of p first)) found
      ≡ option_and_then (λ stored. option_and_then (λ root. option_and_then (λ key. c.opens stored.wrapped key) (at_id root p.loaded)) (owner_of p first)) found
  stored_by None = refl
  stored_by (Some stored) = opened_by stored (owner_of p first) refl

  pub master_alike : mkey c q first ≡ mkey c p first
  master_alike =
      ap (λ (found : Option Stored). option_and_then (λ stored. option_and_then (λ root. option_and_then (λ key. c.opens stored.wrapped key) (at_id root q.loaded)) (owner_of q first)) found) records
      ∙ ap (λ (owner : Option ℕ). option_and_then (λ stored. option_and_then (λ root. option_and_then (λ key. c.opens stored.wrapped key) (at_id root q.loaded)) owner) (at_id first p.wrapped)) owners
      ∙ stored_by (at_id first p.wrapped)
