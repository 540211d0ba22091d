-- In a sound state a loaded key opens the records of its root's families.
use Rattle.std.proofs.Common.{◌≡◌, ℕ, true, List, Option, Some, None, get_or, is_some, IfSome, refl, ap, sym, ◌∙◌}
use Rattle.std.specs.Option.{option_and_then}
use Rattle.dataset_tree.specs.declared.tree.Row.{Row}
use Rattle.dataset_tree.specs.Tree.{row_of}
use Rattle.dataset_tree.proofs.TreeLemmas.{ids_find}
use Rattle.encryption_roots.specs.ById.{at_id}
use Rattle.encryption_roots.specs.Owners.{family, HasHeirsAsClones}
use Rattle.encryption_roots.proofs.OwnerLemmas.{owner_of_family}
use Rattle.key_machine.specs.Plain.{Plain, Stored, Ciphers, owner_of, has_key, has_key_of, mkey}
use Rattle.key_machine.specs.Sound.{Sound, IsEncrypted}

no_props : {X : Type 0} (found : Option X) → (is_some found ≡ true → ⊥) → found ≡ None
no_props None never = refl
no_props (Some x) never = absurd (never refl)

module _ (c : Ciphers) (p : Plain) (s : Sound c p) where
  pub heirs : HasHeirsAsClones p.tree p.roots
  heirs = (
    s.tree.tree,
    λ k d within clone.
        let row : Row = get_or p.tree.rows k d in
        let found : row_of row.id p.tree.rows ≡ Some row = ids_find p.tree s.tree.tree k d within in
        ((s.tree.origins k d within clone).0, no_props (at_id row.id p.roots) (λ root. clone (s.tree.no_clone row.id row found root))),
  )

-- where the parts are there
opened_by : (c : Ciphers) (p : Plain) (id : ℕ) (owner : Option ℕ) (stored : Option Stored) → owner_of p id ≡ owner → at_id id p.wrapped ≡ stored → has_key_of p owner ≡ true → is_some stored ≡ true
    → ((root : ℕ) (key : List ℕ) → at_id root p.loaded ≡ Some key → owner ≡ Some root → IfSome stored (λ s. is_some (c.opens s.wrapped key) ≡ true)) → is_some (mkey c p id) ≡ true
opened_by c p id None stored is_owner is_stored has there opens = absurd (cc)
opened_by c p id (Some root) None is_owner is_stored has there opens = absurd (cc)
opened_by c p id (Some root) (Some stored) is_owner is_stored has there opens =
    ap (λ found. is_some (option_and_then (λ (s : Stored). option_and_then (λ r. option_and_then (λ k. c.opens s.wrapped k) (at_id r p.loaded)) (owner_of p id)) found)) is_stored
    ∙ ap (λ found. is_some (option_and_then (λ r. option_and_then (λ k. c.opens stored.wrapped k) (at_id r p.loaded)) found)) is_owner
    ∙ by_key (at_id root p.loaded) refl has
  where
    by_key : (found : Option (List ℕ)) → at_id root p.loaded ≡ found → is_some found ≡ true → is_some (option_and_then (λ k. c.opens stored.wrapped k) found) ≡ true
    by_key None same loaded = absurd (cc)
    by_key (Some key) same loaded = opens root key same refl

pub family_opens : (c : Ciphers) (p : Plain) (id : ℕ) → Sound c p → IsEncrypted p id → has_key p id ≡ true → is_some (mkey c p (family p.tree.rows id)) ≡ true
family_opens c p id s encrypted has =
    let first : ℕ = family p.tree.rows id in
    let owner : owner_of p id ≡ owner_of p first = owner_of_family p.tree p.roots (heirs c p s) id in
    opened_by c p first (owner_of p first) (at_id first p.wrapped) refl refl (ap (has_key_of p) (sym owner) ∙ has) ((s.tree.families first).1 (id, encrypted, refl))
    (λ root key loaded owned. s.keys.opened root first key loaded owned)
