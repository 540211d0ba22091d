-- The records of families that a dataset owns: they open under the present key, and are written
-- anew by the families' ids.
use Rattle.std.proofs.Common.{◌≡◌, ℕ, ◌<◌, ◌≤◌, Bool, true, false, cond, List, [], ◌∷◌, map, get_or, Option, Some, None, IfSome, is_some, refl, ap, sym, ◌∙◌, subst, arith, ⊎_elim}
use Rattle.std.proofs.lemmas.Bool.{eqb-true}
use Rattle.std.proofs.lemmas.List.Elements.{All-nil, All-cons, All-head, All-tail}
use Rattle.std.specs.List.{All, AllPairs, filter}
use Rattle.dataset_tree.specs.declared.tree.Row.{Row}
use Rattle.encryption_roots.specs.declared.props.Options.{Options}
use Rattle.encryption_roots.specs.declared.props.Props.{Props}
use Rattle.encryption_roots.specs.ById.{at_id, with_id}
use Rattle.encryption_roots.specs.Owned.{owned_families, begins_family, is_owner}
use Rattle.encryption_roots.specs.Owners.{owner}
use Rattle.encryption_roots.proofs.OwnedLemmas.{kept_rise}
use Rattle.key_machine.specs.Change.{changed_props, with_own_root}
use Rattle.key_machine.specs.Plain.{Plain, Stored, Master, Ciphers, owner_of, is_same, owned}
use Rattle.key_machine.specs.Rekey.{rewrapped}
use Rattle.key_machine.specs.Sound.{Sound}
use Rattle.key_machine.proofs.KeyLists.{All-kept, each_found}
use Rattle.key_machine.proofs.RekeyOwners.{splits, with_is_root, with_agrees, owner_alike, with_props_alike}
use Rattle.std.specs.Prelude.{◌&&◌}
use Rattle.change_key.specs.Plans.{OpensPresent}
use Rattle.change_key.specs.Records.{opened_in, opens_in, anew, numbered}
use Rattle.change_key.proofs.FamiliesLemmas.{families_are}
use Rattle.change_key.proofs.KeyLemmas.{owned_found}
use Rattle.change_key.proofs.RecordLemmas.{AllFound, opened_at, anew_is}

-- the owner that a test names
pub owner_named : (id : ℕ) (found : Option ℕ) → is_same id found ≡ true → found ≡ Some id
owner_named id None h = absurd (cc)
owner_named id (Some other) h = ap (λ (m : ℕ). Some m) (eqb-true other id h)

ids_have : {X : Type 0} (P : ℕ → Type 0) (entries : List (ℕ × X)) → All (λ (entry : ℕ × X). P entry.0) entries → All P (map (λ (entry : ℕ × X). entry.0) entries)
ids_have {X} P [] all = All-nil P
ids_have {X} P (entry ∷ entries) all =
    All-cons P entry.0 (map (λ (e : ℕ × X). e.0) entries) (All-head (λ (e : ℕ × X). P e.0) entry entries all) (ids_have P entries (All-tail (λ (e : ℕ × X). P e.0) entry entries all))

module _ (c : Ciphers) (p : Plain) (s : Sound c p) (id : ℕ) (old : List ℕ) (opens : OpensPresent c p id old) (roots : List (ℕ × Props)) (root : ℕ)
    (of_owner : (at : ℕ) → is_same root (owner p.tree.rows roots at) ≡ true → owner_of p at ≡ owner_of p id) where
  abbrev pub entries : List (ℕ × Stored)
  entries = filter (λ entry. is_same root (owner p.tree.rows roots entry.0)) p.wrapped

  pub entries_found : AllFound p entries
  entries_found = owned_found p s.tree (λ entry. is_same root (owner p.tree.rows roots entry.0))

  pub entries_open : All (λ entry. is_some (c.opens entry.1.wrapped old) ≡ true) entries
  entries_open =
      All-kept (λ (entry : ℕ × Stored). at_id entry.0 p.wrapped ≡ Some entry.1) (λ (entry : ℕ × Stored). is_some (c.opens entry.1.wrapped old) ≡ true)
      (λ (entry : ℕ × Stored). is_same root (owner p.tree.rows roots entry.0)) p.wrapped
      (λ entry found passes. subst (λ (o : Option Stored). IfSome o (λ r. is_some (c.opens r.wrapped old) ≡ true)) found (opens entry.0 (of_owner entry.0 passes)))
      (each_found p.wrapped s.tree.records)

  ids_open : All (λ family. opens_in c p old family ≡ true) (map (λ (entry : ℕ × Stored). entry.0) entries)
  ids_open = ids_have (λ family. opens_in c p old family ≡ true) entries
      (λ k d within. ap (λ (m : Option Master). is_some m) (opened_at c p old (get_or entries k d).0 (get_or entries k d).1 (entries_found k d within)) ∙ entries_open k d within)

  module _ (families : List ℕ) (are_families : families ≡ owned_families p.tree.rows roots root) where
    by_ids : map (λ (entry : ℕ × Stored). entry.0) entries ≡ families
    by_ids = families_are p s.tree roots root ∙ sym are_families

    pub families_open : All (λ family. opens_in c p old family ≡ true) families
    families_open = subst (λ (ids : List ℕ). All (λ family. opens_in c p old family ≡ true) ids) by_ids ids_open

    pub families_rise : AllPairs (λ earlier later. earlier < later) families
    families_rise = subst (λ (ids : List ℕ). AllPairs (λ (a : ℕ) (b : ℕ). a < b) ids) (sym are_families)
        (kept_rise (λ row. begins_family row && is_owner root (owner p.tree.rows roots row.id)) p.tree.rows s.tree.tree.rising)

    pub written_are : (seed new : List ℕ) → numbered (anew c p seed old new) 0 families ≡ rewrapped c seed old new 0 entries
    written_are seed new = ap (λ ids. numbered (anew c p seed old new) 0 ids) (sym by_ids) ∙ anew_is c p seed old new 0 entries entries_found entries_open

-- ---- a dataset that becomes a root

pub owned_once_root : (c : Ciphers) (p : Plain) → Sound c p → (id : ℕ) (props : Props) (at : ℕ) → is_same id (owner p.tree.rows (with_id id props p.roots) at) ≡ true → owner_of p at ≡ owner_of p id
owned_once_root c p s id props at own =
    let roots : List (ℕ × Props) = with_id id props p.roots in
    let mine : owner p.tree.rows roots at ≡ Some id = owner_named id (owner p.tree.rows roots at) own in
    ⊎_elim (λ (ours : (owner p.tree.rows roots at ≡ Some id) × (owner_of p at ≡ owner_of p id)). ours.1)
    (λ (other : (owner p.tree.rows roots at ≡ Some id → ⊥) × (owner p.tree.rows roots at ≡ owner_of p at)). absurd (other.0 mine))
    (splits p.tree s.tree.tree roots p.roots id (with_is_root id props p.roots) (with_agrees id props p.roots) at)

filter_alike : (f g : ℕ × Stored → Bool) (entries : List (ℕ × Stored)) → ((entry : ℕ × Stored) → f entry ≡ g entry) → filter f entries ≡ filter g entries
filter_alike f g [] same = refl
filter_alike f g (entry ∷ entries) same =
    let rest = filter_alike f g entries same in
    ap (λ b. cond b (entry ∷ filter f entries) (filter f entries)) (same entry) ∙ ap (λ tail. cond (g entry) (entry ∷ tail) tail) rest

-- the salt of its properties doesn't matter to what it owns
pub owned_alike : (p : Plain) (id : ℕ) (opts : Options) (props : Props) → filter (λ (entry : ℕ × Stored). is_same id (owner p.tree.rows (with_id id props p.roots) entry.0)) p.wrapped ≡ owned (with_own_root p id opts 0) id
owned_alike p id opts props =
    filter_alike (λ entry. is_same id (owner p.tree.rows (with_id id props p.roots) entry.0)) (λ entry. is_same id (owner_of (with_own_root p id opts 0) entry.0)) p.wrapped
    (λ entry. ap (is_same id) (owner_alike p.tree.rows (with_id id props p.roots) (with_id id (changed_props (at_id id p.roots) opts 0) p.roots)
    (with_props_alike id props (changed_props (at_id id p.roots) opts 0) p.roots) entry.0))
