-- Owners where one dataset becomes a root, or is one no longer.
use Rattle.std.proofs.Common.{◌≡◌, ◌≢◌, ◌⊎◌, ⊎_elim, inl, inr, ℕ, zero, suc, ◌<◌, ◌≤◌, Bool, true, false, cond, List, Option, Some, None, is_some, refl, ap, sym, ◌∙◌, subst, arith}
use Rattle.std.proofs.lemmas.Bool.{cases_eq}
use Rattle.dataset_tree.specs.declared.kinds.Kind.{Kind}
use Rattle.dataset_tree.specs.declared.kinds.Kind.TheVariants.{Plain as PlainKind, Crypt}
use Rattle.dataset_tree.specs.declared.tree.Row.{Row}
use Rattle.dataset_tree.specs.Tree.{Datasets, IsTree, row_of}
use Rattle.encryption_roots.specs.declared.props.Props.{Props}
use Rattle.encryption_roots.specs.ById.{at_id, with_id, without_id}
use Rattle.encryption_roots.specs.Owners.{owner, owner_within, owner_from, owner_by_kind, next_to_owner}
use Rattle.encryption_roots.proofs.ByIdLemmas.{at_id-with_id, at_id-with_id_other, at_id-without_id_other}
use Rattle.encryption_roots.proofs.OwnerLemmas.{Falls, falls_in_tree, found_below, next_below, owner_by_walking, owner_of_root, owner_of_other, next_falls}

-- ---- an owner isn't above what it owns

kind_given : (kind : Kind) (found : Option ℕ) (root : ℕ) → owner_by_kind kind found ≡ Some root → found ≡ Some root
kind_given PlainKind found root h = absurd (cc)
kind_given Crypt found root h = h

own_or_further : (b : Bool) (id root : ℕ) (further : Option ℕ) → cond b (Some id) further ≡ Some root → (root ≡ id) ⊎ (further ≡ Some root)
own_or_further true id root further h = inl (let same : id ≡ root = cc in sym same)
own_or_further false id root further h = inr h

owner_from_above : (roots : List (ℕ × Props)) (id : ℕ) (found : Option Row) (f : ℕ → Option ℕ) (root : ℕ) → owner_from roots id found f ≡ Some root
    → ((row : Row) → found ≡ Some row → f (next_to_owner row) ≡ Some root → root ≤ id) → root ≤ id
owner_from_above roots id None f root h further = absurd (cc)
owner_from_above roots id (Some row) f root h further =
    ⊎_elim (λ (own : root ≡ id). omega (arith, own)) (λ (rest : f (next_to_owner row) ≡ Some root). further row refl rest)
    (own_or_further (is_some (at_id id roots)) id root (f (next_to_owner row)) (kind_given row.kind (cond (is_some (at_id id roots)) (Some id) (f (next_to_owner row))) root h))

owner_within_above : (rows : List Row) (roots : List (ℕ × Props)) → Falls rows → (steps id root : ℕ) → owner_within steps rows roots id ≡ Some root → root ≤ id
owner_within_above rows roots falls zero id root h = absurd (cc)
owner_within_above rows roots falls (suc steps) id root h =
    owner_from_above roots id (row_of id rows) (λ next. owner_within steps rows roots next) root h
    (λ row found rest.
    let lower : next_to_owner row < id = next_below row id (found_below id rows row falls found) in
    let within : root ≤ next_to_owner row = owner_within_above rows roots falls steps (next_to_owner row) root rest in
    omega (arith, lower, within))

pub owner_not_above : (t : Datasets) (roots : List (ℕ × Props)) (id root : ℕ) → IsTree t → owner t.rows roots id ≡ Some root → root ≤ id
owner_not_above t roots id root tree h = owner_within_above t.rows roots (falls_in_tree t tree) _ id root h

-- ---- two sets of roots that differ at one dataset, which is a root of the first

some_at : {X : Type 0} (found other : Option X) → is_some found ≡ is_some other → (b : Bool) → is_some found ≡ b → is_some other ≡ b
some_at found other same b h = sym same ∙ h

module _ (t : Datasets) (tree : IsTree t) (with_it without_it : List (ℕ × Props)) (id : ℕ) (root : is_some (at_id id with_it) ≡ true)
    (agree : (at : ℕ) → at ≢ id → is_some (at_id at with_it) ≡ is_some (at_id at without_it)) where
  -- a dataset that it owns has, without it, the owner that it has itself; any other keeps its owner
  abbrev pub Splits : ℕ → Type 0
  Splits at = ((owner t.rows with_it at ≡ Some id) × (owner t.rows without_it at ≡ owner t.rows without_it id))
      ⊎ ((owner t.rows with_it at ≡ Some id → ⊥) × (owner t.rows with_it at ≡ owner t.rows without_it at))

  alike : (at : ℕ) (found : Option ℕ) → (found ≡ Some id → ⊥) → owner t.rows with_it at ≡ found → owner t.rows without_it at ≡ found → Splits at
  alike at found apart first second = inr (λ own. apart (sym first ∙ own), first ∙ sym second)

  by_root : (at : ℕ) (row : Row) → ((next : ℕ) → next < at → Splits next) → row_of at t.rows ≡ Some row → row.kind ≡ Crypt → at ≢ id → (b : Bool) → is_some (at_id at with_it) ≡ b → Splits at
  by_root at row lower found crypt apart true is =
      alike at (Some at) (λ own. apart (let same : at ≡ id = cc in same)) (owner_of_root t with_it at row (tree, found) crypt is)
      (owner_of_root t without_it at row (tree, found) crypt (sym (agree at apart) ∙ is))
  by_root at row lower found crypt apart false is =
      let next : ℕ = next_to_owner row in
      let first : owner t.rows with_it at ≡ owner t.rows with_it next = owner_of_other t with_it at row (tree, found) crypt is in
      let second : owner t.rows without_it at ≡ owner t.rows without_it next = owner_of_other t without_it at row (tree, found) crypt (sym (agree at apart) ∙ is) in
      ⊎_elim (λ (own : (owner t.rows with_it next ≡ Some id) × (owner t.rows without_it next ≡ owner t.rows without_it id)). inl (first ∙ own.0, second ∙ own.1))
      (λ (other : (owner t.rows with_it next ≡ Some id → ⊥) × (owner t.rows with_it next ≡ owner t.rows without_it next)). inr (λ own. other.0 (sym first ∙ own), first ∙ other.1 ∙ sym second))
      (lower next (next_falls t at row (tree, found)))

  by_kind : (at : ℕ) (row : Row) → ((next : ℕ) → next < at → Splits next) → row_of at t.rows ≡ Some row → (kind : Kind) → row.kind ≡ kind → Splits at
  by_kind at row lower found PlainKind is =
      alike at None (λ own. absurd (cc)) (owner_by_walking t with_it at tree ∙ rw (found, is) refl) (owner_by_walking t without_it at tree ∙ rw (found, is) refl)
  by_kind at row lower found Crypt is =
      ⊎_elim
      (λ (same : at ≡ id).
      let own : is_some (at_id at with_it) ≡ true = subst (λ (m : ℕ). is_some (at_id m with_it) ≡ true) (sym same) root in
      inl (owner_of_root t with_it at row (tree, found) is own ∙ ap (λ (m : ℕ). Some m) same, ap (λ (m : ℕ). owner t.rows without_it m) same))
      (λ (apart : at ≢ id). by_root at row lower found is apart (is_some (at_id at with_it)) refl) (cases_eq at id)

  by_row : (at : ℕ) → ((next : ℕ) → next < at → Splits next) → (found : Option Row) → row_of at t.rows ≡ found → Splits at
  by_row at lower None is = alike at None (λ own. absurd (cc)) (owner_by_walking t with_it at tree ∙ rw is refl) (owner_by_walking t without_it at tree ∙ rw is refl)
  by_row at lower (Some row) is = by_kind at row lower is row.kind refl

  splits_within : (steps at : ℕ) → at ≤ steps → Splits at
  splits_within zero at few = by_row at (λ next below. absurd (omega (arith, few, below))) (row_of at t.rows) refl
  splits_within (suc steps) at few = by_row at (λ next below. splits_within steps next (omega (arith, few, below))) (row_of at t.rows) refl

  pub splits : (at : ℕ) → Splits at
  splits at = splits_within at at (omega arith)

-- ---- the two changes of the roots

some_of_found : {X : Type 0} (found : Option X) (x : X) → found ≡ Some x → is_some found ≡ true
some_of_found found x h = ap (λ (o : Option _). is_some o) h

pub with_is_root : (id : ℕ) (props : Props) (roots : List (ℕ × Props)) → is_some (at_id id (with_id id props roots)) ≡ true
with_is_root id props roots = ap (λ (own : Option Props). is_some own) (at_id-with_id id props roots)

pub with_agrees : (id : ℕ) (props : Props) (roots : List (ℕ × Props)) (at : ℕ) → at ≢ id → is_some (at_id at (with_id id props roots)) ≡ is_some (at_id at roots)
with_agrees id props roots at apart = ap (λ (own : Option Props). is_some own) (at_id-with_id_other id at props roots apart)

pub without_agrees : (id : ℕ) (roots : List (ℕ × Props)) (at : ℕ) → at ≢ id → is_some (at_id at roots) ≡ is_some (at_id at (without_id id roots))
without_agrees id roots at apart = ap (λ (own : Option Props). is_some own) (sym (at_id-without_id_other id at roots apart))

-- the properties of a root don't matter to owners
module _ (rows : List Row) (roots others : List (ℕ × Props)) (same : (at : ℕ) → is_some (at_id at roots) ≡ is_some (at_id at others)) where
  from_alike : (id : ℕ) (found : Option Row) (f g : ℕ → Option ℕ) → ((next : ℕ) → f next ≡ g next) → owner_from roots id found f ≡ owner_from others id found g
  from_alike id None f g further = refl
  from_alike id (Some row) f g further =
      ap (λ (b : Bool). owner_by_kind row.kind (cond b (Some id) (f (next_to_owner row)))) (same id)
      ∙ ap (λ (rest : Option ℕ). owner_by_kind row.kind (cond (is_some (at_id id others)) (Some id) rest)) (further (next_to_owner row))

  within_alike : (steps id : ℕ) → owner_within steps rows roots id ≡ owner_within steps rows others id
  within_alike zero id = refl
  within_alike (suc steps) id = from_alike id (row_of id rows) (λ next. owner_within steps rows roots next) (λ next. owner_within steps rows others next) (λ next. within_alike steps next)

  pub owner_alike : (id : ℕ) → owner rows roots id ≡ owner rows others id
  owner_alike id = within_alike _ id

pub with_props_alike : (id : ℕ) (first second : Props) (roots : List (ℕ × Props)) (at : ℕ) → is_some (at_id at (with_id id first roots)) ≡ is_some (at_id at (with_id id second roots))
with_props_alike id first second roots at =
    ⊎_elim
    (λ (same : at ≡ id).
    subst (λ (m : ℕ). is_some (at_id m (with_id id first roots)) ≡ is_some (at_id m (with_id id second roots))) (sym same) (with_is_root id first roots ∙ sym (with_is_root id second roots)))
    (λ (apart : at ≢ id). with_agrees id first roots at apart ∙ sym (with_agrees id second roots at apart)) (cases_eq at id)
