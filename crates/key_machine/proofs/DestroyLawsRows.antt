-- What a tree without a dataset that none needs leaves as it was: the rows, owners and families of the others.
use Rattle.std.proofs.Common.{◌≡◌, ◌≢◌, ⊎_elim, ℕ, zero, suc, ◌≤◌, Bool, true, false, not, cond, ◌==◌, ◌||◌, List, [], ◌∷◌, length, Option, Some, None, is_some, refl, ap, sym, ◌∙◌, subst, arith}
use Rattle.std.proofs.lemmas.Bool.{cases_Bool, eq-eqb, ne_eqb, eqb-true, or_parts}
use Rattle.std.specs.List.{filter, find, list_any}
use Rattle.dataset_tree.specs.declared.kinds.Kind.{Kind}
use Rattle.dataset_tree.specs.declared.kinds.Kind.TheVariants.{Plain as PlainKind, Crypt}
use Rattle.dataset_tree.specs.declared.tree.Row.{Row}
use Rattle.dataset_tree.specs.Tree.{IsTree, row_of, is_needed}
use Rattle.dataset_tree.proofs.RemoveLemmas.{IsTree-without_row}
use Rattle.encryption_roots.specs.declared.props.Props.{Props}
use Rattle.encryption_roots.specs.ById.{at_id, without_id}
use Rattle.encryption_roots.specs.Owners.{owner, owner_within, owner_from, owner_by_kind, next_to_owner, family, family_within, family_from}
use Rattle.encryption_roots.proofs.ByIdLemmas.{at_id-without_id_other}
use Rattle.encryption_roots.proofs.OwnerLemmas.{falls_in_tree, up_to, at_most_all, enough_steps, enough_origins}
use Rattle.key_machine.proofs.CreateLawsRows.{owner_from_kept, family_from_kept}

abbrev pub rows_left : ℕ → List Row → List Row
rows_left id rows = filter (λ row. not (row.id == id)) rows

fewer_left : (id : ℕ) (rows : List Row) → length (rows_left id rows) ≤ length rows
fewer_left id [] = omega arith
fewer_left id (row ∷ rows) =
    let rest : length (rows_left id rows) ≤ length rows = fewer_left id rows in
    ⊎_elim (λ (gone : (row.id == id) ≡ true). rw gone (omega (arith, rest))) (λ (kept : (row.id == id) ≡ false). rw kept (omega (arith, rest))) (cases_Bool (row.id == id))

pub row_of_gone : (id : ℕ) (rows : List Row) → row_of id (rows_left id rows) ≡ None
row_of_gone id [] = refl
row_of_gone id (row ∷ rows) =
    let rest : row_of id (rows_left id rows) ≡ None = row_of_gone id rows in
    ⊎_elim (λ (gone : (row.id == id) ≡ true). rw gone rest) (λ (kept : (row.id == id) ≡ false). rw (kept, kept) rest) (cases_Bool (row.id == id))

pub row_of_left : (id other : ℕ) (rows : List Row) → other ≢ id → row_of other (rows_left id rows) ≡ row_of other rows
row_of_left id other [] apart = refl
row_of_left id other (row ∷ rows) apart =
    let rest : row_of other (rows_left id rows) ≡ row_of other rows = row_of_left id other rows apart in
    ⊎_elim
    (λ (gone : (row.id == id) ≡ true).
    let same : row.id ≡ id = eqb-true row.id id gone in
    let unlike : (row.id == other) ≡ false = ne_eqb row.id other (λ e. apart (sym e ∙ same)) in
    rw (gone, unlike) rest)
    (λ (kept : (row.id == id) ≡ false). rw kept (ap (λ found. cond (row.id == other) (Some row) found) rest)) (cases_Bool (row.id == id))

-- ---- no other dataset leads to it

found_fails : (fails : Row → Bool) (test : Row → Bool) (rows : List Row) (row : Row) → list_any fails rows ≡ false → find test rows ≡ Some row → fails row ≡ false
found_fails fails test [] row none found = absurd (cc)
found_fails fails test (first ∷ rows) row none found =
    let parts : (fails first ≡ false) × (list_any fails rows ≡ false) = or_parts (fails first) (list_any fails rows) none in
    (elim (test first) as (λ b. cond b (Some first) (find test rows) ≡ Some row → fails row ≡ false) [
      | true ↦ (λ here. let same : first ≡ row = cc in subst (λ (r : Row). fails r ≡ false) same parts.0)
      | false ↦ (λ later. found_fails fails test rows row parts.1 later)
    ]) found

unlike : (a b : ℕ) → (a == b) ≡ false → a ≢ b
unlike a b fails same = let yes_is : (a == b) ≡ true = eq-eqb a b same in cc

module _ (rows : List Row) (id : ℕ) (free : is_needed id rows ≡ false) where
  pub unneeded : (other : ℕ) (row : Row) → row_of other rows ≡ Some row → (row.parent ≢ id) × (row.origin ≢ id)
  unneeded other row found =
      let parts : ((row.parent == id) ≡ false) × ((row.origin == id) ≡ false) =
      or_parts (row.parent == id) (row.origin == id) (found_fails (λ r. r.parent == id || r.origin == id) (λ r. r.id == other) rows row free found) in
      (unlike row.parent id parts.0, unlike row.origin id parts.1)

  next_apart : (other : ℕ) (row : Row) → row_of other rows ≡ Some row → next_to_owner row ≢ id
  next_apart other row found =
      let needs : (row.parent ≢ id) × (row.origin ≢ id) = unneeded other row found in
      elim (row.origin == 0) as (λ b. cond b row.parent row.origin ≢ id) [ true ↦ needs.0 | false ↦ needs.1 ]

  owner_left : (roots : List (ℕ × Props)) (steps other : ℕ) → other ≢ id → owner_within steps (rows_left id rows) (without_id id roots) other ≡ owner_within steps rows roots other
  owner_left roots zero other apart = refl
  owner_left roots (suc steps) other apart =
      ap (λ found. owner_from (without_id id roots) other found (λ next. owner_within steps (rows_left id rows) (without_id id roots) next)) (row_of_left id other rows apart)
      ∙ owner_from_kept roots (without_id id roots) other (row_of other rows) (λ next. owner_within steps (rows_left id rows) (without_id id roots) next) (λ next. owner_within steps rows roots next)
      (at_id-without_id_other id other roots apart) (λ row found. owner_left roots steps (next_to_owner row) (next_apart other row found))

  family_left : (steps other : ℕ) → other ≢ id → family_within steps (rows_left id rows) other ≡ family_within steps rows other
  family_left zero other apart = refl
  family_left (suc steps) other apart =
      ap (λ found. family_from other found (λ next. family_within steps (rows_left id rows) next)) (row_of_left id other rows apart)
      ∙ family_from_kept other (row_of other rows) (λ next. family_within steps (rows_left id rows) next) (λ next. family_within steps rows next)
      (λ row found. family_left steps row.origin (unneeded other row found).1)

  -- ---- it owns no other dataset, and no other is of its family

  by_kind : (kind : Kind) (found : Option ℕ) (root : ℕ) → owner_by_kind kind found ≡ Some root → found ≡ Some root
  by_kind PlainKind found root h = absurd (cc)
  by_kind Crypt found root h = h

  owner_from_apart : (roots : List (ℕ × Props)) (other : ℕ) (found : Option Row) (further : ℕ → Option ℕ) → other ≢ id
      → ((row : Row) → found ≡ Some row → further (next_to_owner row) ≡ Some id → ⊥) → owner_from roots other found further ≡ Some id → ⊥
  owner_from_apart roots other None further apart later owner = cc
  owner_from_apart roots other (Some row) further apart later owner =
      (elim (is_some (at_id other roots)) as (λ b. cond b (Some other) (further (next_to_owner row)) ≡ Some id → ⊥) [
        | true ↦ (λ own. apart (let same : other ≡ id = cc in same))
        | false ↦ later row refl
      ]) (by_kind row.kind (cond (is_some (at_id other roots)) (Some other) (further (next_to_owner row))) id owner)

  owner_apart : (roots : List (ℕ × Props)) (steps other : ℕ) → other ≢ id → owner_within steps rows roots other ≡ Some id → ⊥
  owner_apart roots zero other apart owner = cc
  owner_apart roots (suc steps) other apart owner =
      owner_from_apart roots other (row_of other rows) (λ next. owner_within steps rows roots next) apart (λ row found later. owner_apart roots steps (next_to_owner row) (next_apart other row found) later)
      owner

  family_from_apart : (other : ℕ) (found : Option Row) (further : ℕ → ℕ) → other ≢ id → ((row : Row) → found ≡ Some row → further row.origin ≢ id) → family_from other found further ≢ id
  family_from_apart other None further apart later = apart
  family_from_apart other (Some row) further apart later = elim (row.origin == 0) as (λ b. cond b other (further row.origin) ≢ id) [ true ↦ apart | false ↦ later row refl ]

  family_apart : (steps other : ℕ) → other ≢ id → family_within steps rows other ≢ id
  family_apart zero other apart = apart
  family_apart (suc steps) other apart =
      family_from_apart other (row_of other rows) (λ next. family_within steps rows next) apart (λ row found. family_apart steps row.origin (unneeded other row found).1)

  pub owns_no_other : (roots : List (ℕ × Props)) (other : ℕ) → other ≢ id → owner rows roots other ≡ Some id → ⊥
  owns_no_other roots other apart owned = owner_apart roots (length rows) other apart owned

  pub no_other_family : (other : ℕ) → other ≢ id → family rows other ≢ id
  no_other_family other apart = family_apart (length rows) other apart

  -- ---- in a tree the others keep their owner and their family

  module _ (last : ℕ) (tree : IsTree (record { rows = rows; last = last })) where
    pub tree_left : IsTree (record { rows = rows_left id rows; last = last })
    tree_left = IsTree-without_row (record { rows = rows; last = last }) id tree free

    pub owner_stays : (roots : List (ℕ × Props)) (other : ℕ) → other ≢ id → owner (rows_left id rows) (without_id id roots) other ≡ owner rows roots other
    owner_stays roots other apart =
        let few : up_to other (rows_left id rows) ≤ length (rows_left id rows) = at_most_all other (rows_left id rows) in
        enough_steps (rows_left id rows) (without_id id roots) (falls_in_tree (record { rows = rows_left id rows; last = last }) tree_left) (length (rows_left id rows)) (length rows) other few
        (let fewer : length (rows_left id rows) ≤ length rows = fewer_left id rows in omega (arith, few, fewer))
        ∙ owner_left roots (length rows) other apart

    pub family_stays : (other : ℕ) → other ≢ id → family (rows_left id rows) other ≡ family rows other
    family_stays other apart =
        let few : up_to other (rows_left id rows) ≤ length (rows_left id rows) = at_most_all other (rows_left id rows) in
        enough_origins (rows_left id rows) (falls_in_tree (record { rows = rows_left id rows; last = last }) tree_left) (length (rows_left id rows)) (length rows) other few
        (let fewer : length (rows_left id rows) ≤ length rows = fewer_left id rows in omega (arith, few, fewer))
        ∙ family_left (length rows) other apart
