-- The owner and the family by their equations, since the ids on a walk fall.
use Rattle.std.proofs.Common.{◌≡◌, ◌≢◌, ◌⊎◌, ⊎_elim, ℕ, zero, suc, ◌+◌, ◌<◌, ◌≤◌, true, false, cond, ◌==◌, nat_le, List, [], ◌∷◌, length, Option, Some, None, is_some, refl, ap, sym, ◌∙◌, arith, subst}
use Rattle.std.proofs.lemmas.Bool.Decides.{nat_tests}
use Rattle.std.proofs.lemmas.List.Elements.{recursion_from_All}
use Rattle.std.specs.List.{AllByRecursion}
use Rattle.dataset_tree.specs.declared.kinds.Kind.TheVariants.{Crypt}
use Rattle.dataset_tree.specs.declared.tree.Row.{Row}
use Rattle.dataset_tree.specs.Tree.{Datasets, IsTree, row_of}
use Rattle.encryption_roots.specs.declared.props.Props.{Props}
use Rattle.encryption_roots.specs.Roots.{props_of}
use Rattle.encryption_roots.specs.Owners.{owner, owner_within, owner_from, owner_by_kind, next_to_owner, family, family_within, family_from, IsRowOf, HasHeirsAsClones}

abbrev pub Falls : List Row → Type 0
Falls rows = AllByRecursion (λ row. (row.parent < row.id) × (row.origin < row.id)) rows

pub falls_in_tree : (t : Datasets) → IsTree t → Falls t.rows
falls_in_tree t tree =
    recursion_from_All (λ (row : Row). (row.parent < row.id) × (row.origin < row.id)) t.rows (λ k d within. (tree.parents_first k d within, tree.origins k d within))

-- the row that is found by an id comes behind its parent and its origin
pub found_below : (id : ℕ) (rows : List Row) (row : Row) → Falls rows → row_of id rows ≡ Some row → (row.parent < id) × (row.origin < id)
found_below id [] row falls found = cc
found_below id (first ∷ rows) row falls found =
    let rest = found_below id rows row falls.1 in
    let here = falls.0 in
    grind (arith, nat_tests)

pub next_below : (row : Row) (id : ℕ) → (row.parent < id) × (row.origin < id) → next_to_owner row < id
next_below row id below = elim (row.origin == 0) as (λ b. cond b row.parent row.origin < id) [ true ↦ below.0 | false ↦ below.1 ]

-- ---- how many rows a walk can meet from an id on

abbrev pub up_to : ℕ → List Row → ℕ
up_to id [] = 0
up_to id (row ∷ rows) = cond (nat_le row.id id) 1 0 + up_to id rows

pub at_most_all : (id : ℕ) (rows : List Row) → up_to id rows ≤ length rows
at_most_all id [] = omega arith
at_most_all id (row ∷ rows) =
    let rest = at_most_all id rows in
    let one : cond (nat_le row.id id) 1 0 ≤ 1 = elim (nat_le row.id id) as (λ b. cond b 1 0 ≤ 1) [ true ↦ omega arith | false ↦ omega arith ] in
    omega arith

fewer_below : (low high : ℕ) (rows : List Row) → low ≤ high → up_to low rows ≤ up_to high rows
fewer_below low high [] below = omega arith
fewer_below low high (row ∷ rows) below =
    let rest = fewer_below low high rows below in
    let here : cond (nat_le row.id low) 1 0 ≤ cond (nat_le row.id high) 1 0 = grind (arith, nat_tests) in
    omega arith

-- each step of a walk leaves fewer
pub fewer_next : (id next : ℕ) (rows : List Row) (row : Row) → row_of id rows ≡ Some row → next < id → up_to next rows < up_to id rows
fewer_next id next [] row found below = absurd (cc)
fewer_next id next (first ∷ rows) row found below =
    let cases : (((first.id == id) ≡ true) × (nat_le first.id next ≡ false) × (nat_le first.id id ≡ true)) ⊎ ((first.id == id) ≡ false) = grind (arith, nat_tests) in
    ⊎_elim
    (λ c. let rest = fewer_below next id rows (omega arith) in rw (c.1, c.2) (omega arith))
    (λ (c : (first.id == id) ≡ false).
    let further : row_of id rows ≡ Some row = rw c at found in
    let rest = fewer_next id next rows row further below in
    let here : cond (nat_le first.id next) 1 0 ≤ cond (nat_le first.id id) 1 0 = grind (arith, nat_tests) in
    omega arith) cases

-- where a walk can meet no row, none has the id
pub none_left : (id : ℕ) (rows : List Row) → up_to id rows ≡ 0 → row_of id rows ≡ None
none_left id [] none = refl
none_left id (first ∷ rows) none =
    let cases : (((first.id == id) ≡ false) × (up_to id rows ≡ 0)) ⊎ ((first.id == id) ≡ true) = grind (arith, nat_tests) in
    ⊎_elim
    (λ c. rw c.0 (none_left id rows c.1))
    (λ (c : (first.id == id) ≡ true). absurd (let high : nat_le first.id id ≡ true = grind (arith, nat_tests) in let more : 1 + up_to id rows ≡ 0 = rw high at none in omega arith)) cases

-- ---- the owner

owner_from_agrees : (roots : List (ℕ × Props)) (id : ℕ) (found : Option Row) (f g : ℕ → Option ℕ)
    → ((row : Row) → found ≡ Some row → f (next_to_owner row) ≡ g (next_to_owner row)) → owner_from roots id found f ≡ owner_from roots id found g
owner_from_agrees roots id None f g agree = refl
owner_from_agrees roots id (Some row) f g agree =
    ap (λ further. owner_by_kind row.kind (cond (is_some (props_of id roots)) (Some id) further)) (agree row refl)

-- as many steps as rows that the walk can meet lead to the owner, and more lead there too
pub enough_steps : (rows : List Row) (roots : List (ℕ × Props)) → Falls rows → (steps more id : ℕ) → up_to id rows ≤ steps → up_to id rows ≤ more
    → owner_within steps rows roots id ≡ owner_within more rows roots id
enough_steps rows roots falls zero zero id few many = refl
enough_steps rows roots falls zero (suc more) id few many = rw (none_left id rows (omega arith)) refl
enough_steps rows roots falls (suc steps) zero id few many = rw (none_left id rows (omega arith)) refl
enough_steps rows roots falls (suc steps) (suc more) id few many =
    owner_from_agrees roots id (row_of id rows) (λ next. owner_within steps rows roots next) (λ next. owner_within more rows roots next)
    (λ row found.
    let fewer : up_to (next_to_owner row) rows < up_to id rows = fewer_next id (next_to_owner row) rows row found (next_below row id (found_below id rows row falls found)) in
    enough_steps rows roots falls steps more (next_to_owner row) (omega arith) (omega arith))

-- the owner by that of the next dataset on the walk
pub owner_by_walking : (t : Datasets) (roots : List (ℕ × Props)) (id : ℕ) → IsTree t
    → owner t.rows roots id ≡ owner_from roots id (row_of id t.rows) (λ next. owner t.rows roots next)
owner_by_walking t roots id tree =
    let few = at_most_all id t.rows in
    enough_steps t.rows roots (falls_in_tree t tree) (length t.rows) (suc (length t.rows)) id few (omega arith)

-- ---- the family

family_from_agrees : (id : ℕ) (found : Option Row) (f g : ℕ → ℕ)
    → ((row : Row) → found ≡ Some row → f row.origin ≡ g row.origin) → family_from id found f ≡ family_from id found g
family_from_agrees id None f g agree = refl
family_from_agrees id (Some row) f g agree = ap (λ further. cond (row.origin == 0) id further) (agree row refl)

pub enough_origins : (rows : List Row) → Falls rows → (steps more id : ℕ) → up_to id rows ≤ steps → up_to id rows ≤ more → family_within steps rows id ≡ family_within more rows id
enough_origins rows falls zero zero id few many = refl
enough_origins rows falls zero (suc more) id few many = rw (none_left id rows (omega arith)) refl
enough_origins rows falls (suc steps) zero id few many = rw (none_left id rows (omega arith)) refl
enough_origins rows falls (suc steps) (suc more) id few many =
    family_from_agrees id (row_of id rows) (λ next. family_within steps rows next) (λ next. family_within more rows next)
    (λ row found.
    let fewer : up_to row.origin rows < up_to id rows = fewer_next id row.origin rows row found (found_below id rows row falls found).1 in
    enough_origins rows falls steps more row.origin (omega arith) (omega arith))

-- the family by that of the origin
pub family_by_walking : (t : Datasets) (id : ℕ) → IsTree t → family t.rows id ≡ family_from id (row_of id t.rows) (λ next. family t.rows next)
family_by_walking t id tree =
    let few = at_most_all id t.rows in
    enough_origins t.rows (falls_in_tree t tree) (length t.rows) (suc (length t.rows)) id few (omega arith)

module _ (t : Datasets) (roots : List (ℕ × Props)) (id : ℕ) (row : Row) (there : IsRowOf t id row) where
  pub owner_of_root : row.kind ≡ Crypt → is_some (props_of id roots) ≡ true → owner t.rows roots id ≡ Some id
  owner_of_root crypt root = let found : row_of id t.rows ≡ Some row = there.1 in owner_by_walking t roots id there.0 ∙ rw (found, crypt, root) refl

  pub owner_of_other : row.kind ≡ Crypt → is_some (props_of id roots) ≡ false → owner t.rows roots id ≡ owner t.rows roots (next_to_owner row)
  owner_of_other crypt none = let found : row_of id t.rows ≡ Some row = there.1 in owner_by_walking t roots id there.0 ∙ rw (found, crypt, none) refl

module _ (t : Datasets) (id : ℕ) (row : Row) (there : IsRowOf t id row) where
  pub family_of_clone : row.origin ≢ 0 → family t.rows id ≡ family t.rows row.origin
  family_of_clone clone =
      let found : row_of id t.rows ≡ Some row = there.1 in
      let no : (row.origin == 0) ≡ false = grind (arith, nat_tests) in
      family_by_walking t id there.0 ∙ rw (found, no) refl

  pub ids_fall : (row.parent < id) × (row.origin < id)
  ids_fall = found_below id t.rows row (falls_in_tree t there.0) there.1

pub next_falls : (t : Datasets) (id : ℕ) (row : Row) → IsRowOf t id row → next_to_owner row < id
next_falls t id row there = next_below row id (ids_fall t id row there)

pub next_of_clone : (row : Row) → row.origin ≢ 0 → next_to_owner row ≡ row.origin
next_of_clone row clone = let no : (row.origin == 0) ≡ false = grind (arith, nat_tests) in rw no refl

pub next_of_child : (row : Row) → row.origin ≡ 0 → next_to_owner row ≡ row.parent
next_of_child row child = let yes : (row.origin == 0) ≡ true = grind (arith, nat_tests) in rw yes refl

-- ---- the families

module _ (t : Datasets) (roots : List (ℕ × Props)) (heirs : HasHeirsAsClones t roots) where
  heir : (id : ℕ) (rows : List Row) (row : Row) → AllByRecursion (λ (r : Row). r.origin ≢ 0 → (r.kind ≡ Crypt) × (props_of r.id roots ≡ None)) rows
      → row_of id rows ≡ Some row → row.origin ≢ 0 → (row.kind ≡ Crypt) × (props_of id roots ≡ None)
  heir id [] row all found clone = absurd (cc)
  heir id (first ∷ rows) row all found clone =
      (elim (first.id == id) as (λ b. (first.id == id) ≡ b → cond b (Some first) (row_of id rows) ≡ Some row → (row.kind ≡ Crypt) × (props_of id roots ≡ None)) [
        | true ↦ (λ own there.
            let here : first ≡ row = cc in
            let equal : first.id ≡ id = grind (arith, nat_tests) in
            let IsHeir : ℕ → Row → Type 0 = λ at r. r.origin ≢ 0 → (r.kind ≡ Crypt) × (props_of at roots ≡ None) in
            subst (λ (r : Row). IsHeir id r) here (subst (λ (at : ℕ). IsHeir at first) equal all.0) clone)
        | false ↦ (λ own there. heir id rows row all.1 there clone)
      ]) refl found

  -- at a dataset, where it is so at those of lower ids
  by_row : (id : ℕ) → ((next : ℕ) → next < id → owner t.rows roots next ≡ owner t.rows roots (family t.rows next)) → (found : Option Row) → row_of id t.rows ≡ found
      → owner t.rows roots id ≡ owner t.rows roots (family t.rows id)
  by_row id lower None found =
      let own : family t.rows id ≡ id = family_by_walking t id heirs.0 ∙ rw found refl in
      ap (λ (d : ℕ). owner t.rows roots d) (sym own)
  by_row id lower (Some row) found =
      (elim (row.origin == 0) as (λ b. (row.origin == 0) ≡ b → owner t.rows roots id ≡ owner t.rows roots (family t.rows id)) [
        | true ↦ (λ first.
            let own : family t.rows id ≡ id = family_by_walking t id heirs.0 ∙ rw (found, first) refl in
            ap (λ (d : ℕ). owner t.rows roots d) (sym own))
        | false ↦ (λ later.
            let clone : row.origin ≢ 0 = grind (arith, nat_tests) in
            let of_clone = heir id t.rows row (recursion_from_All (λ (r : Row). r.origin ≢ 0 → (r.kind ≡ Crypt) × (props_of r.id roots ≡ None)) t.rows heirs.1) found clone in
            owner_of_other t roots id row (heirs.0, found) of_clone.0 (ap is_some of_clone.1)
            ∙ ap (λ (d : ℕ). owner t.rows roots d) (next_of_clone row clone)
            ∙ lower row.origin (ids_fall t id row (heirs.0, found)).1
            ∙ ap (λ (d : ℕ). owner t.rows roots d) (sym (family_of_clone t id row (heirs.0, found) clone)))
      ]) refl

  owner_within_family : (steps id : ℕ) → id ≤ steps → owner t.rows roots id ≡ owner t.rows roots (family t.rows id)
  owner_within_family zero id few = by_row id (λ next below. absurd (omega arith)) (row_of id t.rows) refl
  owner_within_family (suc steps) id few = by_row id (λ next below. owner_within_family steps next (omega arith)) (row_of id t.rows) refl

  -- a dataset's owner is its family's
  pub owner_of_family : (id : ℕ) → owner t.rows roots id ≡ owner t.rows roots (family t.rows id)
  owner_of_family id = owner_within_family id id (omega arith)

  pub one_owner : (id other : ℕ) → family t.rows id ≡ family t.rows other → owner t.rows roots id ≡ owner t.rows roots other
  one_owner id other same = owner_of_family id ∙ ap (λ (d : ℕ). owner t.rows roots d) same ∙ sym (owner_of_family other)
