-- What a new row behind a tree's rows leaves as it was: the rows, owners and families of the datasets before it.
use Rattle.std.proofs.Common.{◌≡◌, ◌≢◌, ℕ, zero, suc, ◌<◌, ◌≤◌, true, false, cond, ◌==◌, List, [], ◌∷◌, ◌++◌, Option, Some, None, is_some, refl, ap, ◌∙◌, arith}
use Rattle.std.proofs.lemmas.Bool.Decides.{nat_tests}
use Rattle.std.specs.List.{AllByRecursion}
use Rattle.dataset_tree.specs.declared.kinds.Kind.{Kind}
use Rattle.dataset_tree.specs.declared.kinds.Kind.TheVariants.{Plain, Crypt}
use Rattle.dataset_tree.specs.declared.tree.Row.{Row}
use Rattle.dataset_tree.specs.Tree.{row_of}
use Rattle.encryption_roots.specs.declared.props.Props.{Props}
use Rattle.encryption_roots.specs.ById.{at_id}
use Rattle.encryption_roots.specs.Owners.{owner_within, owner_from, owner_by_kind, next_to_owner, family_within, family_from}
use Rattle.encryption_roots.proofs.OwnerLemmas.{Falls, found_below}

-- no id is above the last ever given
abbrev pub AreGiven : ℕ → List Row → Type 0
AreGiven last rows = AllByRecursion (λ row. row.id ≤ last) rows

pub row_is_given : (id last : ℕ) (rows : List Row) (row : Row) → AreGiven last rows → row_of id rows ≡ Some row → id ≤ last
row_is_given id last [] row given found = cc
row_is_given id last (first ∷ rows) row given found =
    let rest = row_is_given id last rows row given.1 in
    let here = given.0 in
    grind (arith, nat_tests)

pub row_of_other : (rows : List Row) (row : Row) (id : ℕ) → id ≢ row.id → row_of id (rows ++ row ∷ []) ≡ row_of id rows
row_of_other [] row id apart = let unlike : (row.id == id) ≡ false = grind (arith, nat_tests) in rw unlike refl
row_of_other (first ∷ rows) row id apart = ap (λ found. cond (first.id == id) (Some first) found) (row_of_other rows row id apart)

pub row_of_new : (last : ℕ) (rows : List Row) (row : Row) → AreGiven last rows → last < row.id → row_of row.id (rows ++ row ∷ []) ≡ Some row
row_of_new last [] row given above = let same : (row.id == row.id) ≡ true = grind (arith, nat_tests) in rw same refl
row_of_new last (first ∷ rows) row given above =
    let here : first.id ≤ last = given.0 in
    let unlike : (first.id == row.id) ≡ false = grind (arith, nat_tests) in
    rw unlike (row_of_new last rows row given.1 above)

next_is_given : (last id : ℕ) (rows : List Row) (row : Row) → Falls rows → AreGiven last rows → row_of id rows ≡ Some row → next_to_owner row ≤ last
next_is_given last id rows row falls given found =
    let within : id ≤ last = row_is_given id last rows row given found in
    let below : (row.parent < id) × (row.origin < id) = found_below id rows row falls found in
    elim (row.origin == 0) as (λ b. cond b row.parent row.origin ≤ last) [ true ↦ omega (arith, below.0) | false ↦ omega (arith, below.1) ]

pub owner_from_kept : (roots more : List (ℕ × Props)) (id : ℕ) (found : Option Row) (f g : ℕ → Option ℕ) → at_id id more ≡ at_id id roots
    → ((row : Row) → found ≡ Some row → f (next_to_owner row) ≡ g (next_to_owner row)) → owner_from more id found f ≡ owner_from roots id found g
owner_from_kept roots more id None f g props agree = refl
owner_from_kept roots more id (Some row) f g props agree =
    ap (λ own. owner_by_kind row.kind (cond (is_some own) (Some id) (f (next_to_owner row)))) props
    ∙ ap (λ further. owner_by_kind row.kind (cond (is_some (at_id id roots)) (Some id) further)) (agree row refl)

-- a walk that begins at another dataset never comes to the new one
pub owner_kept : (last : ℕ) (rows : List Row) (row : Row) (roots more : List (ℕ × Props)) → Falls rows → AreGiven last rows → last < row.id
    → ((id : ℕ) → id ≢ row.id → at_id id more ≡ at_id id roots) → (steps id : ℕ) → id ≢ row.id
    → owner_within steps (rows ++ row ∷ []) more id ≡ owner_within steps rows roots id
owner_kept last rows row roots more falls given above kept zero id apart = refl
owner_kept last rows row roots more falls given above kept (suc steps) id apart =
    ap (λ found. owner_from more id found (λ next. owner_within steps (rows ++ row ∷ []) more next)) (row_of_other rows row id apart)
    ∙ owner_from_kept roots more id (row_of id rows) (λ next. owner_within steps (rows ++ row ∷ []) more next) (λ next. owner_within steps rows roots next) (kept id apart)
    (λ old found.
    let within : next_to_owner old ≤ last = next_is_given last id rows old falls given found in
    owner_kept last rows row roots more falls given above kept steps (next_to_owner old) (λ e. omega arith))

owner_found : (kind : Kind) (found : Option ℕ) (root : ℕ) → owner_by_kind kind found ≡ Some root → found ≡ Some root
owner_found Plain found root h = cc
owner_found Crypt found root h = h

owner_from_given : (last : ℕ) (roots : List (ℕ × Props)) (id : ℕ) (found : Option Row) (f : ℕ → Option ℕ) (root : ℕ)
    → ((row : Row) → found ≡ Some row → id ≤ last) → ((next : ℕ) → f next ≡ Some root → root ≤ last) → owner_from roots id found f ≡ Some root → root ≤ last
owner_from_given last roots id None f root here further h = cc
owner_from_given last roots id (Some row) f root here further h =
    let within : id ≤ last = here row refl in
    let rest = further (next_to_owner row) in
    (elim (is_some (at_id id roots)) as (λ b. cond b (Some id) (f (next_to_owner row)) ≡ Some root → root ≤ last) [
      | true ↦ (λ own. let same : id ≡ root = cc in omega arith)
      | false ↦ rest
    ]) (owner_found row.kind (cond (is_some (at_id id roots)) (Some id) (f (next_to_owner row))) root h)

-- an owner is a dataset that was there
pub owner_is_given : (last : ℕ) (rows : List Row) (roots : List (ℕ × Props)) → AreGiven last rows → (steps id root : ℕ) → owner_within steps rows roots id ≡ Some root → root ≤ last
owner_is_given last rows roots given zero id root h = cc
owner_is_given last rows roots given (suc steps) id root h =
    owner_from_given last roots id (row_of id rows) (λ next. owner_within steps rows roots next) root
    (λ row found. row_is_given id last rows row given found) (λ next. owner_is_given last rows roots given steps next root) h

pub family_from_kept : (id : ℕ) (found : Option Row) (f g : ℕ → ℕ) → ((row : Row) → found ≡ Some row → f row.origin ≡ g row.origin) → family_from id found f ≡ family_from id found g
family_from_kept id None f g agree = refl
family_from_kept id (Some row) f g agree = ap (λ further. cond (row.origin == 0) id further) (agree row refl)

pub family_kept : (last : ℕ) (rows : List Row) (row : Row) → Falls rows → AreGiven last rows → last < row.id → (steps id : ℕ) → id ≢ row.id
    → family_within steps (rows ++ row ∷ []) id ≡ family_within steps rows id
family_kept last rows row falls given above zero id apart = refl
family_kept last rows row falls given above (suc steps) id apart =
    ap (λ found. family_from id found (λ next. family_within steps (rows ++ row ∷ []) next)) (row_of_other rows row id apart)
    ∙ family_from_kept id (row_of id rows) (λ next. family_within steps (rows ++ row ∷ []) next) (λ next. family_within steps rows next)
    (λ old found.
    let within : id ≤ last = row_is_given id last rows old given found in
    let below : (old.parent < id) × (old.origin < id) = found_below id rows old falls found in
    family_kept last rows row falls given above steps old.origin (λ e. omega (arith, below.1)))

family_from_given : (last id : ℕ) (found : Option Row) (f : ℕ → ℕ) → id ≤ last → ((row : Row) → found ≡ Some row → f row.origin ≤ last) → family_from id found f ≤ last
family_from_given last id None f within further = within
family_from_given last id (Some row) f within further = elim (row.origin == 0) as (λ b. cond b id (f row.origin) ≤ last) [ true ↦ within | false ↦ further row refl ]

-- nor is a family above the last id ever given
pub family_is_given : (last : ℕ) (rows : List Row) → Falls rows → (steps id : ℕ) → id ≤ last → family_within steps rows id ≤ last
family_is_given last rows falls zero id within = within
family_is_given last rows falls (suc steps) id within =
    family_from_given last id (row_of id rows) (λ next. family_within steps rows next) within
    (λ row found.
    let below : (row.parent < id) × (row.origin < id) = found_below id rows row falls found in
    family_is_given last rows falls steps row.origin (omega (arith, below.1)))
