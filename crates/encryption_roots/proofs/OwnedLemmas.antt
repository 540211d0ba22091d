-- Which ids a test keeps, and the walk along the parents by its equations.
use Rattle.std.proofs.Common.{◌≡◌, ◌↔◌, ⊎_elim, ℕ, zero, suc, ◌+◌, ◌<◌, ◌≤◌, Bool, true, false, cond, ◌==◌, ◌&&◌, ◌||◌, List, [], ◌∷◌, ◌++◌, length, take, get_or, map, Option, Some, None, IsSome, is_some, refl, ap, sym, ◌∙◌, arith, subst}
use Rattle.std.proofs.lemmas.Bool.{cases_Bool}
use Rattle.std.proofs.lemmas.Bool.Decides.{nat_tests}
use Rattle.std.proofs.lemmas.List.{map-append}
use Rattle.std.proofs.lemmas.List.Elements.{All-nil, All-cons, All-head, All-tail, All-contains, filter_more}
use Rattle.std.proofs.lemmas.List.Kept.{AllPairs-cons}
use Rattle.std.specs.List.{All, AllPairs, Contains, filter}
use Rattle.dataset_tree.specs.declared.kinds.Kind.{Kind}
use Rattle.dataset_tree.specs.declared.kinds.Kind.TheVariants.{Plain, Crypt}
use Rattle.dataset_tree.specs.declared.tree.Row.{Row}
use Rattle.dataset_tree.specs.Tree.{Datasets, IsTree, row_of}
use Rattle.dataset_tree.proofs.TreeLemmas.{ids_find}
use Rattle.encryption_roots.specs.declared.props.Props.{Props}
use Rattle.encryption_roots.specs.Roots.{props_of}
use Rattle.encryption_roots.specs.Owners.{owner, IsRowOf, HasNoRow}
use Rattle.encryption_roots.specs.Owned.{ids_where, is_crypt, begins_family, is_owner, owned_families, below_from, is_below, is_below_within, roots_below}
use Rattle.encryption_roots.proofs.OwnerLemmas.{Falls, falls_in_tree, found_below, up_to, at_most_all, fewer_next, none_left}

-- ---- the ids that a test keeps

-- one more row, at a loop's step
pub ids_more : (test : Row → Bool) (rows : List Row) (i : ℕ) (d : Row) → i < length rows
    → ids_where test (take (i + 1) rows) ≡ ids_where test (take i rows) ++ cond (test (get_or rows i d)) ((get_or rows i d).id ∷ []) []
ids_more test rows i d within =
    ap (λ kept. map (λ row. row.id) kept) (filter_more test rows i d within)
    ∙ map-append (λ row. row.id) (filter test (take i rows)) (cond (test (get_or rows i d)) (get_or rows i d ∷ []) [])
    ∙ ap (λ one. ids_where test (take i rows) ++ one) (one_id (test (get_or rows i d)) (get_or rows i d))
  where
    one_id : (b : Bool) (row : Row) → map (λ r. r.id) (cond b (row ∷ []) []) ≡ cond b (row.id ∷ []) []
    one_id true row = refl
    one_id false row = refl

-- what holds of each id that passes holds of each that is kept
pub kept_have : (P : ℕ → Type 0) (test : Row → Bool) (rows : List Row) → All (λ row. test row ≡ true → P row.id) rows → All P (ids_where test rows)
kept_have P test [] all = All-nil P
kept_have P test (row ∷ rows) all =
    let rest : All P (ids_where test rows) = kept_have P test rows (All-tail (λ r. test r ≡ true → P r.id) row rows all) in
    ⊎_elim (λ (passes : test row ≡ true). rw passes (All-cons P row.id (ids_where test rows) (All-head (λ r. test r ≡ true → P r.id) row rows all passes) rest))
    (λ (fails : test row ≡ false). rw fails rest) (cases_Bool (test row))

-- one that passes is kept
pub is_kept : (test : Row → Bool) (rows : List Row) (k : ℕ) (d : Row) → k < length rows → test (get_or rows k d) ≡ true → Contains (ids_where test rows) (get_or rows k d).id
is_kept test [] k d within passes = absurd (omega (arith, within))
is_kept test (row ∷ rows) zero d within passes = rw passes (zero, omega arith, refl)
is_kept test (row ∷ rows) (suc k) d within passes =
    let rest : Contains (ids_where test rows) (get_or rows k d).id = is_kept test rows k d (omega (arith, within)) passes in
    ⊎_elim (λ (first : test row ≡ true). rw first (suc rest.0, omega (arith, rest.1), rest.2)) (λ (first : test row ≡ false). rw first rest) (cases_Bool (test row))

pub kept_rise : (test : Row → Bool) (rows : List Row) → AllPairs (λ (a : Row) (b : Row). a.id < b.id) rows → AllPairs (λ (a : ℕ) (b : ℕ). a < b) (ids_where test rows)
kept_rise test [] rising = λ i j d before within. absurd (omega arith)
kept_rise test (row ∷ rows) rising =
    let rest : AllPairs (λ (a : ℕ) (b : ℕ). a < b) (ids_where test rows) = kept_rise test rows (λ i j d before within. rising (suc i) (suc j) d (omega arith) (omega arith)) in
    let above : All (λ (id : ℕ). row.id < id) (ids_where test rows) = kept_have (λ id. row.id < id) test rows (λ k d within passes. rising 0 (suc k) d (omega arith) (omega arith)) in
    ⊎_elim (λ (passes : test row ≡ true). rw passes (AllPairs-cons (λ a b. a < b) row.id (ids_where test rows) above rest)) (λ (fails : test row ≡ false). rw fails rest) (cases_Bool (test row))

-- in a tree an id is kept exactly where its row passes
pub kept_where : (t : Datasets) (test : Row → Bool) → IsTree t → All (λ row. Contains (ids_where test t.rows) row.id ↔ (test row ≡ true)) t.rows
kept_where t test tree = λ k d within. (
  λ kept.
      let Passes : ℕ → Type 0 = λ id. (row : Row) × (row_of id t.rows ≡ Some row) × (test row ≡ true) in
      let all : All Passes (ids_where test t.rows) = kept_have Passes test t.rows (λ j e inside passes. (get_or t.rows j e, ids_find t tree j e inside, passes)) in
      let found : Passes (get_or t.rows k d).id = All-contains Passes (ids_where test t.rows) (get_or t.rows k d).id all kept in
      let both : Some found.0 ≡ Some (get_or t.rows k d) = sym found.1 ∙ ids_find t tree k d within in
      let same : found.0 ≡ get_or t.rows k d = cc in
      subst (λ (row : Row). test row ≡ true) same found.2,
  λ passes. is_kept test t.rows k d within passes,
)

-- ---- the families of a root

crypt_kind : (kind : Kind) → (is_crypt kind ≡ true) ↔ (kind ≡ Crypt)
crypt_kind Plain = (λ no. absurd (cc), λ no. absurd (cc))
crypt_kind Crypt = (λ yes. refl, λ yes. refl)

owner_is : (root : ℕ) (found : Option ℕ) → (is_owner root found ≡ true) ↔ (found ≡ Some root)
owner_is root None = (λ no. absurd (cc), λ no. absurd (cc))
owner_is root (Some other) = (λ same. grind (arith, nat_tests), λ same. grind (arith, nat_tests))

all_three : (a b c : Bool) → ((a && b) && c) ≡ true → (a ≡ true) × (b ≡ true) × (c ≡ true)
all_three true true true all = (refl, refl, refl)
all_three true true false all = absurd (cc)
all_three true false c all = absurd (cc)
all_three false b c all = absurd (cc)

pub owns_row : (rows : List Row) (roots : List (ℕ × Props)) (root : ℕ) (row : Row)
    → ((begins_family row && is_owner root (owner rows roots row.id)) ≡ true) ↔ ((row.kind ≡ Crypt) × (row.origin ≡ 0) × (owner rows roots row.id ≡ Some root))
owns_row rows roots root row =
    let kind = crypt_kind row.kind in
    let own = owner_is root (owner rows roots row.id) in (
      λ passes.
          let all = all_three (is_crypt row.kind) (row.origin == 0) (is_owner root (owner rows roots row.id)) passes in
          let first : row.origin ≡ 0 = let test = all.1 in grind (arith, nat_tests) in
          (kind.0 all.0, first, own.0 all.2),
      λ holds.
          let crypt : is_crypt row.kind ≡ true = kind.1 holds.0 in
          let first : (row.origin == 0) ≡ true = let no = holds.1 in grind (arith, nat_tests) in
          let mine : is_owner root (owner rows roots row.id) ≡ true = own.1 holds.2 in
          rw (crypt, first, mine) refl,
    )

pub one_root : (rows : List Row) (roots : List (ℕ × Props)) (root other id : ℕ) → Contains (owned_families rows roots root) id → Contains (owned_families rows roots other) id → root ≡ other
one_root rows roots root other id of_root of_other =
    let first : owner rows roots id ≡ Some root = owned_by root of_root in
    let second : owner rows roots id ≡ Some other = owned_by other of_other in
    let both : Some root ≡ Some other = sym first ∙ second in
    cc
  where
    owned_by : (r : ℕ) → Contains (owned_families rows roots r) id → owner rows roots id ≡ Some r
    owned_by r kept =
        All-contains (λ at. owner rows roots at ≡ Some r) (owned_families rows roots r) id
        (kept_have (λ at. owner rows roots at ≡ Some r) (λ row. begins_family row && is_owner r (owner rows roots row.id)) rows
        (λ k d within passes. ((owns_row rows roots r (get_or rows k d)).0 passes).2)) kept

-- ---- the roots below a dataset

below_from_agrees : (top id : ℕ) (found : Option Row) (f g : ℕ → Bool) → ((row : Row) → found ≡ Some row → f row.parent ≡ g row.parent) → below_from top id found f ≡ below_from top id found g
below_from_agrees top id None f g agree = refl
below_from_agrees top id (Some row) f g agree = ap (λ further. (id == top) || further) (agree row refl)

enough_parents : (rows : List Row) (top : ℕ) → Falls rows → (steps more id : ℕ) → up_to id rows ≤ steps → up_to id rows ≤ more → is_below_within steps rows top id ≡ is_below_within more rows top id
enough_parents rows top falls zero zero id few many = refl
enough_parents rows top falls zero (suc more) id few many = rw (none_left id rows (omega arith)) refl
enough_parents rows top falls (suc steps) zero id few many = rw (none_left id rows (omega arith)) refl
enough_parents rows top falls (suc steps) (suc more) id few many =
    below_from_agrees top id (row_of id rows) (λ next. is_below_within steps rows top next) (λ next. is_below_within more rows top next)
    (λ row found.
    let fewer : up_to row.parent rows < up_to id rows = fewer_next id row.parent rows row found (found_below id rows row falls found).0 in
    enough_parents rows top falls steps more row.parent (omega arith) (omega arith))

below_by_walking : (t : Datasets) (top id : ℕ) → IsTree t → is_below t.rows top id ≡ below_from top id (row_of id t.rows) (λ next. is_below t.rows top next)
below_by_walking t top id tree =
    let few = at_most_all id t.rows in
    enough_parents t.rows top (falls_in_tree t tree) (length t.rows) (suc (length t.rows)) id few (omega arith)

pub below_of_row : (t : Datasets) (top id : ℕ) (row : Row) → IsRowOf t id row → is_below t.rows top id ≡ ((id == top) || is_below t.rows top row.parent)
below_of_row t top id row there = let found : row_of id t.rows ≡ Some row = there.1 in below_by_walking t top id there.0 ∙ rw found refl

pub below_of_none : (t : Datasets) (top id : ℕ) → HasNoRow t id → is_below t.rows top id ≡ false
below_of_none t top id there = let found : row_of id t.rows ≡ None = there.1 in below_by_walking t top id there.0 ∙ rw found refl

pub below_itself : (t : Datasets) (id : ℕ) (row : Row) → IsRowOf t id row → is_below t.rows id id ≡ true
below_itself t id row there =
    let own : (id == id) ≡ true = grind (arith, nat_tests) in
    below_of_row t id id row there ∙ rw own refl

abbrev is_root_below : Datasets → List (ℕ × Props) → ℕ → Row → Bool
is_root_below t roots top row = is_some (props_of row.id roots) && is_below t.rows top row.id

pub below_rise : (t : Datasets) (roots : List (ℕ × Props)) (top : ℕ) → IsTree t → AllPairs (λ (a : ℕ) (b : ℕ). a < b) (roots_below t.rows roots top)
below_rise t roots top tree = kept_rise (is_root_below t roots top) t.rows tree.rising

both_hold : (found : Option Props) (b : Bool) → ((is_some found && b) ≡ true) ↔ (IsSome found × (b ≡ true))
both_hold None b = (λ no. absurd (cc), λ no. let some : false ≡ true = no.0 in absurd (cc))
both_hold (Some props) b = (λ yes. (refl, yes), λ yes. yes.1)

pub below_where : (t : Datasets) (roots : List (ℕ × Props)) (top : ℕ) → IsTree t
    → All (λ row. Contains (roots_below t.rows roots top) row.id ↔ (IsSome (props_of row.id roots) × (is_below t.rows top row.id ≡ true))) t.rows
below_where t roots top tree = λ k d within.
    let kept = kept_where t (is_root_below t roots top) tree k d within in
    let both = both_hold (props_of (get_or t.rows k d).id roots) (is_below t.rows top (get_or t.rows k d).id) in
    (λ there. both.0 (kept.0 there), λ holds. kept.1 (both.1 holds))

pub below_self : (t : Datasets) (roots : List (ℕ × Props)) → IsTree t → All (λ row. Contains (roots_below t.rows roots row.id) row.id ↔ IsSome (props_of row.id roots)) t.rows
below_self t roots tree = λ k d within.
    let id : ℕ = (get_or t.rows k d).id in
    let member = below_where t roots id tree k d within in
    (λ there. (member.0 there).0, λ root. member.1 (root, below_itself t id (get_or t.rows k d) (tree, ids_find t tree k d within)))
