-- What is found in a tree, and how a new row keeps one.
use Rattle.std.proofs.Common.{◌≡◌, ◌≢◌, ◌↔◌, ◌⊎◌, ℕ, zero, suc, ◌+◌, ◌<◌, ◌≤◌, ◌==◌, Bool, true, false, cond, nat_lt, List, [], ◌∷◌, ◌++◌, length, get_or, Option, Some, None, Result, Ok, Err, IfSome, is_some, refl, ap, ◌∙◌, arith, ⊎_elim, subst}
use Rattle.std.specs.Prelude.{unwrap_or, is_none}
use Rattle.std.proofs.lemmas.Bool.{iff_false}
use Rattle.std.proofs.lemmas.Bool.Decides.{nat_tests}
use Rattle.std.specs.List.{All, AllPairs, AllWithin, AllByRecursion, find}
use Rattle.std.specs.List.Sorted.{IsPartitionedBy}
use Rattle.std.specs.Option.{option_map, option_or}
use Rattle.std.specs.Str.{bytes_eq}
use Rattle.std.proofs.lemmas.List.Elements.{All-push, All-weaker, All-get_or, recursion_from_All}
use Rattle.std.proofs.lemmas.List.Folds.{find-append}
use Rattle.std.proofs.lemmas.List.Quantifiers.{all_pairs_push}
use Rattle.std.proofs.lemmas.Slice.Eq.{bytes_eq-Decides}
use Rattle.dataset_tree.specs.declared.kinds.Kind.{Kind}
use Rattle.dataset_tree.specs.declared.refusal.Refusal.{Refusal}
use Rattle.dataset_tree.specs.declared.refusal.Refusal.TheVariants.{Exists}
use Rattle.dataset_tree.specs.declared.tree.Row.{Row}
use Rattle.dataset_tree.specs.SetName.{parent_name}
use Rattle.dataset_tree.specs.Tree.{Datasets, IsTree, row_of, row_named, id_named, parent_in, id_below, new_id, with_row, IsDatasetOrNone}

-- what holds of each element holds of the one that is found
found_among : {X : Type 0} (P : X → Type 0) (test : X → Bool) (xs : List X) → AllByRecursion P xs → IfSome (find test xs) P
found_among P test [] all = tt
found_among P test (x ∷ xs) all =
    elim (test x) as (λ b. IfSome (cond b (Some x) (find test xs)) P) [ true ↦ all.0 | false ↦ found_among P test xs all.1 ]

ids_of_found : (last : ℕ) (found : Option Row) → IfSome found (λ row. row.id ≤ last) → IfSome (option_map (λ row. row.id) found) (λ id. id ≤ last)
ids_of_found last None given = tt
ids_of_found last (Some row) given = given

-- the id of a dataset that is there was given
id_is_given : (t : Datasets) (name : List ℕ) → IsTree t → IfSome (id_named name t.rows) (λ id. id ≤ t.last)
id_is_given t name tree =
    ids_of_found t.last (row_named name t.rows)
    (found_among (λ row. row.id ≤ t.last) (λ row. bytes_eq row.name name) t.rows (recursion_from_All (λ row. row.id ≤ t.last) t.rows tree.given))

parent_of_is_given : (t : Datasets) (name : Option (List ℕ)) → IsTree t → IfSome (parent_in t.rows name) (λ id. id ≤ t.last)
parent_of_is_given t None tree = omega arith
parent_of_is_given t (Some name) tree = id_is_given t name tree

pub parent_is_given : (t : Datasets) (name : Option (List ℕ)) (parent : ℕ) → IsTree t → parent_in t.rows name ≡ Some parent → parent ≤ t.last
parent_is_given t name parent tree found =
    let P : Option ℕ → Type 0 = λ o. IfSome o (λ id. id ≤ t.last) in subst P found (parent_of_is_given t name tree)

-- the row that is found by an id has that id
found_by_id : (id last : ℕ) (rows : List Row) → AllByRecursion (λ row. row.id ≤ last) rows → is_some (row_of id rows) ≡ true → id ≤ last
found_by_id id last [] given found = cc
found_by_id id last (row ∷ rows) given found =
    let rest = found_by_id id last rows given.1 in
    grind (arith, nat_tests)

pub origin_is_given : (t : Datasets) (origin : ℕ) → IsTree t → IsDatasetOrNone t origin → origin ≤ t.last
origin_is_given t origin tree there =
    ⊎_elim (λ none. omega arith) (λ found. found_by_id origin t.last t.rows (recursion_from_All (λ row. row.id ≤ t.last) t.rows tree.given) found) there

-- a name that isn't found is no dataset's
neither : (b : Bool) (row : Row) (rest : Option Row) → is_some (cond b (Some row) rest) ≡ false → (b ≡ false) × (is_some rest ≡ false)
neither true row rest none = absurd (cc)
neither false row rest none = (refl, none)

pub not_named : (name : List ℕ) (rows : List Row) → is_some (row_named name rows) ≡ false → (k : ℕ) (d : Row) → k < length rows → (get_or rows k d).name ≢ name
not_named name [] none k d within = absurd (omega (arith, within))
not_named name (row ∷ rows) none zero d within = λ same.
    let other : bytes_eq row.name name ≡ false = (neither (bytes_eq row.name name) row (row_named name rows) none).0 in
    iff_false (bytes_eq-Decides row.name name) other same
not_named name (row ∷ rows) none (suc k) d within =
    not_named name rows (neither (bytes_eq row.name name) row (row_named name rows) none).1 k d (omega (arith, within))

no_id : (found : Option Row) → is_some (option_map (λ row. row.id) found) ≡ false → is_some found ≡ false
no_id None none = none
no_id (Some row) none = none

pub no_id_no_row : (name : List ℕ) (rows : List Row) → is_some (id_named name rows) ≡ false → is_some (row_named name rows) ≡ false
no_id_no_row name rows none = no_id (row_named name rows) none

-- a parent that is found stays the parent
mapped_first : {X Y : Type 0} (f : X → Y) (found more : Option X) (y : Y) → option_map f found ≡ Some y → option_map f (option_or found more) ≡ Some y
mapped_first f None more y h = absurd (cc)
mapped_first f (Some x) more y h = h

parent_kept : (rows more : List Row) (name : Option (List ℕ)) (parent : ℕ) → parent_in rows name ≡ Some parent → parent_in (rows ++ more) name ≡ Some parent
parent_kept rows more None parent found = found
parent_kept rows more (Some name) parent found =
    ap (λ (row : Option Row). option_map (λ (r : Row). r.id) row) (find-append (λ (row : Row). bytes_eq row.name name) rows more)
    ∙ mapped_first (λ (r : Row). r.id) (row_named name rows) (row_named name more) parent found

-- a row behind the others with the next id, a name that isn't taken, and the parent that its name tells
pub IsTree-push : (t : Datasets) (row : Row) → IsTree t → row.id ≡ t.last + 1 → is_some (row_named row.name t.rows) ≡ false
    → parent_in t.rows (parent_name row.name) ≡ Some row.parent → row.origin ≤ t.last
    → IsTree (record { rows = t.rows ++ row ∷ []; last = t.last + 1 })
IsTree-push t row tree id new parent origin =
    let first : row.parent ≤ t.last = parent_is_given t (parent_name row.name) row.parent tree parent in
    record {
      rising = all_pairs_push (λ (a : Row) (b : Row). a.id < b.id) t.rows row tree.rising (λ k d within. omega (arith, All-get_or (λ r. r.id ≤ t.last) t.rows k d within tree.given));
      given = All-push (λ r. r.id ≤ t.last + 1) t.rows row (All-weaker (λ r. r.id ≤ t.last) (λ r. r.id ≤ t.last + 1) (λ r h. omega arith) t.rows tree.given) (omega arith);
      origins = All-push (λ r. r.origin < r.id) t.rows row tree.origins (omega arith);
      names = all_pairs_push (λ (a : Row) (b : Row). a.name ≢ b.name) t.rows row tree.names (not_named row.name t.rows new);
      parents = All-push (λ r. parent_in (t.rows ++ row ∷ []) (parent_name r.name) ≡ Some r.parent) t.rows row
          (All-weaker (λ r. parent_in t.rows (parent_name r.name) ≡ Some r.parent) (λ r. parent_in (t.rows ++ row ∷ []) (parent_name r.name) ≡ Some r.parent)
          (λ r h. parent_kept t.rows (row ∷ []) (parent_name r.name) r.parent h) t.rows tree.parents)
          (parent_kept t.rows (row ∷ []) (parent_name row.name) row.parent parent);
      parents_first = All-push (λ r. r.parent < r.id) t.rows row tree.parents_first (omega arith);
    }

there : (found : Option ℕ) → is_none found ≡ false → found ≡ Some (unwrap_or found 0)
there None none = absurd (cc)
there (Some id) none = refl

-- where the name isn't taken and its parent is there, a tree with a new dataset is one
pub IsTree-with_row : (t : Datasets) (name : List ℕ) (kind : Kind) (origin : ℕ) → IsTree t → is_some (row_named name t.rows) ≡ false
    → is_none (parent_in t.rows (parent_name name)) ≡ false → IsDatasetOrNone t origin → IsTree (with_row t name kind origin)
IsTree-with_row t name kind origin tree new parent known =
    IsTree-push t _ tree refl new (there (parent_in t.rows (parent_name name)) parent) (origin_is_given t origin tree known)

-- a name that has a new id isn't taken, and its parent is there
module _ (t : Datasets) (name : List ℕ) (id : ℕ) where
  not_taken : (taken : Bool) (below : Result ℕ Refusal) → cond taken (Err Exists) below ≡ Ok id → (taken ≡ false) × (below ≡ Ok id)
  not_taken true below given = absurd (cc)
  not_taken false below given = (refl, given)

  not_missing : (parent : Option ℕ) → id_below t parent ≡ Ok id → is_none parent ≡ false
  not_missing None given = absurd (cc)
  not_missing (Some parent) given = refl

  pub new_id_needs : new_id t name ≡ Ok id → (is_some (row_named name t.rows) ≡ false) × (is_none (parent_in t.rows (parent_name name)) ≡ false)
  new_id_needs given =
      let free = not_taken (is_some (row_named name t.rows)) (id_below t (parent_in t.rows (parent_name name))) given in
      (free.0, not_missing (parent_in t.rows (parent_name name)) free.1)

pub IsTree-with_new_id : (t : Datasets) (name : List ℕ) (kind : Kind) (origin id : ℕ) → IsTree t → new_id t name ≡ Ok id → IsDatasetOrNone t origin
    → IsTree (with_row t name kind origin)
IsTree-with_new_id t name kind origin id tree given known =
    let needs = new_id_needs t name id given in
    IsTree-with_row t name kind origin tree needs.0 needs.1 known

-- the first that passes a test
found_at : {X : Type 0} (test : X → Bool) (xs : List X) (k : ℕ) (d : X) → k < length xs → test (get_or xs k d) ≡ true
    → ((j : ℕ) → j < k → test (get_or xs j d) ≡ false) → find test xs ≡ Some (get_or xs k d)
found_at test [] k d within passes before = absurd (omega (arith, within))
found_at test (x ∷ xs) zero d within passes before = rw passes refl
found_at test (x ∷ xs) (suc k) d within passes before =
    rw (before 0 (omega arith)) (found_at test xs k d (omega (arith, within)) passes (λ j lower. before (suc j) (omega (arith, lower))))

found_nowhere : {X : Type 0} (test : X → Bool) (xs : List X) → ((k : ℕ) (d : X) → k < length xs → test (get_or xs k d) ≡ false) → find test xs ≡ None
found_nowhere test [] fails = refl
found_nowhere test (x ∷ xs) fails = rw (fails 0 x (omega arith)) (found_nowhere test xs (λ k d within. fails (suc k) d (omega (arith, within))))

unlike : {P : Type 0} (b : Bool) → (b ≡ true) ↔ P → (P → ⊥) → b ≡ false
unlike true decides never = absurd (never (decides.0 refl))
unlike false decides never = refl

same : (a b : ℕ) → a ≡ b → (a == b) ≡ true
same a b h = grind (arith, nat_tests)

other : (a b : ℕ) → a ≢ b → (a == b) ≡ false
other a b h = grind (arith, nat_tests)

-- each row is found by its name and by its id
pub names_find : (t : Datasets) → IsTree t → All (λ row. row_named row.name t.rows ≡ Some row) t.rows
names_find t tree k d within =
    let name = (get_or t.rows k d).name in
    found_at (λ (row : Row). bytes_eq row.name name) t.rows k d within ((bytes_eq-Decides name name).1 refl)
    (λ j lower. unlike (bytes_eq (get_or t.rows j d).name name) (bytes_eq-Decides (get_or t.rows j d).name name) (tree.names j k d lower within))

pub ids_find : (t : Datasets) → IsTree t → All (λ row. row_of row.id t.rows ≡ Some row) t.rows
ids_find t tree k d within =
    let id = (get_or t.rows k d).id in
    found_at (λ (row : Row). row.id == id) t.rows k d within (same id id refl)
    (λ j lower. let before : (get_or t.rows j d).id < id = tree.rising j k d lower within in other (get_or t.rows j d).id id (λ e. omega arith))

-- what is found stands somewhere, and passes the test
find_place : {X : Type 0} (test : X → Bool) (xs : List X) (x : X) → find test xs ≡ Some x → (k : ℕ) × (k < length xs) × ((d : X) → get_or xs k d ≡ x) × (test x ≡ true)
find_place test [] x found = absurd (cc)
find_place {X = X} test (first ∷ xs) x found =
    (elim (test first) as (λ b. test first ≡ b → cond b (Some first) (find test xs) ≡ Some x
    → (k : ℕ) × (k < suc (length xs)) × ((d : X) → get_or (first ∷ xs) k d ≡ x) × (test x ≡ true)) [
      | true ↦ (λ passes here.
          let same : first ≡ x = cc in
          (0, omega arith, (λ d. same), subst (λ (y : X). test y ≡ true) same passes))
      | false ↦ (λ fails behind. let rest = find_place test xs x behind in (suc rest.0, omega (arith, rest.1), rest.2, rest.3))
    ]) refl found

-- a row that is found by its name is found by its id
pub found_by_its_id : (t : Datasets) (test : Row → Bool) (row : Row) → IsTree t → find test t.rows ≡ Some row → row_of row.id t.rows ≡ Some row
found_by_its_id t test row tree found =
    let place = find_place test t.rows row found in
    subst (λ (r : Row). row_of r.id t.rows ≡ Some r) (place.2 row) (ids_find t tree place.0 row place.1)

pub found_by_name : (t : Datasets) (name : List ℕ) (row : Row) → row_named name t.rows ≡ Some row → row.name ≡ name
found_by_name t name row found =
    let place = find_place (λ (r : Row). bytes_eq r.name name) t.rows row found in
    (bytes_eq-Decides row.name name).0 place.3

row_with_id : (found : Option Row) (id : ℕ) → option_map (λ row. row.id) found ≡ Some id → (row : Row) × (found ≡ Some row) × (row.id ≡ id)
row_with_id None id h = absurd (cc)
row_with_id (Some row) id h = (row, refl, let same : row.id ≡ id = cc in same)

no_row_0 : (t : Datasets) → IsTree t → row_of 0 t.rows ≡ None
no_row_0 t tree = found_nowhere (λ (row : Row). row.id == 0) t.rows (λ k d within. let positive = tree.origins k d within in other (get_or t.rows k d).id 0 (λ e. omega arith))

-- the row of the parent has the parent's name, and there is none above a name of one component
parent_by_name : (t : Datasets) → IsTree t → (above : Option (List ℕ)) (parent : ℕ) → parent_in t.rows above ≡ Some parent
    → option_map (λ row. row.name) (row_of parent t.rows) ≡ above
parent_by_name t tree None parent found =
    let zeroth : 0 ≡ parent = cc in
    ap (λ (row : Option Row). option_map (λ (r : Row). r.name) row) (subst (λ (id : ℕ). row_of id t.rows ≡ None) zeroth (no_row_0 t tree))
parent_by_name t tree (Some above) parent found =
    let row = row_with_id (row_named above t.rows) parent found in
    let there : row_of parent t.rows ≡ Some row.0 = subst (λ (id : ℕ). row_of id t.rows ≡ Some row.0) row.2 (found_by_its_id t (λ (r : Row). bytes_eq r.name above) row.0 tree row.1) in
    ap (λ (r : Option Row). option_map (λ (x : Row). x.name) r) there ∙ ap (λ (n : List ℕ). Some n) (found_by_name t above row.0 row.1)

pub parents_have_names : (t : Datasets) → IsTree t → All (λ row. option_map (λ parent. parent.name) (row_of row.parent t.rows) ≡ parent_name row.name) t.rows
parents_have_names t tree k d within =
    parent_by_name t tree (parent_name (get_or t.rows k d).name) (get_or t.rows k d).parent (tree.parents k d within)

-- ---- a row by its place

passed : (a b : ℕ) → nat_lt a b ≡ true → a < b
passed a b h = grind (arith, nat_tests)

failed : (a b : ℕ) → nat_lt a b ≡ false → b ≤ a
failed a b h = grind (arith, nat_tests)

lower : (a b : ℕ) → a < b → nat_lt a b ≡ true
lower a b h = grind (arith, nat_tests)

abbrev pub RisingIds : List Row → Type 0
RisingIds rows = AllPairs (λ (earlier : Row) (later : Row). earlier.id < later.id) rows

-- the test that splits the rows at a place
pub partitioned : (id : ℕ) (rows : List Row) → RisingIds rows → IsPartitionedBy (λ (row : Row). nat_lt row.id id) rows
partitioned id rows rising i j d before within later =
    let cases : (i ≡ j) ⊎ (i < j) = grind arith in
    ⊎_elim (λ (c : i ≡ j). rw c later)
    (λ (c : i < j).
    let higher : (get_or rows i d).id < (get_or rows j d).id = rising i j d c within in
    let low : (get_or rows j d).id < id = passed (get_or rows j d).id id later in
    lower (get_or rows i d).id id (omega arith)) cases

pub below_place : (id : ℕ) (rows : List Row) (i : ℕ) → AllWithin (λ (row : Row). nat_lt row.id id ≡ true) rows 0 i → AllWithin (λ (row : Row). row.id < id) rows 0 i
below_place id rows i split k d from within = passed (get_or rows k d).id id (split k d from within)

pub above_place : (id : ℕ) (rows : List Row) (i : ℕ) → AllWithin (λ (row : Row). nat_lt row.id id ≡ false) rows i (length rows) → AllWithin (λ (row : Row). id ≤ row.id) rows i (length rows)
above_place id rows i split k d from within = failed (get_or rows k d).id id (split k d from within)

-- the row of the id stands at the place where those before it are lower
pub row_at_place : (id : ℕ) (rows : List Row) (i : ℕ) (d : Row) → i < length rows → AllWithin (λ (row : Row). row.id < id) rows 0 i → (get_or rows i d).id ≡ id
    → row_of id rows ≡ Some (get_or rows i d)
row_at_place id rows i d within below here =
    found_at (λ (row : Row). row.id == id) rows i d within (same (get_or rows i d).id id here)
    (λ j before. let low : (get_or rows j d).id < id = below j d (omega arith) before in other (get_or rows j d).id id (λ e. omega arith))

-- where no row of the id stands there, there is none
pub no_row_at_place : (id : ℕ) (rows : List Row) (i : ℕ) → RisingIds rows → AllWithin (λ (row : Row). row.id < id) rows 0 i → AllWithin (λ (row : Row). id ≤ row.id) rows i (length rows)
    → ((d : Row) → i < length rows → (get_or rows i d).id ≢ id) → row_of id rows ≡ None
no_row_at_place id rows i rising below above apart = found_nowhere (λ (row : Row). row.id == id) rows apart_at where
  apart_at : (k : ℕ) (d : Row) → k < length rows → ((get_or rows k d).id == id) ≡ false
  apart_at k d within =
      let cases : (k < i) ⊎ ((k ≡ i) ⊎ (i < k)) = grind arith in
      ⊎_elim (λ (c : k < i). let low : (get_or rows k d).id < id = below k d (omega arith) c in other (get_or rows k d).id id (λ e. omega arith))
      (λ rest. ⊎_elim (λ (c : k ≡ i). rw c (other (get_or rows i d).id id (apart d (omega arith))))
      (λ (c : i < k).
      let first : id ≤ (get_or rows i d).id = above i d (omega arith) (omega arith) in
      let higher : (get_or rows i d).id < (get_or rows k d).id = rising i k d c within in
      other (get_or rows k d).id id (λ e. omega arith)) rest) cases
