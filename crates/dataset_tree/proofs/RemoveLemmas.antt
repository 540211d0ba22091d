-- A tree without one of its rows.
use Rattle.std.proofs.Common.{◌≡◌, ◌≢◌, ℕ, zero, suc, ◌<◌, ◌≤◌, ◌==◌, ◌||◌, Bool, true, false, not, cond, List, [], ◌∷◌, length, get_or, Option, Some, None, refl, sym, ◌∙◌, arith}
use Rattle.std.proofs.lemmas.Bool.Decides.{nat_tests}
use Rattle.std.specs.List.{All, AllPairs, AllByRecursion, find, filter, list_any}
use Rattle.std.specs.Option.{option_map}
use Rattle.std.specs.Str.{bytes_eq}
use Rattle.std.proofs.lemmas.List.Elements.{All-filter, All-get_or, All-from_recursion, recursion_from_All}
use Rattle.dataset_tree.specs.declared.tree.Row.{Row}
use Rattle.dataset_tree.specs.SetName.{parent_name}
use Rattle.dataset_tree.specs.Tree.{Datasets, IsTree, is_needed, parent_in, without_row}

-- ---- pairs of what passes a test

module _ {X : Type 0} (R : X → X → Type 0) (test : X → Bool) where
  abbrev Pairwise : List X → Type 0
  Pairwise [] = Unit {0}
  Pairwise (x ∷ xs) = AllByRecursion (R x) xs × Pairwise xs

  pairwise : (xs : List X) → AllPairs R xs → Pairwise xs
  pairwise [] pairs = tt
  pairwise (x ∷ xs) pairs =
      (recursion_from_All (R x) xs (λ k d within. pairs 0 (suc k) d (omega arith) (omega arith)), pairwise xs (λ i j d before within. pairs (suc i) (suc j) d (omega arith) (omega arith)))

  all_pairs : (xs : List X) → Pairwise xs → (i j : ℕ) (d : X) → i < j → j < length xs → R (get_or xs i d) (get_or xs j d)
  all_pairs [] pairs i j d before within = absurd (omega arith)
  all_pairs (x ∷ xs) pairs zero zero d before within = absurd (omega arith)
  all_pairs (x ∷ xs) pairs (suc i) zero d before within = absurd (omega arith)
  all_pairs (x ∷ xs) pairs zero (suc j) d before within = All-get_or (R x) xs j d (omega arith) (All-from_recursion (R x) xs pairs.0)
  all_pairs (x ∷ xs) pairs (suc i) (suc j) d before within = all_pairs xs pairs.1 i j d (omega arith) (omega arith)

  some : (P : X → Type 0) (xs : List X) → AllByRecursion P xs → AllByRecursion P (filter test xs)
  some P [] all = tt
  some P (x ∷ xs) all = elim (test x) as (λ b. AllByRecursion P (cond b (x ∷ filter test xs) (filter test xs))) [ true ↦ (all.0, some P xs all.1) | false ↦ some P xs all.1 ]

  some_pairs : (xs : List X) → Pairwise xs → Pairwise (filter test xs)
  some_pairs [] pairs = tt
  some_pairs (x ∷ xs) pairs =
      elim (test x) as (λ b. Pairwise (cond b (x ∷ filter test xs) (filter test xs))) [ true ↦ (some (R x) xs pairs.0, some_pairs xs pairs.1) | false ↦ some_pairs xs pairs.1 ]

  AllPairs-filter : (xs : List X) → AllPairs R xs → AllPairs R (filter test xs)
  AllPairs-filter xs pairs = all_pairs (filter test xs) (some_pairs xs (pairwise xs pairs))

-- ---- a dataset that none needs

none_passes : {X : Type 0} (test : X → Bool) (xs : List X) → list_any test xs ≡ false → All (λ x. test x ≡ false) xs
none_passes test [] none k d within = absurd (omega arith)
none_passes test (x ∷ xs) none zero d within = grind (arith, nat_tests)
none_passes test (x ∷ xs) none (suc k) d within =
    let rest : list_any test xs ≡ false = grind (arith, nat_tests) in none_passes test xs rest k d (omega arith)

unneeded : (id : ℕ) (row : Row) → (row.parent == id || row.origin == id) ≡ false → row.parent ≢ id
unneeded id row none = λ same. let is : (row.parent == id) ≡ true = grind (arith, nat_tests) in absurd (grind (arith, nat_tests))

other : (a b : ℕ) → a ≢ b → (a == b) ≡ false
other a b h = grind (arith, nat_tests)

-- what is found under another id is found without the row
still_found : (test : Row → Bool) (id parent : ℕ) (rows : List Row) → option_map (λ row. row.id) (find test rows) ≡ Some parent → parent ≢ id
    → option_map (λ row. row.id) (find test (filter (λ row. not (row.id == id)) rows)) ≡ Some parent
still_found test id parent [] found apart = absurd (cc)
still_found test id parent (row ∷ rows) found apart =
    (elim (test row) as (λ b. test row ≡ b → option_map (λ (r : Row). r.id) (cond b (Some row) (find test rows)) ≡ Some parent
    → option_map (λ (r : Row). r.id) (find test (cond (not (row.id == id)) (row ∷ filter (λ (r : Row). not (r.id == id)) rows) (filter (λ (r : Row). not (r.id == id)) rows))) ≡ Some parent) [
      | true ↦ (λ passes here.
          let mine : row.id ≡ parent = cc in
          let apart : (row.id == id) ≡ false = other row.id id (λ e. apart (sym mine ∙ e)) in
          rw (apart, passes) here)
      | false ↦ (λ fails behind.
          let rest = still_found test id parent rows behind apart in
          elim (not (row.id == id)) as (λ b. option_map (λ (r : Row). r.id) (find test (cond b (row ∷ filter (λ (r : Row). not (r.id == id)) rows) (filter (λ (r : Row). not (r.id == id)) rows))) ≡ Some parent) [
            | true ↦ rw fails rest
            | false ↦ rest
          ])
    ]) refl found

parent_stays : (id parent : ℕ) (rows : List Row) (name : Option (List ℕ)) → parent_in rows name ≡ Some parent → parent ≢ id
    → parent_in (filter (λ row. not (row.id == id)) rows) name ≡ Some parent
parent_stays id parent rows None found apart = found
parent_stays id parent rows (Some name) found apart = still_found (λ row. bytes_eq row.name name) id parent rows found apart

-- without a dataset that none needs a tree is one
pub IsTree-without_row : (t : Datasets) (id : ℕ) → IsTree t → is_needed id t.rows ≡ false → IsTree (without_row t id)
IsTree-without_row t id tree free = record {
  rising = AllPairs-filter (λ (a : Row) (b : Row). a.id < b.id) (λ row. not (row.id == id)) t.rows tree.rising;
  given = All-filter (λ row. not (row.id == id)) (λ row. row.id ≤ t.last) t.rows tree.given;
  origins = All-filter (λ row. not (row.id == id)) (λ row. row.origin < row.id) t.rows tree.origins;
  names = AllPairs-filter (λ (a : Row) (b : Row). a.name ≢ b.name) (λ row. not (row.id == id)) t.rows tree.names;
  parents = All-filter (λ row. not (row.id == id)) (λ row. parent_in (without_row t id).rows (parent_name row.name) ≡ Some row.parent) t.rows
      (λ k d within. parent_stays id (get_or t.rows k d).parent t.rows (parent_name (get_or t.rows k d).name) (tree.parents k d within)
      (unneeded id (get_or t.rows k d) (none_passes (λ row. row.parent == id || row.origin == id) t.rows free k d within)));
  parents_first = All-filter (λ row. not (row.id == id)) (λ row. row.parent < row.id) t.rows tree.parents_first;
}
