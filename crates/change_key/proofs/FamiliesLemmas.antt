-- The families of a root by the datasets are those of its stored records.
use Rattle.std.proofs.Common.{◌≡◌, ◌≢◌, ◌⊎◌, ⊎_elim, inl, inr, ℕ, zero, suc, ◌<◌, ◌≤◌, Bool, true, false, ◌==◌, ◌&&◌, List, [], ◌∷◌, map, get_or, Option, Some, None, is_some, refl, ap, sym, ◌∙◌, subst, arith}
use Rattle.std.proofs.lemmas.Bool.{cases_Bool, cases_eq, eq-eqb, ne_eqb}
use Rattle.std.proofs.lemmas.Bool.Decides.{nat_tests}
use Rattle.std.proofs.lemmas.List.Elements.{All-cons, All-head, All-tail}
use Rattle.std.proofs.lemmas.List.Kept.{AllPairs-cons, AllPairs-filter}
use Rattle.std.specs.List.{All, AllPairs, filter}
use Rattle.dataset_tree.specs.declared.kinds.Kind.{Kind}
use Rattle.dataset_tree.specs.declared.kinds.Kind.TheVariants.{Plain as PlainKind, Crypt}
use Rattle.dataset_tree.specs.declared.tree.Row.{Row}
use Rattle.dataset_tree.specs.Tree.{Datasets, IsTree, row_of}
use Rattle.dataset_tree.proofs.TreeLemmas.{ids_find}
use Rattle.encryption_roots.specs.declared.props.Props.{Props}
use Rattle.encryption_roots.specs.ById.{IsRisingById, at_id}
use Rattle.encryption_roots.specs.Owned.{ids_where, begins_family, is_owner, owned_families}
use Rattle.encryption_roots.specs.Owners.{owner, owner_from, owner_by_kind, family}
use Rattle.encryption_roots.proofs.OwnedLemmas.{kept_have, kept_rise, owns_row}
use Rattle.encryption_roots.proofs.OwnerLemmas.{owner_by_walking, family_by_walking, family_of_clone, ids_fall}
use Rattle.key_machine.specs.Plain.{Plain, Stored, is_same}
use Rattle.key_machine.specs.Sound.{SoundTree, IsEncrypted}
use Rattle.key_machine.proofs.ChangeLaws.{some_id}

-- ---- two rising lists with the same members are one

abbrev Has : ℕ → List ℕ → Type 0
Has n [] = ⊥
Has n (x ∷ xs) = (x ≡ n) ⊎ Has n xs

abbrev Rises : List ℕ → Type 0
Rises [] = Unit {0}
Rises (x ∷ xs) = ((n : ℕ) → Has n xs → x < n) × Rises xs

has_all : (P : ℕ → Type 0) (xs : List ℕ) → All P xs → (n : ℕ) → Has n xs → P n
has_all P [] all n has = absurd has
has_all P (x ∷ xs) all n has = ⊎_elim (λ (same : x ≡ n). subst P same (All-head P x xs all)) (λ (later : Has n xs). has_all P xs (All-tail P x xs all) n later) has

rises : (xs : List ℕ) → AllPairs (λ (a : ℕ) (b : ℕ). a < b) xs → Rises xs
rises [] rising = tt
rises (x ∷ xs) rising = (
  has_all (λ (m : ℕ). x < m) xs (λ k d within. rising 0 (suc k) d (omega arith) (omega arith)),
  rises xs (λ i j d before within. rising (suc i) (suc j) d (omega arith) (omega arith)),
)

same_lists : (xs ys : List ℕ) → Rises xs → Rises ys → ((n : ℕ) → Has n xs → Has n ys) → ((n : ℕ) → Has n ys → Has n xs) → xs ≡ ys
same_lists [] [] up_xs up_ys to from = refl
same_lists [] (y ∷ ys) up_xs up_ys to from = absurd (from y (inl refl))
same_lists (x ∷ xs) [] up_xs up_ys to from = absurd (to x (inl refl))
same_lists (x ∷ xs) (y ∷ ys) up_xs up_ys to from =
    let heads : x ≡ y = ⊎_elim (λ (same : y ≡ x). sym same)
    (λ (later : Has x ys).
    let low : y < x = up_ys.0 x later in
    ⊎_elim (λ (same : x ≡ y). same) (λ (other : Has y xs). absurd (let high : x < y = up_xs.0 y other in omega (arith, low, high))) (from y (inl refl))) (to x (inl refl)) in
    let tails : xs ≡ ys = same_lists xs ys up_xs.1 up_ys.1
    (λ n has. ⊎_elim (λ (same : y ≡ n). absurd (let low : x < n = up_xs.0 n has in omega (arith, heads, same, low))) (λ (later : Has n ys). later) (to n (inr has)))
    (λ n has. ⊎_elim (λ (same : x ≡ n). absurd (let low : y < n = up_ys.0 n has in omega (arith, heads, same, low))) (λ (later : Has n xs). later) (from n (inr has))) in
    ap (λ (h : ℕ). h ∷ xs) heads ∙ ap (λ (t : List ℕ). y ∷ t) tails

-- ---- what a filter by id keeps

module _ {X : Type 0} (keep : ℕ → Bool) where
  abbrev kept_ids : List (ℕ × X) → List ℕ
  kept_ids entries = map (λ entry. entry.0) (filter (λ entry. keep entry.0) entries)

  there_behind : (n : ℕ) (entry : ℕ × X) (entries : List (ℕ × X)) → is_some (at_id n entries) ≡ true → is_some (at_id n (entry ∷ entries)) ≡ true
  there_behind n entry entries there = ⊎_elim (λ (same : entry.0 ≡ n). rw (eq-eqb entry.0 n same) refl) (λ (apart : entry.0 ≢ n). rw (ne_eqb entry.0 n apart) there) (cases_eq entry.0 n)

  has_kept : (n : ℕ) (entries : List (ℕ × X)) → Has n (kept_ids entries) → (keep n ≡ true) × (is_some (at_id n entries) ≡ true)
  has_kept n [] has = absurd has
  has_kept n (entry ∷ entries) has = ⊎_elim
      (λ (passes : keep entry.0 ≡ true).
      let first : Has n (entry.0 ∷ kept_ids entries) = rw passes at has in
      ⊎_elim (λ (same : entry.0 ≡ n). (ap keep (sym same) ∙ passes, rw (eq-eqb entry.0 n same) refl))
      (λ (later : Has n (kept_ids entries)). let rest = has_kept n entries later in (rest.0, there_behind n entry entries rest.1)) first)
      (λ (fails : keep entry.0 ≡ false).
      let later : Has n (kept_ids entries) = rw fails at has in
      let rest = has_kept n entries later in
      (rest.0, there_behind n entry entries rest.1)) (cases_Bool (keep entry.0))

  kept_has : (n : ℕ) (entries : List (ℕ × X)) → keep n ≡ true → is_some (at_id n entries) ≡ true → Has n (kept_ids entries)
  kept_has n [] kept there = absurd (cc)
  kept_has n (entry ∷ entries) kept there = ⊎_elim
      (λ (same : entry.0 ≡ n). let passes : keep entry.0 ≡ true = ap keep same ∙ kept in rw passes (inl same))
      (λ (apart : entry.0 ≢ n).
      let other : (entry.0 == n) ≡ false = ne_eqb entry.0 n apart in
      let behind : is_some (at_id n entries) ≡ true = rw other at there in
      let rest : Has n (kept_ids entries) = kept_has n entries kept behind in
      ⊎_elim (λ (passes : keep entry.0 ≡ true). rw passes (inr rest)) (λ (fails : keep entry.0 ≡ false). rw fails rest) (cases_Bool (keep entry.0))) (cases_eq entry.0 n)

ids_below : {X : Type 0} (P : ℕ → Type 0) (entries : List (ℕ × X)) → All (λ (entry : ℕ × X). P entry.0) entries → All P (map (λ (entry : ℕ × X). entry.0) entries)
ids_below {X} P [] all = λ k d within. absurd (omega arith)
ids_below {X} P (entry ∷ entries) all = All-cons P entry.0 (map (λ (e : ℕ × X). e.0) entries) (All-head (λ (e : ℕ × X). P e.0) entry entries all) (ids_below P entries (All-tail (λ (e : ℕ × X). P e.0) entry entries all))

pub ids_rise : {X : Type 0} (entries : List (ℕ × X)) → IsRisingById entries → AllPairs (λ (a : ℕ) (b : ℕ). a < b) (map (λ (entry : ℕ × X). entry.0) entries)
ids_rise {X} [] rising = λ i j d before within. absurd (omega arith)
ids_rise {X} (entry ∷ entries) rising =
    AllPairs-cons (λ (a : ℕ) (b : ℕ). a < b) entry.0 (map (λ (e : ℕ × X). e.0) entries) (ids_below (λ (m : ℕ). entry.0 < m) entries (λ k d within. rising 0 (suc k) d (omega arith) (omega arith)))
    (ids_rise entries (λ i j d before within. rising (suc i) (suc j) d (omega arith) (omega arith)))

-- ---- what a filter by row keeps

row_has : (test : Row → Bool) (n : ℕ) (rows : List Row) (row : Row) → row_of n rows ≡ Some row → test row ≡ true → Has n (ids_where test rows)
row_has test n [] row found passes = absurd (cc)
row_has test n (first ∷ rows) row found passes = ⊎_elim
    (λ (same : first.id ≡ n).
    let own : (first.id == n) ≡ true = eq-eqb first.id n same in
    let here : Some first ≡ Some row = rw own at found in
    let alike : first ≡ row = cc in
    let mine : test first ≡ true = ap test alike ∙ passes in
    rw mine (inl same))
    (λ (apart : first.id ≢ n).
    let other : (first.id == n) ≡ false = ne_eqb first.id n apart in
    let behind : row_of n rows ≡ Some row = rw other at found in
    let rest : Has n (ids_where test rows) = row_has test n rows row behind passes in
    ⊎_elim (λ (mine : test first ≡ true). rw mine (inr rest)) (λ (fails : test first ≡ false). rw fails rest) (cases_Bool (test first))) (cases_eq first.id n)

has_row : (t : Datasets) (test : Row → Bool) → IsTree t → (n : ℕ) → Has n (ids_where test t.rows) → (row : Row) × (row_of n t.rows ≡ Some row) × (test row ≡ true)
has_row t test tree n has =
    let Passes : ℕ → Type 0 = λ id. (row : Row) × (row_of id t.rows ≡ Some row) × (test row ≡ true) in
    let all : All Passes (ids_where test t.rows) = kept_have Passes test t.rows (λ k d within passes. (get_or t.rows k d, ids_find t tree k d within, passes)) in
    has_all Passes (ids_where test t.rows) all n has

-- ---- the first of a family is no clone

module _ (t : Datasets) (tree : IsTree t) where
  abbrev IsFirstOf : ℕ → Type 0
  IsFirstOf id = (row : Row) → row_of (family t.rows id) t.rows ≡ Some row → row.origin ≡ 0

  first_by_row : (id : ℕ) → ((next : ℕ) → next < id → IsFirstOf next) → (found : Option Row) → row_of id t.rows ≡ found → IsFirstOf id
  first_by_row id lower None is = λ row found. absurd
      (let own : family t.rows id ≡ id = family_by_walking t id tree ∙ rw is refl in
      let there : row_of id t.rows ≡ Some row = subst (λ (m : ℕ). row_of m t.rows ≡ Some row) own found in
      cc)
  first_by_row id lower (Some first) is =
      ⊎_elim
      (λ (none : first.origin ≡ 0).
      let test : (first.origin == 0) ≡ true = eq-eqb first.origin 0 none in
      let own : family t.rows id ≡ id = family_by_walking t id tree ∙ rw (is, test) refl in
      λ (row : Row) found.
      let there : row_of id t.rows ≡ Some row = subst (λ (m : ℕ). row_of m t.rows ≡ Some row) own found in
      let both : Some first ≡ Some row = sym is ∙ there in
      let alike : first ≡ row = cc in
      ap (λ (r : Row). r.origin) (sym alike) ∙ none)
      (λ (clone : first.origin ≢ 0).
      let same : family t.rows id ≡ family t.rows first.origin = family_of_clone t id first (tree, is) clone in
      λ (row : Row) found. lower first.origin (ids_fall t id first (tree, is)).1 row (subst (λ (m : ℕ). row_of m t.rows ≡ Some row) same found)) (cases_eq first.origin 0)

  first_within : (steps id : ℕ) → id ≤ steps → IsFirstOf id
  first_within zero id few = first_by_row id (λ next below. absurd (omega (arith, few, below))) (row_of id t.rows) refl
  first_within (suc steps) id few = first_by_row id (λ next below. first_within steps next (omega (arith, few, below))) (row_of id t.rows) refl

  first_of : (id : ℕ) → IsFirstOf id
  first_of id = first_within id id (omega arith)

  -- a dataset with an owner is there, and encrypted
  owned_row : (roots : List (ℕ × Props)) (root id : ℕ) → owner t.rows roots id ≡ Some root → (row : Row) × (row_of id t.rows ≡ Some row) × (row.kind ≡ Crypt)
  owned_row roots root id own = by_row (row_of id t.rows) refl (sym (owner_by_walking t roots id tree) ∙ own) where
    by_kind : (kind : Kind) (found : Option ℕ) → owner_by_kind kind found ≡ Some root → kind ≡ Crypt
    by_kind PlainKind found is = absurd (cc)
    by_kind Crypt found is = refl

    by_row : (found : Option Row) → row_of id t.rows ≡ found → owner_from roots id found (λ next. owner t.rows roots next) ≡ Some root → (row : Row) × (row_of id t.rows ≡ Some row) × (row.kind ≡ Crypt)
    by_row None is walked = absurd (cc)
    by_row (Some row) is walked = (row, is, by_kind row.kind _ walked)

-- ---- the families

owned_test : (id : ℕ) (found : Option ℕ) → is_same id found ≡ true → found ≡ Some id
owned_test id None h = absurd (cc)
owned_test id (Some other) h = grind (arith, nat_tests)

row_id : (n : ℕ) (rows : List Row) (row : Row) → row_of n rows ≡ Some row → row.id ≡ n
row_id n [] row found = absurd (cc)
row_id n (first ∷ rows) row found =
    let rest = row_id n rows row in
    grind (arith, nat_tests)

module _ (p : Plain) (s : SoundTree p) (roots : List (ℕ × Props)) (root : ℕ) where
  abbrev is_mine : ℕ → Bool
  is_mine at = is_same root (owner p.tree.rows roots at)

  abbrev is_first : Row → Bool
  is_first row = begins_family row && is_owner root (owner p.tree.rows roots row.id)

  to_rows : (n : ℕ) → Has n (map (λ entry. entry.0) (filter (λ (entry : ℕ × Stored). is_mine entry.0) p.wrapped)) → Has n (owned_families p.tree.rows roots root)
  to_rows n has =
      let kept = has_kept is_mine n p.wrapped has in
      let own : owner p.tree.rows roots n ≡ Some root = owned_test root (owner p.tree.rows roots n) kept.0 in
      let row = owned_row p.tree s.tree roots root n own in
      let of = (s.families n).0 kept.1 in
      let origin : row.0.origin ≡ 0 = first_of p.tree s.tree of.0 row.0 (ap (λ (m : ℕ). row_of m p.tree.rows) of.2 ∙ row.1) in
      let same : row.0.id ≡ n = row_id n p.tree.rows row.0 row.1 in
      row_has is_first n p.tree.rows row.0 row.1 ((owns_row p.tree.rows roots root row.0).1 (row.2, origin, ap (λ (m : ℕ). owner p.tree.rows roots m) same ∙ own))

  from_rows : (n : ℕ) → Has n (owned_families p.tree.rows roots root) → Has n (map (λ entry. entry.0) (filter (λ (entry : ℕ × Stored). is_mine entry.0) p.wrapped))
  from_rows n has =
      let row = has_row p.tree is_first s.tree n has in
      let owns = (owns_row p.tree.rows roots root row.0).0 row.2 in
      let same : row.0.id ≡ n = row_id n p.tree.rows row.0 row.1 in
      let own : owner p.tree.rows roots n ≡ Some root = ap (λ (m : ℕ). owner p.tree.rows roots m) (sym same) ∙ owns.2 in
      let none : (row.0.origin == 0) ≡ true = eq-eqb row.0.origin 0 owns.1 in
      let found : row_of n p.tree.rows ≡ Some row.0 = row.1 in
      let first : family p.tree.rows n ≡ n = family_by_walking p.tree n s.tree ∙ rw (found, none) refl in
      kept_has is_mine n p.wrapped (ap (is_same root) own ∙ some_id root) ((s.families n).1 (n, (row.0, row.1, owns.0), first))

  pub families_are : map (λ entry. entry.0) (filter (λ (entry : ℕ × Stored). is_mine entry.0) p.wrapped) ≡ owned_families p.tree.rows roots root
  families_are = same_lists (map (λ entry. entry.0) (filter (λ (entry : ℕ × Stored). is_mine entry.0) p.wrapped)) (owned_families p.tree.rows roots root)
      (rises (map (λ entry. entry.0) (filter (λ (entry : ℕ × Stored). is_mine entry.0) p.wrapped)) (ids_rise (filter (λ (entry : ℕ × Stored). is_mine entry.0) p.wrapped) (AllPairs-filter (λ (a b : ℕ × Stored). a.0 < b.0) (λ (entry : ℕ × Stored). is_mine entry.0) p.wrapped s.records)))
      (rises (owned_families p.tree.rows roots root) (kept_rise is_first p.tree.rows s.tree.rising)) to_rows from_rows
