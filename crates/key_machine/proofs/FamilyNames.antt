-- The stored records are those of the families that the datasets tell.
use Rattle.std.proofs.Common.{◌≡◌, ◌≢◌, ⊎_elim, ℕ, zero, suc, ◌<◌, ◌≤◌, Bool, true, false, cond, ◌==◌, ◌&&◌, List, [], ◌∷◌, map, Option, Some, None, is_some, refl, ap, sym, ◌∙◌, subst, arith}
use Rattle.std.proofs.lemmas.Bool.{cases_Bool, cases_eq, eq-eqb, ne_eqb}
use Rattle.std.proofs.lemmas.Bool.Decides.{nat_tests}
use Rattle.std.proofs.lemmas.List.Elements.{All-nil, All-cons, All-head, All-tail, recursion_from_All}
use Rattle.std.proofs.lemmas.List.Kept.{AllPairs-cons}
use Rattle.std.specs.List.{All, AllPairs, filter, list_any}
use Rattle.dataset_tree.specs.declared.kinds.Kind.{Kind}
use Rattle.dataset_tree.specs.declared.kinds.Kind.TheVariants.{Plain as PlainKind, Crypt}
use Rattle.dataset_tree.specs.declared.tree.Row.{Row}
use Rattle.dataset_tree.specs.Tree.{row_of}
use Rattle.encryption_roots.specs.declared.props.Props.{Props}
use Rattle.encryption_roots.specs.ById.{IsRisingById, at_id}
use Rattle.encryption_roots.specs.Owned.{ids_where, is_crypt, begins_family, is_owner, owned_families}
use Rattle.encryption_roots.specs.Owners.{owner, family}
use Rattle.encryption_roots.proofs.OwnedLemmas.{kept_have, kept_rise}
use Rattle.encryption_roots.proofs.OwnerLemmas.{family_by_walking, family_of_clone, ids_fall}
use Rattle.key_machine.specs.Plain.{Plain, Stored, is_same, owned}
use Rattle.key_machine.specs.Sound.{SoundTree, IsEncrypted}
use Rattle.key_machine.proofs.RekeyRecords.{there_by_ids}
use Rattle.key_machine.proofs.CreateLawsCases.{found_has}

-- ---- rising lists with the same numbers are equal

abbrev has : ℕ → List ℕ → Bool
has x xs = list_any (λ y. y == x) xs

has_none : (x : ℕ) (xs : List ℕ) → All (λ y. x < y) xs → has x xs ≡ false
has_none x [] all = refl
has_none x (y ∷ ys) all =
    let here : x < y = All-head (λ (z : ℕ). x < z) y ys all in
    let rest : has x ys ≡ false = has_none x ys (All-tail (λ (z : ℕ). x < z) y ys all) in
    let apart : (y == x) ≡ false = grind (arith, nat_tests) in
    rw (apart, rest) refl

has_or : (x y : ℕ) (ys : List ℕ) → x ≢ y → has x (y ∷ ys) ≡ has x ys
has_or x y ys apart = let other : (y == x) ≡ false = ne_eqb y x (λ same. apart (sym same)) in rw other refl

has_first : (x : ℕ) (xs : List ℕ) → has x (x ∷ xs) ≡ true
has_first x xs = rw (eq-eqb x x refl) refl

later : (x : ℕ) (xs : List ℕ) → AllPairs (λ (a : ℕ) (b : ℕ). a < b) (x ∷ xs) → All (λ (y : ℕ). x < y) xs
later x xs rising = λ k d within. rising 0 (suc k) d (omega arith) (omega arith)

tail_rises : (x : ℕ) (xs : List ℕ) → AllPairs (λ (a : ℕ) (b : ℕ). a < b) (x ∷ xs) → AllPairs (λ (a : ℕ) (b : ℕ). a < b) xs
tail_rises x xs rising = λ i j d before within. rising (suc i) (suc j) d (omega arith) (omega arith)

-- a number in a rising list isn't below its first
not_below : (x y : ℕ) (ys : List ℕ) → All (λ (z : ℕ). y < z) ys → has x (y ∷ ys) ≡ true → y ≤ x
not_below x y ys all there = ⊎_elim (λ (same : x ≡ y). omega (arith, same))
    (λ (apart : x ≢ y). by_tail x y ys all (sym (has_or x y ys apart) ∙ there)) (cases_eq x y)
  where
    by_tail : (x y : ℕ) (ys : List ℕ) → All (λ (z : ℕ). y < z) ys → has x ys ≡ true → y ≤ x
    by_tail x y [] all there = absurd (cc)
    by_tail x y (z ∷ zs) all there =
        let here : y < z = All-head (λ (w : ℕ). y < w) z zs all in
        ⊎_elim (λ (same : x ≡ z). omega (arith, same, here))
        (λ (apart : x ≢ z). by_tail x y zs (All-tail (λ (w : ℕ). y < w) z zs all) (sym (has_or x z zs apart) ∙ there)) (cases_eq x z)

same_rising : (xs ys : List ℕ) → AllPairs (λ (a : ℕ) (b : ℕ). a < b) xs → AllPairs (λ (a : ℕ) (b : ℕ). a < b) ys → ((x : ℕ) → has x xs ≡ has x ys) → xs ≡ ys
same_rising [] [] rx ry same = refl
same_rising [] (y ∷ ys) rx ry same = absurd (let both : false ≡ true = same y ∙ has_first y ys in cc)
same_rising (x ∷ xs) [] rx ry same = absurd (let both : true ≡ false = sym (has_first x xs) ∙ same x in cc)
same_rising (x ∷ xs) (y ∷ ys) rx ry same =
    let above : y ≤ x = not_below x y ys (later y ys ry) (sym (same x) ∙ has_first x xs) in
    let below : x ≤ y = not_below y x xs (later x xs rx) (same y ∙ has_first y ys) in
    let equal : x ≡ y = omega (arith, above, below) in
    let rest : xs ≡ ys = same_rising xs ys (tail_rises x xs rx) (tail_rises y ys ry)
    (λ z.
    ⊎_elim
    (λ (own : z ≡ x).
    let first : has z xs ≡ false = subst (λ (m : ℕ). has m xs ≡ false) (sym own) (has_none x xs (later x xs rx)) in
    let second : has z ys ≡ false = subst (λ (m : ℕ). has m ys ≡ false) (sym (own ∙ equal)) (has_none y ys (later y ys ry)) in
    first ∙ sym second)
    (λ (apart : z ≢ x). sym (has_or z x xs apart) ∙ same z ∙ has_or z y ys (λ own. apart (own ∙ sym equal))) (cases_eq z x)) in
    ap (λ (m : ℕ). m ∷ xs) equal ∙ ap (λ (ms : List ℕ). y ∷ ms) rest

-- the ids of a list in rising order of id
ids_rise : {X : Type 0} (entries : List (ℕ × X)) → IsRisingById entries → AllPairs (λ (a : ℕ) (b : ℕ). a < b) (map (λ entry. entry.0) entries)
ids_rise {X} [] rising = λ i j d before within. absurd (omega arith)
ids_rise {X} (entry ∷ entries) rising =
    let rest = ids_rise entries (λ i j d before within. rising (suc i) (suc j) d (omega arith) (omega arith)) in
    let above : All (λ (m : ℕ). entry.0 < m) (map (λ (e : ℕ × X). e.0) entries) = ids_above entries entry.0 (λ k d within. rising 0 (suc k) d (omega arith) (omega arith)) in
    AllPairs-cons (λ (a : ℕ) (b : ℕ). a < b) entry.0 (map (λ (e : ℕ × X). e.0) entries) above rest
  where
    ids_above : (entries : List (ℕ × X)) (id : ℕ) → All (λ (e : ℕ × X). id < e.0) entries → All (λ (m : ℕ). id < m) (map (λ (e : ℕ × X). e.0) entries)
    ids_above [] id all = All-nil (λ (m : ℕ). id < m)
    ids_above (e ∷ es) id all =
        All-cons (λ (m : ℕ). id < m) e.0 (map (λ (x : ℕ × X). x.0) es) (All-head (λ (x : ℕ × X). id < x.0) e es all) (ids_above es id (All-tail (λ (x : ℕ × X). id < x.0) e es all))

-- ---- the first datasets of families

-- whether a row is found that passes
abbrev tested : Option Row → (Row → Bool) → Bool
tested None test = false
tested (Some row) test = test row

has_where : (test : Row → Bool) (rows : List Row) (id : ℕ) → AllPairs (λ (a : Row) (b : Row). a.id < b.id) rows
    → has id (ids_where test rows) ≡ tested (row_of id rows) test
has_where test [] id rising = refl
has_where test (row ∷ rows) id rising =
    let rest = has_where test rows id (λ i j d before within. rising (suc i) (suc j) d (omega arith) (omega arith)) in
    let above : All (λ (m : ℕ). row.id < m) (ids_where test rows) = kept_have (λ m. row.id < m) test rows (λ k d within passes. rising 0 (suc k) d (omega arith) (omega arith)) in
    ⊎_elim
    (λ (same : row.id ≡ id).
    let here : (row.id == id) ≡ true = eq-eqb row.id id same in
    let none : has id (ids_where test rows) ≡ false = subst (λ (m : ℕ). has m (ids_where test rows) ≡ false) same (has_none row.id (ids_where test rows) above) in
    ⊎_elim (λ (passes : test row ≡ true). rw (passes, here, passes) refl) (λ (fails : test row ≡ false). rw (fails, here, fails, none) refl) (cases_Bool (test row)))
    (λ (apart : row.id ≢ id).
    let other : (row.id == id) ≡ false = ne_eqb row.id id apart in
    ⊎_elim (λ (passes : test row ≡ true). rw (passes, other) rest) (λ (fails : test row ≡ false). rw (fails, other) rest) (cases_Bool (test row))) (cases_eq row.id id)

crypt_true : (kind : Kind) → kind ≡ Crypt → is_crypt kind ≡ true
crypt_true PlainKind is = absurd (cc)
crypt_true Crypt is = refl

crypt_is : (kind : Kind) → is_crypt kind ≡ true → kind ≡ Crypt
crypt_is PlainKind is = absurd (cc)
crypt_is Crypt is = refl

both_true : (a b : Bool) → a ≡ true → b ≡ true → (a && b) ≡ true
both_true true true x y = refl
both_true true false x y = absurd (cc)
both_true false b x y = absurd (cc)

first_true : (a b : Bool) → (a && b) ≡ true → (a ≡ true) × (b ≡ true)
first_true true true h = (refl, refl)
first_true true false h = absurd (cc)
first_true false b h = absurd (cc)

module _ (p : Plain) (s : SoundTree p) where
  -- the family of an encrypted dataset is named by one that begins it
  abbrev Begins : ℕ → Type 0
  Begins id = tested (row_of (family p.tree.rows id) p.tree.rows) begins_family ≡ true

  begun : (id : ℕ) (row : Row) → row_of id p.tree.rows ≡ Some row → row.kind ≡ Crypt → ((next : ℕ) → next < id → IsEncrypted p next → Begins next) → Begins id
  begun id row found crypt lower = ⊎_elim
      (λ (first : row.origin ≡ 0).
      let zero_is : (row.origin == 0) ≡ true = eq-eqb row.origin 0 first in
      let own : family p.tree.rows id ≡ id = family_by_walking p.tree id s.tree ∙ rw (found, zero_is) refl in
      let begins : begins_family row ≡ true = both_true (is_crypt row.kind) (row.origin == 0) (crypt_true row.kind crypt) zero_is in
      subst (λ (m : ℕ). tested (row_of m p.tree.rows) begins_family ≡ true) (sym own) (subst (λ (r : Option Row). tested r begins_family ≡ true) (sym found) begins))
      (λ (clone : row.origin ≢ 0).
      let same : family p.tree.rows id ≡ family p.tree.rows row.origin = family_of_clone p.tree id row (s.tree, found) clone in
      let origins = found_has (λ (r : Row). r.origin ≢ 0 → (r.kind ≡ Crypt) × IsEncrypted p r.origin) (λ r. r.id == id) p.tree.rows row
      (recursion_from_All (λ (r : Row). r.origin ≢ 0 → (r.kind ≡ Crypt) × IsEncrypted p r.origin) p.tree.rows s.origins) found in
      subst (λ (m : ℕ). tested (row_of m p.tree.rows) begins_family ≡ true) (sym same) (lower row.origin (ids_fall p.tree id row (s.tree, found)).1 (origins clone).1)) (cases_eq row.origin 0)

  begins_within : (steps id : ℕ) → id ≤ steps → IsEncrypted p id → Begins id
  begins_within zero id few crypt = begun id crypt.0 crypt.1 crypt.2 (λ next below other. absurd (omega (arith, few, below)))
  begins_within (suc steps) id few crypt = begun id crypt.0 crypt.1 crypt.2 (λ next below other. begins_within steps next (omega (arith, few, below)) other)

  -- a family has a record exactly where its dataset begins one
  recorded : (id : ℕ) → is_some (at_id id p.wrapped) ≡ tested (row_of id p.tree.rows) begins_family
  recorded id = alike (is_some (at_id id p.wrapped)) (tested (row_of id p.tree.rows) begins_family)
      (λ there.
      let of = (s.families id).0 there in
      subst (λ (m : ℕ). tested (row_of m p.tree.rows) begins_family ≡ true) of.2 (begins_within of.0 of.0 (omega arith) of.1))
      (λ begins. by_row (row_of id p.tree.rows) refl begins)
    where
      alike : (a b : Bool) → (a ≡ true → b ≡ true) → (b ≡ true → a ≡ true) → a ≡ b
      alike true b to from = sym (to refl)
      alike false true to from = from refl
      alike false false to from = refl

      by_row : (found : Option Row) → row_of id p.tree.rows ≡ found → tested found begins_family ≡ true → is_some (at_id id p.wrapped) ≡ true
      by_row None is begins = absurd (cc)
      by_row (Some row) is begins =
          let both = first_true (is_crypt row.kind) (row.origin == 0) begins in
          let zero_is : (row.origin == 0) ≡ true = both.1 in
          let own : family p.tree.rows id ≡ id = family_by_walking p.tree id s.tree ∙ rw (is, zero_is) refl in
          (s.families id).1 (id, (row, is, crypt_is row.kind both.0), own)

  ids_of_records : map (λ entry. entry.0) p.wrapped ≡ ids_where begins_family p.tree.rows
  ids_of_records = same_rising (map (λ entry. entry.0) p.wrapped) (ids_where begins_family p.tree.rows) (ids_rise p.wrapped s.records) (kept_rise begins_family p.tree.rows s.tree.rising)
      (λ id. sym (there_by_ids id p.wrapped) ∙ recorded id ∙ sym (has_where begins_family p.tree.rows id s.tree.rising))

-- a test of ids, before or behind the naming
filter_ids : (test : ℕ → Bool) (entries : List (ℕ × Stored)) → map (λ entry. entry.0) (filter (λ entry. test entry.0) entries) ≡ filter test (map (λ entry. entry.0) entries)
filter_ids test [] = refl
filter_ids test (entry ∷ entries) =
    let rest = filter_ids test entries in
    ⊎_elim (λ (passes : test entry.0 ≡ true). rw passes (ap (λ ids. entry.0 ∷ ids) rest)) (λ (fails : test entry.0 ≡ false). rw fails rest) (cases_Bool (test entry.0))

filter_rows : (test : ℕ → Bool) (begins : Row → Bool) (rows : List Row) → ids_where (λ row. begins row && test row.id) rows ≡ filter test (ids_where begins rows)
filter_rows test begins [] = refl
filter_rows test begins (row ∷ rows) =
    let rest = filter_rows test begins rows in
    ⊎_elim
    (λ (starts : begins row ≡ true).
    ⊎_elim (λ (passes : test row.id ≡ true). rw (starts, passes) (ap (λ ids. row.id ∷ ids) rest)) (λ (fails : test row.id ≡ false). rw (starts, fails) rest) (cases_Bool (test row.id)))
    (λ (stops : begins row ≡ false). rw stops rest) (cases_Bool (begins row))

owners_alike : (root : ℕ) (found : Option ℕ) → is_same root found ≡ is_owner root found
owners_alike root None = refl
owners_alike root (Some other) = refl

filter_alike : (first second : ℕ → Bool) (ids : List ℕ) → ((id : ℕ) → first id ≡ second id) → filter first ids ≡ filter second ids
filter_alike first second [] same = refl
filter_alike first second (id ∷ ids) same = ap (λ b. cond b (id ∷ filter first ids) (filter first ids)) (same id) ∙ ap (λ kept. cond (second id) (id ∷ kept) kept) (filter_alike first second ids same)

pub owned_ids : (p : Plain) (roots : List (ℕ × Props)) (root : ℕ) → SoundTree p → map (λ entry. entry.0) (owned (record p { roots = roots }) root) ≡ owned_families p.tree.rows roots root
owned_ids p roots root s =
    filter_ids (λ id. is_same root (owner p.tree.rows roots id)) p.wrapped
    ∙ filter_alike (λ id. is_same root (owner p.tree.rows roots id)) (λ id. is_owner root (owner p.tree.rows roots id)) (map (λ entry. entry.0) p.wrapped) (λ id. owners_alike root (owner p.tree.rows roots id))
    ∙ ap (λ ids. filter (λ id. is_owner root (owner p.tree.rows roots id)) ids) (ids_of_records p s)
    ∙ sym (filter_rows (λ id. is_owner root (owner p.tree.rows roots id)) begins_family p.tree.rows)
