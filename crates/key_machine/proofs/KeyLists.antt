-- Lists that are filtered, and looked up.
use Rattle.std.proofs.Common.{◌≡◌, ◌⊎◌, ⊎_elim, ℕ, zero, suc, ◌<◌, ◌≤◌, Bool, true, false, cond, ◌==◌, nat_lt, List, [], ◌∷◌, length, get_or, map, Option, Some, None, is_some, refl, ap, sym, subst, ◌∙◌, arith}
use Rattle.std.proofs.lemmas.Bool.{cases_Bool, cond_both, eqb-true}
use Rattle.std.proofs.lemmas.Bool.Decides.{nat_tests}
use Rattle.std.proofs.lemmas.List.{get_or_default}
use Rattle.std.proofs.lemmas.List.Sums.{get_or-le-sum_by}
use Rattle.std.proofs.lemmas.List.Elements.{All-nil, All-cons, All-head, All-tail}
use Rattle.std.specs.List.{All, Contains, filter, count_by}
use Rattle.encryption_roots.specs.ById.{IsRisingById, at_id, with_id}
use Rattle.encryption_roots.proofs.ByIdLemmas.{at_id-found}

-- what holds of each element that passes holds of each that is kept
pub All-kept : {X : Type 0} (P Q : X → Type 0) (test : X → Bool) (xs : List X) → ((x : X) → P x → test x ≡ true → Q x) → All P xs → All Q (filter test xs)
All-kept P Q test [] each all = All-nil Q
All-kept P Q test (x ∷ xs) each all =
    let rest : All Q (filter test xs) = All-kept P Q test xs each (All-tail P x xs all) in
    ⊎_elim (λ (passes : test x ≡ true). rw passes (All-cons Q x (filter test xs) (each x (All-head P x xs all) passes) rest)) (λ (fails : test x ≡ false). rw fails rest) (cases_Bool (test x))

pub contains_kept : {X Y : Type 0} (test : X → Bool) (f : X → Y) (xs : List X) (k : ℕ) (d : X) → k < length xs → test (get_or xs k d) ≡ true → Contains (map f (filter test xs)) (f (get_or xs k d))
contains_kept test f [] k d within passes = absurd (omega arith)
contains_kept test f (x ∷ xs) zero d within passes = rw passes (0, omega arith, refl)
contains_kept test f (x ∷ xs) (suc k) d within passes =
    let rest : Contains (map f (filter test xs)) (f (get_or xs k d)) = contains_kept test f xs k d (omega arith) passes in
    ⊎_elim (λ (first : test x ≡ true). rw first (suc rest.0, omega arith, rest.2)) (λ (first : test x ≡ false). rw first rest) (cases_Bool (test x))

pub at_id-filter : {X : Type 0} (keep : ℕ → Bool) (id : ℕ) (entries : List (ℕ × X)) → keep id ≡ true → at_id id (filter (λ entry. keep entry.0) entries) ≡ at_id id entries
at_id-filter keep id [] kept = refl
at_id-filter keep id (entry ∷ entries) kept =
    let rest : at_id id (filter (λ entry. keep entry.0) entries) ≡ at_id id entries = at_id-filter keep id entries kept in
    let cases : (entry.0 ≡ id) ⊎ ((entry.0 == id) ≡ false) = grind (arith, nat_tests) in
    ⊎_elim (λ (c : keep entry.0 ≡ true). rw c (ap (λ found. cond (entry.0 == id) (Some entry.1) found) rest))
    (λ (c : keep entry.0 ≡ false).
    ⊎_elim (λ (same : entry.0 ≡ id). absurd (let kept : keep entry.0 ≡ true = ap keep same ∙ kept in cc)) (λ (other : (entry.0 == id) ≡ false). rw (c, other) rest) cases) (cases_Bool (keep entry.0))

pub at_id-dropped : {X : Type 0} (keep : ℕ → Bool) (id : ℕ) (entries : List (ℕ × X)) → keep id ≡ false → at_id id (filter (λ entry. keep entry.0) entries) ≡ None
at_id-dropped keep id [] gone = refl
at_id-dropped keep id (entry ∷ entries) gone =
    let rest : at_id id (filter (λ entry. keep entry.0) entries) ≡ None = at_id-dropped keep id entries gone in
    ⊎_elim
    (λ (kept : keep entry.0 ≡ true).
    let other : (entry.0 == id) ≡ false = unlike (entry.0 == id) (λ yes. (let same : entry.0 ≡ id = eqb-true entry.0 id yes in let kept : keep id ≡ true = ap keep (sym same) ∙ kept in let both : true ≡ false = sym kept ∙ gone in cc)) in
    rw (kept, other) rest)
    (λ (dropped : keep entry.0 ≡ false). rw dropped rest) (cases_Bool (keep entry.0))
  where
    unlike : (b : Bool) → (b ≡ true → ⊥) → b ≡ false
    unlike true never = absurd (never refl)
    unlike false never = refl

-- what holds of each entry holds of one that is found
pub at_id_is : {X : Type 0} (P : ℕ × X → Type 0) (id : ℕ) (entries : List (ℕ × X)) (value : X) → All P entries → at_id id entries ≡ Some value → P (id, value)
at_id_is P id [] value all found = absurd (cc)
at_id_is P id (entry ∷ entries) value all found =
    (elim (entry.0 == id) as (λ b. (entry.0 == id) ≡ b → cond b (Some entry.1) (at_id id entries) ≡ Some value → P (id, value)) [
      | true ↦ (λ own there.
          let here : entry.1 ≡ value = cc in
          let same : entry.0 ≡ id = eqb-true entry.0 id own in
          subst (λ v. P (id, v)) here (subst (λ at. P (at, entry.1)) same (All-head P entry entries all)))
      | false ↦ (λ other there. at_id_is P id entries value (All-tail P entry entries all) there)
    ]) refl found

some_of : {X : Type 0} (found : Option X) → is_some found ≡ true → (value : X) × (found ≡ Some value)
some_of None none = absurd (cc)
some_of (Some value) there = (value, refl)

pub at_id_holds : {X : Type 0} (P : ℕ × X → Type 0) (id : ℕ) (entries : List (ℕ × X)) → All P entries → is_some (at_id id entries) ≡ true → (value : X) × P (id, value)
at_id_holds P id entries all there =
    let found = some_of (at_id id entries) there in
    (found.0, at_id_is P id entries found.0 all found.1)

-- in rising order each entry is found
pub each_found : {X : Type 0} (entries : List (ℕ × X)) → IsRisingById entries → All (λ entry. at_id entry.0 entries ≡ Some entry.1) entries
each_found entries ordered = λ k d within. at_id-found (get_or entries k d).0 entries k d within (λ j e from before.
    let lower : (get_or entries j e).0 < (get_or entries k e).0 = ordered j k e before within in
    let same : get_or entries k e ≡ get_or entries k d = get_or_default entries k e d within in
    rw same at lower) refl

pub count_at : {X : Type 0} (test : X → Bool) (xs : List X) (k : ℕ) (d : X) → k < length xs → test (get_or xs k d) ≡ true → 1 ≤ count_by test xs
count_at test xs k d within passes =
    let least : cond (test (get_or xs k d)) 1 0 ≤ count_by test xs = get_or-le-sum_by (λ x. cond (test x) 1 0) xs k d within in
    rw passes at least

-- what holds of each entry and of a new one holds of each with it
pub All-with_id : {X : Type 0} (P : ℕ × X → Type 0) (id : ℕ) (value : X) (entries : List (ℕ × X)) → All P entries → P (id, value) → All P (with_id id value entries)
All-with_id P id value [] all one = All-cons P (id, value) [] one all
All-with_id P id value (entry ∷ entries) all one =
    let tail : All P entries = All-tail P entry entries all in
    cond_both (nat_lt entry.0 id) (entry ∷ with_id id value entries) (cond (entry.0 == id) ((id, value) ∷ entries) ((id, value) ∷ entry ∷ entries)) (All P)
    (λ lower. All-cons P entry (with_id id value entries) (All-head P entry entries all) (All-with_id P id value entries tail one))
    (λ upper. cond_both (entry.0 == id) ((id, value) ∷ entries) ((id, value) ∷ entry ∷ entries) (All P) (λ same. All-cons P (id, value) entries one tail) (λ apart. All-cons P (id, value) (entry ∷ entries) one all))
