-- The byte order of names, and facts of pairs in a list.
use Rattle.std.proofs.Common.{◌≡◌, ◌≢◌, ℕ, zero, suc, ◌<◌, Bool, true, false, ◌&&◌, List, [], ◌∷◌, ◌++◌, length, get_or, refl, ap, arith, subst}
use Rattle.std.proofs.Common.{Ordering, Less, Equal, Greater}
use Rattle.std.specs.Ordering.{nat_cmp, is_lt, ordering_reverse}
use Rattle.std.specs.Cmp.Lexicographic.{slice_cmp, nat_list_cmp_total}
use Rattle.std.specs.FinMap.{slice_cmp-IsAntisymmetric, nat_cmp-IsAntisymmetric}
use Rattle.std.specs.List.{All, AllPairs, list_any}
use Rattle.std.proofs.lemmas.Bool.Decides.{nat_tests}
use Rattle.std.proofs.Math.ListN.{get_or-append}
use Rattle.std.proofs.Math.Seq.{get_or-append_seam}
use Rattle.std.proofs.lemmas.List.{length-append}
use Rattle.file_directory.specs.Entries.{stands_before}

-- ---- the order

is_less : (o : Ordering) → is_lt o ≡ true → o ≡ Less
is_less Less h = refl
is_less Equal h = absurd (cc)
is_less Greater h = absurd (cc)

pub stands_before-trans : (a b c : List ℕ) → stands_before a b ≡ true → stands_before b c ≡ true → stands_before a c ≡ true
stands_before-trans a b c ab bc =
    ap is_lt (nat_list_cmp_total.trans a b c (is_less (slice_cmp nat_cmp a b) ab) (is_less (slice_cmp nat_cmp b c) bc))

turned : (o p : Ordering) → p ≡ ordering_reverse o → is_lt o ≡ false → (o ≡ Equal → ⊥) → is_lt p ≡ true
turned Less p back h other = absurd (cc)
turned Equal p back h other = absurd (other refl)
turned Greater p back h other = ap is_lt back

-- of two names one stands before the other
pub stands_behind : (a b : List ℕ) → stands_before a b ≡ false → a ≢ b → stands_before b a ≡ true
stands_behind a b h other =
    turned (slice_cmp nat_cmp a b) (slice_cmp nat_cmp b a) (nat_list_cmp_total.antisymm b a) h
    (λ same. other (slice_cmp-IsAntisymmetric nat_cmp-IsAntisymmetric a b same))

-- ---- lists

pub both : (a b : Bool) → (a && b) ≡ true → (a ≡ true) × (b ≡ true)
both true b h = (refl, h)
both false b h = absurd (cc)

pub none_passes : {X : Type 0} (test : X → Bool) (xs : List X) → list_any test xs ≡ false → All (λ x. test x ≡ false) xs
none_passes test [] none k d within = absurd (omega arith)
none_passes test (x ∷ xs) none zero d within = grind (arith, nat_tests)
none_passes test (x ∷ xs) none (suc k) d within =
    let rest : list_any test xs ≡ false = grind (arith, nat_tests) in none_passes test xs rest k d (omega arith)

module _ {X : Type 0} (P : X → Type 0) where
  pub All-front : (xs ys : List X) → All P (xs ++ ys) → All P xs
  All-front xs ys all k d within =
      let longer : k < length (xs ++ ys) = omega (arith, length-append xs ys) in
      subst P (get_or-append xs ys d k within) (all k d longer)

  pub All-last : (xs : List X) (y : X) → All P (xs ++ y ∷ []) → P y
  All-last xs y all =
      let longer : length xs < length (xs ++ y ∷ []) = omega (arith, length-append xs (y ∷ [])) in
      subst P (get_or-append_seam xs y [] y) (all (length xs) y longer)

module _ {X : Type 0} (R : X → X → Type 0) where
  pub pairs-front : (xs ys : List X) → AllPairs R (xs ++ ys) → AllPairs R xs
  pairs-front xs ys pairs i j d before within =
      let longer : j < length (xs ++ ys) = omega (arith, length-append xs ys) in
      let first : i < length xs = omega arith in
      let at_i : get_or (xs ++ ys) i d ≡ get_or xs i d = get_or-append xs ys d i first in
      let at_j : get_or (xs ++ ys) j d ≡ get_or xs j d = get_or-append xs ys d j within in
      subst (λ (x : X). R x (get_or xs j d)) at_i (subst (λ (x : X). R (get_or (xs ++ ys) i d) x) at_j (pairs i j d before longer))

  pub pairs-last : (xs : List X) (y : X) → AllPairs R (xs ++ y ∷ []) → All (λ x. R x y) xs
  pairs-last xs y pairs k d within =
      let longer : length xs < length (xs ++ y ∷ []) = omega (arith, length-append xs (y ∷ [])) in
      let at_k : get_or (xs ++ y ∷ []) k d ≡ get_or xs k d = get_or-append xs (y ∷ []) d k within in
      subst (λ (x : X). R x y) at_k
      (subst (λ (x : X). R (get_or (xs ++ y ∷ []) k d) x) (get_or-append_seam xs y [] d) (pairs k (length xs) d within longer))

  pub pairs-head : (x : X) (xs : List X) → AllPairs R (x ∷ xs) → All (R x) xs
  pairs-head x xs pairs k d within = pairs 0 (suc k) d (omega arith) (omega arith)

  pub pairs-tail : (x : X) (xs : List X) → AllPairs R (x ∷ xs) → AllPairs R xs
  pairs-tail x xs pairs i j d before within = pairs (suc i) (suc j) d (omega arith) (omega arith)
