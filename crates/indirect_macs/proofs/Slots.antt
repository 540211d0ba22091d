-- The entries of a node, one after another.
use Rattle.std.proofs.Common.{◌≡◌, ℕ, zero, suc, ◌+◌, ◌<◌, Bool, true, false, List, [], ◌∷◌, ◌++◌, get_or, refl, ap, ◌∙◌, arith}
use Rattle.std.specs.List.{list_all, flat_map, range_with_len}
use Rattle.std.proofs.lemmas.List.{append-nil}
use Rattle.std.proofs.lemmas.List.Folds.{list_all-append, list_all_at}
use Rattle.std.proofs.lemmas.List.Concat.{flat_map-append}
use Rattle.std.proofs.lemmas.List.FromFn.{length-range_with_len, get_or-range_with_len}
use Rattle.indirect_macs.specs.Nodes.{slots}

-- one place more
pub range_more : (a n : ℕ) → range_with_len a (suc n) ≡ range_with_len a n ++ (a + n) ∷ []
range_more a zero = let e : a + 0 ≡ a = omega arith in rw e refl
range_more a (suc n) =
    let e : a + 1 + n ≡ a + suc n = omega arith in
    ap (λ (xs : List ℕ). a ∷ xs) (rw e at (range_more (a + 1) n))

pub all_more : (p : ℕ → Bool) (n : ℕ) → list_all p (range_with_len 0 n) ≡ true → p n ≡ true
    → list_all p (range_with_len 0 (n + 1)) ≡ true
all_more p n all this =
    let next : n + 1 ≡ suc n = omega arith in
    let place : 0 + n ≡ n = omega arith in
    let last : list_all p ((0 + n) ∷ []) ≡ true = rw (place, this) refl in
    ap (λ (k : ℕ). list_all p (range_with_len 0 k)) next ∙ ap (list_all p) (range_more 0 n)
    ∙ list_all-append p (range_with_len 0 n) ((0 + n) ∷ []) ∙ rw (all, last) refl

pub all_fails : (p : ℕ → Bool) (i : ℕ) → i < 32 → p i ≡ false → list_all p slots ≡ false
unfolding slots
all_fails p i within this =
    let place : 0 + i ≡ i = omega arith in
    let element : p (get_or (range_with_len 0 32) i 0) ≡ false = rw (get_or-range_with_len 0 32 i 0 within, place) this in
    list_all_at p (range_with_len 0 32) i 0 (omega (arith, length-range_with_len 0 32)) element

pub flat_more : (f : ℕ → List ℕ) (n : ℕ) → flat_map f (range_with_len 0 (n + 1)) ≡ flat_map f (range_with_len 0 n) ++ f n
flat_more f n =
    let next : n + 1 ≡ suc n = omega arith in
    let place : 0 + n ≡ n = omega arith in
    ap (λ (k : ℕ). flat_map f (range_with_len 0 k)) next ∙ ap (flat_map f) (range_more 0 n)
    ∙ flat_map-append f (range_with_len 0 n) ((0 + n) ∷ [])
    ∙ ap (λ (last : List ℕ). flat_map f (range_with_len 0 n) ++ last) (append-nil (f (0 + n)) ∙ ap f place)
