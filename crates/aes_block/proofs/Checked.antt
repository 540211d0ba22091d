-- Facts on each number below a bound, by computing both sides.
use Rattle.std.proofs.Common.{◌≡◌, ℕ, zero, suc, ◌<◌, Bool, true, ◌&&◌, ◌==◌, refl}
use Rattle.std.proofs.lemmas.Bool.Decides.{Decides-below_and, Decides-eqb}

-- f and g agree at each number below n
unfoldable pub agree_below : (ℕ → ℕ) → (ℕ → ℕ) → ℕ → Bool
agree_below f g zero = true
agree_below f g (suc n) = (f n == g n) && agree_below f g n

pub same_from_checked : (f g : ℕ → ℕ) (n : ℕ) → agree_below f g n ≡ true → (k : ℕ) → k < n → f k ≡ g k
unfolding agree_below
same_from_checked f g n =
    (Decides-below_and (λ k. f k == g k) (λ k. f k ≡ g k) (agree_below f g) (λ k. Decides-eqb (f k) (g k)) refl (λ _. refl) n).0
