-- Powers of 32 as shifts.
use Rattle.std.proofs.Common.{◌≡◌, ℕ, zero, suc, ◌+◌, ◌*◌, ◌^◌, pow-add, refl, ap, sym, ◌∙◌, arith}
use Rattle.std.proofs.Math.Nat.{pow-suc}

pub pow-32 : (k : ℕ) → 2 ^ (5 * k) ≡ 32 ^ k
pow-32 zero = refl
pow-32 (suc k) =
    let exponent : 5 * suc k ≡ 5 * k + 5 = omega arith in
    ap (λ (e : ℕ). 2 ^ e) exponent ∙ pow-add 2 (5 * k) 5 ∙ ap (λ (p : ℕ). p * 32) (pow-32 k) ∙ sym (pow-suc 32 k)
