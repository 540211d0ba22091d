-- The multiples of a block by parts of another, and polynomials of a degree below 256.
use Rattle.std.specs.Prelude.{ℕ, ◌+◌, ◌-◌, ◌*◌, ◌<◌, ◌^◌, ◌≡◌, List, slice_index, bit_xor}
use Rattle.gcm_seal.specs.Gcm.{product, r_block}

-- the table has the products of h and each two bits n at the left end of a block, and behind them those of
-- h and each six bits n at each place that follows, counted from the left
pub record HasMultiples (table : List ℕ) (h : ℕ) : Type 0 where
  pub front : (n : ℕ) → n < 4 → slice_index table n ≡ product (n * 2 ^ 126) h
  pub each : (place n : ℕ) → place < 21 → n < 64
      → slice_index table (4 + 64 * place + n) ≡ product (n * 2 ^ (120 - 6 * place)) h

-- the block of the polynomial with the coefficients `front` of x^0 to x^127, and `back` of x^128 on
abbrev pub wide_value : ℕ → ℕ → ℕ
wide_value front back = bit_xor front (product back r_block)
