-- The finite field GF(2^8) of FIPS 197 (2023), section 4. A byte is a number below 256, whose bit i is
-- the coefficient of x^i of a polynomial.
use Rattle.std.specs.Prelude.{ℕ, zero, suc, ◌*◌, ◌%◌, ◌/◌, bit_xor}
use Rattle.std.specs.Int.{bit_at}

infixl 50 ◌⊕◌
infixl 60 ◌•◌
-- addition: the exclusive or of the bits (4.1)
abbrev pub ◌⊕◌ : ℕ → ℕ → ℕ
b ⊕ c = bit_xor b c

-- XTIMES: x times b, modulo m(x) = x^8 + x^4 + x^3 + x + 1 (4.2)
unfoldable pub xtimes : ℕ → ℕ
xtimes b = (2 * b % 256) ⊕ (bit_at b 7 * 0x1b)

-- b_0 c + b_1 x c + b_2 x^2 c + .., modulo m(x), over the lowest n bits of b
unfoldable pub sum_of_multiples : ℕ → ℕ → ℕ → ℕ
sum_of_multiples zero b c = 0
sum_of_multiples (suc n) b c = (b % 2 * c) ⊕ sum_of_multiples n (b / 2) (xtimes c)

-- multiplication: the product of the polynomials, modulo m(x) (4.2)
unfoldable pub ◌•◌ : ℕ → ℕ → ℕ
b • c = sum_of_multiples 8 b c

-- the product of n factors b
unfoldable pub power : ℕ → ℕ → ℕ
power b zero = 1
power b (suc n) = b • power b n

-- the multiplicative inverse of b, which is its power 254, and 0 for 0 (4.4)
unfoldable pub inverse : ℕ → ℕ
inverse b = power b 254
