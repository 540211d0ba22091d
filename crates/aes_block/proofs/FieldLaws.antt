-- The laws of GF(2^8): sums, products and inverses of bytes.
use Rattle.std.proofs.Common.{◌≡◌, ℕ, zero, suc, ◌+◌, ◌-◌, ◌*◌, ◌/◌, ◌%◌, ◌^◌, ◌<◌, true, refl, sym, ap, ◌∙◌, inl, inr, arith}
use Rattle.std.proofs.Math.Nat.{zero-mul, one-mul, zero-add, suc-add, pow-suc}
use Rattle.std.proofs.lemmas.Bool.{cases_lt}
use Rattle.std.specs.Int.{bit_at}
use Rattle.std.specs.Int.Bits.{xor_assoc, xor_block, xor_comm, xor_lt, xor_mod, xor_self, xor_shifted, xor_shr, xor_zero_r}
use Rattle.aes_block.specs.Field.{◌⊕◌, ◌•◌, inverse, power, sum_of_multiples, xtimes}
use Rattle.aes_block.proofs.Checked.{agree_below, same_from_checked}

-- ---- sums

pub sum_swap : (a b c d : ℕ) → (a ⊕ b) ⊕ (c ⊕ d) ≡ (a ⊕ c) ⊕ (b ⊕ d)
sum_swap a b c d =
    xor_assoc a b (c ⊕ d)
    ∙ ap (λ (x : ℕ). a ⊕ x) (sym (xor_assoc b c d) ∙ ap (λ (x : ℕ). x ⊕ d) (xor_comm b c) ∙ xor_assoc c b d)
    ∙ sym (xor_assoc a c (b ⊕ d))

-- a bit times a sum
pub bit-mul_sum : (x c d : ℕ) → x < 2 → x * (c ⊕ d) ≡ x * c ⊕ x * d
bit-mul_sum zero c d h = rw (zero-mul (c ⊕ d), zero-mul c, zero-mul d) refl
bit-mul_sum (suc zero) c d h = rw (one-mul (c ⊕ d), one-mul c, one-mul d) refl
bit-mul_sum (suc (suc x)) c d h = absurd (omega arith)

bit-mul-lt : (x c : ℕ) → x < 2 → c < 256 → x * c < 256
bit-mul-lt zero c hx hc = rw (zero-mul c) (omega arith)
bit-mul-lt (suc zero) c hx hc = rw (one-mul c) hc
bit-mul-lt (suc (suc x)) c hx hc = absurd (omega arith)

-- a sum of bits times a byte
pub sum-mul : (x y d : ℕ) → x < 2 → y < 2 → (x ⊕ y) * d ≡ x * d ⊕ y * d
sum-mul zero y d hx hy = rw (zero-mul d) refl
sum-mul (suc zero) zero d hx hy = rw (zero-mul d, xor_zero_r (1 * d)) refl
sum-mul (suc zero) (suc zero) d hx hy = rw (xor_self (1 * d), zero-mul d) refl
sum-mul (suc zero) (suc (suc y)) d hx hy = absurd (omega arith)
sum-mul (suc (suc x)) y d hx hy = absurd (omega arith)

-- the lowest bit of a sum, and the bits above it
pub sum-mod_two : (a b : ℕ) → (a ⊕ b) % 2 ≡ (a % 2) ⊕ (b % 2)
sum-mod_two a b = xor_mod a b 1

pub sum-half : (a b : ℕ) → (a ⊕ b) / 2 ≡ (a / 2) ⊕ (b / 2)
sum-half a b = xor_shr a b 1

twice-sum : (a b : ℕ) → 2 * (a ⊕ b) ≡ (2 * a) ⊕ (2 * b)
twice-sum a b =
    let shifted : (a * 2 + 0) ⊕ (b * 2 + 0) ≡ (a ⊕ b) * 2 + 0 = xor_block 1 a b 0 0 (omega arith) (omega arith) in
    let left : a * 2 + 0 ≡ 2 * a = omega arith in
    let right : b * 2 + 0 ≡ 2 * b = omega arith in
    let whole : (a ⊕ b) * 2 + 0 ≡ 2 * (a ⊕ b) = omega arith in
    sym whole ∙ sym shifted ∙ ap (λ (x : ℕ). x ⊕ (b * 2 + 0)) left ∙ ap (λ (x : ℕ). (2 * a) ⊕ x) right

pub bit_at-sum : (a b i : ℕ) → bit_at (a ⊕ b) i ≡ (bit_at a i) ⊕ (bit_at b i)
bit_at-sum a b i = ap (λ (x : ℕ). x % 2) (xor_shr a b i) ∙ xor_mod (a / 2 ^ i) (b / 2 ^ i) 1

-- ---- XTIMES

pub xtimes-lt : (b : ℕ) → xtimes b < 256
unfolding xtimes
xtimes-lt b = xor_lt 8 (2 * b % 256) (bit_at b 7 * 0x1b) (omega arith) (omega arith)

pub xtimes-sum : (a b : ℕ) → xtimes (a ⊕ b) ≡ xtimes a ⊕ xtimes b
unfolding xtimes
xtimes-sum a b =
    let low = ap (λ (x : ℕ). x % 256) (twice-sum a b) ∙ xor_mod (2 * a) (2 * b) 8 in
    let high =
    ap (λ (x : ℕ). x * 0x1b) (bit_at-sum a b 7)
    ∙ sum-mul (bit_at a 7) (bit_at b 7) 0x1b (omega arith) (omega arith) in
    ap (λ (x : ℕ). x ⊕ bit_at (a ⊕ b) 7 * 0x1b) low ∙ ap (λ (x : ℕ). (2 * a % 256) ⊕ (2 * b % 256) ⊕ x) high
    ∙ sum_swap (2 * a % 256) (2 * b % 256) (bit_at a 7 * 0x1b) (bit_at b 7 * 0x1b)

-- ---- functions that keep sums

-- f keeps sums
abbrev pub KeepsSums : (ℕ → ℕ) → Type 0
KeepsSums f = (a b : ℕ) → f (a ⊕ b) ≡ f a ⊕ f b

pub KeepsSums-zero : (f : ℕ → ℕ) → KeepsSums f → f 0 ≡ 0
KeepsSums-zero f keeps = keeps 0 0 ∙ xor_self (f 0)

-- two such functions are the same on bytes if they are the same on each power of x
pub same_from_powers : (f g : ℕ → ℕ) → KeepsSums f → KeepsSums g → (n : ℕ) → ((i : ℕ) → i < n → f (2 ^ i) ≡ g (2 ^ i)) → (b : ℕ) → b < 2 ^ n → f b ≡ g b
same_from_powers f g kf kg zero same b h =
    let none : b ≡ 0 = omega arith in
    ap f none ∙ KeepsSums-zero f kf ∙ sym (KeepsSums-zero g kg) ∙ ap g (sym none)
same_from_powers f g kf kg (suc n) same b h =
    let below = same_from_powers f g kf kg n (λ i lt. same i (omega arith)) in
    elim (cases_lt b (2 ^ n)) [
      | inl lt ↦ below b lt
      | inr ge ↦
          let double : 2 ^ suc n ≡ 2 ^ n * 2 = pow-suc 2 n in
          let rest = b - 2 ^ n in
          let rest-lt : b - 2 ^ n < 2 ^ n = omega arith in
          let shifted : (1 * 2 ^ n) ⊕ rest ≡ 1 * 2 ^ n + rest = xor_shifted 1 n rest rest-lt in
          let split : (2 ^ n) ⊕ rest ≡ b = ap (λ (x : ℕ). x ⊕ rest) (sym (one-mul (2 ^ n))) ∙ shifted ∙ omega arith in
          ap f (sym split) ∙ kf (2 ^ n) rest ∙ ap (λ (x : ℕ). x ⊕ f rest) (same n (omega arith))
          ∙ ap (λ (x : ℕ). g (2 ^ n) ⊕ x) (below rest rest-lt) ∙ sym (kg (2 ^ n) rest) ∙ ap g split
    ]

-- ---- products

-- a sum of multiples in either factor
sum_of_multiples-right : (n b c d : ℕ) → sum_of_multiples n b (c ⊕ d) ≡ sum_of_multiples n b c ⊕ sum_of_multiples n b d
unfolding sum_of_multiples
sum_of_multiples-right zero b c d = refl
sum_of_multiples-right (suc n) b c d =
    let rest = ap (sum_of_multiples n (b / 2)) (xtimes-sum c d) ∙ sum_of_multiples-right n (b / 2) (xtimes c) (xtimes d) in
    ap (λ (x : ℕ). x ⊕ sum_of_multiples n (b / 2) (xtimes (c ⊕ d))) (bit-mul_sum (b % 2) c d (omega arith))
    ∙ ap (λ (x : ℕ). (b % 2 * c) ⊕ (b % 2 * d) ⊕ x) rest
    ∙ sum_swap (b % 2 * c) (b % 2 * d) (sum_of_multiples n (b / 2) (xtimes c)) (sum_of_multiples n (b / 2) (xtimes d))

sum_of_multiples-left : (n b c d : ℕ) → sum_of_multiples n (b ⊕ c) d ≡ sum_of_multiples n b d ⊕ sum_of_multiples n c d
unfolding sum_of_multiples
sum_of_multiples-left zero b c d = refl
sum_of_multiples-left (suc n) b c d =
    let low = ap (λ (x : ℕ). x * d) (sum-mod_two b c) ∙ sum-mul (b % 2) (c % 2) d (omega arith) (omega arith) in
    let rest =
    ap (λ (x : ℕ). sum_of_multiples n x (xtimes d)) (sum-half b c)
    ∙ sum_of_multiples-left n (b / 2) (c / 2) (xtimes d) in
    ap (λ (x : ℕ). x ⊕ sum_of_multiples n ((b ⊕ c) / 2) (xtimes d)) low
    ∙ ap (λ (x : ℕ). (b % 2 * d) ⊕ (c % 2 * d) ⊕ x) rest
    ∙ sum_swap (b % 2 * d) (c % 2 * d) (sum_of_multiples n (b / 2) (xtimes d)) (sum_of_multiples n (c / 2) (xtimes d))

sum_of_multiples-lt : (n b c : ℕ) → c < 256 → sum_of_multiples n b c < 256
unfolding sum_of_multiples
sum_of_multiples-lt zero b c h = omega arith
sum_of_multiples-lt (suc n) b c h =
    xor_lt 8 (b % 2 * c) (sum_of_multiples n (b / 2) (xtimes c)) (bit-mul-lt (b % 2) c (omega arith) h)
    (sum_of_multiples-lt n (b / 2) (xtimes c) (xtimes-lt c))

-- the product is a byte
pub product-lt : (b c : ℕ) → c < 256 → b • c < 256
unfolding ◌•◌
product-lt b c h = sum_of_multiples-lt 8 b c h

-- products distribute over sums
pub product-sum_right : (b c d : ℕ) → b • (c ⊕ d) ≡ b • c ⊕ b • d
unfolding ◌•◌
product-sum_right b c d = sum_of_multiples-right 8 b c d

pub product-sum_left : (b c d : ℕ) → (b ⊕ c) • d ≡ b • d ⊕ c • d
unfolding ◌•◌
product-sum_left b c d = sum_of_multiples-left 8 b c d

pub product-zero : (c : ℕ) → 0 • c ≡ 0
product-zero c = KeepsSums-zero (λ b. b • c) (λ a b. product-sum_left a b c)

sum_of_multiples-zero : (n c : ℕ) → sum_of_multiples n 0 c ≡ 0
sum_of_multiples-zero n c = KeepsSums-zero (λ b. sum_of_multiples n b c) (λ a b. sum_of_multiples-left n a b c)

pub product-one : (c : ℕ) → 1 • c ≡ c
unfolding ◌•◌ sum_of_multiples
product-one c = rw (one-mul c, sum_of_multiples-zero 7 (xtimes c), xor_zero_r c) refl

pub product-two : (c : ℕ) → 2 • c ≡ xtimes c
unfolding ◌•◌ sum_of_multiples
product-two c =
    rw (zero-mul c, one-mul (xtimes c), sum_of_multiples-zero 6 (xtimes (xtimes c)), xor_zero_r (xtimes c)) refl

pub product-three : (c : ℕ) → 3 • c ≡ c ⊕ xtimes c
product-three c =
    product-sum_left 1 2 c ∙ ap (λ (x : ℕ). x ⊕ 2 • c) (product-one c) ∙ ap (λ (x : ℕ). c ⊕ x) (product-two c)

-- a byte of MIXCOLUMNS with one XTIMES
pub mixed_byte : (a b c d : ℕ) → xtimes (a ⊕ b) ⊕ b ⊕ c ⊕ d ≡ 2 • a ⊕ 3 • b ⊕ c ⊕ d
mixed_byte a b c d =
    let first =
    ap (λ (x : ℕ). x ⊕ b) (xtimes-sum a b) ∙ xor_assoc (xtimes a) (xtimes b) b
    ∙ ap (λ (x : ℕ). xtimes a ⊕ x) (xor_comm (xtimes b) b ∙ sym (product-three b))
    ∙ ap (λ (x : ℕ). x ⊕ 3 • b) (sym (product-two a)) in
    ap (λ (x : ℕ). x ⊕ c ⊕ d) first

-- two functions of two bytes that keep sums in each are the same if they are the same on powers of x
same_from_powers_of_both : (f g : ℕ → ℕ → ℕ)
    → ((c : ℕ) → KeepsSums (λ b. f b c)) → ((b : ℕ) → KeepsSums (f b))
    → ((c : ℕ) → KeepsSums (λ b. g b c)) → ((b : ℕ) → KeepsSums (g b))
    → agree_below (λ k. f (2 ^ (k / 8)) (2 ^ (k % 8))) (λ k. g (2 ^ (k / 8)) (2 ^ (k % 8))) 64 ≡ true
    → (b c : ℕ) → b < 256 → c < 256 → f b c ≡ g b c
same_from_powers_of_both f g fl fr gl gr checked b c hb hc =
    let on_powers : (i j : ℕ) → i < 8 → j < 8 → f (2 ^ i) (2 ^ j) ≡ g (2 ^ i) (2 ^ j) = λ i j hi hj.
    let at = same_from_checked (λ k. f (2 ^ (k / 8)) (2 ^ (k % 8))) (λ k. g (2 ^ (k / 8)) (2 ^ (k % 8))) 64 checked (8 * i + j) (omega arith) in
    let row : (8 * i + j) / 8 ≡ i = omega arith in
    let column : (8 * i + j) % 8 ≡ j = omega arith in
    rw (row, column) at at in
    same_from_powers (λ a. f a c) (λ a. g a c) (fl c) (gl c) 8
    (λ i hi. same_from_powers (f (2 ^ i)) (g (2 ^ i)) (fr (2 ^ i)) (gr (2 ^ i)) 8 (λ j hj. on_powers i j hi hj) c hc) b hb

pub product_comm : (b c : ℕ) → b < 256 → c < 256 → b • c ≡ c • b
unfolding agree_below ◌•◌ sum_of_multiples xtimes
product_comm =
    same_from_powers_of_both (λ b c. b • c) (λ b c. c • b)
    (λ c a b. product-sum_left a b c) (λ b a c. product-sum_right b a c)
    (λ c a b. product-sum_right c a b) (λ b a c. product-sum_left a c b) refl

-- x times a product
pub product-xtimes : (b c : ℕ) → b < 256 → c < 256 → xtimes b • c ≡ xtimes (b • c)
unfolding agree_below ◌•◌ sum_of_multiples xtimes
product-xtimes =
    same_from_powers_of_both (λ b c. xtimes b • c) (λ b c. xtimes (b • c))
    (λ c a b. ap (λ (x : ℕ). x • c) (xtimes-sum a b) ∙ product-sum_left (xtimes a) (xtimes b) c)
    (λ b a c. product-sum_right (xtimes b) a c)
    (λ c a b. ap xtimes (product-sum_left a b c) ∙ xtimes-sum (a • c) (b • c))
    (λ b a c. ap xtimes (product-sum_right b a c) ∙ xtimes-sum (b • a) (b • c)) refl

-- a bit times a factor
bit-product : (x b c : ℕ) → x < 2 → (x * b) • c ≡ x * (b • c)
bit-product zero b c h = rw (zero-mul b, zero-mul (b • c)) (product-zero c)
bit-product (suc zero) b c h = rw (one-mul b, one-mul (b • c)) refl
bit-product (suc (suc x)) b c h = absurd (omega arith)

sum_of_multiples-product : (n a b c : ℕ) → b < 256 → c < 256 → sum_of_multiples n a b • c ≡ sum_of_multiples n a (b • c)
unfolding sum_of_multiples
sum_of_multiples-product zero a b c hb hc = product-zero c
sum_of_multiples-product (suc n) a b c hb hc =
    product-sum_left (a % 2 * b) (sum_of_multiples n (a / 2) (xtimes b)) c
    ∙ ap (λ (x : ℕ). x ⊕ sum_of_multiples n (a / 2) (xtimes b) • c) (bit-product (a % 2) b c (omega arith))
    ∙ ap (λ (x : ℕ). (a % 2 * (b • c)) ⊕ x)
    (sum_of_multiples-product n (a / 2) (xtimes b) c (xtimes-lt b) hc
    ∙ ap (sum_of_multiples n (a / 2)) (product-xtimes b c hb hc))

pub product_assoc : (a b c : ℕ) → b < 256 → c < 256 → (a • b) • c ≡ a • (b • c)
product_assoc a b c hb hc =
    unfold ◌•◌ in sum_of_multiples-product 8 a b c hb hc

-- ---- powers

pub power-lt : (b n : ℕ) → power b n < 256
unfolding power
power-lt b zero = omega arith
power-lt b (suc n) = product-lt b (power b n) (power-lt b n)

pub power-add : (b m n : ℕ) → power b (m + n) ≡ power b m • power b n
unfolding power
power-add b zero n = ap (power b) (zero-add n) ∙ sym (product-one (power b n))
power-add b (suc m) n =
    ap (power b) (suc-add m n) ∙ ap (λ (x : ℕ). b • x) (power-add b m n)
    ∙ sym (product_assoc b (power b m) (power b n) (power-lt b m) (power-lt b n))

pub power-two : (b : ℕ) → b < 256 → power b 2 ≡ b • b
unfolding power
power-two b h = ap (λ (x : ℕ). b • x) (product_comm b 1 h (omega arith) ∙ product-one b)

pub power-one : (b : ℕ) → b < 256 → power b 1 ≡ b
unfolding power
power-one b h = product_comm b 1 h (omega arith) ∙ product-one b

-- a product of two powers of b is a power of b
pub power_of_product : (b m n : ℕ) {x y r : ℕ} → r ≡ x • y → x ≡ power b m → y ≡ power b n → r ≡ power b (m + n)
power_of_product b m n {y = y} r-is x-is y-is =
    r-is ∙ ap (λ (z : ℕ). z • y) x-is ∙ ap (λ (z : ℕ). power b m • z) y-is ∙ sym (power-add b m n)

-- ---- inverses

-- the power 254 by few products, from the powers 2, 3 and 12
unfoldable pub square : ℕ → ℕ
square b = b • b

unfoldable pub from_three_powers : ℕ → ℕ → ℕ → ℕ
from_three_powers p2 p3 p12 = p2 • (p12 • square (square (square (square (p3 • p12)))))

unfoldable pub from_two_powers : ℕ → ℕ → ℕ
from_two_powers p2 p3 = from_three_powers p2 p3 (square (square p3))

unfoldable pub from_square : ℕ → ℕ → ℕ
from_square b p2 = from_two_powers p2 (b • p2)

pub inverse-short : (b : ℕ) → b < 256 → inverse b ≡ from_square b (square b)
unfolding inverse square from_three_powers from_two_powers from_square
inverse-short b h =
    let p1 = sym (power-one b h) in
    let p2 = power_of_product b 1 1 {r = b • b} refl p1 p1 in
    let p3 = power_of_product b 1 2 {r = b • (b • b)} refl p1 p2 in
    let p6 = power_of_product b 3 3 refl p3 p3 in
    let p12 = power_of_product b 6 6 refl p6 p6 in
    let p15 = power_of_product b 3 12 refl p3 p12 in
    let p30 = power_of_product b 15 15 refl p15 p15 in
    let p60 = power_of_product b 30 30 refl p30 p30 in
    let p120 = power_of_product b 60 60 refl p60 p60 in
    let p240 = power_of_product b 120 120 refl p120 p120 in
    let p252 = power_of_product b 12 240 refl p12 p240 in
    sym (power_of_product b 2 252 refl p2 p252)

-- each byte but 0 times its inverse is 1
pub product-inverse : (b : ℕ) → 0 < b → b < 256 → b • inverse b ≡ 1
unfolding agree_below ◌•◌ sum_of_multiples xtimes square from_three_powers from_two_powers from_square
product-inverse b above h =
    let at = same_from_checked (λ k. suc k • from_square (suc k) (square (suc k))) (λ _. 1) 255 refl (b - 1) (omega arith) in
    let back : suc (b - 1) ≡ b = omega arith in
    ap (λ (x : ℕ). b • x) (inverse-short b h) ∙ rw back at at

-- the inverse is the only byte with that product
pub inverse_unique : (b c : ℕ) → 0 < b → b < 256 → c < 256 → b • c ≡ 1 → c ≡ inverse b
unfolding inverse
inverse_unique b c above hb hc one =
    let i = inverse b in
    let i-lt : i < 256 = power-lt b 254 in
    sym (product-one c) ∙ ap (λ (x : ℕ). x • c) (sym (product-inverse b above hb) ∙ product_comm b i hb i-lt)
    ∙ product_assoc i b c hb hc ∙ ap (λ (x : ℕ). i • x) one ∙ product_comm i 1 i-lt (omega arith) ∙ product-one i
