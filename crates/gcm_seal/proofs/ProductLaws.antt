-- The laws of the product of blocks: it keeps sums in each factor, and powers of x go through it.
use Rattle.std.proofs.Common.{◌≡◌, ℕ, zero, suc, ◌+◌, ◌-◌, ◌*◌, ◌/◌, ◌%◌, ◌^◌, ◌<◌, ◌≤◌, ◌==◌, if◌then◌else◌, bit_xor, refl, sym, ap, ◌∙◌, arith}
use Rattle.std.proofs.Math.Nat.{zero-mul, one-mul, mul_assoc, mul_comm}
use Rattle.std.proofs.lemmas.Nat.{pow-add, shl-shr, shr-shr, shr_le, shr_split, shl_below, mod_below, pow_pos}
use Rattle.std.specs.Int.{bit_at}
use Rattle.std.specs.Int.Bits.{xor_comm, xor_shifted, xor_zero_r}
use Rattle.aes_block.specs.Field.{◌⊕◌}
use Rattle.aes_block.proofs.Checked.{agree_below, same_from_checked}
use Rattle.aes_block.proofs.FieldLaws.{KeepsSums, KeepsSums-zero, bit_at-sum, same_from_powers, sum-half, sum-mod_two, sum-mul, sum_swap, bit-mul_sum}
use Rattle.gcm_seal.specs.Gcm.{product, r_block, v_at, z_at}
use Rattle.gcm_seal.specs.Multiples.{wide_value}

-- ---- the steps as sums

-- x times v, where r is x^128
abbrev times_x_by : ℕ → ℕ → ℕ
times_x_by r v = v / 2 ⊕ v % 2 * r

step_by_bit : (r v bit : ℕ) → bit < 2 → v % 2 ≡ bit → (if v % 2 == 0 then v / 2 else bit_xor (v / 2) r) ≡ v / 2 ⊕ v % 2 * r
step_by_bit r v zero h e = rw (e, zero-mul r, xor_zero_r (v / 2)) refl
step_by_bit r v (suc zero) h e = rw (e, one-mul r) refl
step_by_bit r v (suc (suc bit)) h e = absurd (omega arith)

v_at-step : (y i : ℕ) → v_at y (suc i) ≡ times_x_by r_block (v_at y i)
unfolding v_at
v_at-step y i = step_by_bit r_block (v_at y i) (v_at y i % 2) (omega arith) refl

pub v_at-next : (y i : ℕ) → v_at (v_at y i) 1 ≡ v_at y (suc i)
unfolding v_at
v_at-next y i = refl

choice_by_bit : (z v bit : ℕ) → bit < 2 → (if bit == 0 then z else bit_xor z v) ≡ z ⊕ bit * v
choice_by_bit z v zero h = rw (zero-mul v, xor_zero_r z) refl
choice_by_bit z v (suc zero) h = rw (one-mul v) refl
choice_by_bit z v (suc (suc bit)) h = absurd (omega arith)

z_at-step : (x y i : ℕ) → z_at x y (suc i) ≡ z_at x y i ⊕ bit_at x (127 - i) * v_at y i
unfolding z_at
z_at-step x y i = choice_by_bit (z_at x y i) (v_at y i) (bit_at x (127 - i)) (omega arith)

-- ---- sums

times_x-sum : (r : ℕ) → KeepsSums (times_x_by r)
times_x-sum r a b =
    let low = ap (λ (x : ℕ). x * r) (sum-mod_two a b) ∙ sum-mul (a % 2) (b % 2) r (omega arith) (omega arith) in
    ap (λ (x : ℕ). x ⊕ (a ⊕ b) % 2 * r) (sum-half a b) ∙ ap (λ (x : ℕ). (a / 2 ⊕ b / 2) ⊕ x) low
    ∙ sum_swap (a / 2) (b / 2) (a % 2 * r) (b % 2 * r)

pub v_at-sum : (i : ℕ) → KeepsSums (λ y. v_at y i)
unfolding v_at
v_at-sum zero a b = refl
v_at-sum (suc i) a b =
    v_at-step (a ⊕ b) i ∙ ap (times_x_by r_block) (v_at-sum i a b) ∙ times_x-sum r_block (v_at a i) (v_at b i)
    ∙ rw (v_at-step a i, v_at-step b i) refl

v_at-zero : (i : ℕ) → v_at 0 i ≡ 0
v_at-zero i = KeepsSums-zero (λ y. v_at y i) (v_at-sum i)

z_at-left : (y n : ℕ) → KeepsSums (λ x. z_at x y n)
unfolding z_at
z_at-left y zero a b = refl
z_at-left y (suc n) a b =
    let v = v_at y n in
    let bit = ap (λ (x : ℕ). x * v) (bit_at-sum a b (127 - n)) ∙ sum-mul (bit_at a (127 - n)) (bit_at b (127 - n)) v (omega arith) (omega arith) in
    z_at-step (a ⊕ b) y n ∙ ap (λ (x : ℕ). x ⊕ bit_at (a ⊕ b) (127 - n) * v) (z_at-left y n a b)
    ∙ ap (λ (x : ℕ). (z_at a y n ⊕ z_at b y n) ⊕ x) bit
    ∙ sum_swap (z_at a y n) (z_at b y n) (bit_at a (127 - n) * v) (bit_at b (127 - n) * v)
    ∙ rw (z_at-step a y n, z_at-step b y n) refl

z_at-right : (x n : ℕ) → KeepsSums (λ y. z_at x y n)
unfolding z_at
z_at-right x zero a b = refl
z_at-right x (suc n) a b =
    let bit = bit_at x (127 - n) in
    let v = ap (λ (y : ℕ). bit * y) (v_at-sum n a b) ∙ bit-mul_sum bit (v_at a n) (v_at b n) (omega arith) in
    z_at-step x (a ⊕ b) n ∙ ap (λ (y : ℕ). y ⊕ bit * v_at (a ⊕ b) n) (z_at-right x n a b)
    ∙ ap (λ (y : ℕ). (z_at x a n ⊕ z_at x b n) ⊕ y) v
    ∙ sum_swap (z_at x a n) (z_at x b n) (bit * v_at a n) (bit * v_at b n)
    ∙ rw (z_at-step x a n, z_at-step x b n) refl

-- the product keeps sums in each factor
pub product-left : (y : ℕ) → KeepsSums (λ x. product x y)
unfolding product
product-left y a b = z_at-left y 128 a b

pub product-right : (x : ℕ) → KeepsSums (product x)
unfolding product
product-right x a b = z_at-right x 128 a b

pub product-zero : (y : ℕ) → product 0 y ≡ 0
product-zero y = KeepsSums-zero (λ x. product x y) (product-left y)

-- ---- powers of x

v_at-add : (y a b : ℕ) → v_at (v_at y a) b ≡ v_at y (a + b)
unfolding v_at
v_at-add y a zero = let none : a ≡ a + 0 = omega arith in ap (v_at y) none
v_at-add y a (suc b) =
    let next : suc (a + b) ≡ a + suc b = omega arith in
    v_at-step (v_at y a) b ∙ ap (times_x_by r_block) (v_at-add y a b) ∙ sym (v_at-step y (a + b)) ∙ ap (v_at y) next

v_at-bit : (bit v k : ℕ) → bit < 2 → v_at (bit * v) k ≡ bit * v_at v k
v_at-bit zero v k h = rw (zero-mul v, zero-mul (v_at v k)) (v_at-zero k)
v_at-bit (suc zero) v k h = rw (one-mul v, one-mul (v_at v k)) refl
v_at-bit (suc (suc bit)) v k h = absurd (omega arith)

v_at-turn : (y a b : ℕ) → v_at (v_at y a) b ≡ v_at (v_at y b) a
v_at-turn y a b =
    let turned : a + b ≡ b + a = omega arith in
    v_at-add y a b ∙ ap (v_at y) turned ∙ sym (v_at-add y b a)

z_at-times : (x y k n : ℕ) → z_at x (v_at y k) n ≡ v_at (z_at x y n) k
unfolding z_at
z_at-times x y k zero = sym (v_at-zero k)
z_at-times x y k (suc n) =
    let bit = bit_at x (127 - n) in
    z_at-step x (v_at y k) n ∙ ap (λ (z : ℕ). z ⊕ bit * v_at (v_at y k) n) (z_at-times x y k n)
    ∙ ap (λ (v : ℕ). v_at (z_at x y n) k ⊕ v) (ap (λ (v : ℕ). bit * v) (v_at-turn y k n) ∙ sym (v_at-bit bit (v_at y n) k (omega arith)))
    ∙ sym (v_at-sum k (z_at x y n) (bit * v_at y n)) ∙ ap (λ (z : ℕ). v_at z k) (sym (z_at-step x y n))

-- a power of x may be taken out of the second factor
pub product-times : (x y k : ℕ) → product x (v_at y k) ≡ v_at (product x y) k
unfolding product
product-times x y k = z_at-times x y k 128

bit_at-double : (a k : ℕ) → bit_at (2 * a) (suc k) ≡ bit_at a k
bit_at-double a k =
    let half : 2 * a / 2 ^ 1 ≡ a = omega arith in
    let place : suc k ≡ 1 + k = omega arith in
    ap (λ (n : ℕ). n % 2) (ap (λ (j : ℕ). 2 * a / 2 ^ j) place ∙ sym (shr-shr (2 * a) 1 k) ∙ ap (λ (n : ℕ). n / 2 ^ k) half)

z_at-double : (a h i : ℕ) → 2 * a < 2 ^ 128 → i ≤ 127 → v_at (z_at (2 * a) h i) 1 ≡ z_at a h (suc i)
unfolding z_at
z_at-double a h zero small within =
    let none : bit_at a (127 - 0) ≡ 0 = omega arith in
    v_at-zero 1 ∙ sym (z_at-step a h 0 ∙ rw (none, zero-mul (v_at h 0)) refl)
z_at-double a h (suc i) small within =
    let here : 127 - i ≡ suc (127 - suc i) = omega arith in
    let bit : bit_at (2 * a) (127 - i) ≡ bit_at a (127 - suc i) = ap (bit_at (2 * a)) here ∙ bit_at-double a (127 - suc i) in
    ap (λ (z : ℕ). v_at z 1) (z_at-step (2 * a) h i)
    ∙ v_at-sum 1 (z_at (2 * a) h i) (bit_at (2 * a) (127 - i) * v_at h i)
    ∙ ap (λ (z : ℕ). z ⊕ v_at (bit_at (2 * a) (127 - i) * v_at h i) 1) (z_at-double a h i small (omega arith))
    ∙ ap (λ (z : ℕ). z_at a h (suc i) ⊕ z)
    (v_at-bit (bit_at (2 * a) (127 - i)) (v_at h i) 1 (omega arith) ∙ ap (λ (z : ℕ). z * v_at (v_at h i) 1) bit
    ∙ ap (λ (z : ℕ). bit_at a (127 - suc i) * z) (v_at-next h i))
    ∙ sym (z_at-step a h (suc i))

product-double : (a h : ℕ) → 2 * a < 2 ^ 128 → v_at (product (2 * a) h) 1 ≡ product a h
unfolding product
product-double a h small =
    let none : bit_at (2 * a) (127 - 127) ≡ 0 = omega arith in
    let last : z_at (2 * a) h 128 ≡ z_at (2 * a) h 127 =
    z_at-step (2 * a) h 127 ∙ rw (none, zero-mul (v_at h 127), xor_zero_r (z_at (2 * a) h 127)) refl in
    ap (λ (z : ℕ). v_at z 1) last ∙ z_at-double a h 127 small (omega arith)

le-shifted : (a n : ℕ) → a ≤ a * 2 ^ n
le-shifted a n =
    let back = shl-shr a n in
    let less = shr_le (a * 2 ^ n) n in
    omega arith

times_two : (a p : ℕ) → a * (2 ^ 1 * p) ≡ 2 * a * p
times_two a p = sym (mul_assoc a 2 p) ∙ ap (λ (m : ℕ). m * p) (mul_comm a 2)

doubled : (a n : ℕ) → a * 2 ^ suc n ≡ 2 * a * 2 ^ n
doubled a n =
    let place : suc n ≡ 1 + n = omega arith in
    ap (λ (j : ℕ). a * 2 ^ j) place ∙ ap (λ (p : ℕ). a * p) (pow-add 2 1 n) ∙ times_two a (2 ^ n)

-- a power of x may be taken into the first factor, as far as its bits reach
pub product-shift : (n a h : ℕ) → a * 2 ^ n < 2 ^ 128 → v_at (product (a * 2 ^ n) h) n ≡ product a h
unfolding v_at
product-shift zero a h small =
    let one : a * 2 ^ 0 ≡ a = omega arith in
    ap (λ (x : ℕ). product x h) one
product-shift (suc n) a h small =
    let e = doubled a n in
    let less = le-shifted (2 * a) n in
    ap (λ (x : ℕ). v_at (product x h) (suc n)) e ∙ sym (v_at-next (product (2 * a * 2 ^ n) h) n)
    ∙ ap (λ (v : ℕ). v_at v 1) (product-shift n (2 * a) h (omega arith)) ∙ product-double a h (omega arith)

product_top : (y : ℕ) → product (2 ^ 127) y ≡ 0 ⊕ y
unfolding product z_at v_at
product_top y = refl

pub product_eight : (y : ℕ) → product (8 * 2 ^ 124) y ≡ y
product_eight y = product_top y ∙ xor_comm 0 y ∙ xor_zero_r y

pub product_of_power : (i y : ℕ) → i < 128 → product (2 ^ i) y ≡ v_at y (127 - i)
product_of_power i y h =
    let whole : i + (127 - i) ≡ 127 = omega arith in
    let top : 2 ^ i * 2 ^ (127 - i) ≡ 2 ^ 127 = sym (pow-add 2 i (127 - i)) ∙ ap (λ (j : ℕ). 2 ^ j) whole in
    let small : 2 ^ i * 2 ^ (127 - i) < 2 ^ 128 = rw top (omega arith) in
    sym (product-shift (127 - i) (2 ^ i) y small)
    ∙ ap (λ (v : ℕ). v_at v (127 - i)) (ap (λ (x : ℕ). product x y) top ∙ product_top y ∙ xor_comm 0 y ∙ xor_zero_r y)

powers_of_x : (i : ℕ) → i < 128 → v_at (2 ^ 127) (127 - i) ≡ 2 ^ i
unfolding agree_below v_at
powers_of_x = same_from_checked (λ i. v_at (2 ^ 127) (127 - i)) (λ i. 2 ^ i) 128 refl

-- the block of x^0 is 1
pub product_one : (x : ℕ) → x < 2 ^ 128 → product x (2 ^ 127) ≡ x
product_one =
    same_from_powers (λ x. product x (2 ^ 127)) (λ x. x) (product-left (2 ^ 127)) (λ a b. refl) 128
    (λ i h. product_of_power i (2 ^ 127) h ∙ powers_of_x i h)

r_is_power : v_at (2 ^ 127) 128 ≡ r_block
unfolding v_at
r_is_power = refl

-- ---- reduction

v_at-low : (r n : ℕ) → r < 2 ^ n → n ≤ 128 → v_at r n ≡ product (r * 2 ^ (128 - n)) r_block
v_at-low r n h within =
    let u = r * 2 ^ (128 - n) in
    let whole : n + (128 - n) ≡ 128 = omega arith in
    let turned : 128 - n + n ≡ 128 = omega arith in
    let small : u < 2 ^ 128 = rw whole at (shl_below r n (128 - n) h) in
    let less = le-shifted r (128 - n) in
    sym (
    ap (product u) (sym r_is_power) ∙ product-times u (2 ^ 127) 128
    ∙ ap (v_at (product u (2 ^ 127))) (sym turned) ∙ sym (v_at-add (product u (2 ^ 127)) (128 - n) n)
    ∙ ap (λ (v : ℕ). v_at v n) (product-shift (128 - n) r (2 ^ 127) small ∙ product_one r (omega arith))
    )

v_at-even : (q n : ℕ) → v_at (q * 2 ^ n) n ≡ q
unfolding v_at
v_at-even q zero = let one : q * 2 ^ 0 ≡ q = omega arith in one
v_at-even q (suc n) =
    let half : 2 * q / 2 ≡ q = omega arith in
    let none : 2 * q % 2 ≡ 0 = omega arith in
    ap (λ (x : ℕ). v_at x (suc n)) (doubled q n) ∙ sym (v_at-next (2 * q * 2 ^ n) n) ∙ ap (λ (v : ℕ). v_at v 1) (v_at-even (2 * q) n)
    ∙ v_at-step (2 * q) 0 ∙ rw (half, none, zero-mul r_block, xor_zero_r q) refl

-- x^n times a block, as a polynomial of a degree below 256
pub v_at-wide : (t n : ℕ) → n ≤ 128 → v_at t n ≡ wide_value (t / 2 ^ n) (t % 2 ^ n * 2 ^ (128 - n))
v_at-wide t n within =
    let q = t / 2 ^ n in
    let r = t % 2 ^ n in
    let less : r < 2 ^ n = mod_below t (2 ^ n) (pow_pos n) in
    let split : t ≡ (q * 2 ^ n) ⊕ r = sym (xor_shifted q n r less ∙ shr_split t n) in
    ap (λ (x : ℕ). v_at x n) split ∙ v_at-sum n (q * 2 ^ n) r
    ∙ ap (λ (x : ℕ). x ⊕ v_at r n) (v_at-even q n) ∙ ap (λ (x : ℕ). q ⊕ x) (v_at-low r n less within)
