-- The multiples of a block, and the product of blocks by them.
use Rattle.std.proofs.Common.{◌≡◌, ◌≢◌, ℕ, zero, suc, List, [], ◌∷◌, slice_index, length, inl, inr, ◌+◌, ◌-◌, ◌*◌, ◌/◌, ◌%◌, ◌^◌, ◌<◌, ◌≤◌, bit_and, bit_xor, refl, sym, ap, ◌∙◌, arith}
use Rattle.std.proofs.lemmas.Bool.{cases_lt}
use Rattle.std.proofs.Math.Nat.{mul_assoc, add-mul}
use Rattle.std.proofs.lemmas.Nat.{and_mask, pow-add, shr-shr, shr_split, shl_below, mod_low, mod_below, pow_pos}
use Rattle.std.specs.Int.Bits.{xor_block, xor_mod, xor_shifted, xor_shr, xor_zero_r}
use Rattle.aes_block.specs.Field.{◌⊕◌}
use Rattle.aes_block.proofs.Checked.{agree_below, same_from_checked}
use Rattle.aes_block.proofs.LaneLaws.{over_part, over_part-below, over_part-within}
use Rattle.aes_block.proofs.FieldLaws.{KeepsSums, KeepsSums-zero, same_from_powers, sum_swap}
use Rattle.gcm_seal.specs.Gcm.{product, r_block, v_at}
use Rattle.gcm_seal.specs.Multiples.{wide_value}
use Rattle.gcm_seal.proofs.StepLaws.{v_at_even, v_at_odd}
use Rattle.gcm_seal.proofs.ProductLaws.{product-left, product_of_power, product-shift, product-zero, v_at-next, v_at-wide}

-- a sum moved to the left
sum-shifted : (a b k : ℕ) → (a ⊕ b) * 2 ^ k ≡ (a * 2 ^ k) ⊕ (b * 2 ^ k)
sum-shifted a b k =
    let none-a : a * 2 ^ k + 0 ≡ a * 2 ^ k = omega arith in
    let none-b : b * 2 ^ k + 0 ≡ b * 2 ^ k = omega arith in
    let none : (a ⊕ b) * 2 ^ k + 0 ≡ (a ⊕ b) * 2 ^ k = omega arith in
    sym (rw (none-a, none-b, none) at (xor_block k a b 0 0 (pow_pos k) (pow_pos k)))

-- ---- the table

-- what holds at each number below 8
eight_cases : (P : ℕ → Type 0) → P 0 → P 1 → P 2 → P 3 → P 4 → P 5 → P 6 → P 7 → (n : ℕ) → n < 8 → P n
eight_cases P p0 p1 p2 p3 p4 p5 p6 p7 zero lt = p0
eight_cases P p0 p1 p2 p3 p4 p5 p6 p7 (suc zero) lt = p1
eight_cases P p0 p1 p2 p3 p4 p5 p6 p7 (suc (suc zero)) lt = p2
eight_cases P p0 p1 p2 p3 p4 p5 p6 p7 (suc (suc (suc zero))) lt = p3
eight_cases P p0 p1 p2 p3 p4 p5 p6 p7 (suc (suc (suc (suc zero)))) lt = p4
eight_cases P p0 p1 p2 p3 p4 p5 p6 p7 (suc (suc (suc (suc (suc zero))))) lt = p5
eight_cases P p0 p1 p2 p3 p4 p5 p6 p7 (suc (suc (suc (suc (suc (suc zero)))))) lt = p6
eight_cases P p0 p1 p2 p3 p4 p5 p6 p7 (suc (suc (suc (suc (suc (suc (suc zero))))))) lt = p7
eight_cases P p0 p1 p2 p3 p4 p5 p6 p7 (suc (suc (suc (suc (suc (suc (suc (suc n)))))))) lt = absurd (omega arith)

-- a sum of two values of a function that keeps sums
two_values : (f : ℕ → ℕ) → KeepsSums f → (m n x y : ℕ) → x ≡ f m → y ≡ f n → x ⊕ y ≡ f (m ⊕ n)
two_values f keeps m n x y ex ey = ap (λ (v : ℕ). v ⊕ y) ex ∙ ap (λ (v : ℕ). f m ⊕ v) ey ∙ sym (keeps m n)

-- the values below 8 of a function that keeps sums, from those of 4, 2 and 1
eight_values : (f : ℕ → ℕ) → KeepsSums f → (a b c : ℕ) → a ≡ f 4 → b ≡ f 2 → c ≡ f 1 → (n : ℕ) → n < 8
    → slice_index (0 ∷ c ∷ b ∷ (b ⊕ c) ∷ a ∷ (a ⊕ c) ∷ (a ⊕ b) ∷ (a ⊕ b ⊕ c) ∷ []) n ≡ f n
eight_values f keeps a b c ea eb ec n lt =
    eight_cases (λ n. slice_index (0 ∷ c ∷ b ∷ (b ⊕ c) ∷ a ∷ (a ⊕ c) ∷ (a ⊕ b) ∷ (a ⊕ b ⊕ c) ∷ []) n ≡ f n)
    (sym (KeepsSums-zero f keeps)) ec eb (two_values f keeps 2 1 b c eb ec)
    ea (two_values f keeps 4 1 a c ea ec) (two_values f keeps 4 2 a b ea eb)
    (two_values f keeps 6 1 (a ⊕ b) c (two_values f keeps 4 2 a b ea eb) ec) n lt

-- the bits n from a place on, as a function that keeps sums
bits-sum : (h e : ℕ) → KeepsSums (λ n. product (n * 2 ^ e) h)
bits-sum h e a b = ap (λ (x : ℕ). product x h) (sum-shifted a b e) ∙ product-left h (a * 2 ^ e) (b * 2 ^ e)

-- one power of x in three bits
power_in_bits : (h i k : ℕ) → i ≤ 125 → k ≤ 2 → product (2 ^ k * 2 ^ (125 - i)) h ≡ v_at h (i + (2 - k))
power_in_bits h i k within below =
    let e : ℕ = 125 - i in
    let place_is : 127 - (k + e) ≡ i + (2 - k) = omega arith in
    ap (λ (x : ℕ). product x h) (sym (pow-add 2 k e)) ∙ product_of_power (k + e) h (omega arith) ∙ ap (v_at h) place_is

-- the eight sums of v and its multiples by x and x^2
pub eight_held : (h i a b c : ℕ) → i ≤ 125 → a ≡ v_at h i → b ≡ v_at a 1 → c ≡ v_at b 1 → (n : ℕ) → n < 8
    → slice_index (0 ∷ c ∷ b ∷ (b ⊕ c) ∷ a ∷ (a ⊕ c) ∷ (a ⊕ b) ∷ (a ⊕ b ⊕ c) ∷ []) n ≡ product (n * 2 ^ (125 - i)) h
eight_held h i a b c within ea eb ec n lt =
    let own : i ≡ i + 0 = omega arith in
    let one : suc i ≡ i + 1 = omega arith in
    let two : suc (i + 1) ≡ i + 2 = omega arith in
    let a_is : a ≡ v_at h (i + 0) = ea ∙ ap (v_at h) own in
    let b_is : b ≡ v_at h (i + 1) = eb ∙ ap (λ (v : ℕ). v_at v 1) ea ∙ v_at-next h i ∙ ap (v_at h) one in
    let c_is : c ≡ v_at h (i + 2) = ec ∙ ap (λ (v : ℕ). v_at v 1) b_is ∙ v_at-next h (i + 1) ∙ ap (v_at h) two in
    eight_values (λ n. product (n * 2 ^ (125 - i)) h) (bits-sum h (125 - i)) a b c
    (a_is ∙ sym (power_in_bits h i 2 within (omega arith)))
    (b_is ∙ sym (power_in_bits h i 1 within (omega arith)))
    (c_is ∙ sym (power_in_bits h i 0 within (omega arith))) n lt

-- three times x, and three times x from a power on
pub three_times : (v a b c : ℕ) → a ≡ v_at v 1 → b ≡ v_at a 1 → c ≡ v_at b 1 → c ≡ v_at v 3
three_times v a b c ea eb ec =
    ec ∙ ap (λ (y : ℕ). v_at y 1) (eb ∙ ap (λ (y : ℕ). v_at y 1) ea ∙ v_at-next v 1) ∙ v_at-next v 2

pub three_more : (h i a b : ℕ) → a ≡ v_at h i → b ≡ v_at a 3 → b ≡ v_at h (i + 3)
three_more h i a b ea eb =
    let three : suc (suc (suc i)) ≡ i + 3 = omega arith in
    let first : v_at a 1 ≡ v_at h (suc i) = ap (λ (y : ℕ). v_at y 1) ea ∙ v_at-next h i in
    let second : v_at a 2 ≡ v_at h (suc (suc i)) = sym (v_at-next a 1) ∙ ap (λ (y : ℕ). v_at y 1) first ∙ v_at-next h (suc i) in
    eb ∙ sym (v_at-next a 2) ∙ ap (λ (y : ℕ). v_at y 1) second ∙ v_at-next h (suc (suc i)) ∙ ap (v_at h) three

-- the multiple of six bits is the sum of those of three bits each
pub six_bits_held : (h place : ℕ) (high low : List ℕ) → place < 21
    → ((n : ℕ) → n < 8 → slice_index high n ≡ product (n * 2 ^ (125 - (2 + 6 * place))) h)
    → ((n : ℕ) → n < 8 → slice_index low n ≡ product (n * 2 ^ (125 - (2 + 6 * place + 3))) h)
    → (n : ℕ) → n < 64 → slice_index high (n / 8) ⊕ slice_index low (n % 8) ≡ product (n * 2 ^ (120 - 6 * place)) h
six_bits_held h place high low within highs lows n lt =
    let e : ℕ = 120 - 6 * place in
    let m = n / 2 ^ 3 in
    let l = n % 2 ^ 3 in
    let high_place : 125 - (2 + 6 * place) ≡ 3 + e = omega arith in
    let low_place : 125 - (2 + 6 * place + 3) ≡ e = omega arith in
    let moved : m * 2 ^ (3 + e) ≡ m * 2 ^ 3 * 2 ^ e = ap (λ (p : ℕ). m * p) (pow-add 2 3 e) ∙ sym (mul_assoc m (2 ^ 3) (2 ^ e)) in
    let high_is : slice_index high m ≡ product (m * 2 ^ 3 * 2 ^ e) h =
    highs m (omega arith) ∙ ap (λ (j : ℕ). product (m * 2 ^ j) h) high_place ∙ ap (λ (y : ℕ). product y h) moved in
    let low_is : slice_index low l ≡ product (l * 2 ^ e) h = lows l (omega arith) ∙ ap (λ (j : ℕ). product (l * 2 ^ j) h) low_place in
    let whole : (m * 2 ^ 3) ⊕ l ≡ n = xor_shifted m 3 l (mod_below n (2 ^ 3) (pow_pos 3)) ∙ shr_split n 3 in
    ap (λ (y : ℕ). y ⊕ slice_index low l) high_is ∙ ap (λ (y : ℕ). product (m * 2 ^ 3 * 2 ^ e) h ⊕ y) low_is
    ∙ sym (bits-sum h e (m * 2 ^ 3) l) ∙ ap (λ (y : ℕ). product (y * 2 ^ e) h) whole

-- the multiples of the two bits at the left end
four_cases : (P : ℕ → Type 0) → P 0 → P 1 → P 2 → P 3 → (n : ℕ) → n < 4 → P n
four_cases P p0 p1 p2 p3 zero lt = p0
four_cases P p0 p1 p2 p3 (suc zero) lt = p1
four_cases P p0 p1 p2 p3 (suc (suc zero)) lt = p2
four_cases P p0 p1 p2 p3 (suc (suc (suc zero))) lt = p3
four_cases P p0 p1 p2 p3 (suc (suc (suc (suc n)))) lt = absurd (omega arith)

pub front_held : (h once : ℕ) (rest : List ℕ) → once ≡ v_at h 1 → (n : ℕ) → n < 4
    → slice_index (0 ∷ once ∷ h ∷ (h ⊕ once) ∷ rest) n ≡ product (n * 2 ^ 126) h
unfolding v_at
front_held h once rest e n lt =
    let f : ℕ → ℕ = λ n. product (n * 2 ^ 126) h in
    let own : h ≡ f 2 = sym (product_of_power 127 h (omega arith)) in
    let next : once ≡ f 1 = e ∙ sym (product_of_power 126 h (omega arith)) in
    four_cases (λ n. slice_index (0 ∷ once ∷ h ∷ (h ⊕ once) ∷ rest) n ≡ product (n * 2 ^ 126) h)
    (sym (KeepsSums-zero f (bits-sum h 126))) next own (two_values f (bits-sum h 126) 2 1 h once own next) n lt

-- the rows of the places so far, and one more
pub rows_held : (h place : ℕ) (table row : List ℕ) → length table ≡ 1348 → place < 21 → length row ≡ 64
    → ((p n : ℕ) → p < place → n < 64 → slice_index table (4 + 64 * p + n) ≡ product (n * 2 ^ (120 - 6 * p)) h)
    → ((n : ℕ) → n < 64 → slice_index row n ≡ product (n * 2 ^ (120 - 6 * place)) h)
    → (p n : ℕ) → p < place + 1 → n < 64
    → slice_index (over_part 64 table row (4 + 64 * place)) (4 + 64 * p + n) ≡ product (n * 2 ^ (120 - 6 * p)) h
rows_held h place table row size within long done own p n lt below =
    let start : ℕ = 4 + 64 * place in
    elim (cases_lt p place) [
      | inl less ↦ over_part-below 64 1348 table row start (4 + 64 * p + n) size (omega arith) (omega arith) ∙ done p n less below
      | inr ge ↦
          let same : p ≡ place = omega arith in
          let at : start + n - start ≡ n = omega arith in
          ap (λ (q : ℕ). slice_index (over_part 64 table row start) (4 + 64 * q + n)) same
          ∙ over_part-within 64 1348 table row start (start + n) size (omega arith) long (omega arith) (omega arith)
          ∙ ap (slice_index row) at ∙ own n below ∙ ap (λ (q : ℕ). product (n * 2 ^ (120 - 6 * q)) h) (sym same)
    ]

-- what stands in front of a row is kept
pub front_kept : (h place : ℕ) (table row : List ℕ) → length table ≡ 1348 → place < 21
    → ((n : ℕ) → n < 4 → slice_index table n ≡ product (n * 2 ^ 126) h)
    → (n : ℕ) → n < 4 → slice_index (over_part 64 table row (4 + 64 * place)) n ≡ product (n * 2 ^ 126) h
front_kept h place table row size within done n lt =
    over_part-below 64 1348 table row (4 + 64 * place) n size (omega arith) (omega arith) ∙ done n lt

-- x times a block by the test that the code makes
pub times_x_even : (v : ℕ) → bit_and v 1 ≡ 0 → v_at v 1 ≡ v / 2
unfolding v_at
times_x_even v h = v_at_even v 0 h

pub times_x_odd : (v : ℕ) → bit_and v 1 ≢ 0 → v_at v 1 ≡ bit_xor (v / 2) r_block
unfolding v_at
times_x_odd v h = v_at_odd v 0 h

-- ---- one half byte more

-- the first digits of x, each of w bits, and the next one
front_more : (x m w : ℕ) → (x / 2 ^ (m + w) * 2 ^ (m + w)) ⊕ (x / 2 ^ m % 2 ^ w * 2 ^ m) ≡ x / 2 ^ m * 2 ^ m
front_more x m w =
    let q = x / 2 ^ m in
    let high : x / 2 ^ (m + w) ≡ q / 2 ^ w = sym (shr-shr x m w) in
    let turned : m + w ≡ w + m = omega arith in
    let power : 2 ^ (m + w) ≡ 2 ^ w * 2 ^ m = ap (λ (j : ℕ). 2 ^ j) turned ∙ pow-add 2 w m in
    let moved : x / 2 ^ (m + w) * 2 ^ (m + w) ≡ q / 2 ^ w * 2 ^ w * 2 ^ m =
    ap (λ (y : ℕ). y * 2 ^ (m + w)) high ∙ ap (λ (p : ℕ). q / 2 ^ w * p) power ∙ sym (mul_assoc (q / 2 ^ w) (2 ^ w) (2 ^ m)) in
    let low : q % 2 ^ w < 2 ^ w = mod_below q (2 ^ w) (pow_pos w) in
    let joined : (q / 2 ^ w * 2 ^ w) ⊕ (q % 2 ^ w) ≡ q = xor_shifted (q / 2 ^ w) w (q % 2 ^ w) low ∙ shr_split q w in
    ap (λ (y : ℕ). y ⊕ (q % 2 ^ w * 2 ^ m)) moved ∙ sym (sum-shifted (q / 2 ^ w * 2 ^ w) (q % 2 ^ w) m) ∙ ap (λ (y : ℕ). y * 2 ^ m) joined

-- a shift to the left that drops what does not fit
shifted_out : (t a b : ℕ) → a + b ≡ 128 → t * 2 ^ a % 2 ^ 128 ≡ t % 2 ^ b * 2 ^ a
shifted_out t a b whole =
    let q = t / 2 ^ b in
    let r = t % 2 ^ b in
    let less : r < 2 ^ b = mod_below t (2 ^ b) (pow_pos b) in
    let turned : b + a ≡ 128 = omega arith in
    let small : r * 2 ^ a < 2 ^ 128 = rw turned at (shl_below r b a less) in
    let split : t * 2 ^ a ≡ q * 2 ^ 128 + r * 2 ^ a =
    ap (λ (y : ℕ). y * 2 ^ a) (sym (shr_split t b)) ∙ add-mul (q * 2 ^ b) r (2 ^ a)
    ∙ ap (λ (y : ℕ). y + r * 2 ^ a)
    (mul_assoc q (2 ^ b) (2 ^ a) ∙ ap (λ (p : ℕ). q * p) (sym (pow-add 2 b a) ∙ ap (λ (j : ℕ). 2 ^ j) turned)) in
    ap (λ (y : ℕ). y % 2 ^ 128) split ∙ mod_low q 128 (r * 2 ^ a) small

-- the digit above bit m of x, which stands n bits from the first one
digit_added : (x h front back t m n w : ℕ) → m + n + w ≡ 128 → t ≡ product (x / 2 ^ m % 2 ^ w * 2 ^ (m + n)) h
    → wide_value front back ≡ product (x / 2 ^ (m + w) * 2 ^ (m + w)) h
    → wide_value (front ⊕ t / 2 ^ n) (back ⊕ t * 2 ^ (m + w) % 2 ^ 128) ≡ product (x / 2 ^ m * 2 ^ m) h
digit_added x h front back t m n w all e held =
    let digit = x / 2 ^ m % 2 ^ w in
    let whole : m + w + n ≡ 128 = omega arith in
    let rest : 128 - n ≡ m + w = omega arith in
    let reach : w + (m + n) ≡ 128 = omega arith in
    let low : digit < 2 ^ w = mod_below (x / 2 ^ m) (2 ^ w) (pow_pos w) in
    let power : digit * 2 ^ (m + n) ≡ digit * 2 ^ m * 2 ^ n = ap (λ (p : ℕ). digit * p) (pow-add 2 m n) ∙ sym (mul_assoc digit (2 ^ m) (2 ^ n)) in
    let small : digit * 2 ^ m * 2 ^ n < 2 ^ 128 = rw (reach, power) at (shl_below digit w (m + n) low) in
    let shifted : wide_value (t / 2 ^ n) (t % 2 ^ n * 2 ^ (128 - n)) ≡ product (digit * 2 ^ m) h =
    sym (v_at-wide t n (omega arith)) ∙ ap (λ (v : ℕ). v_at v n) (e ∙ ap (λ (y : ℕ). product y h) power) ∙ product-shift n (digit * 2 ^ m) h small in
    let out : t * 2 ^ (m + w) % 2 ^ 128 ≡ t % 2 ^ n * 2 ^ (128 - n) =
    shifted_out t (m + w) n whole ∙ ap (λ (j : ℕ). t % 2 ^ n * 2 ^ j) (sym rest) in
    ap (λ (y : ℕ). wide_value (front ⊕ t / 2 ^ n) (back ⊕ y)) out
    ∙ ap (λ (y : ℕ). (front ⊕ t / 2 ^ n) ⊕ y) (product-left r_block back (t % 2 ^ n * 2 ^ (128 - n)))
    ∙ sum_swap front (t / 2 ^ n) (product back r_block) (product (t % 2 ^ n * 2 ^ (128 - n)) r_block)
    ∙ ap (λ (y : ℕ). y ⊕ wide_value (t / 2 ^ n) (t % 2 ^ n * 2 ^ (128 - n))) held
    ∙ ap (λ (y : ℕ). product (x / 2 ^ (m + w) * 2 ^ (m + w)) h ⊕ y) shifted
    ∙ sym (product-left h (x / 2 ^ (m + w) * 2 ^ (m + w)) (digit * 2 ^ m)) ∙ ap (λ (y : ℕ). product y h) (front_more x m w)

-- the same of half a byte, as the code writes it
pub half_byte_added : (x h front back t k : ℕ) → 1 ≤ k → k ≤ 31 → t ≡ product (bit_and (x / 2 ^ (124 - 4 * k)) 15 * 2 ^ 124) h
    → wide_value front back ≡ product (x / 2 ^ (128 - 4 * k) * 2 ^ (128 - 4 * k)) h
    → wide_value (front ⊕ t / 2 ^ (4 * k)) (back ⊕ t * 2 ^ (128 - 4 * k) % 2 ^ 128) ≡ product (x / 2 ^ (124 - 4 * k) * 2 ^ (124 - 4 * k)) h
half_byte_added x h front back t k from below e held =
    let m = 124 - 4 * k in
    let high : 128 - 4 * k ≡ m + 4 = omega arith in
    let reach : 124 ≡ m + 4 * k = omega arith in
    let is_t = e ∙ ap (λ (y : ℕ). product (y * 2 ^ 124) h) (and_mask (x / 2 ^ m) 4) ∙ ap (λ (j : ℕ). product (x / 2 ^ m % 2 ^ 4 * 2 ^ j) h) reach in
    ap (λ (j : ℕ). wide_value (front ⊕ t / 2 ^ (4 * k)) (back ⊕ t * 2 ^ j % 2 ^ 128)) high
    ∙ digit_added x h front back t m (4 * k) 4 (omega arith) is_t (held ∙ ap (λ (j : ℕ). product (x / 2 ^ j * 2 ^ j) h) high)

-- the same by a table with the multiples of six bits at each place
pub place_added : (x h sum place : ℕ) → place < 21 → sum ≡ product (x / 2 ^ (126 - 6 * place) * 2 ^ (126 - 6 * place)) h
    → sum ⊕ product (bit_and (x / 2 ^ (120 - 6 * place)) 63 * 2 ^ (120 - 6 * place)) h ≡ product (x / 2 ^ (120 - 6 * place) * 2 ^ (120 - 6 * place)) h
place_added x h sum place within held =
    let m : ℕ = 120 - 6 * place in
    let high : 126 - 6 * place ≡ m + 6 = omega arith in
    ap (λ (y : ℕ). sum ⊕ product (y * 2 ^ m) h) (and_mask (x / 2 ^ m) 6)
    ∙ ap (λ (y : ℕ). y ⊕ product (x / 2 ^ m % 2 ^ 6 * 2 ^ m) h) (held ∙ ap (λ (j : ℕ). product (x / 2 ^ j * 2 ^ j) h) high)
    ∙ sym (product-left h (x / 2 ^ (m + 6) * 2 ^ (m + 6)) (x / 2 ^ m % 2 ^ 6 * 2 ^ m)) ∙ ap (λ (y : ℕ). product y h) (front_more x m 6)

pub wide_of_front : (front : ℕ) → wide_value front 0 ≡ front
wide_of_front front = ap (λ (y : ℕ). front ⊕ y) (product-zero r_block) ∙ xor_zero_r front

-- ---- the reduction

near_of : ℕ → ℕ
near_of b = b ⊕ b / 2 ⊕ b / 2 ^ 2 ⊕ b / 2 ^ 7

unfoldable pub far_of : ℕ → ℕ
far_of b = (b * 2 ^ 127 % 2 ^ 128) ⊕ (b * 2 ^ 126 % 2 ^ 128) ⊕ (b * 2 ^ 121 % 2 ^ 128)

reduced_of : ℕ → ℕ
reduced_of b = near_of b ⊕ far_of b ⊕ far_of b / 2 ⊕ far_of b / 2 ^ 2 ⊕ far_of b / 2 ^ 7

KeepsSums-both : (f g : ℕ → ℕ) → KeepsSums f → KeepsSums g → KeepsSums (λ b. f b ⊕ g b)
KeepsSums-both f g kf kg a b =
    ap (λ (y : ℕ). y ⊕ g (a ⊕ b)) (kf a b) ∙ ap (λ (y : ℕ). (f a ⊕ f b) ⊕ y) (kg a b) ∙ sum_swap (f a) (f b) (g a) (g b)

KeepsSums-right : (k : ℕ) (f : ℕ → ℕ) → KeepsSums f → KeepsSums (λ b. f b / 2 ^ k)
KeepsSums-right k f kf a b = ap (λ (y : ℕ). y / 2 ^ k) (kf a b) ∙ xor_shr (f a) (f b) k

KeepsSums-left : (k : ℕ) → KeepsSums (λ b. b * 2 ^ k % 2 ^ 128)
KeepsSums-left k a b = ap (λ (y : ℕ). y % 2 ^ 128) (sum-shifted a b k) ∙ xor_mod (a * 2 ^ k) (b * 2 ^ k) 128

near_of-sum : KeepsSums near_of
unfolding near_of
near_of-sum =
    let same : KeepsSums (λ b. b) = λ a b. refl in
    let two = KeepsSums-both (λ b. b) (λ b. b / 2) same (KeepsSums-right 1 (λ b. b) same) in
    let three = KeepsSums-both (λ b. b ⊕ b / 2) (λ b. b / 2 ^ 2) two (KeepsSums-right 2 (λ b. b) same) in
    KeepsSums-both (λ b. b ⊕ b / 2 ⊕ b / 2 ^ 2) (λ b. b / 2 ^ 7) three (KeepsSums-right 7 (λ b. b) same)

far_of-sum : KeepsSums far_of
unfolding far_of
far_of-sum =
    KeepsSums-both (λ b. (b * 2 ^ 127 % 2 ^ 128) ⊕ (b * 2 ^ 126 % 2 ^ 128)) (λ b. b * 2 ^ 121 % 2 ^ 128)
    (KeepsSums-both (λ b. b * 2 ^ 127 % 2 ^ 128) (λ b. b * 2 ^ 126 % 2 ^ 128) (KeepsSums-left 127) (KeepsSums-left 126))
    (KeepsSums-left 121)

reduced_of-sum : KeepsSums reduced_of
unfolding reduced_of
reduced_of-sum =
    let two = KeepsSums-both near_of far_of near_of-sum far_of-sum in
    let three = KeepsSums-both (λ b. near_of b ⊕ far_of b) (λ b. far_of b / 2) two (KeepsSums-right 1 far_of far_of-sum) in
    let four = KeepsSums-both (λ b. near_of b ⊕ far_of b ⊕ far_of b / 2) (λ b. far_of b / 2 ^ 2) three (KeepsSums-right 2 far_of far_of-sum) in
    KeepsSums-both (λ b. near_of b ⊕ far_of b ⊕ far_of b / 2 ⊕ far_of b / 2 ^ 2) (λ b. far_of b / 2 ^ 7) four
    (KeepsSums-right 7 far_of far_of-sum)

powers_reduced : (i : ℕ) → i < 128 → v_at r_block (127 - i) ≡ reduced_of (2 ^ i)
unfolding agree_below v_at reduced_of near_of far_of
powers_reduced = same_from_checked (λ i. v_at r_block (127 - i)) (λ i. reduced_of (2 ^ i)) 128 refl

reduced_of_is : (b : ℕ) → b < 2 ^ 128 → product b r_block ≡ reduced_of b
reduced_of_is =
    same_from_powers (λ b. product b r_block) reduced_of (product-left r_block) reduced_of-sum 128
    (λ i h. product_of_power i r_block h ∙ powers_reduced i h)

pub reduced_is : (b : ℕ) → b < 2 ^ 128
    → (b ⊕ b / 2 ⊕ b / 2 ^ 2 ⊕ b / 2 ^ 7) ⊕ far_of b ⊕ far_of b / 2 ⊕ far_of b / 2 ^ 2 ⊕ far_of b / 2 ^ 7 ≡ product b r_block
unfolding reduced_of near_of
reduced_is b h = sym (reduced_of_is b h)
