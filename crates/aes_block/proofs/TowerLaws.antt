-- The S-box in the tower's basis, and a round's bytes.
use Rattle.std.proofs.Common.{◌≡◌, ℕ, zero, suc, ◌+◌, ◌*◌, ◌/◌, ◌%◌, ◌<◌, Bool, true, false, List, [], ◌∷◌, slice_index, bit_xor, refl, sym, ap, ◌∙◌, arith}
use Rattle.std.specs.Int.Bits.{xor_assoc, xor_comm, xor_self, xor_zero_r}
use Rattle.aes_block.specs.Field.{◌⊕◌, ◌•◌, sum_of_multiples, xtimes}
use Rattle.aes_block.specs.Cipher.{add_round_key, affine, at, byte_of_word, mix_columns, sbox, shift_rows, state_of, sub_bytes}
use Rattle.aes_block.specs.Lanes.{at_places, first_place, first_sum, halves_sum, is_place, looked, second_place, second_sum, sum_by_bits, tower}
use Rattle.aes_block.specs.declared.field.TheConstants.{SBOX}
use Rattle.aes_block.specs.declared.lanes.TheConstants.{TOWER_OF_LOW, TOWER_OF_HIGH, SBOX_FIRST, SBOX_SECOND, ONCE_FIRST, ONCE_SECOND, TWICE_FIRST, TWICE_SECOND}
use Rattle.aes_block.proofs.Checked.{agree_below, same_from_checked}
use Rattle.aes_block.proofs.FieldLaws.{KeepsSums, from_square, from_three_powers, from_two_powers, inverse-short, product-sum_right, product-three, product-two, square, sum-half, sum-mod_two, sum-mul, sum_swap}

-- ---- places in the tables

as_one : Bool → ℕ
as_one true = 1
as_one false = 0

is_one : (b : Bool) → as_one b ≡ 1 → b ≡ true
unfolding as_one
is_one true e = refl
is_one false e = absurd (omega arith)

place_from : (f : ℕ → ℕ) → agree_below (λ y. as_one (is_place (f y))) (λ _. 1) 256 ≡ true → (y : ℕ) → y < 256 → is_place (f y) ≡ true
place_from f checked y h = is_one (is_place (f y)) (same_from_checked (λ y. as_one (is_place (f y))) (λ _. 1) 256 checked y h)

pub halves_sum-place : (y : ℕ) → y < 256 → is_place (halves_sum y) ≡ true
unfolding agree_below as_one halves_sum
halves_sum-place = place_from halves_sum refl

pub first_sum-place : (y : ℕ) → y < 256 → is_place (first_sum y) ≡ true
unfolding agree_below as_one first_sum
first_sum-place = place_from first_sum refl

pub second_sum-place : (y : ℕ) → y < 256 → is_place (second_sum y) ≡ true
unfolding agree_below as_one halves_sum second_sum
second_sum-place = place_from second_sum refl

pub first_place-place : (y : ℕ) → y < 256 → is_place (first_place y) ≡ true
unfolding agree_below as_one halves_sum first_sum first_place
first_place-place = place_from first_place refl

pub second_place-place : (y : ℕ) → y < 256 → is_place (second_place y) ≡ true
unfolding agree_below as_one halves_sum second_sum second_place
second_place-place = place_from second_place refl

-- ---- the tower's basis

sum_by_bits-sum : (xs : List ℕ) → KeepsSums (sum_by_bits xs)
unfolding sum_by_bits
sum_by_bits-sum [] a b = refl
sum_by_bits-sum (x ∷ xs) a b =
    let low = ap (λ (n : ℕ). n * x) (sum-mod_two a b) ∙ sum-mul (a % 2) (b % 2) x (omega arith) (omega arith) in
    let high = ap (sum_by_bits xs) (sum-half a b) ∙ sum_by_bits-sum xs (a / 2) (b / 2) in
    ap (λ (n : ℕ). n ⊕ sum_by_bits xs ((a ⊕ b) / 2)) low ∙ ap (λ (n : ℕ). (a % 2 * x) ⊕ (b % 2 * x) ⊕ n) high
    ∙ sum_swap (a % 2 * x) (b % 2 * x) (sum_by_bits xs (a / 2)) (sum_by_bits xs (b / 2))

pub tower-sum : KeepsSums tower
unfolding tower
tower-sum a b = sum_by_bits-sum _ a b

pub tower_by_halves : (b : ℕ) → b < 256 → bit_xor (looked TOWER_OF_LOW (b % 16)) (looked TOWER_OF_HIGH (b / 16)) ≡ tower b
unfolding agree_below tower sum_by_bits
tower_by_halves = same_from_checked (λ b. bit_xor (looked TOWER_OF_LOW (b % 16)) (looked TOWER_OF_HIGH (b / 16))) tower 256 refl

-- ---- the S-box

sbox_by_products : (b : ℕ) → b < 256 → slice_index SBOX b ≡ affine (from_square b (square b))
unfolding agree_below affine ◌•◌ sum_of_multiples xtimes square from_three_powers from_two_powers from_square
sbox_by_products = same_from_checked (λ b. slice_index SBOX b) (λ b. affine (from_square b (square b))) 256 refl

pub sbox-table : (b : ℕ) → b < 256 → slice_index SBOX b ≡ sbox b
unfolding sbox
sbox-table b h = sbox_by_products b h ∙ ap affine (sym (inverse-short b h))

once_of_table : (b : ℕ) → b < 256 → at_places ONCE_FIRST ONCE_SECOND (tower b) ≡ tower (slice_index SBOX b ⊕ 0x63)
unfolding agree_below tower sum_by_bits halves_sum first_sum second_sum first_place second_place
once_of_table = same_from_checked (λ b. at_places ONCE_FIRST ONCE_SECOND (tower b)) (λ b. tower (slice_index SBOX b ⊕ 0x63)) 256 refl

pub once_is : (b : ℕ) → b < 256 → at_places ONCE_FIRST ONCE_SECOND (tower b) ≡ tower (sbox b ⊕ 0x63)
once_is b h = once_of_table b h ∙ ap (λ (x : ℕ). tower (x ⊕ 0x63)) (sbox-table b h)

twice_of_table : (b : ℕ) → b < 256 → at_places TWICE_FIRST TWICE_SECOND (tower b) ≡ tower (xtimes (slice_index SBOX b ⊕ 0x63))
unfolding agree_below xtimes tower sum_by_bits halves_sum first_sum second_sum first_place second_place
twice_of_table = same_from_checked (λ b. at_places TWICE_FIRST TWICE_SECOND (tower b)) (λ b. tower (xtimes (slice_index SBOX b ⊕ 0x63))) 256 refl

pub twice_is : (b : ℕ) → b < 256 → at_places TWICE_FIRST TWICE_SECOND (tower b) ≡ tower (2 • (sbox b ⊕ 0x63))
twice_is b h = twice_of_table b h ∙ ap (λ (x : ℕ). tower (xtimes (x ⊕ 0x63))) (sbox-table b h) ∙ ap tower (sym (product-two (sbox b ⊕ 0x63)))

sbox_of_table : (b : ℕ) → b < 256 → bit_xor (at_places SBOX_FIRST SBOX_SECOND (tower b)) 0x63 ≡ slice_index SBOX b
unfolding agree_below tower sum_by_bits halves_sum first_sum second_sum first_place second_place
sbox_of_table = same_from_checked (λ b. bit_xor (at_places SBOX_FIRST SBOX_SECOND (tower b)) 0x63) (λ b. slice_index SBOX b) 256 refl

pub sbox_is : (b : ℕ) → b < 256 → bit_xor (at_places SBOX_FIRST SBOX_SECOND (tower b)) 0x63 ≡ sbox b
sbox_is b h = sbox_of_table b h ∙ sbox-table b h

-- ---- sums with the constant

-- a summand that comes twice goes away
pub sum_cancel : (a b c : ℕ) → (a ⊕ c) ⊕ (b ⊕ c) ≡ a ⊕ b
sum_cancel a b c = sum_swap a c b c ∙ ap (λ (x : ℕ). (a ⊕ b) ⊕ x) (xor_self c) ∙ xor_zero_r (a ⊕ b)

-- a word in the tower's basis, added
pub tower_words_added : (a k : ℕ) → tower (a ⊕ 0x63) ⊕ tower (k ⊕ 0x63) ≡ tower (a ⊕ k)
tower_words_added a k = sym (tower-sum (a ⊕ 0x63) (k ⊕ 0x63)) ∙ ap tower (sum_cancel a k 0x63)

-- two bytes of a column, once and twice
near_bytes : (a b c : ℕ) → 2 • (a ⊕ c) ⊕ ((b ⊕ c) ⊕ 2 • (b ⊕ c)) ≡ (2 • a ⊕ 3 • b) ⊕ c
near_bytes a b c =
    let one = product-sum_right 2 a c in
    let two = product-sum_right 2 b c in
    let three = product-three b ∙ ap (λ (x : ℕ). b ⊕ x) (sym (product-two b)) in
    ap (λ (x : ℕ). x ⊕ ((b ⊕ c) ⊕ 2 • (b ⊕ c))) one
    ∙ ap (λ (x : ℕ). (2 • a ⊕ 2 • c) ⊕ ((b ⊕ c) ⊕ x)) two
    ∙ ap (λ (x : ℕ). (2 • a ⊕ 2 • c) ⊕ x) (sum_swap b c (2 • b) (2 • c))
    ∙ ap (λ (x : ℕ). x) (sym (xor_assoc (2 • a ⊕ 2 • c) (b ⊕ 2 • b) (c ⊕ 2 • c)))
    ∙ ap (λ (x : ℕ). x ⊕ (c ⊕ 2 • c)) (xor_assoc (2 • a) (2 • c) (b ⊕ 2 • b) ∙ ap (λ (x : ℕ). 2 • a ⊕ x) (xor_comm (2 • c) (b ⊕ 2 • b)) ∙ sym (xor_assoc (2 • a) (b ⊕ 2 • b) (2 • c)))
    ∙ sum_cancel (2 • a ⊕ (b ⊕ 2 • b)) c (2 • c)
    ∙ ap (λ (x : ℕ). (2 • a ⊕ x) ⊕ c) (sym three)

-- a mixed byte in the tower's basis, from bytes that lack the affine map's constant
pub mixed_in_tower : (a b d e : ℕ)
    → (tower (d ⊕ 0x63) ⊕ tower (e ⊕ 0x63)) ⊕ (tower (2 • (a ⊕ 0x63)) ⊕ (tower (b ⊕ 0x63) ⊕ tower (2 • (b ⊕ 0x63))))
    ≡ tower ((2 • a ⊕ 3 • b ⊕ d ⊕ e) ⊕ 0x63)
mixed_in_tower a b d e =
    let far = tower_words_added d e in
    let near =
    ap (λ (x : ℕ). tower (2 • (a ⊕ 0x63)) ⊕ x) (sym (tower-sum (b ⊕ 0x63) (2 • (b ⊕ 0x63))))
    ∙ sym (tower-sum (2 • (a ⊕ 0x63)) ((b ⊕ 0x63) ⊕ 2 • (b ⊕ 0x63))) ∙ ap tower (near_bytes a b 0x63) in
    let m = 2 • a ⊕ 3 • b in
    let turned : (d ⊕ e) ⊕ (m ⊕ 0x63) ≡ (m ⊕ d ⊕ e) ⊕ 0x63 =
    sym (xor_assoc (d ⊕ e) m 0x63) ∙ ap (λ (x : ℕ). x ⊕ 0x63) (xor_comm (d ⊕ e) m ∙ sym (xor_assoc m d e)) in
    ap (λ (x : ℕ). x ⊕ (tower (2 • (a ⊕ 0x63)) ⊕ (tower (b ⊕ 0x63) ⊕ tower (2 • (b ⊕ 0x63))))) far
    ∙ ap (λ (x : ℕ). tower (d ⊕ e) ⊕ x) near ∙ sym (tower-sum (d ⊕ e) (m ⊕ 0x63)) ∙ ap tower turned

-- the same in the order in which a round adds
pub round_sum : (a b bb d e w : ℕ) → ((a ⊕ b) ⊕ e) ⊕ ((bb ⊕ d) ⊕ w) ≡ ((d ⊕ e) ⊕ (a ⊕ (b ⊕ bb))) ⊕ w
round_sum a b bb d e w =
    sym (xor_assoc ((a ⊕ b) ⊕ e) (bb ⊕ d) w)
    ∙ ap (λ (x : ℕ). x ⊕ w)
    (sum_swap (a ⊕ b) e bb d ∙ ap (λ (x : ℕ). ((a ⊕ b) ⊕ bb) ⊕ x) (xor_comm e d) ∙ xor_comm ((a ⊕ b) ⊕ bb) (d ⊕ e)
    ∙ ap (λ (x : ℕ). (d ⊕ e) ⊕ x) (xor_assoc a b bb))

-- ---- the bytes of a state

-- what holds at each of so many places holds below that number
at_each_of_4 : (P : ℕ → Type 0) → P 0 → P 1 → P 2 → P 3 → (k : ℕ) → k < 4 → P k
at_each_of_4 P a12 a13 a14 a15 zero h = a12
at_each_of_4 P a12 a13 a14 a15 (suc zero) h = a13
at_each_of_4 P a12 a13 a14 a15 (suc (suc zero)) h = a14
at_each_of_4 P a12 a13 a14 a15 (suc (suc (suc zero))) h = a15
at_each_of_4 P a12 a13 a14 a15 (suc (suc (suc (suc k)))) h = absurd (omega arith)

at_each_of_8 : (P : ℕ → Type 0) → P 0 → P 1 → P 2 → P 3 → P 4 → P 5 → P 6 → P 7 → (k : ℕ) → k < 8 → P k
at_each_of_8 P a8 a9 a10 a11 a12 a13 a14 a15 zero h = a8
at_each_of_8 P a8 a9 a10 a11 a12 a13 a14 a15 (suc zero) h = a9
at_each_of_8 P a8 a9 a10 a11 a12 a13 a14 a15 (suc (suc zero)) h = a10
at_each_of_8 P a8 a9 a10 a11 a12 a13 a14 a15 (suc (suc (suc zero))) h = a11
at_each_of_8 P a8 a9 a10 a11 a12 a13 a14 a15 (suc (suc (suc (suc k)))) h = at_each_of_4 (λ j. P (suc (suc (suc (suc j))))) a12 a13 a14 a15 k (omega arith)

at_each_of_12 : (P : ℕ → Type 0) → P 0 → P 1 → P 2 → P 3 → P 4 → P 5 → P 6 → P 7 → P 8 → P 9 → P 10 → P 11 → (k : ℕ) → k < 12 → P k
at_each_of_12 P a4 a5 a6 a7 a8 a9 a10 a11 a12 a13 a14 a15 zero h = a4
at_each_of_12 P a4 a5 a6 a7 a8 a9 a10 a11 a12 a13 a14 a15 (suc zero) h = a5
at_each_of_12 P a4 a5 a6 a7 a8 a9 a10 a11 a12 a13 a14 a15 (suc (suc zero)) h = a6
at_each_of_12 P a4 a5 a6 a7 a8 a9 a10 a11 a12 a13 a14 a15 (suc (suc (suc zero))) h = a7
at_each_of_12 P a4 a5 a6 a7 a8 a9 a10 a11 a12 a13 a14 a15 (suc (suc (suc (suc k)))) h = at_each_of_8 (λ j. P (suc (suc (suc (suc j))))) a8 a9 a10 a11 a12 a13 a14 a15 k (omega arith)

at_each_of_16 : (P : ℕ → Type 0) → P 0 → P 1 → P 2 → P 3 → P 4 → P 5 → P 6 → P 7 → P 8 → P 9 → P 10 → P 11 → P 12 → P 13 → P 14 → P 15 → (k : ℕ) → k < 16 → P k
at_each_of_16 P a0 a1 a2 a3 a4 a5 a6 a7 a8 a9 a10 a11 a12 a13 a14 a15 zero h = a0
at_each_of_16 P a0 a1 a2 a3 a4 a5 a6 a7 a8 a9 a10 a11 a12 a13 a14 a15 (suc zero) h = a1
at_each_of_16 P a0 a1 a2 a3 a4 a5 a6 a7 a8 a9 a10 a11 a12 a13 a14 a15 (suc (suc zero)) h = a2
at_each_of_16 P a0 a1 a2 a3 a4 a5 a6 a7 a8 a9 a10 a11 a12 a13 a14 a15 (suc (suc (suc zero))) h = a3
at_each_of_16 P a0 a1 a2 a3 a4 a5 a6 a7 a8 a9 a10 a11 a12 a13 a14 a15 (suc (suc (suc (suc k)))) h = at_each_of_12 (λ j. P (suc (suc (suc (suc j))))) a4 a5 a6 a7 a8 a9 a10 a11 a12 a13 a14 a15 k (omega arith)

pub state-place : (f : ℕ → ℕ → ℕ) (p : ℕ) → p < 16 → slice_index (state_of f) p ≡ f (p % 4) (p / 4)
state-place f = at_each_of_16 (λ p. slice_index (state_of f) p ≡ f (p % 4) (p / 4)) refl refl refl refl refl refl refl refl refl refl refl refl refl refl refl refl

-- the place that a shifted row's byte comes from, and the place k rows below in the same column
unfoldable pub own : ℕ → ℕ
own p = (p + 4 * (p % 4)) % 16

unfoldable pub below : ℕ → ℕ → ℕ
below k p = 4 * (p / 4) + (p + k) % 4

pub shifted-place : (s : List ℕ) (p : ℕ) → p < 16 → slice_index (shift_rows (sub_bytes s)) p ≡ sbox (slice_index s (own p))
unfolding shift_rows sub_bytes own
shifted-place s =
    at_each_of_16 (λ p. slice_index (shift_rows (sub_bytes s)) p ≡ sbox (slice_index s (own p)))
    refl refl refl refl refl refl refl refl refl refl refl refl refl refl refl refl

pub mixed-place : (s : List ℕ) (p : ℕ) → p < 16 → slice_index (mix_columns (shift_rows (sub_bytes s))) p ≡
    2 • sbox (slice_index s (own p)) ⊕ 3 • sbox (slice_index s (own (below 1 p)))
    ⊕ sbox (slice_index s (own (below 2 p))) ⊕ sbox (slice_index s (own (below 3 p)))
unfolding mix_columns shift_rows sub_bytes own below
mixed-place s =
    at_each_of_16 (λ p. slice_index (mix_columns (shift_rows (sub_bytes s))) p ≡
    2 • sbox (slice_index s (own p)) ⊕ 3 • sbox (slice_index s (own (below 1 p)))
    ⊕ sbox (slice_index s (own (below 2 p))) ⊕ sbox (slice_index s (own (below 3 p))))
    refl refl refl refl refl refl refl refl refl refl refl refl refl refl refl refl

pub added-place : (s w : List ℕ) (n p : ℕ) → p < 16 → slice_index (add_round_key s w n) p ≡ slice_index s p ⊕ slice_index w (16 * n + p)
unfolding add_round_key
added-place s w n p h =
    let place : p % 4 + 4 * (p / 4) ≡ p = omega arith in
    let word_place : 4 * (4 * n + p / 4) + p % 4 ≡ 16 * n + p = omega arith in
    state-place (λ r c. at s r c ⊕ byte_of_word w (4 * n + c) r) p h ∙ rw (place, word_place) refl
