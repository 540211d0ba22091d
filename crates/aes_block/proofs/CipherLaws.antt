-- What AES gives, whatever the key and the block are.
use Rattle.std.proofs.Common.{◌≡◌, ℕ, zero, suc, ◌+◌, ◌-◌, ◌*◌, ◌/◌, ◌%◌, ◌<◌, ◌≤◌, ◌==◌, ◌&&◌, nat_lt, if◌then◌else◌, List, ◌++◌, length, take, slice_index, w8, refl, sym, ap, ◌∙◌, inl, inr, arith, zero-add}
use Rattle.std.proofs.lemmas.Bool.{cases_lt, cond_both}
use Rattle.std.proofs.lemmas.List.{get_or-append_right, get_or-take, get_or_append_left, get_or_past, length-take-le}
use Rattle.std.proofs.lemmas.List.FromFn.{fill_by_all, get_or-map-range_with_len}
use Rattle.std.specs.Int.{rotate_left}
use Rattle.std.specs.Int.Bits.{xor_lt}
use Rattle.aes_block.specs.Field.{◌⊕◌, ◌•◌, inverse}
use Rattle.aes_block.proofs.FieldLaws.{power-lt, product-lt}
use Rattle.aes_block.specs.Cipher.{IsKeySize, add_round_key, add_words, aes, affine, at, byte_of_word, cipher, key_expansion, key_words, mix_columns, next_word, rcon, rot_word, round_count, sbox, shift_rows, state_after, state_of, sub_bytes, sub_word, temp, word, word_of, words_after}
use Rattle.aes_block.proofs.Checked.{agree_below, same_from_checked}

-- ---- the S-box

-- the affine map by rotations of the byte
pub affine-rotated : (b : ℕ) → b < 256 → b ⊕ rotate_left w8 b 1 ⊕ rotate_left w8 b 2 ⊕ rotate_left w8 b 3 ⊕ rotate_left w8 b 4 ⊕ 0x63 ≡ affine b
unfolding agree_below affine
affine-rotated b h =
    same_from_checked
    (λ b. b ⊕ rotate_left w8 b 1 ⊕ rotate_left w8 b 2 ⊕ rotate_left w8 b 3 ⊕ rotate_left w8 b 4 ⊕ 0x63)
    affine 256 refl b h

pub affine-lt : (b : ℕ) → affine b < 256
unfolding affine
affine-lt b = omega arith

pub sbox-lt : (b : ℕ) → sbox b < 256
unfolding sbox
sbox-lt b = affine-lt (inverse b)

-- ---- the cipher

-- a list of 16 bytes is the state that each of them says
pub state_from_places : (s : List ℕ) (f : ℕ → ℕ → ℕ) → length s ≡ 16 → ((k : ℕ) → k < 16 → slice_index s k ≡ f (k % 4) (k / 4)) → s ≡ state_of f
state_from_places s f size each = fill_by_all (λ k. f (k % 4) (k / 4)) s 16 0 size each

-- two states are the same if they are so at each place
state_of-same : (f g : ℕ → ℕ → ℕ) → ((k : ℕ) → k < 16 → f (k % 4) (k / 4) ≡ g (k % 4) (k / 4)) → state_of f ≡ state_of g
state_of-same f g same =
    state_from_places (state_of f) g refl
    (λ k lt. get_or-map-range_with_len (λ i. f (i % 4) (i / 4)) 0 16 k k 0 lt (zero-add k) ∙ same k lt)

-- a round reads its own words alone
add_round_key-take : (n : ℕ) (s w : List ℕ) (round : ℕ) → 16 * round + 16 ≤ n → add_round_key s (take n w) round ≡ add_round_key s w round
unfolding add_round_key
add_round_key-take n s w round within =
    state_of-same
    (λ r c. at s r c ⊕ byte_of_word (take n w) (4 * round + c) r)
    (λ r c. at s r c ⊕ byte_of_word w (4 * round + c) r)
    (λ k lt. ap (λ (x : ℕ). at s (k % 4) (k / 4) ⊕ x) (get_or-take n w (4 * (4 * round + k / 4) + k % 4) 0 (omega arith)))

state_after-take : (n : ℕ) (w input : List ℕ) (round : ℕ) → 16 * round + 16 ≤ n → state_after (take n w) input round ≡ state_after w input round
unfolding state_after
state_after-take n w input zero within = add_round_key-take n input w 0 (omega arith)
state_after-take n w input (suc round) within =
    add_round_key-take n (mix_columns (shift_rows (sub_bytes (state_after (take n w) input round)))) w (suc round) (omega arith)
    ∙ ap (λ (s : List ℕ). add_round_key (mix_columns (shift_rows (sub_bytes s))) w (suc round)) (state_after-take n w input round (omega arith))

cipher-take : (n : ℕ) (w input : List ℕ) (nr : ℕ) → 0 < nr → 16 * nr + 16 ≤ n → cipher input nr (take n w) ≡ cipher input nr w
unfolding cipher
cipher-take n w input nr above within =
    add_round_key-take n (shift_rows (sub_bytes (state_after (take n w) input (nr - 1)))) w nr within
    ∙ ap (λ (s : List ℕ). add_round_key (shift_rows (sub_bytes s)) w nr) (state_after-take n w input (nr - 1) (omega arith))

-- the sizes of keys are within these bounds
pub key_size-bounds : (nk : ℕ) → IsKeySize nk → (4 ≤ nk) × (nk ≤ 8)
key_size-bounds nk size =
    elim size [
      | inl four ↦ (omega arith, omega arith)
      | inr larger ↦ elim larger [ inl six ↦ (omega arith, omega arith) | inr eight ↦ (omega arith, omega arith) ]
    ]

-- the cipher over words that begin with a key's schedule is AES under that key
pub cipher_of_schedule : (nk : ℕ) (words key block : List ℕ) → IsKeySize nk → length words ≡ 240
    → take (16 * (round_count nk + 1)) words ≡ key_expansion (take (4 * nk) words) → take (4 * nk) words ≡ key
    → cipher block (nk + 6) words ≡ aes key block
unfolding aes
cipher_of_schedule nk words key block size room schedule begin =
    let bounds = key_size-bounds nk size in
    let key_size : length key ≡ 4 * nk = ap length (sym begin) ∙ length-take-le (4 * nk) words (omega arith) in
    let nk_is : length key / 4 ≡ nk = omega arith in
    sym (cipher-take (16 * (nk + 6 + 1)) words block (nk + 6) (omega arith) (omega arith))
    ∙ ap (cipher block (nk + 6)) (schedule ∙ ap key_expansion begin) ∙ rw nk_is refl

-- a block has 16 bytes
pub length-aes : (key block : List ℕ) → length (aes key block) ≡ 16
unfolding aes cipher add_round_key
length-aes key block = refl

-- ---- bytes in, bytes out

-- each number of the list is a byte
abbrev pub AreBytes : List ℕ → Type 0
AreBytes xs = (i : ℕ) → slice_index xs i < 256

state_of-bytes : (f : ℕ → ℕ → ℕ) → ((r c : ℕ) → f r c < 256) → AreBytes (state_of f)
state_of-bytes f each i =
    elim (cases_lt i 16) [
      | inl lt ↦ rw (get_or-map-range_with_len (λ k. f (k % 4) (k / 4)) 0 16 i i 0 lt (zero-add i)) (each (i % 4) (i / 4))
      | inr ge ↦ rw (get_or_past (state_of f) i 0 ge) (omega arith)
    ]

word_of-bytes : (f : ℕ → ℕ) → ((r : ℕ) → f r < 256) → AreBytes (word_of f)
word_of-bytes f each zero = each 0
word_of-bytes f each (suc zero) = each 1
word_of-bytes f each (suc (suc zero)) = each 2
word_of-bytes f each (suc (suc (suc zero))) = each 3
word_of-bytes f each (suc (suc (suc (suc i)))) = omega arith

add_words-bytes : (a b : List ℕ) → AreBytes a → AreBytes b → AreBytes (add_words a b)
unfolding add_words
add_words-bytes a b a-bytes b-bytes =
    word_of-bytes (λ r. slice_index a r ⊕ slice_index b r) (λ r. xor_lt 8 (slice_index a r) (slice_index b r) (a-bytes r) (b-bytes r))

sub_word-bytes : (a : List ℕ) → AreBytes (sub_word a)
unfolding sub_word
sub_word-bytes a = word_of-bytes (λ r. sbox (slice_index a r)) (λ r. sbox-lt (slice_index a r))

rcon-bytes : (j : ℕ) → AreBytes (rcon j)
unfolding rcon
rcon-bytes j zero = power-lt 2 (j - 1)
rcon-bytes j (suc zero) = omega arith
rcon-bytes j (suc (suc zero)) = omega arith
rcon-bytes j (suc (suc (suc zero))) = omega arith
rcon-bytes j (suc (suc (suc (suc i)))) = omega arith

temp-bytes : (nk i : ℕ) (a : List ℕ) → AreBytes a → AreBytes (temp nk i a)
unfolding temp
temp-bytes nk i a bytes =
    cond_both (i % nk == 0) (add_words (sub_word (rot_word a)) (rcon (i / nk)))
    (if nat_lt 6 nk && (i % nk == 4) then sub_word a else a) (λ (v : List ℕ). AreBytes v)
    (λ _. add_words-bytes (sub_word (rot_word a)) (rcon (i / nk)) (sub_word-bytes (rot_word a)) (rcon-bytes (i / nk)))
    (λ _. cond_both (nat_lt 6 nk && (i % nk == 4)) (sub_word a) a (λ (v : List ℕ). AreBytes v) (λ _. sub_word-bytes a) (λ _. bytes))

next_word-bytes : (nk : ℕ) (w : List ℕ) (i : ℕ) → AreBytes w → AreBytes (next_word nk w i)
unfolding next_word
next_word-bytes nk w i bytes =
    let word-bytes = λ (j : ℕ). word_of-bytes (byte_of_word w j) (λ r. bytes (4 * j + r)) in
    add_words-bytes (word w (i - nk)) (temp nk i (word w (i - 1))) (word-bytes (i - nk))
    (temp-bytes nk i (word w (i - 1)) (word-bytes (i - 1)))

append-bytes : (xs ys : List ℕ) → AreBytes xs → AreBytes ys → AreBytes (xs ++ ys)
append-bytes xs ys xs-bytes ys-bytes i =
    elim (cases_lt i (length xs)) [
      | inl lt ↦ rw (get_or_append_left xs ys 0 i lt) (xs-bytes i)
      | inr ge ↦ rw (get_or-append_right xs ys (length xs) i 0 refl ge) (ys-bytes (i - length xs))
    ]

words_after-bytes : (nk : ℕ) (key : List ℕ) (n : ℕ) → AreBytes key → AreBytes (words_after nk key n)
unfolding words_after
words_after-bytes nk key zero bytes = bytes
words_after-bytes nk key (suc n) bytes =
    let before = words_after-bytes nk key n bytes in
    append-bytes (words_after nk key n) (next_word nk (words_after nk key n) (nk + n)) before
    (next_word-bytes nk (words_after nk key n) (nk + n) before)

sub_bytes-bytes : (s : List ℕ) → AreBytes (sub_bytes s)
unfolding sub_bytes
sub_bytes-bytes s = state_of-bytes (λ r c. sbox (at s r c)) (λ r c. sbox-lt (at s r c))

shift_rows-bytes : (s : List ℕ) → AreBytes s → AreBytes (shift_rows s)
unfolding shift_rows
shift_rows-bytes s bytes = state_of-bytes (λ r c. at s r ((c + r) % 4)) (λ r c. bytes (r + 4 * ((c + r) % 4)))

mix_columns-bytes : (s : List ℕ) → AreBytes s → AreBytes (mix_columns s)
unfolding mix_columns
mix_columns-bytes s bytes =
    state_of-bytes
    (λ r c. 0x02 • at s r c ⊕ 0x03 • at s ((r + 1) % 4) c ⊕ at s ((r + 2) % 4) c ⊕ at s ((r + 3) % 4) c)
    (λ r c.
    let own = product-lt 2 (at s r c) (bytes (r + 4 * c)) in
    let next = product-lt 3 (at s ((r + 1) % 4) c) (bytes ((r + 1) % 4 + 4 * c)) in
    let near = xor_lt 8 (2 • at s r c) (3 • at s ((r + 1) % 4) c) own next in
    let three = xor_lt 8 (2 • at s r c ⊕ 3 • at s ((r + 1) % 4) c) (at s ((r + 2) % 4) c) near (bytes ((r + 2) % 4 + 4 * c)) in
    xor_lt 8 (2 • at s r c ⊕ 3 • at s ((r + 1) % 4) c ⊕ at s ((r + 2) % 4) c) (at s ((r + 3) % 4) c) three (bytes ((r + 3) % 4 + 4 * c)))

add_round_key-bytes : (s w : List ℕ) (round : ℕ) → AreBytes s → AreBytes w → AreBytes (add_round_key s w round)
unfolding add_round_key
add_round_key-bytes s w round s-bytes w-bytes =
    state_of-bytes (λ r c. at s r c ⊕ byte_of_word w (4 * round + c) r)
    (λ r c. xor_lt 8 (at s r c) (byte_of_word w (4 * round + c) r) (s-bytes (r + 4 * c)) (w-bytes (4 * (4 * round + c) + r)))

pub state_after-bytes : (w input : List ℕ) (n : ℕ) → AreBytes w → AreBytes input → AreBytes (state_after w input n)
unfolding state_after
state_after-bytes w input zero w-bytes bytes = add_round_key-bytes input w 0 bytes w-bytes
state_after-bytes w input (suc n) w-bytes bytes =
    add_round_key-bytes (mix_columns (shift_rows (sub_bytes (state_after w input n)))) w (suc n)
    (mix_columns-bytes (shift_rows (sub_bytes (state_after w input n)))
    (shift_rows-bytes (sub_bytes (state_after w input n)) (sub_bytes-bytes (state_after w input n)))) w-bytes

-- a key of bytes gives blocks of bytes
pub aes-bytes : (key block : List ℕ) → AreBytes key → AreBytes (aes key block)
unfolding aes cipher key_expansion
aes-bytes key block bytes =
    let nk = key_words key in
    let w = key_expansion key in
    let s = sub_bytes (state_after w block (nk + 6 - 1)) in
    add_round_key-bytes (shift_rows s) w (nk + 6)
    (shift_rows-bytes s (sub_bytes-bytes (state_after w block (nk + 6 - 1))))
    (words_after-bytes nk key (4 * (nk + 6 + 1) - nk) bytes)
