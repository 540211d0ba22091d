-- AES over lists of bytes (FIPS 197 of 2023, section 5).
use Rattle.std.specs.Prelude.{ℕ, zero, suc, ◌+◌, ◌-◌, ◌*◌, ◌/◌, ◌%◌, ◌≡◌, ◌⊎◌, ◌&&◌, nat_eq, nat_lt, if◌then◌else◌, List, [], ◌∷◌, ◌++◌, length, slice_index}
use Rattle.std.specs.Int.{bit_at}
use Rattle.aes_block.specs.Field.{◌⊕◌, ◌•◌, inverse, power}

-- the state: the byte in row r and column c of the array is at place r + 4c (3.4)
abbrev pub at : List ℕ → ℕ → ℕ → ℕ
at s r c = slice_index s (r + 4 * c)

-- the state whose byte in row r and column c is f r c
abbrev pub state_of : (ℕ → ℕ → ℕ) → List ℕ
state_of f =
    f 0 0 ∷ f 1 0 ∷ f 2 0 ∷ f 3 0 ∷ f 0 1 ∷ f 1 1 ∷ f 2 1 ∷ f 3 1
    ∷ f 0 2 ∷ f 1 2 ∷ f 2 2 ∷ f 3 2 ∷ f 0 3 ∷ f 1 3 ∷ f 2 3 ∷ f 3 3 ∷ []

-- bit i of the affine map of b, whose constant is {63} (5.1.1)
abbrev pub affine_bit : ℕ → ℕ → ℕ
affine_bit b i =
    (bit_at b i + bit_at b ((i + 4) % 8) + bit_at b ((i + 5) % 8) + bit_at b ((i + 6) % 8)
    + bit_at b ((i + 7) % 8) + bit_at 0x63 i) % 2

-- the affine map of b (5.1.1)
unfoldable pub affine : ℕ → ℕ
affine b =
    affine_bit b 0 + 2 * affine_bit b 1 + 4 * affine_bit b 2 + 8 * affine_bit b 3
    + 16 * affine_bit b 4 + 32 * affine_bit b 5 + 64 * affine_bit b 6 + 128 * affine_bit b 7

-- SBOX: the inverse, and then the affine map (5.1.1)
unfoldable pub sbox : ℕ → ℕ
sbox b = affine (inverse b)

-- SUBBYTES (5.1.1)
unfoldable pub sub_bytes : List ℕ → List ℕ
sub_bytes s = state_of (λ r c. sbox (at s r c))

-- SHIFTROWS: row r goes r places to the left (5.1.2)
unfoldable pub shift_rows : List ℕ → List ℕ
shift_rows s = state_of (λ r c. at s r ((c + r) % 4))

-- MIXCOLUMNS: each column by the fixed matrix, whose row r is {02} {03} {01} {01} turned r places to
-- the right (5.1.3)
unfoldable pub mix_columns : List ℕ → List ℕ
mix_columns s = state_of (λ r c.
    0x02 • at s r c ⊕ 0x03 • at s ((r + 1) % 4) c ⊕ at s ((r + 2) % 4) c ⊕ at s ((r + 3) % 4) c)

-- byte r of word i, in words of four bytes that stand one after the other
abbrev pub byte_of_word : List ℕ → ℕ → ℕ → ℕ
byte_of_word w i r = slice_index w (4 * i + r)

-- ADDROUNDKEY: column c and word 4 round + c of the key schedule w (5.1.4)
unfoldable pub add_round_key : List ℕ → List ℕ → ℕ → List ℕ
add_round_key s w round = state_of (λ r c. at s r c ⊕ byte_of_word w (4 * round + c) r)

-- the state after round n of the rounds that are alike (5.1, Algorithm 1)
unfoldable pub state_after : List ℕ → List ℕ → ℕ → List ℕ
state_after w input zero = add_round_key input w 0
state_after w input (suc n) =
    add_round_key (mix_columns (shift_rows (sub_bytes (state_after w input n)))) w (suc n)

-- CIPHER with nr rounds, whose last has no MIXCOLUMNS (5.1, Algorithm 1)
unfoldable pub cipher : List ℕ → ℕ → List ℕ → List ℕ
cipher input nr w = add_round_key (shift_rows (sub_bytes (state_after w input (nr - 1)))) w nr

-- the word whose byte r is f r
abbrev pub word_of : (ℕ → ℕ) → List ℕ
word_of f = f 0 ∷ f 1 ∷ f 2 ∷ f 3 ∷ []

-- ROTWORD (5.2)
unfoldable pub rot_word : List ℕ → List ℕ
rot_word a = word_of (λ r. slice_index a ((r + 1) % 4))

-- SUBWORD (5.2)
unfoldable pub sub_word : List ℕ → List ℕ
sub_word a = word_of (λ r. sbox (slice_index a r))

-- the sum of two words
unfoldable pub add_words : List ℕ → List ℕ → List ℕ
add_words a b = word_of (λ r. slice_index a r ⊕ slice_index b r)

-- Rcon[j], whose first byte is x^(j-1) (5.2, Table 5)
unfoldable pub rcon : ℕ → List ℕ
rcon j = power 0x02 (j - 1) ∷ 0 ∷ 0 ∷ 0 ∷ []

-- temp of word i, from the word before it, where the key has nk words (5.2, Algorithm 2)
unfoldable pub temp : ℕ → ℕ → List ℕ → List ℕ
temp nk i a =
    if nat_eq (i % nk) 0 then add_words (sub_word (rot_word a)) (rcon (i / nk))
    else (if nat_lt 6 nk && nat_eq (i % nk) 4 then sub_word a else a)

-- word i of a list of words
abbrev pub word : List ℕ → ℕ → List ℕ
word w i = word_of (byte_of_word w i)

-- w[i] from the words before it (5.2, Algorithm 2)
unfoldable pub next_word : ℕ → List ℕ → ℕ → List ℕ
next_word nk w i = add_words (word w (i - nk)) (temp nk i (word w (i - 1)))

-- the key and the n words that follow it (5.2, Algorithm 2)
unfoldable pub words_after : ℕ → List ℕ → ℕ → List ℕ
words_after nk key zero = key
words_after nk key (suc n) = words_after nk key n ++ next_word nk (words_after nk key n) (nk + n)

-- Nk, the number of words in a key (Table 3)
abbrev pub key_words : List ℕ → ℕ
key_words key = length key / 4

-- Nr, the number of rounds (Table 3)
abbrev pub round_count : ℕ → ℕ
round_count nk = nk + 6

-- KEYEXPANSION: the 4 (Nr + 1) words of the key schedule (5.2, Algorithm 2)
unfoldable pub key_expansion : List ℕ → List ℕ
key_expansion key =
    let nk = key_words key in
    words_after nk key (4 * (round_count nk + 1) - nk)

-- the key sizes of AES-128, AES-192 and AES-256, in words (Table 3)
abbrev pub IsKeySize : ℕ → Type 0
IsKeySize nk = (nk ≡ 4) ⊎ (nk ≡ 6) ⊎ (nk ≡ 8)

-- AES of a key of 16, 24 or 32 bytes and a block of 16 (5, 6)
unfoldable pub aes : List ℕ → List ℕ → List ℕ
aes key block = cipher block (round_count (key_words key)) (key_expansion key)

-- the block of the example vectors, 00112233..ff (Appendix C)
abbrev pub example_block : List ℕ
example_block =
    0x00 ∷ 0x11 ∷ 0x22 ∷ 0x33 ∷ 0x44 ∷ 0x55 ∷ 0x66 ∷ 0x77
    ∷ 0x88 ∷ 0x99 ∷ 0xaa ∷ 0xbb ∷ 0xcc ∷ 0xdd ∷ 0xee ∷ 0xff ∷ []
