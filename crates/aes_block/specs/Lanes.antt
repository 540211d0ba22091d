-- Vectors of 32 bytes by their lanes, and the S-box of a byte by look-ups of its halves: the byte is
-- written in the basis of a tower of fields, GF(2^4) and above it GF(2^8), where an inverse takes four
-- inverses of halves.
use Rattle.aes_block.specs.Field.{◌⊕◌, ◌•◌}
use Rattle.aes_block.specs.Cipher.{sbox, word_of}
use Rattle.std.specs.Prelude.{◌≡◌, ℕ, ◌+◌, ◌*◌, ◌/◌, ◌%◌, ◌<◌, List, [], ◌∷◌, length, Bool, ◌||◌, nat_le, nat_lt, if◌then◌else◌, slice_index, bit_xor}

-- v has 32 lanes, and lane i holds `lane i`
pub record HasLanes (v : List ℕ) (lane : ℕ → ℕ) : Type 0 where
  pub long : length v ≡ 32
  pub each : (i : ℕ) → i < 32 → slice_index v i ≡ lane i

-- a place in a table of 16 bytes, or from 128 on none, where 0 is read
abbrev pub is_place : ℕ → Bool
is_place j = nat_le 128 j || nat_lt j 16

abbrev pub looked : List ℕ → ℕ → ℕ
looked t j = if nat_le 128 j then 0 else slice_index t j

-- the sum of the numbers of the list that b has bits for, its lowest bit for the first
unfoldable pub sum_by_bits : List ℕ → ℕ → ℕ
sum_by_bits [] b = 0
sum_by_bits (x ∷ xs) b = bit_xor (b % 2 * x) (sum_by_bits xs (b / 2))

-- the byte b in the tower's basis, from those of the powers of x
unfoldable pub tower : ℕ → ℕ
tower b = sum_by_bits (112 ∷ 42 ∷ 152 ∷ 8 ∷ 77 ∷ 124 ∷ 125 ∷ 129 ∷ []) b

-- the place in the state after a round that lane q of a block stands for: a row's bytes aren't moved
-- when the rows shift, so that each round its lanes stand for places as many columns further to the
-- left as the row's number says
unfoldable pub place : ℕ → ℕ → ℕ
place round q = (q + 12 * (round % 4) * (q % 4)) % 16

-- w are the bytes of a key schedule, and t the same with the affine map's constant added, in the
-- tower's basis, where each round's lanes have them
pub record AreTowers (w t : List ℕ) : Type 0 where
  pub bytes : (k : ℕ) → slice_index w k < 256
  pub each : (k : ℕ) → k < 240
      → slice_index t k ≡ tower (slice_index w (16 * (k / 16) + place (k / 16) (k % 16)) ⊕ 0x63)

-- the inverses in GF(2^4); that of 0 is no place
abbrev pub inverses : List ℕ
inverses = 128 ∷ 1 ∷ 8 ∷ 13 ∷ 15 ∷ 6 ∷ 5 ∷ 14 ∷ 2 ∷ 12 ∷ 11 ∷ 10 ∷ 9 ∷ 3 ∷ 7 ∷ 4 ∷ []

-- the same times the constant of the tower
abbrev pub inverse_multiples : List ℕ
inverse_multiples = 128 ∷ 7 ∷ 11 ∷ 15 ∷ 6 ∷ 10 ∷ 4 ∷ 1 ∷ 9 ∷ 8 ∷ 5 ∷ 2 ∷ 12 ∷ 14 ∷ 13 ∷ 3 ∷ []

-- of a byte y of the tower: its halves' sum, two sums of inverses, and the two places in the tables
-- that give the S-box
unfoldable pub halves_sum : ℕ → ℕ
halves_sum y = bit_xor (y / 16) (y % 16)

unfoldable pub first_sum : ℕ → ℕ
first_sum y = bit_xor (looked inverses (y / 16)) (looked inverse_multiples (y % 16))

unfoldable pub second_sum : ℕ → ℕ
second_sum y = bit_xor (looked inverses (halves_sum y)) (looked inverse_multiples (y % 16))

unfoldable pub first_place : ℕ → ℕ
first_place y = bit_xor (looked inverses (first_sum y)) (halves_sum y)

unfoldable pub second_place : ℕ → ℕ
second_place y = bit_xor (looked inverses (second_sum y)) (y / 16)

-- the sum of what two tables hold at a byte's two places
abbrev pub at_places : List ℕ → List ℕ → ℕ → ℕ
at_places t u y = bit_xor (looked t (first_place y)) (looked u (second_place y))

-- a column of MIXCOLUMNS from the bytes before SUBBYTES
unfoldable pub mixed_column : List ℕ → List ℕ
mixed_column a = word_of (λ r.
    0x02 • sbox (slice_index a r) ⊕ 0x03 • sbox (slice_index a ((r + 1) % 4))
    ⊕ sbox (slice_index a ((r + 2) % 4)) ⊕ sbox (slice_index a ((r + 3) % 4)))
