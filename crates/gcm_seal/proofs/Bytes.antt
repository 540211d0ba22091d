-- Bytes give bytes: each number of the sealed text and of the tag is below 256.
use Rattle.std.proofs.Common.{ℕ, zero, suc, ◌+◌, ◌*◌, ◌<◌, List, [], ◌∷◌, ◌++◌, length, take, drop, ◌-◌, refl, inl, inr, arith, length-take}
use Rattle.std.proofs.lemmas.Bool.{cases_lt}
use Rattle.std.proofs.lemmas.List.{get_or_append_left, get_or-append_right, get_or_past, get_or-take, get_or-drop}
use Rattle.std.specs.Int.{div_ceil, byte_at, bytes_high_first}
use Rattle.std.specs.Int.Bits.{xor_lt}
use Rattle.aes_block.specs.Cipher.{aes}
use Rattle.aes_block.proofs.CipherLaws.{AreBytes, aes-bytes}
use Rattle.gcm_seal.specs.Gcm.{block_of, inc32, counter_block, gctr_blocks, gctr, ghash, j0, gcm_text, gcm_tag, gcm_seal}
use Rattle.byte_blocks.specs.Blocks.{block_at, xor_bytes}

append-bytes : (x y : List ℕ) → AreBytes x → AreBytes y → AreBytes (x ++ y)
append-bytes x y p q i =
    elim (cases_lt i (length x)) [
      | inl lt ↦ rw (get_or_append_left x y 0 i lt) (p i)
      | inr ge ↦ rw (get_or-append_right x y (length x) i 0 refl ge) (q (i - length x))
    ]

take-bytes : (n : ℕ) (x : List ℕ) → AreBytes x → AreBytes (take n x)
take-bytes n x p i =
    elim (cases_lt i n) [
      | inl lt ↦ rw (get_or-take n x i 0 lt) (p i)
      | inr ge ↦ rw (get_or_past (take n x) i 0 (omega (arith, length-take n x))) (omega arith)
    ]

block_at-bytes : (x : List ℕ) (i : ℕ) → AreBytes x → AreBytes (block_at 16 x i)
block_at-bytes x i p = take-bytes 16 (drop (16 * i) x) (λ k. rw (get_or-drop (16 * i) x k 0) (p (16 * i + k)))

xor_bytes-bytes : (x y : List ℕ) → AreBytes x → AreBytes y → AreBytes (xor_bytes x y)
xor_bytes-bytes [] y p q i = omega arith
xor_bytes-bytes (a ∷ x) [] p q i = omega arith
xor_bytes-bytes (a ∷ x) (b ∷ y) p q zero = xor_lt 8 a b (p 0) (q 0)
xor_bytes-bytes (a ∷ x) (b ∷ y) p q (suc i) = xor_bytes-bytes x y (λ k. p (suc k)) (λ k. q (suc k)) i

gctr_blocks-bytes : (key icb x : List ℕ) (n : ℕ) → AreBytes key → AreBytes x → AreBytes (gctr_blocks key icb x n)
unfolding gctr_blocks
gctr_blocks-bytes key icb x zero p q = λ i. omega arith
gctr_blocks-bytes key icb x (suc n) p q =
    append-bytes (gctr_blocks key icb x n) (xor_bytes (block_at 16 x n) (aes key (counter_block icb n))) (gctr_blocks-bytes key icb x n p q)
    (xor_bytes-bytes (block_at 16 x n) (aes key (counter_block icb n)) (block_at-bytes x n q) (aes-bytes key (counter_block icb n) p))

gctr-bytes : (key icb x : List ℕ) → AreBytes key → AreBytes x → AreBytes (gctr key icb x)
unfolding gctr
gctr-bytes key icb x p q = gctr_blocks-bytes key icb x (div_ceil (length x) 16) p q

byte_at-lt : (k n : ℕ) → byte_at k n < 256
byte_at-lt zero n = omega arith
byte_at-lt (suc k) n = omega arith

bytes_high_first-bytes : (k n : ℕ) → AreBytes (bytes_high_first k n)
bytes_high_first-bytes zero n i = omega arith
bytes_high_first-bytes (suc k) n zero = byte_at-lt k n
bytes_high_first-bytes (suc k) n (suc i) = bytes_high_first-bytes k n i

ghash-bytes : (h x : List ℕ) → AreBytes (ghash h x)
unfolding ghash block_of
ghash-bytes h x = bytes_high_first-bytes 16 _

pub sealed-bytes : (key iv aad text : List ℕ) → AreBytes key → AreBytes text → AreBytes (gcm_seal key iv aad text).0
unfolding gcm_seal gcm_text
sealed-bytes key iv aad text p q = gctr-bytes key (inc32 (j0 iv)) text p q

pub tag-bytes : (key iv aad text : List ℕ) → AreBytes key → AreBytes (gcm_seal key iv aad text).1
unfolding gcm_seal gcm_tag
tag-bytes key iv aad text p = gctr-bytes key (j0 iv) _ p (ghash-bytes _ _)
