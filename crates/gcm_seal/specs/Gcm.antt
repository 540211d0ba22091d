-- Galois/Counter Mode (NIST SP 800-38D) with AES, for initialization vectors of 96 bits and tags of
-- 128 bits. Section numbers are the standard's. A bit string is a list of bytes, and a block is a
-- list of 16 of them. Where the standard speaks of a block's bits, the block is a number of 128
-- bits whose highest bit is the leftmost, so that x_i is bit 127 - i. Blocks are numbered from 0.
use Rattle.std.specs.Prelude.{ℕ, zero, suc, ◌+◌, ◌-◌, ◌*◌, ◌/◌, ◌%◌, ◌^◌, List, [], ◌∷◌, ◌++◌, length, take, drop, replicate, bit_xor, ◌==◌, if◌then◌else◌, bytes_eq, Option, Some, None, ◌≡◌, ◌⊎◌}
use Rattle.std.specs.Int.{w32, w64, w128, bit_at, div_ceil, from_be_bytes, to_be_bytes}
use Rattle.aes_block.specs.Cipher.{aes}
use Rattle.byte_blocks.specs.Blocks.{block_at, xor_bytes}

-- ---- blocks

-- int(X) of a block (6.1)
unfoldable pub number_of : List ℕ → ℕ
number_of block = from_be_bytes w128 block

-- [x]_128 (6.1)
unfoldable pub block_of : ℕ → List ℕ
block_of x = to_be_bytes w128 x

-- inc_32(X) (6.2): the last 32 bits count up modulo 2 ^ 32, and the others stay
unfoldable pub inc32 : List ℕ → List ℕ
inc32 x = take 12 x ++ to_be_bytes w32 ((from_be_bytes w32 (drop 12 x) + 1) % 2 ^ 32)

-- ---- the product of blocks, Algorithm 1 (6.3)

-- R: the bits 11100001, and 120 zeros
abbrev pub r_block : ℕ
r_block = 0xe1 * 2 ^ 120

-- V_i
unfoldable pub v_at : ℕ → ℕ → ℕ
v_at y zero = y
v_at y (suc i) =
    let v = v_at y i in
    if v % 2 == 0 then v / 2 else bit_xor (v / 2) r_block

-- Z_i
unfoldable pub z_at : ℕ → ℕ → ℕ → ℕ
z_at x y zero = 0
z_at x y (suc i) =
    let z = z_at x y i in
    if bit_at x (127 - i) == 0 then z else bit_xor z (v_at y i)

-- X • Y
unfoldable pub product : ℕ → ℕ → ℕ
product x y = z_at x y 128

-- ---- GHASH_H(X) of a string of whole blocks, Algorithm 2 (6.4)

-- Y_i
unfoldable pub y_at : ℕ → List ℕ → ℕ → ℕ
y_at h x zero = 0
y_at h x (suc i) = product (bit_xor (y_at h x i) (number_of (block_at 16 x i))) h

-- Y_m, of all m blocks
unfoldable pub ghash_value : ℕ → List ℕ → ℕ
ghash_value h x = y_at h x (length x / 16)

unfoldable pub ghash : (h x : List ℕ) → List ℕ
ghash h x = block_of (ghash_value (number_of h) x)

-- ---- GCTR_K(ICB, X), Algorithm 3 (6.5)

-- the counter block of block i of the text, from the initial counter block
unfoldable pub counter_block : (icb : List ℕ) → ℕ → List ℕ
counter_block icb zero = icb
counter_block icb (suc i) = inc32 (counter_block icb i)

-- the first n blocks of the result: each is X ⊕ MSB_len(X)(Y) of a block X of the text and its key stream Y
unfoldable pub gctr_blocks : (key icb x : List ℕ) → ℕ → List ℕ
gctr_blocks key icb x zero = []
gctr_blocks key icb x (suc i) =
    gctr_blocks key icb x i ++ xor_bytes (block_at 16 x i) (aes key (counter_block icb i))

unfoldable pub gctr : (key icb x : List ℕ) → List ℕ
gctr key icb x = gctr_blocks key icb x (div_ceil (length x) 16)

-- ---- GCM-AE (7.1) and GCM-AD (7.2)

-- H, the hash subkey (step 1)
unfoldable pub hash_subkey : List ℕ → List ℕ
hash_subkey key = aes key (replicate 16 0)

-- J0, the pre-counter block: IV || 0^31 || 1 (step 2)
unfoldable pub j0 : List ℕ → List ℕ
j0 iv = iv ++ 0 ∷ 0 ∷ 0 ∷ 1 ∷ []

-- a string with zeros up to a whole number of blocks: A || 0^v, C || 0^u (steps 4 and 5)
unfoldable pub padded : List ℕ → List ℕ
padded x = x ++ replicate (16 * div_ceil (length x) 16 - length x) 0

-- [len(A)]_64 || [len(C)]_64: the lengths in bits of strings of a and c bytes (step 5)
unfoldable pub lengths_block : ℕ → ℕ → List ℕ
lengths_block a c = to_be_bytes w64 (8 * a) ++ to_be_bytes w64 (8 * c)

-- A || 0^v || C || 0^u || [len(A)]_64 || [len(C)]_64 (step 5)
unfoldable pub hash_input : (aad sealed : List ℕ) → List ℕ
hash_input aad sealed = padded aad ++ padded sealed ++ lengths_block (length aad) (length sealed)

-- T, the tag (steps 5 and 6)
unfoldable pub gcm_tag : (key iv aad sealed : List ℕ) → List ℕ
gcm_tag key iv aad sealed = gctr key (j0 iv) (ghash (hash_subkey key) (hash_input aad sealed))

-- C from P, and P from C: the counter blocks begin with inc_32(J0) (step 3, and step 4 of 7.2)
unfoldable pub gcm_text : (key iv text : List ℕ) → List ℕ
gcm_text key iv text = gctr key (inc32 (j0 iv)) text

-- GCM-AE_K(IV, P, A): the sealed text and its tag
unfoldable pub gcm_seal : (key iv aad text : List ℕ) → List ℕ × List ℕ
gcm_seal key iv aad text =
    let sealed = gcm_text key iv text in
    (sealed, gcm_tag key iv aad sealed)

-- GCM-AD_K(IV, C, A, T): the text, or none where the computed tag differs from T
unfoldable pub gcm_open : (key iv aad sealed tag : List ℕ) → Option (List ℕ)
gcm_open key iv aad sealed tag =
    if bytes_eq (gcm_tag key iv aad sealed) tag then Some (gcm_text key iv sealed) else None

-- an AES key has 16, 24 or 32 bytes
abbrev pub IsKeyLength : ℕ → Type 0
IsKeyLength n = (n ≡ 16) ⊎ ((n ≡ 24) ⊎ (n ≡ 32))
