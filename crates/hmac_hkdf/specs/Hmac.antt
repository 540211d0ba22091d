-- HMAC (RFC 2104) over a hash function on lists of bytes whose blocks have `block_length` bytes.
-- Section numbers are the RFC's.
use Rattle.std.specs.Prelude.{ℕ, ◌-◌, List, ◌++◌, length, replicate, nat_lt, if◌then◌else◌}
use Rattle.sha1.specs.Sha1.{sha1}
use Rattle.sha2.specs.Sha512.{sha512}
use Rattle.byte_blocks.specs.Blocks.{xor_bytes}

-- a key that is longer than a block is hashed first (2)
abbrev pub actual_key : (List ℕ → List ℕ) → ℕ → List ℕ → List ℕ
actual_key hash block_length key = if nat_lt block_length (length key) then hash key else key

-- the key with zeros after it, one block long (2, step 1)
abbrev pub padded_key : (List ℕ → List ℕ) → ℕ → List ℕ → List ℕ
padded_key hash block_length key =
    let actual = actual_key hash block_length key in
    actual ++ replicate (block_length - length actual) 0

-- the padded key xored with ipad, a block of the byte 0x36 (2, step 2)
abbrev pub inner_block : (List ℕ → List ℕ) → ℕ → List ℕ → List ℕ
inner_block hash block_length key = xor_bytes (padded_key hash block_length key) (replicate block_length 0x36)

-- the padded key xored with opad, a block of the byte 0x5C (2, step 5)
abbrev pub outer_block : (List ℕ → List ℕ) → ℕ → List ℕ → List ℕ
outer_block hash block_length key = xor_bytes (padded_key hash block_length key) (replicate block_length 0x5C)

-- H (K XOR opad, H (K XOR ipad, text)) (2)
abbrev pub hmac : (List ℕ → List ℕ) → ℕ → List ℕ → List ℕ → List ℕ
hmac hash block_length key text =
    hash (outer_block hash block_length key ++ hash (inner_block hash block_length key ++ text))

-- HMAC-SHA-512, whose blocks have 128 bytes (FIPS 180-4, figure 1)
unfoldable pub hmac512 : List ℕ → List ℕ → List ℕ
hmac512 key text = hmac sha512 128 key text

-- HMAC-SHA-1, whose blocks have 64 bytes (FIPS 180-4, figure 1)
unfoldable pub hmac1 : List ℕ → List ℕ → List ℕ
hmac1 key text = hmac sha1 64 key text
