-- PBKDF2 (RFC 8018, section 5.2) with HMAC-SHA-1 as the function PRF, whose values have 20 bytes.
use Rattle.std.specs.Prelude.{ℕ, zero, suc, List, [], ◌++◌, take, replicate}
use Rattle.std.specs.Int.{w32, div_ceil, to_be_bytes}
use Rattle.byte_blocks.specs.Blocks.{xor_bytes}
use Rattle.hmac_hkdf.specs.Hmac.{hmac1}

-- S || INT (i): the salt, and the block's number as four bytes, most significant first
abbrev pub numbered_salt : List ℕ → ℕ → List ℕ
numbered_salt salt i = salt ++ to_be_bytes w32 i

-- U_c of block i: PRF applied c times under the secret, the first time to S || INT (i)
unfoldable pub iterate : List ℕ → List ℕ → ℕ → ℕ → List ℕ
iterate secret salt zero i = numbered_salt salt i
iterate secret salt (suc c) i = hmac1 secret (iterate secret salt c i)

-- F (P, S, c, i): U_1 xor U_2 xor .. xor U_c, where the xor of none is all zeros
unfoldable pub block : List ℕ → List ℕ → ℕ → ℕ → List ℕ
block secret salt zero i = replicate 20 0
block secret salt (suc c) i = xor_bytes (block secret salt c i) (iterate secret salt (suc c) i)

-- T_1 || T_2 || .. || T_count, where T_i is F (P, S, c, i)
unfoldable pub blocks : List ℕ → List ℕ → ℕ → ℕ → List ℕ
blocks secret salt c zero = []
blocks secret salt c (suc count) = blocks secret salt c count ++ block secret salt c (suc count)

-- the first n bytes of T_1 || .. || T_l, with l = CEIL (n / 20)
unfoldable pub pbkdf2 : List ℕ → List ℕ → ℕ → ℕ → List ℕ
pbkdf2 secret salt c n = take n (blocks secret salt c (div_ceil n 20))
