-- Numbers as bytes, the lowest byte first.
use Rattle.std.specs.Prelude.{ℕ, zero, suc, ◌+◌, ◌*◌, ◌/◌, ◌%◌, List, [], ◌∷◌}

-- the number in a list of bytes
unfoldable pub little_endian_value : List ℕ → ℕ
little_endian_value [] = 0
little_endian_value (b ∷ bs) = b + 256 * little_endian_value bs

-- the lowest n bytes of a number
unfoldable pub little_endian_bytes : ℕ → ℕ → List ℕ
little_endian_bytes zero v = []
little_endian_bytes (suc n) v = v % 256 ∷ little_endian_bytes n (v / 256)
