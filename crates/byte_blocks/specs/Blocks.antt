-- Strings of bytes: their blocks, and the xor of two. Blocks are numbered from 0.
use Rattle.std.specs.Prelude.{ℕ, ◌+◌, ◌*◌, List, [], ◌∷◌, ◌++◌, length, take, drop, bit_xor}

-- block i of x in blocks of `size` bytes, which is shorter than the others where x ends in it
abbrev pub block_at : ℕ → List ℕ → ℕ → List ℕ
block_at size x i = take size (drop (size * i) x)

-- x with `block` written over it from `start` on, as far as x goes
abbrev pub with_block : List ℕ → ℕ → List ℕ → List ℕ
with_block x start block = take (length x) (take start x ++ block ++ drop (start + length block) x)

-- the bytes of x, each xored with the one at its place in y, as far as both go
abbrev pub xor_bytes : List ℕ → List ℕ → List ℕ
xor_bytes [] y = []
xor_bytes (a ∷ x) [] = []
xor_bytes (a ∷ x) (b ∷ y) = bit_xor a b ∷ xor_bytes x y
