-- Salts and initialization vectors, by the number of the draw.
use Rattle.std.specs.Prelude.{ℕ, ◌+◌, ◌*◌, ◌/◌, ◌^◌, List}
use Rattle.salt_rotation.specs.declared.salts.Drawn.{Drawn}
use Rattle.salt_rotation.specs.SeedWords.{seed_bytes}

-- salt number j: the words at places 2j and 2j + 1
unfoldable pub salt_of : List ℕ → ℕ → List ℕ
salt_of seed number = seed_bytes seed (2 * number) 8

-- the initialization vector of draw k: the words at places 2^60 + 3k to 2^60 + 3k + 2
unfoldable pub iv_of : List ℕ → ℕ → List ℕ
iv_of seed index = seed_bytes seed (2 ^ 60 + 3 * index) 12

-- draw number k, from 0: each salt serves `limit` draws, and each vector one
abbrev pub drawn : List ℕ → ℕ → ℕ → Drawn
drawn seed limit index = record {
  index = index;
  number = index / limit;
  salt = salt_of seed (index / limit);
  iv = iv_of seed index;
}
