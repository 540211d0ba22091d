-- What the fields of `Salts` keep.
use Rattle.std.specs.Prelude.{◌≡◌, ◌+◌, ◌*◌, ◌^◌, ◌<◌, ◌≤◌}
use Rattle.salt_rotation.specs.declared.salts.Salts.TheInside.{Inside}
use Rattle.salt_rotation.specs.SeedWords.{generator_at}
use Rattle.salt_rotation.specs.Salts.{salt_of}

-- the key stream is at the vector of the next draw, and the kept salt is the one of its number
pub record IsReady (s : Inside) : Type 0 where
  pub limit_positive : 0 < s.limit
  pub limit_fits : s.limit ≤ 400000000
  pub made_fits : s.made ≤ 2 ^ 48
  pub at_next_vector : s.ivs ≡ generator_at s.seed (2 ^ 60 + 3 * s.made)
  pub salt_kept : s.salt ≡ salt_of s.seed s.number
