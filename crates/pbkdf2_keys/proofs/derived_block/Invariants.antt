use Rattle.std.proofs.Common.{◌≡◌, ℕ, List}
use Rattle.hmac_hkdf.specs.States.{IsMadeFor}
use Rattle.pbkdf2_keys.specs.Pbkdf2.{block, iterate}
use Rattle.pbkdf2_keys.proofs.derived_block.Given as goal

abbrev pub invariant-loop-done : goal.invariant-loop-done
invariant-loop-done l = (secret : List ℕ) → IsMadeFor l.key secret → (l.iterate ≡ iterate secret l.salt l._done l.number) × (l.sum ≡ block secret l.salt l._done l.number)
