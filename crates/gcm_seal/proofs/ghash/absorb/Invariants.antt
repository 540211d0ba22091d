use Rattle.std.proofs.Common.{◌≡◌, ℕ, List, ◌+◌, ◌/◌, ◌%◌, ◌++◌, length}
use Rattle.gcm_seal.specs.Gcm.{y_at, ghash_value, padded}
use Rattle.gcm_seal.specs.Multiples.{HasMultiples}
use Rattle.gcm_seal.proofs.ghash.absorb.Given as goal

-- the blocks so far are x and the first i blocks of the padded bytes
abbrev pub invariant-loop-i : goal.invariant-loop-i
invariant-loop-i l =
    (h : ℕ) (x : List ℕ) → HasMultiples l.multiples h → length x % 16 ≡ 0 → l.fn.state ≡ ghash_value h x
    → l.y ≡ y_at h (x ++ padded l.bytes) (length x / 16 + l.i)
