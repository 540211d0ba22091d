use Rattle.std.proofs.Common.{◌≡◌, ◌+◌, ◌-◌, ◌*◌, ◌/◌, ◌^◌, slice_index}
use Rattle.gcm_seal.specs.Gcm.{product}
use Rattle.gcm_seal.specs.Multiples.{wide_value}
use Rattle.gcm_seal.proofs.product.GhashTable.mul_counted.Given as goal

abbrev pub invariant-loop-k : goal.invariant-loop-k
invariant-loop-k l =
    (wide_value l.front l.back ≡ product (l.x / 2 ^ (128 - 4 * l.k) * 2 ^ (128 - 4 * l.k)) (slice_index l.self-inside.multiples 8))
    × (l.looks ≡ l.fn.looks + l.k)
