use Rattle.std.proofs.Common.{◌≡◌, ℕ, ◌*◌, ◌^◌, ◌<◌, length, slice_index}
use Rattle.gcm_seal.specs.Gcm.{product}
use Rattle.gcm_seal.proofs.product.GhashTable.new.Given as goal

abbrev pub invariant-loop-n : goal.invariant-loop-n
invariant-loop-n l = record {
  size : length l.multiples ≡ 16;
  done : (k : ℕ) → k < l.n → slice_index l.multiples k ≡ product (k * 2 ^ 124) l.h;
}
