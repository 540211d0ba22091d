use Rattle.std.proofs.Common.{◌≡◌, ℕ, ◌*◌, ◌/◌, ◌%◌, ◌<◌, length, slice_index, bit_xor}
use Rattle.gcm_seal.proofs.product.row.Given as goal

abbrev pub invariant-loop-n : goal.invariant-loop-n
invariant-loop-n l = record {
  size : length l.sums ≡ 64;
  done : (k : ℕ) → k < 8 * l.n → slice_index l.sums k ≡ bit_xor (slice_index l.high (k / 8)) (slice_index l.low (k % 8));
}
