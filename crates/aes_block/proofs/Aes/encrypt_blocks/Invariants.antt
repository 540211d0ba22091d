use Rattle.std.proofs.Common.{◌≡◌, ℕ, ◌*◌, ◌/◌, ◌%◌, ◌<◌, ◌≤◌, length, slice_index, take, drop}
use Rattle.aes_block.specs.Cipher.{aes}
use Rattle.aes_block.proofs.Aes.encrypt_blocks.Given as goal

abbrev pub invariant-pairs : goal.invariant-pairs
invariant-pairs g l = record {
  size : length l.blocks ≡ 128;
  done : (k : ℕ) → k < 32 * l.pair → slice_index l.blocks k ≡ slice_index (aes l.self (take 16 (drop (16 * (k / 16)) l.fn.blocks))) (k % 16);
  left : (k : ℕ) → 32 * l.pair ≤ k → slice_index l.blocks k ≡ slice_index l.fn.blocks k;
}
