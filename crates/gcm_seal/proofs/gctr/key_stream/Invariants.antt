use Rattle.std.proofs.Common.{◌≡◌, ℕ, ◌<◌, length}
use Rattle.gcm_seal.specs.Gcm.{counter_block}
use Rattle.byte_blocks.specs.Blocks.{block_at}
use Rattle.gcm_seal.proofs.gctr.key_stream.Given as goal

abbrev pub invariant-loop-i : goal.invariant-loop-i
invariant-loop-i g l = record {
  size : length l.stream ≡ 128;
  counted : l.counter ≡ counter_block l.fn.counter l.i;
  written : (j : ℕ) → j < l.i → block_at 16 l.stream j ≡ counter_block l.fn.counter j;
}
