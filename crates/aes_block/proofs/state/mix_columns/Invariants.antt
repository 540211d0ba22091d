use Rattle.std.proofs.Common.{◌≡◌, ℕ, ◌+◌, ◌-◌, ◌%◌, ◌<◌, get_or, length}
use Rattle.aes_block.specs.Field.{◌⊕◌, ◌•◌}
use Rattle.aes_block.proofs.state.mix_columns.Given as goal

abbrev pub invariant-bytes : goal.invariant-bytes
invariant-bytes l = record {
  size : length l.state ≡ 16;
  done : (k : ℕ) → k < l.i → get_or l.state k 0 ≡
      2 • get_or l.s k 0 ⊕ 3 • get_or l.s (k - k % 4 + (k + 1) % 4) 0
      ⊕ get_or l.s (k - k % 4 + (k + 2) % 4) 0 ⊕ get_or l.s (k - k % 4 + (k + 3) % 4) 0;
}
