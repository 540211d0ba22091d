use Rattle.std.proofs.Common.{◌≡◌, ℕ, ◌+◌, ◌<◌, ◌≤◌, get_or, length}
use Rattle.aes_block.specs.Cipher.{sbox}
use Rattle.aes_block.proofs.tables.counted_sub_bytes.Given as goal

abbrev pub invariant-bytes : goal.invariant-bytes
invariant-bytes l = record {
  size : length l.state ≡ 16;
  done : (k : ℕ) → k < l.i → get_or l.state k 0 ≡ sbox (get_or l.fn.state k 0);
  left : (k : ℕ) → l.i ≤ k → get_or l.state k 0 ≡ get_or l.fn.state k 0;
  counted : l.looks ≡ l.fn.looks + l.i;
}
