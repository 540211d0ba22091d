use Rattle.std.proofs.Common.{◌≡◌, ℕ, ◌+◌, ◌*◌, ◌/◌, ◌%◌, slice_index, ap, ◌∙◌, arith}
use Rattle.aes_block.specs.Cipher.{at, sbox, sub_bytes}
use Rattle.aes_block.proofs.CipherLaws.{state_from_places}
use Rattle.aes_block.proofs.tables.counted_sub_bytes.Goals as goal

pub returns-clause-substituted : goal.returns-clause-substituted
unfolding sub_bytes
returns-clause-substituted c =
    let s = c.args.state.now in
    state_from_places c.bytes.state (λ row column. sbox (at s row column)) c.bytes.invariant.size
    (λ k lt.
    let place : k ≡ k % 4 + 4 * (k / 4) = omega arith in
    c.bytes.invariant.done k (omega arith) ∙ ap (λ (x : ℕ). sbox (slice_index s x)) place)
