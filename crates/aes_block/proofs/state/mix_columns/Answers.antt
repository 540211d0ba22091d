use Rattle.std.proofs.Common.{◌≡◌, ◌+◌, ◌-◌, ◌*◌, ◌/◌, ◌%◌, ◌∙◌, refl, arith}
use Rattle.aes_block.specs.Field.{◌⊕◌, ◌•◌}
use Rattle.aes_block.specs.Cipher.{at, mix_columns}
use Rattle.aes_block.proofs.CipherLaws.{state_from_places}
use Rattle.aes_block.proofs.state.mix_columns.Goals as goal

pub returns : goal.returns
unfolding mix_columns
returns c =
    let s = c.args.state.now in
    state_from_places c.bytes.state (λ row column.
    2 • at s row column ⊕ 3 • at s ((row + 1) % 4) column
    ⊕ at s ((row + 2) % 4) column ⊕ at s ((row + 3) % 4) column)
    c.bytes.invariant.size
    (λ k lt.
    let own : k ≡ k % 4 + 4 * (k / 4) = omega arith in
    let next : k - k % 4 + (k + 1) % 4 ≡ (k % 4 + 1) % 4 + 4 * (k / 4) = omega arith in
    let second : k - k % 4 + (k + 2) % 4 ≡ (k % 4 + 2) % 4 + 4 * (k / 4) = omega arith in
    let third : k - k % 4 + (k + 3) % 4 ≡ (k % 4 + 3) % 4 + 4 * (k / 4) = omega arith in
    c.bytes.invariant.done k (omega arith) ∙ rw (← own, next, second, third) refl)
