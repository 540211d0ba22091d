use Rattle.std.proofs.Common.{◌≡◌, ◌-◌}
use Rattle.aes_block.specs.Cipher.{state_after}
use Rattle.aes_block.proofs.Aes.encrypt_by_steps.Given as goal

abbrev pub invariant-rounds : goal.invariant-rounds
invariant-rounds g l = l.block ≡ state_after l.self-inside.words l.fn.block (l.round - 1)
