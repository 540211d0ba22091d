use Rattle.std.proofs.Common.{◌≡◌, ◌-◌}
use Rattle.aes_block.specs.Field.{◌⊕◌, ◌•◌, sum_of_multiples}
use Rattle.aes_block.proofs.field.multiply.Given as goal

abbrev pub invariant-bits : goal.invariant-bits
invariant-bits l = l.sum ⊕ sum_of_multiples (8 - l.counter) l.rest l.multiple ≡ l.b • l.c
