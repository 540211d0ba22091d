use Rattle.std.proofs.Common.{◌≡◌, ◌+◌, ◌-◌, ◌*◌, ◌/◌, ◌%◌, suc, refl, sym, ◌∙◌, arith, bit_and}
use Rattle.std.specs.Int.Bits.{and_mask, xor_assoc, xor_zero_r}
use Rattle.aes_block.specs.Field.{◌•◌, sum_of_multiples, xtimes}
use Rattle.aes_block.proofs.field.multiply.Goals as goal

pub bits-init : goal.bits-init
unfolding ◌•◌
bits-init c = refl

pub bits-preserved : goal.bits-preserved
unfolding sum_of_multiples
bits-preserved c =
    let rest = c.bits.rest in
    let multiple = c.bits.multiple in
    let left = 8 - (c.bits.counter + 1) in
    let more : 8 - c.bits.counter ≡ suc left = omega arith in
    let bit : bit_and rest 1 ≡ rest % 2 = and_mask rest 1 in
    let held = rw more at c.bits.invariant in
    rw (bit, c.xtimes-multiple.ensures) (xor_assoc c.bits.sum (rest % 2 * multiple) (sum_of_multiples left (rest / 2) (xtimes multiple)) ∙ held)

pub returns : goal.returns
unfolding sum_of_multiples
returns c =
    let none : 8 - c.bits.counter ≡ 0 = omega arith in
    sym (xor_zero_r c.bits.sum) ∙ rw none at c.bits.invariant
