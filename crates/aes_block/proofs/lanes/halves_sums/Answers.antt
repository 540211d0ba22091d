use Rattle.std.proofs.Common.{refl, ◌∙◌}
use Rattle.aes_block.specs.Lanes.{halves_sum}
use Rattle.aes_block.proofs.lanes.halves_sums.Goals as goal

pub returns : goal.returns
unfolding halves_sum
returns c = record {
  long = c.sum.ensures.long;
  each = λ i h. c.sum.ensures.each i h ∙ rw (c.high_halves.ensures.each i h, c.low_halves.ensures.each i h) refl;
}
