use Rattle.std.proofs.Common.{refl, ◌∙◌}
use Rattle.aes_block.specs.Lanes.{first_sum}
use Rattle.aes_block.proofs.lanes.first_sums.Goals as goal

pub returns : goal.returns
unfolding first_sum
returns c = record {
  long = c.sum.ensures.long;
  each = λ i h. c.sum.ensures.each i h ∙ rw (c.look_up.ensures.each i h, c.high_halves.ensures.each i h, c.look_up-2.ensures.each i h, c.low_halves.ensures.each i h) refl;
}
