use Rattle.std.proofs.Common.{slice_index, refl, ◌∙◌}
use Rattle.aes_block.specs.Lanes.{second_sum}
use Rattle.aes_block.proofs.LaneLaws.{lane_byte}
use Rattle.aes_block.proofs.TowerLaws.{halves_sum-place}
use Rattle.aes_block.proofs.lanes.second_sums.Goals as goal

pub look_up-requires : goal.look_up-requires
look_up-requires c = λ i h. rw (c.halves_sums.ensures.each i h) (halves_sum-place (slice_index c.args.v i) (lane_byte c.args.v c.fits-v.0 c.fits-v.1 i h))

pub returns : goal.returns
unfolding second_sum
returns c = record {
  long = c.sum.ensures.long;
  each = λ i h. c.sum.ensures.each i h ∙ rw (c.look_up.ensures.each i h, c.halves_sums.ensures.each i h, c.look_up-2.ensures.each i h, c.low_halves.ensures.each i h) refl;
}
