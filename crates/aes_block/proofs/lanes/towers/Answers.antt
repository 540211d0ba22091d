use Rattle.std.proofs.Common.{slice_index, ◌∙◌}
use Rattle.aes_block.proofs.LaneLaws.{lane_byte}
use Rattle.aes_block.proofs.TowerLaws.{tower_by_halves}
use Rattle.aes_block.proofs.lanes.towers.Goals as goal

pub returns : goal.returns
returns c = record {
  long = c.sum.ensures.long;
  each = λ i h.
      c.sum.ensures.each i h
      ∙ rw (c.look_up.ensures.each i h, c.low_halves.ensures.each i h, c.look_up-2.ensures.each i h, c.high_halves.ensures.each i h)
      (tower_by_halves (slice_index c.args.v i) (lane_byte c.args.v c.fits-v.0 c.fits-v.1 i h));
}
