use Rattle.std.proofs.Common.{slice_index}
use Rattle.aes_block.proofs.LaneLaws.{lane_byte}
use Rattle.aes_block.proofs.TowerLaws.{first_place-place, second_place-place}
use Rattle.aes_block.proofs.lanes.by_places.Goals as goal

pub look_up-requires : goal.look_up-requires
look_up-requires c = λ i h. rw (c.first_places.ensures.each i h) (first_place-place (slice_index c.args.v i) (lane_byte c.args.v c.fits-v.0 c.fits-v.1 i h))

pub look_up-requires-2 : goal.look_up-requires-2
look_up-requires-2 c = λ i h. rw (c.second_places.ensures.each i h) (second_place-place (slice_index c.args.v i) (lane_byte c.args.v c.fits-v.0 c.fits-v.1 i h))
