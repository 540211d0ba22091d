use Rattle.aes_block.proofs.LaneLaws.{places_fit, lanes_looked_up}
use Rattle.aes_block.proofs.lanes.look_up.Goals as goal

pub swizzle : goal.swizzle
swizzle c = places_fit c.args.places c.fits-places.0 c.requires

pub returns : goal.returns
returns c = lanes_looked_up _ c.args.table.now c.args.places c.side_by_side.ensures c.fits-places.0 c.requires
