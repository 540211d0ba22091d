use Rattle.std.proofs.Common.{bit_xor}
use Rattle.aes_block.proofs.LaneLaws.{lanes_of_both}
use Rattle.aes_block.proofs.lanes.sum.Goals as goal

pub returns : goal.returns
returns c = lanes_of_both bit_xor c.args.a c.args.b c.fits-a.0 c.fits-b.0
