use Rattle.std.proofs.Common.{◌/◌, ◌^◌}
use Rattle.aes_block.proofs.LaneLaws.{lanes_with_one}
use Rattle.aes_block.proofs.lanes.high_halves.Goals as goal

pub returns : goal.returns
returns c = lanes_with_one (λ a b. a / 2 ^ b) c.args.v 4 c.fits-v.0
