use Rattle.indirect_macs.proofs.Powers.{pow-32}
use Rattle.indirect_macs.proofs.walk.place_of.Goals as goal

pub returns : goal.returns
returns c = rw (c.from.ensures, pow-32 c.args.level)
