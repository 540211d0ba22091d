use Rattle.file_blocks.proofs.Taking.{below_power}
use Rattle.file_blocks.proofs.taken.is_within.Goals as goal

pub returns : goal.returns
returns c = below_power c.args.index c.args.tree.now.levels c.from.result c.from.ensures
