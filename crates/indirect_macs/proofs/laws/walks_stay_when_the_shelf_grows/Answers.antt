use Rattle.indirect_macs.proofs.Growth.{passed-grown, walk-grown}
use Rattle.indirect_macs.proofs.laws.walks_stay_when_the_shelf_grows.Goals as goal

pub returns-clause-nodes : goal.returns-clause-nodes
returns-clause-nodes c = passed-grown

pub returns-clause-blocks : goal.returns-clause-blocks
returns-clause-blocks c = walk-grown
