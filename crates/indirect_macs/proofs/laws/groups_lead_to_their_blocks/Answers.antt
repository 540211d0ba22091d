use Rattle.indirect_macs.proofs.GroupWalks.{walk_in_group}
use Rattle.indirect_macs.proofs.laws.groups_lead_to_their_blocks.Goals as goal

pub returns : goal.returns
returns c = walk_in_group
