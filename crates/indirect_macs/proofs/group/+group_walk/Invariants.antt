use Rattle.indirect_macs.proofs.group.+group_walk.Given as goal

abbrev pub decreases-group_walk : goal.decreases-group_walk
decreases-group_walk g l = l.level
