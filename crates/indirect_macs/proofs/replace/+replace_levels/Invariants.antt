use Rattle.indirect_macs.proofs.replace.+replace_levels.Given as goal

abbrev pub decreases-replace_levels : goal.decreases-replace_levels
decreases-replace_levels g l = l.level
