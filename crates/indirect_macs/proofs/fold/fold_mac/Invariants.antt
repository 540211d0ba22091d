use Rattle.std.proofs.Common.{vec_len}
use Rattle.indirect_macs.specs.Fold.{fold_mac}
use Rattle.indirect_macs.proofs.Groups.{IsLeft}
use Rattle.indirect_macs.proofs.fold.fold_mac.Given as goal

-- what is left to fold
abbrev pub invariant-levels : goal.invariant-levels
invariant-levels l = IsLeft (fold_mac l.refs) l.level l.macs.items

abbrev pub decreases-levels : goal.decreases-levels
decreases-levels l = vec_len l.macs
