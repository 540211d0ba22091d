use Rattle.indirect_macs.proofs.RunTrees.{tree_fold}
use Rattle.indirect_macs.proofs.run_laws.tops_are_folds.Goals as goal

pub returns : goal.returns
returns c = tree_fold
