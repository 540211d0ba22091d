use Rattle.indirect_macs.proofs.RunTrees.{hole_tree, tree_grown, tree_passes, run_tree}
use Rattle.indirect_macs.proofs.run_laws.runs_keep_trees.Goals as goal

pub returns-clause-holes : goal.returns-clause-holes
returns-clause-holes c = hole_tree

pub returns-clause-grown : goal.returns-clause-grown
returns-clause-grown c = tree_grown

pub returns-clause-passes : goal.returns-clause-passes
returns-clause-passes c = tree_passes

pub returns-clause-kept : goal.returns-clause-kept
returns-clause-kept c = run_tree
