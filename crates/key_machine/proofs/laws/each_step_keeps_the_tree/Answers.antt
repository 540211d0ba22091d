use Rattle.key_machine.proofs.FairLaws.{step_tree}
use Rattle.key_machine.proofs.laws.each_step_keeps_the_tree.Goals as goal

pub returns : goal.returns
returns c = step_tree
