use Rattle.key_machine.proofs.CloneSteps.{clone_keeps}
use Rattle.key_machine.proofs.clone_laws.a_mapping_keeps_its_key_over_clones.Goals as goal

pub returns : goal.returns
returns c = clone_keeps
