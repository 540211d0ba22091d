use Rattle.key_machine.proofs.CloneSteps.{clone_step}
use Rattle.key_machine.proofs.clone_laws.a_clone_adds_its_dataset_alone.Goals as goal

pub returns : goal.returns
returns c = clone_step
