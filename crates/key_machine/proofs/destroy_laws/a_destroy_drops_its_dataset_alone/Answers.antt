use Rattle.key_machine.proofs.DestroySteps.{destroy_drops}
use Rattle.key_machine.proofs.destroy_laws.a_destroy_drops_its_dataset_alone.Goals as goal

pub returns : goal.returns
returns c = destroy_drops
