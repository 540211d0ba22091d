use Rattle.key_machine.proofs.MountSteps.{mapped_again}
use Rattle.key_machine.proofs.mapping_laws.a_mapped_dataset_is_mounted_on_its_slot.Goals as goal

pub returns : goal.returns
returns c = mapped_again
