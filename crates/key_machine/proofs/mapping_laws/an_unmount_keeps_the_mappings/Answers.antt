use Rattle.key_machine.proofs.MountSteps.{unmount_drops}
use Rattle.key_machine.proofs.mapping_laws.an_unmount_keeps_the_mappings.Goals as goal

pub returns : goal.returns
returns c = unmount_drops
