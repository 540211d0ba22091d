use Rattle.key_machine.proofs.MountSteps.{second_mount}
use Rattle.key_machine.proofs.mapping_laws.a_second_mount_is_as_the_first.Goals as goal

pub returns : goal.returns
returns c = second_mount
