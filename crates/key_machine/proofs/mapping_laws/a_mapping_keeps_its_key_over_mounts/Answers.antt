use Rattle.key_machine.proofs.MountSteps.{mount_keeps, unmount_keeps}
use Rattle.key_machine.proofs.mapping_laws.a_mapping_keeps_its_key_over_mounts.Goals as goal

pub returns-clause-mount : goal.returns-clause-mount
returns-clause-mount c = λ ciphers p name told id slot there. mount_keeps ciphers p id slot there name told

pub returns-clause-unmount : goal.returns-clause-unmount
returns-clause-unmount c = λ ciphers p name told id slot there. unmount_keeps ciphers p id slot there name told
