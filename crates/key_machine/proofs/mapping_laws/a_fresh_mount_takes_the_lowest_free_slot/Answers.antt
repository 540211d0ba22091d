use Rattle.key_machine.proofs.MountSteps.{fresh_mount, full_mount, blocked_mount}
use Rattle.key_machine.proofs.mapping_laws.a_fresh_mount_takes_the_lowest_free_slot.Goals as goal

pub returns-clause-fresh : goal.returns-clause-fresh
returns-clause-fresh c = fresh_mount

pub returns-clause-full : goal.returns-clause-full
returns-clause-full c = full_mount

pub returns-clause-blocked : goal.returns-clause-blocked
returns-clause-blocked c = blocked_mount
