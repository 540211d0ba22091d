use Rattle.key_machine.proofs.MountLaws.{reap_sound}
use Rattle.key_machine.proofs.mapping_laws.a_reap_keeps_soundness.Goals as goal

pub returns : goal.returns
returns c = reap_sound
