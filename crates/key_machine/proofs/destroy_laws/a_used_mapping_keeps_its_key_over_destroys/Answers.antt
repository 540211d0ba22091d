use Rattle.key_machine.proofs.DestroySteps.{destroy_keeps}
use Rattle.key_machine.proofs.destroy_laws.a_used_mapping_keeps_its_key_over_destroys.Goals as goal

pub returns : goal.returns
returns c = destroy_keeps
