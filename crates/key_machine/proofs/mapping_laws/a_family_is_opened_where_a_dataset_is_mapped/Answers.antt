use Rattle.key_machine.proofs.MountSteps.{opened_where}
use Rattle.key_machine.proofs.mapping_laws.a_family_is_opened_where_a_dataset_is_mapped.Goals as goal

pub returns : goal.returns
returns c = opened_where
