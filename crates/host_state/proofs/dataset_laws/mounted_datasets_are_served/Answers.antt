use Rattle.host_state.proofs.MountedLemmas.{is_called}
use Rattle.host_state.proofs.dataset_laws.mounted_datasets_are_served.Goals as goal

pub returns : goal.returns
returns c = is_called
