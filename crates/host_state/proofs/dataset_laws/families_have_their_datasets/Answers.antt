use Rattle.host_state.proofs.MountedLemmas.{has_head, heads_are}
use Rattle.host_state.proofs.dataset_laws.families_have_their_datasets.Goals as goal

pub returns-clause-heads : goal.returns-clause-heads
returns-clause-heads c = heads_are

pub returns-clause-datasets : goal.returns-clause-datasets
returns-clause-datasets c = has_head
