use Rattle.family_log.proofs.SpotLemmas.{snapshot-made, snapshot-others}
use Rattle.family_log.proofs.snap_laws.snapshots_stand_still.Goals as goal

pub returns-clause-made : goal.returns-clause-made
returns-clause-made c = λ family head part guid kept none. snapshot-made family head part guid kept none

pub returns-clause-others : goal.returns-clause-others
returns-clause-others c = λ family head part guid spot kept apart. snapshot-others family head part guid spot kept apart
