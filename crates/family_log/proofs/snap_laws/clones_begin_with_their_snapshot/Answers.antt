use Rattle.family_log.proofs.SpotLemmas.{clone-made, clone-others}
use Rattle.family_log.proofs.snap_laws.clones_begin_with_their_snapshot.Goals as goal

pub returns-clause-made : goal.returns-clause-made
returns-clause-made c = λ family from head none. clone-made family from head none

pub returns-clause-others : goal.returns-clause-others
returns-clause-others c = λ family from head spot none apart. clone-others family from head spot none apart
