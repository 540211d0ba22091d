use Rattle.family_log.proofs.GrownLemmas.{honest-grown, tells-grown}
use Rattle.family_log.proofs.laws.longer_shelves_stay_honest.Goals as goal

pub returns-clause-tables : goal.returns-clause-tables
returns-clause-tables c = λ blocks more log spot table tells. tells-grown blocks more log spot table tells

pub returns-clause-families : goal.returns-clause-families
returns-clause-families c = λ family more shelf honest grown bytes. honest-grown family more shelf honest grown bytes
