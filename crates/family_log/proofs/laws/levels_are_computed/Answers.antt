use Rattle.family_log.proofs.LevelLemmas.{levels-computed}
use Rattle.family_log.proofs.laws.levels_are_computed.Goals as goal

pub returns : goal.returns
returns c = λ blocks levels most. levels-computed blocks levels most
