use Rattle.indirect_macs.proofs.FirstPlace.{first_fails, all_pass}
use Rattle.indirect_macs.proofs.laws.walks_stop_at_the_first_place_that_fails.Goals as goal

pub returns-clause-fails : goal.returns-clause-fails
returns-clause-fails c = first_fails

pub returns-clause-passes : goal.returns-clause-passes
returns-clause-passes c = all_pass
