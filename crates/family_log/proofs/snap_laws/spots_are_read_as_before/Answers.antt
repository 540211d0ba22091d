use Rattle.family_log.proofs.SpotLemmas.{kept-clone, kept-later, kept-snapshot}
use Rattle.family_log.proofs.snap_laws.spots_are_read_as_before.Goals as goal

pub returns-clause-later : goal.returns-clause-later
returns-clause-later c = λ log later spot others. kept-later log later spot others

pub returns-clause-snapshot : goal.returns-clause-snapshot
returns-clause-snapshot c = λ log head part. kept-snapshot log head part

pub returns-clause-clone : goal.returns-clause-clone
returns-clause-clone c = λ log from head. kept-clone log from head
