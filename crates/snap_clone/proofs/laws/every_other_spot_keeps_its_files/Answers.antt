use Rattle.snap_clone.proofs.ActLemmas.{always, once}
use Rattle.snap_clone.proofs.laws.every_other_spot_keeps_its_files.Goals as goal

pub returns-clause-once : goal.returns-clause-once
returns-clause-once c = λ act family spot kept is_done other. once act family spot kept is_done other

pub returns-clause-always : goal.returns-clause-always
returns-clause-always c = λ acts family later spot follows others. always acts family later spot follows others
