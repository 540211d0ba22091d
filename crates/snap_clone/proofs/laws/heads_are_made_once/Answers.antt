use Rattle.snap_clone.proofs.HeldLemmas.{clone_is_named, not_again}
use Rattle.snap_clone.proofs.laws.heads_are_made_once.Goals as goal

pub returns-clause-again : goal.returns-clause-again
returns-clause-again c = λ acts family later head follows is. not_again acts family later head follows is

pub returns-clause-clone : goal.returns-clause-clone
returns-clause-clone c = λ family from head. clone_is_named family from head
