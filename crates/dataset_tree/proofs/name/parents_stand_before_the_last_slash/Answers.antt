use Rattle.dataset_tree.proofs.NameLemmas.{parent_at_top, parent_below}
use Rattle.dataset_tree.proofs.name.parents_stand_before_the_last_slash.Goals as goal

pub returns-clause-below : goal.returns-clause-below
returns-clause-below c = λ front last none. parent_below front last none

pub returns-clause-top : goal.returns-clause-top
returns-clause-top c = λ name none. parent_at_top name none
