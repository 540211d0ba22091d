use Rattle.encryption_roots.proofs.OwnedLemmas.{below_rise, below_where, below_self, below_of_row}
use Rattle.encryption_roots.proofs.owned.roots_by_parents.Goals as goal

pub returns-clause-rising : goal.returns-clause-rising
returns-clause-rising c = below_rise

pub returns-clause-member : goal.returns-clause-member
returns-clause-member c = below_where

pub returns-clause-itself : goal.returns-clause-itself
returns-clause-itself c = below_self

pub returns-clause-below : goal.returns-clause-below
returns-clause-below c = λ t top id row there. below_of_row t top id row there
