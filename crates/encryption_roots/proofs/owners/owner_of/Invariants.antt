use Rattle.std.proofs.Common.{◌≡◌}
use Rattle.encryption_roots.specs.Owners.{owner}
use Rattle.encryption_roots.proofs.owners.owner_of.Given as goal

-- the owner is that of the dataset where the walk has come
abbrev pub invariant-loop-row : goal.invariant-loop-row
invariant-loop-row l = owner l.tree.rows l.roots l.at ≡ owner l.tree.rows l.roots l.id

abbrev pub decreases-loop-row : goal.decreases-loop-row
decreases-loop-row l = l.at
