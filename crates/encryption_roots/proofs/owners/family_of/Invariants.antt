use Rattle.std.proofs.Common.{◌≡◌}
use Rattle.encryption_roots.specs.Owners.{family}
use Rattle.encryption_roots.proofs.owners.family_of.Given as goal

-- the family is that of the dataset where the walk has come
abbrev pub invariant-loop-row : goal.invariant-loop-row
invariant-loop-row l = family l.tree.rows l.at ≡ family l.tree.rows l.id

abbrev pub decreases-loop-row : goal.decreases-loop-row
decreases-loop-row l = l.at
