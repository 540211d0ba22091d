use Rattle.std.proofs.Common.{◌≡◌}
use Rattle.encryption_roots.specs.Owned.{is_below}
use Rattle.encryption_roots.proofs.owned.is_below.Given as goal

-- the dataset stands below where the one does to which the walk has come
abbrev pub invariant-loop-row : goal.invariant-loop-row
invariant-loop-row l = is_below l.tree.rows l.top l.at ≡ is_below l.tree.rows l.top l.id

abbrev pub decreases-loop-row : goal.decreases-loop-row
decreases-loop-row l = l.at
