use Rattle.std.proofs.Common.{◌≡◌, ◌&&◌, take, is_some}
use Rattle.encryption_roots.specs.Roots.{props_of}
use Rattle.encryption_roots.specs.Owned.{ids_where, is_below}
use Rattle.encryption_roots.proofs.owned.roots_below.Given as goal

-- the roots among the datasets so far
abbrev pub invariant-loop-row : goal.invariant-loop-row
invariant-loop-row l = l.below.items ≡ ids_where (λ row. is_some (props_of row.id l.roots) && is_below l.tree.rows l.id row.id) (take l.row-index l.row-items)
