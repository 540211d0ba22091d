use Rattle.std.proofs.Common.{◌≡◌, ◌&&◌, take}
use Rattle.encryption_roots.specs.Owners.{owner}
use Rattle.encryption_roots.specs.Owned.{ids_where, begins_family, is_owner}
use Rattle.encryption_roots.proofs.owned.owned_families.Given as goal

-- the families among the datasets so far
abbrev pub invariant-loop-row : goal.invariant-loop-row
invariant-loop-row l = l.families.items ≡ ids_where (λ row. begins_family row && is_owner l.root (owner l.tree.rows l.roots row.id)) (take l.row-index l.row-items)
