use Rattle.file_blocks.proofs.Taking.{Groups}
use Rattle.file_blocks.proofs.taken.test_groups.Given as goal

-- the groups so far
abbrev pub invariant-each : goal.invariant-each
invariant-each g l = Groups l.block l.tree l.from l.k (g.B.Shelf.told l.fn.shelf) (g.B.Shelf.told l.shelf)
