use Rattle.file_blocks.specs.Groups.{IsKnown}
use Rattle.file_blocks.proofs.Loops.{Tests}
use Rattle.file_blocks.proofs.read.test_into.Given as goal

-- the blocks so far, and the group of the last one
abbrev pub invariant-each : goal.invariant-each
invariant-each g l =
    Tests (g.K.BlockKey.told l.key) l.block l.tree l.blocks l.k l.count l.buffer (g.B.Shelf.told l.fn.shelf) (g.B.Shelf.told l.shelf)
    × IsKnown (g.B.Shelf.told l.shelf).held l.block l.tree l.group
