use Rattle.file_blocks.specs.Groups.{IsKnown}
use Rattle.file_blocks.proofs.Loops.{Reads}
use Rattle.file_blocks.proofs.read.read_into.Given as goal

-- the bytes so far, and the group of the last block
abbrev pub invariant-each : goal.invariant-each
invariant-each g l =
    Reads (g.K.BlockKey.told l.key) l.block l.object.tree l.from l.end l.k l.out.items l.buffer (g.B.Shelf.told l.fn.shelf) (g.B.Shelf.told l.shelf)
    × IsKnown (g.B.Shelf.told l.shelf).held l.block l.object.tree l.group
