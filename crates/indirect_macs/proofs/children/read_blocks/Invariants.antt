use Rattle.indirect_macs.specs.RunFields.{run_of}
use Rattle.indirect_macs.proofs.RunReading.{AreBlocks}
use Rattle.indirect_macs.proofs.children.read_blocks.Given as goal

-- the old blocks of the nodes so far
abbrev pub invariant-nodes : goal.invariant-nodes
invariant-nodes g l = AreBlocks l.run.block (run_of l.run) l.i l.old l.blocks.items (g.B.Shelf.told l.fn.shelf) (g.B.Shelf.told l.shelf)
