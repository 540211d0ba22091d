use Rattle.indirect_macs.specs.RunFields.{run_of}
use Rattle.indirect_macs.proofs.RunReading.{AreChildren}
use Rattle.indirect_macs.proofs.children.read_children.Given as goal

-- what was found below the nodes so far
abbrev pub invariant-nodes : goal.invariant-nodes
invariant-nodes g l = AreChildren l.run.block (run_of l.run) l.level l.i l.old l.children.items (g.B.Shelf.told l.fn.shelf) (g.B.Shelf.told l.shelf)
