use Rattle.std.proofs.Common.{◌≡◌, ℕ, length}
use Rattle.shelf_store.specs.ShelfState.{ShelfState}
use Rattle.indirect_macs.specs.RunFields.{run_of}
use Rattle.indirect_macs.specs.Runs.{Old, Made, begun, first_at}
use Rattle.indirect_macs.specs.Steps.{HasPut, Knows}
use Rattle.indirect_macs.proofs.RunPutting.{NodesPut}
use Rattle.indirect_macs.proofs.replace.put_nodes.Given as goal

-- what the nodes so far are, and what was put for them
abbrev pub invariant-nodes : goal.invariant-nodes
invariant-nodes g l = (before : Old) (reads : ℕ) (made : Made) (start : ShelfState)
    → Knows (run_of l.run) before l.level (first_at (run_of l.run) l.level) l.old l.children
    → l.below.refs.items ≡ made.refs → l.below.raised ≡ made.raised
    → HasPut reads (begun (run_of l.run) (length start.sizes) l.level made).puts start (g.B.Shelf.told l.fn.shelf)
    → NodesPut (run_of l.run) before (length start.sizes) l.level made l.i reads l.refs.items start (g.B.Shelf.told l.shelf)
