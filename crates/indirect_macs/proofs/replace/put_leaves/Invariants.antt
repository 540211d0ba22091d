use Rattle.std.proofs.Common.{ℕ, ◌*◌, [], length, map}
use Rattle.shelf_store.specs.ShelfState.{ShelfState}
use Rattle.indirect_macs.specs.RunFields.{run_of}
use Rattle.indirect_macs.specs.Runs.{Old, first_at, or_hole}
use Rattle.indirect_macs.specs.Steps.{IsRange, HasPut}
use Rattle.indirect_macs.proofs.RunPutting.{NodesPut, none_made}
use Rattle.indirect_macs.proofs.replace.put_leaves.Given as goal

-- what the nodes so far are, and what was put for them
abbrev pub invariant-nodes : goal.invariant-nodes
invariant-nodes g l = (before : Old) (reads : ℕ) (start : ShelfState)
    → IsRange (before.node 1) (first_at (run_of l.run) 1) (length l.old) (map or_hole l.old)
    → IsRange before.block (32 * first_at (run_of l.run) 1) (32 * length l.old) l.blocks
    → HasPut reads [] start (g.B.Shelf.told l.fn.shelf)
    → NodesPut (run_of l.run) before (length start.sizes) 1 (none_made (run_of l.run)) l.i reads l.refs.items start (g.B.Shelf.told l.shelf)
