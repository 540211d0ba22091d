use Rattle.std.proofs.Common.{refl, Some}
use Rattle.shelf_store.proofs.SlotLists.{tells_sizes_still}
use Rattle.shelf_store.proofs.mem_shelf.MemShelfShelf.fail_after.Goals as goal

pub returns-clause-sizes : goal.returns-clause-sizes
returns-clause-sizes c =
    let arming = record c.self.inside.arming { armed = Some c.args.calls } in
    tells_sizes_still c.self.inside (record c.self.inside { arming = arming }) c.self.invariant refl refl
