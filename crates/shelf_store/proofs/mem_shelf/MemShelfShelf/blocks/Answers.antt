use Rattle.shelf_store.proofs.SlotLists.{tells_sizes}
use Rattle.shelf_store.proofs.mem_shelf.MemShelfShelf.blocks.Goals as goal

pub returns-clause-sizes : goal.returns-clause-sizes
returns-clause-sizes c = rw (← c.self.view_is) (tells_sizes c.self.inside c.self.invariant)
