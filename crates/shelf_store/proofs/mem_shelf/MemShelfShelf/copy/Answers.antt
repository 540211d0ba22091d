use Rattle.std.proofs.Common.{◌≡◌, refl, rules, arith}
use Rattle.std.proofs.lemmas.Grind.{common_steps}
use Rattle.shelf_store.proofs.SlotLists.{tells_sizes_still}
use Rattle.shelf_store.proofs.mem_shelf.MemShelfShelf.copy.Goals as goal

pub returns-clause-sizes : goal.returns-clause-sizes
returns-clause-sizes c =
    let items : c.loop-slot.slots.items ≡ c.self.inside.slots.items = first_of (search rules, grind (arith, common_steps)) in
    tells_sizes_still c.self.inside (record c.self.inside { slots = c.loop-slot.slots }) c.self.invariant items refl
