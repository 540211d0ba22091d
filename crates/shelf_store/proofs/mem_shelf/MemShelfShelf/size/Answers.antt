use Rattle.std.proofs.Common.{◌≡◌, ap, ◌∙◌, sym, arith, Some, length}
use Rattle.shelf_store.proofs.SlotLists.{tells_sizes, size_at, size_past, size_le_sum}
use Rattle.shelf_store.proofs.mem_shelf.MemShelfShelf.size.Goals as goal

pub overflow_cast-result : goal.overflow_cast-result
overflow_cast-result c =
    let found = rw c.deref.ensures.value at c.in-Some.ensures.lookup in
    let below = size_le_sum c.self.inside.slots.items c.args.addr c.in-Some.slot.now found.3.0 found.1 in
    let held : length c.held.result.now ≡ length c.in-Some.slot.now.held = ap length c.held.ensures.bytes in
    omega (arith, below, held, c.self.invariant.used, c.self.invariant.within_limit)

pub returns-in-Some-clause-value : goal.returns-in-Some-clause-value
returns-in-Some-clause-value c =
    let found = rw c.deref.ensures.value at c.in-Some.ensures.lookup in
    rw (← c.self.view_is)
    (ap Some (ap length c.held.ensures.bytes)
    ∙ sym (size_at c.self.inside.slots.items c.args.addr c.in-Some.slot.now found.3.0 found.1))

pub returns-in-Some-clause-sizes : goal.returns-in-Some-clause-sizes
returns-in-Some-clause-sizes c = rw (← c.self.view_is) (tells_sizes c.self.inside c.self.invariant)

pub returns-in-None-clause-value : goal.returns-in-None-clause-value
returns-in-None-clause-value c =
    let absent = rw c.deref.ensures.value at c.in-None.ensures.lookup in
    rw (← c.self.view_is) (sym (size_past c.self.inside.slots.items c.args.addr absent.3))

pub returns-in-None-clause-sizes : goal.returns-in-None-clause-sizes
returns-in-None-clause-sizes c = rw (← c.self.view_is) (tells_sizes c.self.inside c.self.invariant)
