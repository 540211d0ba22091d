use Rattle.std.proofs.Common.{◌∙◌, sym}
use Rattle.shelf_store.proofs.SlotLists.{slots_eq-Decides, told_same, slots_of_same}
use Rattle.shelf_store.proofs.mem_shelf.MemShelfShelf.same.Goals as goal

pub returns-then-eq-clause-same : goal.returns-then-eq-clause-same
returns-then-eq-clause-same c = λ is.
    let slots = (slots_eq-Decides c.self.inside.slots.items c.other.inside.slots.items).0 (sym c.eq-then-eq.ensures ∙ is) in
    sym c.self.view_is ∙ told_same c.self.inside c.other.inside c.if-eq.ensures slots ∙ c.other.view_is

pub returns-then-eq-clause-differs : goal.returns-then-eq-clause-differs
returns-then-eq-clause-differs c = λ placed held is.
    let slots = slots_of_same c.self.inside c.other.inside (c.self.view_is ∙ is ∙ sym c.other.view_is) in
    c.eq-then-eq.ensures ∙ (slots_eq-Decides c.self.inside.slots.items c.other.inside.slots.items).1 slots
