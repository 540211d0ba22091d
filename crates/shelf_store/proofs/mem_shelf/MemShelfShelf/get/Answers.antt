use Rattle.std.proofs.Common.{◌≡◌, ◌<◌, refl, ap, ◌∙◌, sym, arith, Some, length}
use Rattle.std.proofs.lemmas.List.{length-map}
use Rattle.shelf_store.specs.SlotState.{SlotState}
use Rattle.shelf_store.proofs.SlotLists.{held_at, tells_sizes_still}
use Rattle.shelf_store.proofs.mem_shelf.MemShelfShelf.get.Goals as goal

pub returns-then-count-clause-sizes : goal.returns-then-count-clause-sizes
returns-then-count-clause-sizes c = tells_sizes_still c.self.inside (record c.self.inside { arming = c.count.new.self }) c.self.invariant refl refl

pub returns-clause-sizes : goal.returns-clause-sizes
returns-clause-sizes c = tells_sizes_still c.self.inside (record c.self.inside { arming = c.count.new.self }) c.self.invariant refl refl

pub returns-clause-bytes : goal.returns-clause-bytes
returns-clause-bytes c =
    let there = rw (← c.self.view_is) at c.requires.there in
    let within : c.args.addr < length c.self.inside.slots.items = omega (arith, there, length-map c.self.inside.slots.items (λ (s : SlotState). length s.held)) in
    let read : c.copy_from_slice.new.self ≡ c.index.result.now.held = c.copy_from_slice.ensures.after ∙ c.held.ensures.bytes in
    rw (← c.self.view_is) (held_at c.self.inside.slots.items c.args.addr c.index.result.now within c.index.ensures ∙ ap Some (sym read))
