use Rattle.std.proofs.Common.{length, ap, arith}
use Rattle.std.proofs.lemmas.List.{length-map}
use Rattle.std.proofs.lemmas.Result.{on_ok_weaker}
use Rattle.shelf_store.specs.SlotState.{SlotState}
use Rattle.shelf_store.proofs.SlotLists.{tells_sizes, Replaces, counted-replaced, told-altered}
use Rattle.shelf_store.proofs.mem_shelf.MemShelfShelf.alter.Goals as goal

replaces : (c : goal.After-self-1) → Replaces c.self.inside.slots.items c.args.addr c.index_mut.result.now c.alter.new.self
replaces c =
    let there = rw (← c.self.view_is) at c.requires.there in
    record {
      within = omega (arith, there, length-map c.self.inside.slots.items (λ (s : SlotState). length s.held));
      was = c.index_mut.ensures.value;
      placed = c.alter.ensures.placed;
      size = c.alter.ensures.length;
    }

pub invariant_of-self : goal.invariant_of-self
invariant_of-self c = counted-replaced c.self.inside _ _ _ c.self.invariant (replaces c)

pub returns-clause-ok : goal.returns-clause-ok
returns-clause-ok c =
    on_ok_weaker c.alter.result
    (λ is. rw (← c.self.view_is) (told-altered c.self.inside _ _ _ _ _ (replaces c) (ap (λ (s : SlotState). s.held) is)))
    c.alter.ensures.ok

pub returns-clause-sizes : goal.returns-clause-sizes
returns-clause-sizes c = tells_sizes _ (counted-replaced c.self.inside _ _ _ c.self.invariant (replaces c))
