use Rattle.std.proofs.Common.{◌≡◌, ◌+◌, length, refl, arith, rules}
use Rattle.std.proofs.lemmas.Grind.{common_steps}
use Rattle.shelf_store.specs.MemShelfFields.{IsCounted}
use Rattle.shelf_store.proofs.SlotLists.{tells_sizes, tells_sizes_still}
use Rattle.shelf_store.proofs.mem_shelf.MemShelfShelf.put.Goals as goal

pub returns-then-count-clause-sizes : goal.returns-then-count-clause-sizes
returns-then-count-clause-sizes c = tells_sizes_still c.self.inside (record c.self.inside { arming = c.count.new.self }) c.self.invariant refl refl

pub returns-then-size-self-clause-sizes : goal.returns-then-size-self-clause-sizes
returns-then-size-self-clause-sizes c = tells_sizes_still c.self.inside (record c.self.inside { arming = c.count.new.self }) c.self.invariant refl refl

pub returns-in_err-slot-clause-sizes : goal.returns-in_err-slot-clause-sizes
returns-in_err-slot-clause-sizes c = tells_sizes_still c.self.inside (record c.self.inside { arming = c.count.new.self }) c.self.invariant refl refl

pub returns-in_err-map_err-clause-sizes : goal.returns-in_err-map_err-clause-sizes
returns-in_err-map_err-clause-sizes c =
    let items : c.push.new.self.items ≡ c.self.inside.slots.items = first_of (search rules, grind (arith, common_steps)) in
    tells_sizes_still c.self.inside (record c.self.inside { slots = c.push.new.self; arming = c.count.new.self }) c.self.invariant items refl

pub returns-clause-sizes : goal.returns-clause-sizes
returns-clause-sizes c =
    let after = record c.self.inside {
      slots = c.push.new.self;
      used = c.self.inside.used + length c.args.block.now;
      arming = c.count.new.self;
    } in
    let counted : IsCounted after = first_of (search rules, grind (arith, common_steps)) in
    tells_sizes after counted
