use Rattle.std.proofs.Common.{◌≡◌, ◌-◌}
use Rattle.std.specs.List.{find, range_with_len}
use Rattle.key_machine.specs.Mount.{free_slot, is_free}
use Rattle.key_machine.specs.Plain.{Plain, no_keys}
use Rattle.key_store.proofs.slots.free_slot.Given as goal

-- the lowest free slot is the first free one of those that are left
abbrev pub invariant-loop-slot : goal.invariant-loop-slot
invariant-loop-slot l =
    let q : Plain = record no_keys { gens = l.gens; mapped = l.mapped } in
    find (is_free q) (range_with_len l.slot (256 - l.slot)) ≡ free_slot q
