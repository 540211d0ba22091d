use Rattle.std.proofs.Common.{◌≡◌, length, take}
use Rattle.family_log.proofs.same.same_items.Given as goal

abbrev pub invariant-items : goal.invariant-items
invariant-items g l = (length l.a ≡ length l.b) × (take l.at l.a ≡ take l.at l.b)
