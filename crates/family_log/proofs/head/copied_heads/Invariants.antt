use Rattle.std.proofs.Common.{◌≡◌, take}
use Rattle.family_log.proofs.head.copied_heads.Given as goal

abbrev pub invariant-heads : goal.invariant-heads
invariant-heads l = l.copies.items ≡ take l.head-index l.heads
