use Rattle.std.proofs.Common.{◌≡◌, take}
use Rattle.family_log.specs.Model.{snapshot_count}
use Rattle.family_log.proofs.head.snapshot_count.Given as goal

abbrev pub invariant-heads : goal.invariant-heads
invariant-heads l = l.count ≡ snapshot_count (take l.head-index l.heads)
