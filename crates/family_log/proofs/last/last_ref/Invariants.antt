use Rattle.std.proofs.Common.{◌≡◌, ◌≤◌, length, take, reverse}
use Rattle.family_log.specs.Log.{newest, ref_in, head_spot}
use Rattle.family_log.specs.Reading.{spot_of}
use Rattle.family_log.proofs.last.last_ref.Given as goal

abbrev pub invariant-entries : goal.invariant-entries
invariant-entries l =
    (l.at ≤ length l.log)
    × (newest (ref_in l.block l.object l.index) (spot_of l.spot) (reverse (take l.at l.log))
    ≡ newest (ref_in l.block l.object l.index) (head_spot l.head) (reverse l.log))

abbrev pub decreases-entries : goal.decreases-entries
decreases-entries l = l.at
