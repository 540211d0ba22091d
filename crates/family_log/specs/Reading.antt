-- What the borrowed parts of log entries stand for.
use Rattle.std.specs.Option.{option_copied}
use Rattle.family_log.specs.declared.entry.Spot.{Spot}
use Rattle.family_log.specs.Log.{Changes}
use Rattle.family_log.specs.declared.last.SpotRef.{SpotRef}
use Rattle.family_log.specs.declared.last.ChangesRef.{ChangesRef}

abbrev pub spot_of : SpotRef → Spot
spot_of spot = record { head = spot.head; snap = option_copied spot.snap }

abbrev pub changes_of : ChangesRef → Changes
changes_of changes = record { head = changes.head; lengths = changes.lengths.now; refs = changes.refs.now }
