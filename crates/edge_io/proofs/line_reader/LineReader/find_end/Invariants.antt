use Rattle.std.proofs.Common.{◌≡◌, ◌-◌, ◌≤◌, length, take}
use Rattle.std.specs.Io.{StartsWith}
use Rattle.std.specs.Io.KnownBytes.{Keeps}
use Rattle.edge_io.specs.LineEnds.{HasNoFeed}
use Rattle.edge_io.specs.Told.{unread}
use Rattle.edge_io.specs.declared.line_reader.TheConstants.{TOO_LONG}
use Rattle.edge_io.proofs.line_reader.LineReader.find_end.Given as goal

abbrev pub invariant-loop-at : goal.invariant-loop-at
invariant-loop-at g l = record {
  within : l.searched ≤ length l.self;
  before : HasNoFeed (take l.searched l.self);
  begins : StartsWith l.self l.initial.self;
  told : Keeps (unread l.initial.self (g.S.Source.left l.initial.src)) (unread l.self (g.S.Source.left l.src));
  kept : g.S.Source.faults l.src ≡ g.S.Source.faults l.initial.src;
}

abbrev pub decreases-loop-at : goal.decreases-loop-at
decreases-loop-at g l = TOO_LONG - length l.self
