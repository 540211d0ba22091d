use Rattle.std.proofs.Common.{◌≡◌, ◌-◌, true, is_some}
use Rattle.shell_run.specs.Progress.{RunsFrom}
use Rattle.shell_run.specs.Transcript.{told_world}
use Rattle.shell_run.proofs.RunLemmas.{Before, HasReached}
use Rattle.shell_run.proofs.run.run_lines.Given as goal

-- the lines so far are answered, and neither script nor output has failed
abbrev pub invariant-lines : goal.invariant-lines
invariant-lines g l = record {
  reached : RunsFrom (Before (g.W.Outside.script l.outside).next) (g.W.Outside.told l.fn.outside) (g.W.Outside.told l.outside)
      (HasReached (told_world l.fn.host (g.W.Outside.told l.fn.outside) (g.W.Outside.script l.fn.outside)) (told_world l.host (g.W.Outside.told l.outside) (g.W.Outside.script l.outside))
      (g.O.Sink.taken l.fn.out) (g.O.Sink.taken l.out));
  ahead : is_some (g.W.Outside.script l.fn.outside).ahead ≡ true → is_some (g.W.Outside.script l.outside).ahead ≡ true;
  source : g.W.Outside.faults l.outside ≡ g.W.Outside.faults l.fn.outside;
  sink : g.O.Sink.faults l.out ≡ g.O.Sink.faults l.fn.out;
  holds : g.W.Outside.holds l.outside ≡ g.W.Outside.holds l.fn.outside;
}

abbrev pub decreases-lines : goal.decreases-lines
decreases-lines g l = 1048577 - (g.W.Outside.script l.outside).next
