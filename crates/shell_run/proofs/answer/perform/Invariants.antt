use Rattle.std.proofs.Common.{◌≡◌, ◌≤◌, None, drop}
use Rattle.shell_run.specs.Answers.{Reads}
use Rattle.shell_run.specs.Transcript.{told_world}
use Rattle.shell_run.proofs.PerformLemmas.{PerformsTo}
use Rattle.shell_run.proofs.answer.perform.Given as goal

-- the commands so far are carried out
abbrev pub invariant-loop-command : goal.invariant-loop-command
invariant-loop-command g l = record {
  so_far : PerformsTo l.number l.report (g.W.Outside.told l.fn.outside) (g.W.Outside.told l.outside)
      (told_world l.fn.host (g.W.Outside.told l.fn.outside) (g.W.Outside.script l.fn.outside)) (told_world l.host (g.W.Outside.told l.outside) (g.W.Outside.script l.outside))
      l.commands (drop l.command-index l.commands) l.tried l.well l.fn.output.items l.output.items;
  tried : l.tried ≡ l.command-index;
  well : l.well ≤ l.tried;
  reads : Reads None (g.W.Outside.script l.fn.outside) (g.W.Outside.script l.outside) (g.W.Outside.faults l.fn.outside) (g.W.Outside.faults l.outside);
  holds : g.W.Outside.holds l.outside ≡ g.W.Outside.holds l.fn.outside;
}
