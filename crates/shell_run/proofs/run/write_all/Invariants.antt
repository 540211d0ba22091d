use Rattle.std.proofs.Common.{◌≡◌, length}
use Rattle.shell_run.proofs.WritingLemmas.{Writing}
use Rattle.shell_run.proofs.run.write_all.Given as goal

-- what the sink has taken and what is to come are the bytes, and no call has failed
abbrev pub invariant-loop-rest : goal.invariant-loop-rest
invariant-loop-rest g l = record {
  writing : Writing l.fn.bytes l.rest (g.O.Sink.taken l.fn.out) (g.O.Sink.taken l.out);
  faults : g.O.Sink.faults l.out ≡ g.O.Sink.faults l.fn.out;
}

abbrev pub decreases-loop-rest : goal.decreases-loop-rest
decreases-loop-rest g l = length l.rest
