use Rattle.std.proofs.Common.{arith}
use Rattle.indirect_macs.specs.RunFields.{run_of}
use Rattle.indirect_macs.proofs.RunReading.{above_first, above_none}
use Rattle.indirect_macs.proofs.children.found_above.Goals as goal
use Rattle.indirect_macs.proofs.children.found_above.Goals.{else-level-run-via-then-level-run+else-index-eq0, else-level-run-via-else-level-run}

pub returns-then-index-eq0 : goal.returns-then-index-eq0
returns-then-index-eq0 c = λ held.
    above_first held c.args.run.now.block (run_of c.args.run.now) c.args.level c.args.index (omega arith) (omega arith)

pub returns-else-level-run : goal.returns-else-level-run
returns-else-level-run c = λ held.
    above_none held c.args.run.now.block (run_of c.args.run.now) c.args.level c.args.index (omega arith)
    (λ next. elim c.else-level-run.branch [
      | else-level-run-via-then-level-run+else-index-eq0 w ↦ omega arith
      | else-level-run-via-else-level-run w ↦ absurd (omega arith)
    ])
