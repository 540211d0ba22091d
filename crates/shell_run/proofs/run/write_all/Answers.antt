use Rattle.std.proofs.Common.{◌∙◌}
use Rattle.shell_run.proofs.WritingLemmas.{writing_more}
use Rattle.shell_run.proofs.run.write_all.Goals as goal

pub loop-rest-preserved : goal.loop-rest-preserved
loop-rest-preserved g c = record {
  writing = writing_more c.in_ok-count.count c.args.bytes.now c.loop-rest.rest.now _ _ _ c.loop-rest.invariant.writing c.in_ok-count.ensures.appended;
  faults = c.in_ok-count.ensures.cause.kept ∙ c.loop-rest.invariant.faults;
}
