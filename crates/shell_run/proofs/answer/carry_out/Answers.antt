use Rattle.host_state.specs.SpotLines.{clone_step}
use Rattle.shell_run.specs.Jobs.{on_snapshot}
use Rattle.shell_run.specs.Transcript.{destroyed}
use Rattle.shell_run.proofs.PerformLemmas.{carried, carried_not, reads_none, served}
use Rattle.shell_run.proofs.SpotLemmas.{cloned, gone, of_job, reads_step}
use Rattle.shell_run.proofs.TaskLemmas.{task_of_line}
use Rattle.shell_run.proofs.answer.carry_out.Goals as goal

pub perform-requires-clause-of_line : goal.perform-requires-clause-of_line
perform-requires-clause-of_line g c = task_of_line c.args.host.now.keys c.args.line.now c.in-Ok-Keys.task c.as_slice.result.now c.requires (rw c.in-Ok-Keys.field-0-is at c.in-Ok-Keys.ensures) c.as_slice.ensures.value

pub returns-in-Ok-Keys-clause-told : goal.returns-in-Ok-Keys-clause-told
returns-in-Ok-Keys-clause-told g c =
    carried c.args.number c.args.host.now c.perform.new.host (g.W.Outside.told c.args.outside.now) (g.W.Outside.told c.perform.new.outside) (g.W.Outside.script c.args.outside.now) (g.W.Outside.script c.perform.new.outside)
    c.args.line.now c.in-Ok-Keys.task c.as_slice.result.now c.perform.result c.args.output.now.items c.perform.new.output.items (rw c.in-Ok-Keys.field-0-is at c.in-Ok-Keys.ensures) c.as_slice.ensures.value c.perform.ensures.told

pub returns-in-Ok-Files-clause-told : goal.returns-in-Ok-Files-clause-told
returns-in-Ok-Files-clause-told g c =
    served c.args.number c.args.host.now c.serve.new.host (g.W.Outside.told c.args.outside.now) (g.W.Outside.script c.args.outside.now) c.args.line.now c.in-Ok-Files.command c.serve.result c.args.output.now.items c.serve.new.output.items
    (rw c.in-Ok-Files.field-0-is at c.in-Ok-Files.ensures) c.serve.ensures.state c.serve.ensures.text c.serve.ensures.tells c.serve.ensures.stops

pub returns-in-Ok-Files-clause-reads : goal.returns-in-Ok-Files-clause-reads
returns-in-Ok-Files-clause-reads g c = reads_none (g.W.Outside.script c.args.outside.now) (g.W.Outside.faults c.args.outside.now) c.serve.result c.serve.ensures.stops

pub returns-in-Ok-Snapshot-clause-told : goal.returns-in-Ok-Snapshot-clause-told
returns-in-Ok-Snapshot-clause-told g c =
    of_job c.args.number c.args.host.now c.take_snapshot.new.host (g.W.Outside.told c.args.outside.now) (g.W.Outside.told c.take_snapshot.new.outside) (g.W.Outside.script c.args.outside.now) (g.W.Outside.script c.take_snapshot.new.outside)
    c.args.line.now (on_snapshot c.in-Ok-Snapshot.name) c.take_snapshot.result c.args.output.now.items c.take_snapshot.new.output.items (rw c.in-Ok-Snapshot.field-0-is at c.in-Ok-Snapshot.ensures) c.take_snapshot.ensures.told

pub returns-in-Ok-Clone-clause-told : goal.returns-in-Ok-Clone-clause-told
returns-in-Ok-Clone-clause-told g c =
    cloned c.args.number c.args.host.now c.make_clone.new.host (g.W.Outside.told c.args.outside.now) (g.W.Outside.script c.args.outside.now) c.args.line.now c.in-Ok-Clone.from c.in-Ok-Clone.name c.make_clone.result
    c.args.output.now.items c.make_clone.new.output.items (rw c.in-Ok-Clone.field-0-is at c.in-Ok-Clone.ensures) c.make_clone.ensures

pub returns-in-Ok-Clone-clause-reads : goal.returns-in-Ok-Clone-clause-reads
returns-in-Ok-Clone-clause-reads g c =
    reads_step (g.W.Outside.script c.args.outside.now) (g.W.Outside.faults c.args.outside.now) c.args.number (clone_step c.args.host.now c.in-Ok-Clone.from.set c.in-Ok-Clone.from.snap c.in-Ok-Clone.name) c.make_clone.new.host
    c.args.output.now.items c.make_clone.new.output.items c.make_clone.result c.make_clone.ensures

pub returns-in-Ok-Destroy-clause-told : goal.returns-in-Ok-Destroy-clause-told
returns-in-Ok-Destroy-clause-told g c =
    gone c.args.number c.args.host.now c.destroy.new.host (g.W.Outside.told c.args.outside.now) (g.W.Outside.script c.args.outside.now) c.args.line.now c.in-Ok-Destroy.spot c.destroy.result
    c.args.output.now.items c.destroy.new.output.items (rw c.in-Ok-Destroy.field-0-is at c.in-Ok-Destroy.ensures) c.destroy.ensures

pub returns-in-Ok-Destroy-clause-reads : goal.returns-in-Ok-Destroy-clause-reads
returns-in-Ok-Destroy-clause-reads g c =
    reads_step (g.W.Outside.script c.args.outside.now) (g.W.Outside.faults c.args.outside.now) c.args.number (destroyed c.args.host.now c.in-Ok-Destroy.spot) c.destroy.new.host
    c.args.output.now.items c.destroy.new.output.items c.destroy.result c.destroy.ensures

pub returns-in-Err-clause-told : goal.returns-in-Err-clause-told
returns-in-Err-clause-told g c =
    carried_not c.args.number c.args.host.now (g.W.Outside.told c.args.outside.now) (g.W.Outside.script c.args.outside.now) c.args.line.now c.args.output.now.items c.args.output.now.items
