use Rattle.shell_run.specs.Transcript.{named_snapshot}
use Rattle.shell_run.proofs.SpotLemmas.{reads_step, snapped, snapped_not}
use Rattle.shell_run.proofs.spot_line.take_snapshot.Goals as goal

pub returns-in-Err-clause-told : goal.returns-in-Err-clause-told
returns-in-Err-clause-told g c =
    snapped_not c.args.number c.args.host.now (g.W.Outside.told c.args.outside.now) (g.W.Outside.told c.fill.new.self) (g.W.Outside.script c.args.outside.now) (g.W.Outside.script c.fill.new.self)
    c.args.name c.in-Err.field-0 c.args.output.now.items c.args.output.now.items (rw c.taking_of.ensures at c.in-Err.ensures.takes)

pub returns-clause-told : goal.returns-clause-told
returns-clause-told g c =
    rw c.in-Ok.ensures.script
    (snapped c.args.number c.args.host.now c.make_snapshot.new.host (g.W.Outside.told c.args.outside.now) (g.W.Outside.told c.fill.new.self) (g.W.Outside.script c.args.outside.now) c.args.name c.in-Ok.seed c.make_snapshot.result
    c.args.output.now.items c.make_snapshot.new.output.items (rw c.taking_of.ensures at c.in-Ok.ensures.takes) c.make_snapshot.ensures)

pub returns-clause-reads : goal.returns-clause-reads
returns-clause-reads g c =
    rw (c.in-Ok.ensures.script, c.in-Ok.ensures.faults)
    (reads_step (g.W.Outside.script c.args.outside.now) (g.W.Outside.faults c.args.outside.now) c.args.number (named_snapshot c.args.host.now c.args.name c.in-Ok.seed) c.make_snapshot.new.host
    c.args.output.now.items c.make_snapshot.new.output.items c.make_snapshot.result c.make_snapshot.ensures)
