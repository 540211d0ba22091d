use Rattle.shell_run.specs.Transcript.{told_world}
use Rattle.shell_run.proofs.RunLemmas.{line_ran, line_not_taken}
use Rattle.shell_run.proofs.run.run_line.Goals as goal

pub returns-in-Ok-clause-told : goal.returns-in-Ok-clause-told
returns-in-Ok-clause-told g c =
    line_ran c.args.host.now (g.W.Outside.told c.args.outside.now) (g.W.Outside.told c.reply_to.new.outside) (g.W.Outside.script c.args.outside.now) (g.W.Outside.script c.take_line.new.self) c.in-Ok.line.items c.reply_to.result
    (told_world c.reply_to.new.host (g.W.Outside.told c.reply_to.new.outside) (g.W.Outside.script c.reply_to.new.outside)) _ _ c.in-Ok.ensures.line
    (rw (c.as_slice.ensures.value, c.next-number.ensures, c.in-Ok.ensures.told) at c.reply_to.ensures.told)

pub returns-in-Err-clause-told : goal.returns-in-Err-clause-told
returns-in-Err-clause-told g c =
    rw c.in-Err.ensures.told
    (line_not_taken c.in-Err.ending c.args.host.now (g.W.Outside.told c.args.outside.now) (g.W.Outside.script c.args.outside.now) (g.W.Outside.script c.take_line.new.self)
    (told_world c.args.host.now (g.W.Outside.told c.args.outside.now) (g.W.Outside.script c.args.outside.now)) (g.O.Sink.taken c.args.out.now) c.in-Err.ensures.none)
