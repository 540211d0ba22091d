use Rattle.shell_run.proofs.CommandLemmas.{performed_one}
use Rattle.shell_run.proofs.answer.perform_one.Goals as goal

pub returns-in-Ok-clause-told : goal.returns-in-Ok-clause-told
returns-in-Ok-clause-told g c =
    performed_one c.args.number c.args.part c.args.host.now c.execute.new.host (g.W.Outside.told c.args.outside.now) (g.W.Outside.told c.execute.new.outside) (g.W.Outside.script c.args.outside.now) (g.W.Outside.script c.execute.new.outside)
    c.args.report.now c.args.command.now c.in-Ok.shown c.push_report.result c.args.output.now.items c.push_report.new.output.items c.in-Ok.ensures.told c.push_report.ensures.text c.push_report.ensures.count c.push_report.ensures.stops

pub returns-in-Err-clause-told : goal.returns-in-Err-clause-told
returns-in-Err-clause-told g c = c.in-Err.ensures.told
