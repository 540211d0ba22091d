use Rattle.shell_run.proofs.KitLemmas.{unasked_acts}
use Rattle.shell_run.proofs.command.fetch_if.Goals as goal

pub returns-in-None-clause-takes : goal.returns-in-None-clause-takes
returns-in-None-clause-takes g c = rw c.in-None.is (unasked_acts c.args.entry (g.W.Outside.told c.args.outside.now) (g.W.Outside.script c.args.outside.now))
