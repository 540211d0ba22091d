use Rattle.shell_run.proofs.RunLemmas.{closes}
use Rattle.shell_run.proofs.run.write_last.Goals as goal

pub returns-clause-told : goal.returns-clause-told
returns-clause-told g c = closes c.write_all.result c.args.line.now _ _ _ _ c.write_all.ensures.written c.write_all.ensures.part c.write_all.ensures.cause
