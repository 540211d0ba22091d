use Rattle.shell_run.proofs.TakingLemmas.{agrees_failures}
use Rattle.shell_run.proofs.laws.failures_tell_what_failed.Goals as goal

pub returns : goal.returns
returns c = agrees_failures
