use Rattle.host_state.specs.Hosts.{no_host}
use Rattle.shell_run.proofs.RunLemmas.{made_runs, not_made}
use Rattle.shell_run.proofs.run.run_limited.Goals as goal

pub returns-in-Ok-clause-told : goal.returns-in-Ok-clause-told
returns-in-Ok-clause-told g c = made_runs _ (no_host g.B.Shelf.tells c.args.limit) _ c.run_script.result _ _ _ _ c.in-Ok.ensures.made.1 c.run_script.ensures.told

pub returns-in-Err-clause-told : goal.returns-in-Err-clause-told
returns-in-Err-clause-told g c = not_made c.in-Err.ending _ _ _ c.in-Err.ensures.none
