use Rattle.indirect_macs.proofs.RunUnchanged.{nothing_put}
use Rattle.indirect_macs.proofs.run_laws.runs_put_only_changes.Goals as goal

pub returns : goal.returns
returns c = nothing_put
