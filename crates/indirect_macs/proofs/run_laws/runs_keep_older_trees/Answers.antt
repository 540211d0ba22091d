use Rattle.std.proofs.Common.{length}
use Rattle.indirect_macs.specs.Runs.{old_of, puts_of}
use Rattle.indirect_macs.proofs.Growth.{walk-grown}
use Rattle.indirect_macs.proofs.run_laws.runs_keep_older_trees.Goals as goal

pub returns : goal.returns
returns c = λ held record_size run index below top found is. walk-grown held (puts_of run (old_of held record_size run) (length held)) record_size index below top found is
