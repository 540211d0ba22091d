use Rattle.indirect_macs.proofs.RunBytes.{after_bytes, run_fold, walked_node}
use Rattle.indirect_macs.proofs.run_laws.runs_keep_bytes.Goals as goal

pub returns-clause-bytes : goal.returns-clause-bytes
returns-clause-bytes c = after_bytes

pub returns-clause-folds : goal.returns-clause-folds
returns-clause-folds c = run_fold

pub returns-clause-walked : goal.returns-clause-walked
returns-clause-walked c = walked_node
