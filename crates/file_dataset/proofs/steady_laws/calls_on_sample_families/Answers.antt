use Rattle.std.proofs.Common.{refl}
use Rattle.file_dataset.specs.Steady.{fitting}
use Rattle.file_dataset.proofs.steady_laws.calls_on_sample_families.Goals as goal

pub returns-clause-crowded : goal.returns-clause-crowded
unfolding fitting
returns-clause-crowded c = λ family change. refl

pub returns-clause-node : goal.returns-clause-node
unfolding fitting
returns-clause-node c = λ family change. refl

pub returns-clause-all : goal.returns-clause-all
unfolding fitting
returns-clause-all c = λ family change. refl
