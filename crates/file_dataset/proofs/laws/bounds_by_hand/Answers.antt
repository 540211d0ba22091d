use Rattle.std.proofs.Common.{refl}
use Rattle.file_blocks.specs.Objects.{count_touched}
use Rattle.file_dataset.proofs.laws.bounds_by_hand.Goals as goal

pub returns-clause-one : goal.returns-clause-one
unfolding count_touched
returns-clause-one c = refl

pub returns-clause-groups : goal.returns-clause-groups
unfolding count_touched
returns-clause-groups c = refl

pub returns-clause-calls : goal.returns-clause-calls
unfolding count_touched
returns-clause-calls c = λ table tree. (refl, refl, refl)
