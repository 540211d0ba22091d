use Rattle.std.proofs.Common.{refl}
use Rattle.file_blocks.specs.Objects.{filled, spliced, count_touched}
use Rattle.file_blocks.proofs.laws.bytes_by_hand.Goals as goal

pub returns-clause-cut : goal.returns-clause-cut
unfolding filled
returns-clause-cut c = refl

pub returns-clause-filled : goal.returns-clause-filled
unfolding filled
returns-clause-filled c = refl

pub returns-clause-spliced : goal.returns-clause-spliced
unfolding filled spliced
returns-clause-spliced c = refl

pub returns-clause-behind : goal.returns-clause-behind
unfolding filled spliced
returns-clause-behind c = refl

pub returns-clause-touched : goal.returns-clause-touched
unfolding count_touched
returns-clause-touched c = (refl, refl, refl)

pub returns-clause-part : goal.returns-clause-part
unfolding filled
returns-clause-part c = refl
