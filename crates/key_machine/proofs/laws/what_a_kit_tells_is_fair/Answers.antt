use Rattle.key_machine.proofs.FairLaws.{told_fair}
use Rattle.key_machine.proofs.laws.what_a_kit_tells_is_fair.Goals as goal

pub returns : goal.returns
returns c = told_fair
