use Rattle.key_machine.proofs.FairLaws.{keeps}
use Rattle.key_machine.proofs.laws.fair_steps_keep_soundness.Goals as goal

pub returns : goal.returns
returns c = keeps
