use Rattle.key_machine.proofs.RefusalLaws.{refused_unchanged}
use Rattle.key_machine.proofs.laws.a_refusal_changes_nothing.Goals as goal

pub returns : goal.returns
returns c = refused_unchanged
