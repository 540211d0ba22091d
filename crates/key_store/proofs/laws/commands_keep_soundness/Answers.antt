use Rattle.key_store.proofs.CreateLemmas.{command_sound}
use Rattle.key_store.proofs.laws.commands_keep_soundness.Goals as goal

pub returns : goal.returns
returns c = command_sound
