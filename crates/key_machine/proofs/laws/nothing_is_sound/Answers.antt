use Rattle.key_machine.proofs.SoundLemmas.{no_keys_sound}
use Rattle.key_machine.proofs.laws.nothing_is_sound.Goals as goal

pub returns : goal.returns
returns c = no_keys_sound
