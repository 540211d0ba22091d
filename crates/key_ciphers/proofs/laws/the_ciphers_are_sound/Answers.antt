use Rattle.key_ciphers.proofs.CipherLaws.{ciphers_sound}
use Rattle.key_ciphers.proofs.laws.the_ciphers_are_sound.Goals as goal

pub returns : goal.returns
returns c = ciphers_sound
