use Rattle.std.proofs.Common.{refl}
use Rattle.aes_block.specs.Cipher.{rot_word}
use Rattle.aes_block.proofs.schedule.rot_word.Goals as goal

pub returns : goal.returns
unfolding rot_word
returns c = refl
