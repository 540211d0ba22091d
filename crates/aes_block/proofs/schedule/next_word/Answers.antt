use Rattle.std.proofs.Common.{refl}
use Rattle.aes_block.specs.Cipher.{next_word}
use Rattle.aes_block.proofs.schedule.next_word.Goals as goal

pub returns : goal.returns
unfolding next_word
returns c = rw (c.add_words.ensures, c.temp-temp.ensures, c.word.ensures, c.word-2.ensures) refl
