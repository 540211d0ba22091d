use Rattle.std.proofs.Common.{refl}
use Rattle.aes_block.specs.Cipher.{sub_word}
use Rattle.aes_block.proofs.schedule.sub_word.Goals as goal

pub returns : goal.returns
unfolding sub_word
returns c = rw (c.sbox_by_table.ensures, c.sbox_by_table-2.ensures, c.sbox_by_table-3.ensures, c.sbox_by_table-4.ensures) refl
