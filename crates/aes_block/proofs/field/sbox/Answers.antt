use Rattle.std.proofs.Common.{ap, ◌∙◌}
use Rattle.aes_block.specs.Cipher.{affine, sbox}
use Rattle.aes_block.proofs.field.sbox.Goals as goal

pub returns : goal.returns
unfolding sbox
returns c = c.affine.ensures ∙ ap affine c.inverse.ensures
