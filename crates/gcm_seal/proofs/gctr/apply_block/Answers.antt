use Rattle.std.proofs.Common.{sym, ap, ◌∙◌}
use Rattle.byte_blocks.specs.Blocks.{xor_bytes}
use Rattle.gcm_seal.proofs.Counting.{gctr_one}
use Rattle.gcm_seal.proofs.gctr.apply_block.Goals as goal

pub returns : goal.returns
returns g c =
    let block = c.args.block.now in
    c.xor_into.ensures ∙ ap (xor_bytes block) c.encrypt_block.ensures ∙ sym (gctr_one c.args.cipher.now c.args.initial block c.told-block)
