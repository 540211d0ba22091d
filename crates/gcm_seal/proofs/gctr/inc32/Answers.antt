use Rattle.std.proofs.Common.{◌∙◌}
use Rattle.gcm_seal.proofs.Counting.{inc32_more}
use Rattle.gcm_seal.proofs.gctr.inc32.Goals as goal

pub returns : goal.returns
returns c =
    inc32_more c.args.block.now _ c.from_be_bytes-counter.result c.told-block c.from_be_bytes-counter.ensures
    (c.copy_from_slice.ensures.after ∙ c.to_be_bytes.ensures)
