use Rattle.std.proofs.Common.{refl}
use Rattle.gcm_seal.specs.Gcm.{lengths_block}
use Rattle.gcm_seal.proofs.ghash.lengths.Goals as goal

pub returns : goal.returns
unfolding lengths_block
returns c =
    rw (c.copy_from_slice-2.ensures.after, c.to_be_bytes-2.ensures, c.copy_from_slice.ensures.after, c.to_be_bytes.ensures) refl
