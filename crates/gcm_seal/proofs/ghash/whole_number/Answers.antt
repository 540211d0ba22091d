use Rattle.std.proofs.Common.{ap, ◌∙◌}
use Rattle.gcm_seal.specs.Gcm.{number_of}
use Rattle.gcm_seal.proofs.Hashing.{number_of_block}
use Rattle.gcm_seal.proofs.ghash.whole_number.Goals as goal

pub returns : goal.returns
returns c =
    number_of_block _ c.from_be_bytes.result c.from_be_bytes.ensures ∙ ap number_of c.copy_from_slice.ensures.after
