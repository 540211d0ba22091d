use Rattle.std.proofs.Common.{slice_index, bit_and, ◌∙◌}
use Rattle.std.proofs.lemmas.Nat.{and_mask}
use Rattle.aes_block.proofs.LaneLaws.{lanes_with_one}
use Rattle.aes_block.proofs.lanes.low_halves.Goals as goal

pub returns : goal.returns
returns c =
    let lanes = lanes_with_one bit_and c.args.v 15 c.fits-v.0 in
    record { long = lanes.long; each = λ i h. lanes.each i h ∙ and_mask (slice_index c.args.v i) 4 }
