use Rattle.std.proofs.Common.{◌%◌, take, get_or-take, length-take-le, ◌∙◌, arith}
use Rattle.aes_block.proofs.LaneLaws.{lanes_twice}
use Rattle.aes_block.proofs.lanes.side_by_side.Goals as goal

pub returns : goal.returns
returns c =
    let lanes = lanes_twice (take 16 c.args.block.now) (length-take-le 16 _ (omega arith)) in
    record { long = lanes.long; each = λ i h. lanes.each i h ∙ get_or-take 16 c.args.block.now (i % 16) 0 (omega arith) }
