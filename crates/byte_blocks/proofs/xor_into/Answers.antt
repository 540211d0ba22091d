use Rattle.std.proofs.Common.{arith}
use Rattle.byte_blocks.proofs.Xor.{xor_bytes_more}
use Rattle.byte_blocks.proofs.xor_into.Goals as goal

pub loop-i-preserved : goal.loop-i-preserved
loop-i-preserved c =
    xor_bytes_more c.args.bytes.now c.args.others.now c.loop-i.bytes c.loop-i.i (omega arith) (omega arith) c.loop-i.invariant
