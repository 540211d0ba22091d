use Rattle.std.proofs.Common.{◌-◌, ◌*◌, arith}
use Rattle.byte_blocks.proofs.Cut.{block_from_part}
use Rattle.byte_blocks.proofs.block_at.Goals as goal

pub returns : goal.returns
returns c =
    block_from_part c.args.size c.args.bytes.now c.args.number (c.block_end.result - c.args.size * c.args.number) c.requires (omega arith)
