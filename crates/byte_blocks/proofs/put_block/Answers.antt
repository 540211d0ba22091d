use Rattle.std.proofs.Common.{◌-◌, ◌*◌, arith}
use Rattle.byte_blocks.proofs.Cut.{block_written}
use Rattle.byte_blocks.proofs.put_block.Goals as goal

pub returns : goal.returns
returns g c =
    block_written c.args.bytes.now c.args.block.now _ (g.row.N * c.args.number) (c.block_end-end.result - g.row.N * c.args.number)
    (omega arith) (omega arith) c.copy_from_slice.ensures.after
