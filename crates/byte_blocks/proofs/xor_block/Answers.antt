use Rattle.std.proofs.Common.{◌-◌, ◌*◌, arith}
use Rattle.byte_blocks.proofs.Cut.{xored_written}
use Rattle.byte_blocks.proofs.xor_block.Goals as goal

pub returns : goal.returns
returns g c =
    xored_written g.row.N c.args.number (c.block_end-end.result - g.row.N * c.args.number) c.args.bytes.now c.args.block.now c.xor_into.new.bytes
    c.told-block c.requires (omega arith) c.xor_into.ensures
