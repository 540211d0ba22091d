use Rattle.std.proofs.Common.{◌*◌, ◌%◌}
use Rattle.aes_block.proofs.LaneLaws.{moves_fit, lanes_moved}
use Rattle.aes_block.proofs.lanes.moved.Goals as goal

pub swizzle : goal.swizzle
swizzle c = moves_fit c.args.rows.now _ (16 * (c.args.round % 4)) c.table_row.ensures c.requires

pub returns : goal.returns
returns c = lanes_moved c.args.v c.args.rows.now _ (16 * (c.args.round % 4)) c.table_row.ensures c.requires
