use Rattle.std.proofs.Common.{arith}
use Rattle.aes_block.proofs.TowerLaws.{sbox-table}
use Rattle.aes_block.proofs.field.sbox_by_table.Goals as goal

pub returns : goal.returns
returns c = sbox-table c.args.b (omega arith)
