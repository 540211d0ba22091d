use Rattle.std.proofs.Common.{arith, ◌∙◌}
use Rattle.aes_block.proofs.TableLaws.{column_of}
use Rattle.aes_block.proofs.tables.column.Goals as goal

pub returns-clause-column : goal.returns-clause-column
returns-clause-column c = c.to_be_bytes.ensures ∙ column_of c.args.b (omega arith)
