use Rattle.std.proofs.Common.{arith}
use Rattle.file_dataset.proofs.RowLemmas.{row_put}
use Rattle.file_dataset.proofs.new_rows.put_row.Goals as goal

pub rows-preserved : goal.rows-preserved
rows-preserved c =
    row_put c.args.new.now c.args.rows.now c.rows.rows c.rows.row-index _ c.replaced.result (omega arith) (omega arith) c.rows.invariant c.replaced.ensures
