use Rattle.std.proofs.Common.{sym, arith}
use Rattle.file_dataset.proofs.RowLemmas.{greatest_is_last}
use Rattle.file_dataset.proofs.new_rows.greatest_object.Goals as goal

pub returns-in-Some : goal.returns-in-Some
returns-in-Some c =
    let last = c.in-Some.ensures in
    greatest_is_last c.args.rows.now _ c.in-Some.row.now c.requires (sym last.value) (omega (arith, last.item.3.0))
