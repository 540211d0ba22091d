use Rattle.std.proofs.Common.{◌≡◌, Option, Some, subst}
use Rattle.std.specs.Prelude.{IfSome}
use Rattle.family_log.specs.declared.table.TableRow.{TableRow}
use Rattle.family_log.specs.Tables.{IsRow, row_of}
use Rattle.file_dataset.proofs.Sizes.{row_in_form}
use Rattle.file_dataset.proofs.rows.row_of.Goals as goal

pub returns-in-Some-clause-in_form : goal.returns-in-Some-clause-in_form
returns-in-Some-clause-in_form c = λ readable.
    let found : row_of c.args.object c.args.table.now ≡ Some c.in-Some.row.now = cc (c.as_slice.ensures, c.in-Some.ensures) in
    subst (λ (o : Option TableRow). IfSome o (IsRow c.args.table.now.block)) found (row_in_form c.args.table.now c.args.object readable)
