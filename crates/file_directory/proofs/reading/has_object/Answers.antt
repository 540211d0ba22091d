use Rattle.std.proofs.Common.{◌==◌, ◌∙◌, List, ap}
use Rattle.std.specs.List.{list_any}
use Rattle.family_log.specs.declared.table.TableRow.{TableRow}
use Rattle.file_directory.proofs.FormLemmas.{any_is_found}
use Rattle.file_directory.proofs.reading.has_object.Goals as goal

pub returns : goal.returns
returns c =
    c.is_in_rows.ensures ∙ ap (λ (rows : List TableRow). list_any (λ row. row.object == c.args.object) rows) c.as_slice.ensures
    ∙ any_is_found (λ (row : TableRow). row.object == c.args.object) c.args.table.now.rows
