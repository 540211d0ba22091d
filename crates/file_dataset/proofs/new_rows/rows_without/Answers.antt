use Rattle.std.proofs.Common.{◌==◌, not, ap, ◌∙◌, rules}
use Rattle.std.proofs.lemmas.Fn.{filter_same}
use Rattle.family_log.specs.declared.table.TableRow.{TableRow}
use Rattle.file_dataset.specs.Changes.{without_row}
use Rattle.file_dataset.proofs.new_rows.rows_without.Goals as goal

pub returns : goal.returns
returns c =
    filter_same _ (λ (row : TableRow). not (row.object == c.args.object)) _ (λ x b f' k. search rules) c.in_ok-list.list.items c.retain.new.self.items
    c.retain.ensures.filtered ∙ ap (without_row c.args.object) c.in_ok-list.ensures.items
