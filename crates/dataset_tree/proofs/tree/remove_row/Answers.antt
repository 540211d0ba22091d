use Rattle.std.proofs.Common.{◌==◌, not, rules}
use Rattle.std.proofs.lemmas.Fn.{filter_same}
use Rattle.dataset_tree.specs.declared.tree.Row.{Row}
use Rattle.dataset_tree.proofs.tree.remove_row.Goals as goal

pub returns : goal.returns
returns c =
    filter_same _ (λ (row : Row). not (row.id == c.args.id)) _ (λ x b f' k. search rules) c.args.rows.now.items c.retain.new.self.items c.retain.ensures.filtered
