use Rattle.std.proofs.Common.{◌≡◌, false}
use Rattle.dataset_tree.specs.Tree.{Datasets, is_needed}
use Rattle.dataset_tree.proofs.RemoveLemmas.{IsTree-without_row}
use Rattle.dataset_tree.proofs.tree.Tree.remove.Goals as goal

pub invariant_of-self : goal.invariant_of-self
invariant_of-self c =
    let t : Datasets = record { rows = c.self.inside.rows.items; last = c.self.inside.last } in
    let free : is_needed c.args.id t.rows ≡ false = cc in
    rw c.remove_row.ensures (IsTree-without_row t c.args.id c.self.invariant free)
