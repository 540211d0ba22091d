use Rattle.std.proofs.Common.{◌≡◌, ℕ, ◌+◌, false, Option, Some, is_some, refl, sym, ap, ◌∙◌, subst}
use Rattle.dataset_tree.specs.declared.tree.Row.{Row}
use Rattle.dataset_tree.specs.SetName.{parent_name}
use Rattle.dataset_tree.specs.Tree.{Datasets, IsDatasetOrNone, id_named, parent_in}
use Rattle.dataset_tree.proofs.TreeLemmas.{IsTree-push, no_id_no_row, origin_is_given}
use Rattle.dataset_tree.proofs.tree.Tree.add.Goals as goal

pub invariant_of-self-2 : goal.invariant_of-self-2
invariant_of-self-2 c =
    let t : Datasets = record { rows = c.self.inside.rows.items; last = c.self.inside.last } in
    let IsOrigin : Datasets → Type 0 = λ s. IsDatasetOrNone s c.args.origin in
    let there : IsDatasetOrNone t c.args.origin = subst IsOrigin (sym c.self.view_is) c.requires in
    let HasParent : Datasets → Type 0 = λ s. parent_in s.rows (parent_name c.args.name.now) ≡ Some c.in-Some.parent in
    let found : HasParent t = subst HasParent (sym c.self.view_is) (sym c.in-Some.ensures) in
    let IsNew : Datasets → Type 0 = λ s. is_some (id_named c.args.name.now s.rows) ≡ false in
    let not_found : is_some c.find.result ≡ false = cc in
    let new : IsNew t = subst IsNew (sym c.self.view_is) (ap (λ (o : Option ℕ). is_some o) (sym c.find.ensures) ∙ not_found) in
    let row : Row = record { id = t.last + 1; parent = c.in-Some.parent; name = c.args.name.now; kind = c.args.kind; origin = c.args.origin } in
    rw (c.in_ok-push.ensures.items, c.in_ok-name.ensures) (IsTree-push t row c.self.invariant refl (no_id_no_row c.args.name.now t.rows new) found (origin_is_given t c.args.origin c.self.invariant there))
