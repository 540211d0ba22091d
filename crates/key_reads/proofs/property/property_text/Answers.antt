use Rattle.std.proofs.Common.{◌≡◌, ℕ, Some, ap, sym, ◌∙◌}
use Rattle.std.specs.Option.{option_map}
use Rattle.dataset_tree.specs.Tree.{Datasets, row_of}
use Rattle.encryption_roots.specs.ById.{at_id}
use Rattle.encryption_roots.specs.Owners.{family}
use Rattle.key_machine.specs.Plain.{Plain, Stored}
use Rattle.key_machine.proofs.DestroyLaws.{row_is}
use Rattle.key_reads.proofs.property.property_text.Goals as goal

pub push_crypt-requires : goal.push_crypt-requires
push_crypt-requires g c =
    let now : Plain = g.V.KeyView.shows c.args.state.now in
    let there : row_of c.args.id now.tree.rows ≡ Some c.in-Some.row.now = ap (λ (t : Datasets). row_of c.args.id t.rows) (sym c.tree.ensures) ∙ sym c.in-Some.ensures.row in
    c.requires ∙ ap (λ (n : ℕ). option_map (λ (stored : Stored). stored.block) (at_id (family now.tree.rows n) now.wrapped)) (sym (row_is c.args.id now.tree.rows c.in-Some.row.now there))
