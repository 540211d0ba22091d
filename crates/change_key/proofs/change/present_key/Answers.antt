use Rattle.std.proofs.Common.{◌≡◌, ℕ, List, Option, Some, ap, sym, ◌∙◌}
use Rattle.dataset_tree.specs.Tree.{Datasets}
use Rattle.encryption_roots.specs.declared.props.Props.{Props}
use Rattle.encryption_roots.specs.Owners.{owner}
use Rattle.key_machine.specs.Plain.{Plain, owner_of}
use Rattle.change_key.proofs.KeyLemmas.{root_of_owner}
use Rattle.change_key.proofs.change.present_key.Goals as goal

owner_is : (p : Plain) (id root : ℕ) (tree : Datasets) (roots : List (ℕ × Props)) (found : Option ℕ) → tree ≡ p.tree → roots ≡ p.roots → found ≡ owner tree.rows roots id → found ≡ Some root → owner_of p id ≡ Some root
owner_is p id root tree roots found tree_is roots_is found_is is =
    sym (found_is ∙ ap (λ (t : Datasets). owner t.rows roots id) tree_is ∙ ap (λ (r : List (ℕ × Props)). owner p.tree.rows r id) roots_is) ∙ is

pub root_key-requires-clause-root : goal.root_key-requires-clause-root
root_key-requires-clause-root g c =
    let p : Plain = g.V.KeyView.shows c.args.state.now in
    root_of_owner p.tree.rows p.roots c.in-Some.root c.args.id (owner_is p c.args.id c.in-Some.root c.tree.result.now c.roots.result.now c.owner_of.result c.tree.ensures c.roots.ensures c.owner_of.ensures c.in-Some.is)
