use Rattle.std.proofs.Common.{◌≡◌, ℕ, List, Option, Some, None, Ok, ap, sym, ◌∙◌}
use Rattle.dataset_tree.specs.Tree.{Datasets}
use Rattle.encryption_roots.specs.declared.props.Props.{Props}
use Rattle.encryption_roots.specs.ById.{at_id}
use Rattle.encryption_roots.specs.Owned.{owned_families}
use Rattle.key_machine.specs.Plain.{Plain}
use Rattle.key_ciphers.specs.Ciphers.{ciphers}
use Rattle.change_key.specs.Keys.{unless_wrong}
use Rattle.change_key.proofs.KeyLemmas.{tested_is}
use Rattle.change_key.proofs.present.fetched_root_key.Goals as goal

same_families : (p : Plain) (root : ℕ) (tree : Datasets) (roots : List (ℕ × Props)) (families items : List ℕ) → tree ≡ p.tree → roots ≡ p.roots → items ≡ owned_families tree.rows roots root → families ≡ items
    → families ≡ owned_families p.tree.rows p.roots root
same_families p root tree roots families items tree_is roots_is items_are families_are =
    families_are ∙ items_are ∙ ap (λ (t : Datasets). owned_families t.rows roots root) tree_is ∙ ap (λ (r : List (ℕ × Props)). owned_families p.tree.rows r root) roots_is

pub returns-in-None : goal.returns-in-None
returns-in-None g c =
    let p : Plain = g.V.KeyView.shows c.args.state.now in
    let own : Some c.in-Some.props.now ≡ at_id c.args.root p.roots = c.in-Some.ensures ∙ ap (λ (r : List (ℕ × Props)). at_id c.args.root r) c.roots.ensures in
    let families = same_families p c.args.root c.tree.result.now c.roots-2.result.now c.as_slice.result.now c.in_ok-families.families.items c.tree.ensures c.roots-2.ensures c.in_ok-families.ensures c.as_slice.ensures.value in
    tested_is ciphers p c.requires.sound.tree c.args.root c.in-Some.props.now c.args.fetched.now c.in-Ok.key c.as_slice.result.now c.first_wrong.result own (sym c.in-Ok.is ∙ c.fetched_key.ensures) families c.first_wrong.ensures
    ∙ ap (λ (o : Option ℕ). unless_wrong c.in-Ok.key o) c.in-None.is

pub returns : goal.returns
returns g c =
    let p : Plain = g.V.KeyView.shows c.args.state.now in
    let own : Some c.in-Some.props.now ≡ at_id c.args.root p.roots = c.in-Some.ensures ∙ ap (λ (r : List (ℕ × Props)). at_id c.args.root r) c.roots.ensures in
    let families = same_families p c.args.root c.tree.result.now c.roots-2.result.now c.as_slice.result.now c.in_ok-families.families.items c.tree.ensures c.roots-2.ensures c.in_ok-families.ensures c.as_slice.ensures.value in
    tested_is ciphers p c.requires.sound.tree c.args.root c.in-Some.props.now c.args.fetched.now c.in-Ok.key c.as_slice.result.now c.first_wrong.result own (sym c.in-Ok.is ∙ c.fetched_key.ensures) families c.first_wrong.ensures
    ∙ ap (λ (o : Option ℕ). unless_wrong c.in-Ok.key o) c.in-Some-first_wrong.is
