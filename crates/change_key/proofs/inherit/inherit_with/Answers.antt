use Rattle.std.proofs.Common.{◌≡◌, ℕ, List, Option, Some, None, Ok, refl, ap, sym, ◌∙◌}
use Rattle.dataset_tree.specs.Tree.{Datasets}
use Rattle.encryption_roots.specs.declared.props.Props.{Props}
use Rattle.encryption_roots.specs.Owned.{owned_families}
use Rattle.key_machine.specs.Plain.{Plain}
use Rattle.key_ciphers.specs.Ciphers.{ciphers}
use Rattle.change_key.proofs.FamilyRecords.{families_rise, families_open}
use Rattle.change_key.proofs.InheritLemmas.{told_plan, of_root}
use Rattle.change_key.proofs.inherit.inherit_with.Goals as goal

same_families : (p : Plain) (root : ℕ) (tree : Datasets) (roots : List (ℕ × Props)) (families items : List ℕ) → tree ≡ p.tree → roots ≡ p.roots → items ≡ owned_families tree.rows roots root → families ≡ items
    → families ≡ owned_families p.tree.rows p.roots root
same_families p root tree roots families items tree_is roots_is items_are families_are =
    families_are ∙ items_are ∙ ap (λ (t : Datasets). owned_families t.rows roots root) tree_is ∙ ap (λ (r : List (ℕ × Props)). owned_families p.tree.rows r root) roots_is

pub rewrapped-requires-clause-rising : goal.rewrapped-requires-clause-rising
rewrapped-requires-clause-rising g c =
    let p : Plain = g.V.KeyView.shows c.args.state.now in
    families_rise ciphers p c.requires.sound c.args.id c.args.old.now c.requires.opens p.roots c.args.id (of_root ciphers p c.requires.sound c.args.id c.requires.root c.args.kit.now c.args.old.now c.args.new.now c.requires.opens) c.as_slice.result.now
    (same_families p c.args.id c.tree.result.now c.roots.result.now c.as_slice.result.now c.in_ok-families.families.items c.tree.ensures c.roots.ensures c.in_ok-families.ensures c.as_slice.ensures.value)

pub rewrapped-requires-clause-opened : goal.rewrapped-requires-clause-opened
rewrapped-requires-clause-opened g c =
    let p : Plain = g.V.KeyView.shows c.args.state.now in
    families_open ciphers p c.requires.sound c.args.id c.args.old.now c.requires.opens p.roots c.args.id (of_root ciphers p c.requires.sound c.args.id c.requires.root c.args.kit.now c.args.old.now c.args.new.now c.requires.opens) c.as_slice.result.now
    (same_families p c.args.id c.tree.result.now c.roots.result.now c.as_slice.result.now c.in_ok-families.families.items c.tree.ensures c.roots.ensures c.in_ok-families.ensures c.as_slice.ensures.value)

pub returns-clause-plan : goal.returns-clause-plan
returns-clause-plan g c =
    let p : Plain = g.V.KeyView.shows c.args.state.now in
    told_plan ciphers p c.requires.sound c.args.id c.requires.root c.args.kit.now c.args.old.now c.args.new.now c.requires.opens c.in-Ok.seed c.as_slice.result.now (sym c.seed_got.ensures ∙ c.in-Ok.is)
    (same_families p c.args.id c.tree.result.now c.roots.result.now c.as_slice.result.now c.in_ok-families.families.items c.tree.ensures c.roots.ensures c.in_ok-families.ensures c.as_slice.ensures.value)
    c.new-seed.result c.new-seed.ensures (record { root = c.args.id; props = None; key = None; wrapped = c.in_ok-wrapped.wrapped }) refl refl refl c.in_ok-wrapped.ensures
