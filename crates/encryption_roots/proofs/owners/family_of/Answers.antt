use Rattle.std.proofs.Common.{sym, ◌∙◌}
use Rattle.encryption_roots.specs.Owners.{IsRowOf}
use Rattle.encryption_roots.proofs.OwnerLemmas.{family_of_clone, ids_fall}
use Rattle.encryption_roots.proofs.owners.family_of.Goals as goal

pub loop-row-smaller : goal.loop-row-smaller
loop-row-smaller c =
    let there : IsRowOf c.args.tree.now c.loop-row.at c.in-Some.row.now = (c.row.ensures.tree, sym c.in-Some.ensures.row) in
    (ids_fall c.args.tree.now c.loop-row.at c.in-Some.row.now there).1

pub loop-row-preserved : goal.loop-row-preserved
loop-row-preserved c =
    let there : IsRowOf c.args.tree.now c.loop-row.at c.in-Some.row.now = (c.row.ensures.tree, sym c.in-Some.ensures.row) in
    sym (family_of_clone c.args.tree.now c.loop-row.at c.in-Some.row.now there c.if-row-ne0.true) ∙ c.loop-row.invariant
