use Rattle.std.proofs.Common.{◌≡◌, ◌==◌, false, sym, ◌∙◌, arith}
use Rattle.std.proofs.lemmas.Bool.Decides.{nat_tests}
use Rattle.encryption_roots.specs.Owners.{IsRowOf}
use Rattle.encryption_roots.proofs.OwnerLemmas.{ids_fall}
use Rattle.encryption_roots.proofs.OwnedLemmas.{below_of_row}
use Rattle.encryption_roots.proofs.owned.is_below.Goals as goal

pub loop-row-smaller : goal.loop-row-smaller
loop-row-smaller c =
    let there : IsRowOf c.args.tree.now c.loop-row.at c.in-Some.row.now = (c.row.ensures.tree, sym c.in-Some.ensures.row) in
    (ids_fall c.args.tree.now c.loop-row.at c.in-Some.row.now there).0

pub loop-row-preserved : goal.loop-row-preserved
loop-row-preserved c =
    let there : IsRowOf c.args.tree.now c.loop-row.at c.in-Some.row.now = (c.row.ensures.tree, sym c.in-Some.ensures.row) in
    let other : (c.loop-row.at == c.args.top) ≡ false = grind (arith, nat_tests) in
    sym (rw other at (below_of_row c.args.tree.now c.args.top c.loop-row.at c.in-Some.row.now there)) ∙ c.loop-row.invariant
