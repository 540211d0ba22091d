use Rattle.std.proofs.Common.{◌≡◌, true, false, is_some, sym, ◌∙◌}
use Rattle.encryption_roots.specs.Roots.{props_of}
use Rattle.encryption_roots.specs.Owners.{IsRowOf}
use Rattle.encryption_roots.proofs.OwnerLemmas.{owner_of_root, owner_of_other, next_falls}
use Rattle.encryption_roots.proofs.owners.owner_of.Goals as goal

pub returns-in-Crypt : goal.returns-in-Crypt
returns-in-Crypt c =
    let there : IsRowOf c.args.tree.now c.loop-row.at c.in-Some.row.now = (c.row.ensures.tree, sym c.in-Some.ensures.row) in
    let root : is_some (props_of c.loop-row.at c.args.roots.now) ≡ true = cc in
    sym (owner_of_root c.args.tree.now c.args.roots.now c.loop-row.at c.in-Some.row.now there c.in-Crypt.is root) ∙ c.loop-row.invariant

pub loop-row-smaller : goal.loop-row-smaller
loop-row-smaller c =
    let there : IsRowOf c.args.tree.now c.loop-row.at c.in-Some.row.now = (c.row.ensures.tree, sym c.in-Some.ensures.row) in
    rw c.next_to_owner-at.ensures (next_falls c.args.tree.now c.loop-row.at c.in-Some.row.now there)

pub loop-row-preserved : goal.loop-row-preserved
loop-row-preserved c =
    let there : IsRowOf c.args.tree.now c.loop-row.at c.in-Some.row.now = (c.row.ensures.tree, sym c.in-Some.ensures.row) in
    let none : is_some (props_of c.loop-row.at c.args.roots.now) ≡ false = cc in
    rw c.next_to_owner-at.ensures (sym (owner_of_other c.args.tree.now c.args.roots.now c.loop-row.at c.in-Some.row.now there c.in-Crypt-2.is none) ∙ c.loop-row.invariant)
