use Rattle.std.proofs.Common.{◌≤◌, List, ℕ, Some, arith}
use Rattle.file_blocks.proofs.Taking.{front_hole, front_whole, front_cut, front_stopped, of_some}
use Rattle.file_blocks.proofs.taken.front_from.Goals as goal

pub returns-in_default-clause-told : goal.returns-in_default-clause-told
returns-in_default-clause-told g c = λ small.
    front_hole _ c.args.index c.args.left c.args.found.now (g.B.Shelf.told c.args.shelf.now).held c.in_default.is

pub returns-then-r-left-clause-told : goal.returns-then-r-left-clause-told
returns-then-r-left-clause-told g c = λ small.
    front_whole _ c.args.index c.args.left c.args.found.now c.in-Some.r (g.B.Shelf.told c.args.shelf.now).held c.in-Some.is c.if-r-left.true

pub returns-in-Ok-clause-told : goal.returns-in-Ok-clause-told
returns-in-Ok-clause-told g c = λ small.
    front_cut _ c.args.index c.args.left c.args.found.now c.in-Some.r c.in-Ok.text.items _ (g.B.Shelf.told c.args.shelf.now).held
    c.in-Some.is (omega (arith, c.if-r-left.false)) c.truncate.ensures.items
    (c.in-Ok.ensures.told (of_some c.args.found.now c.in-Some.r (λ r. r.size ≤ c.args.block) c.in-Some.is small))

pub returns-in-Err-clause-told : goal.returns-in-Err-clause-told
returns-in-Err-clause-told g c = λ small.
    front_stopped {X = List ℕ} {Y = List ℕ} _ c.args.index c.args.left c.args.found.now c.in-Some.r (λ text. text) (λ text. Some text) c.in-Err.stop (g.B.Shelf.told c.args.shelf.now).held
    c.in-Some.is (omega (arith, c.if-r-left.false))
    (c.in-Err.ensures.told (of_some c.args.found.now c.in-Some.r (λ r. r.size ≤ c.args.block) c.in-Some.is small))
