use Rattle.std.proofs.Common.{◌≤◌, sym, ◌∙◌}
use Rattle.file_blocks.proofs.Taking.{hole_taken, past_taken, part_taken, of_some}
use Rattle.file_blocks.proofs.taken.take_from.Goals as goal

pub returns-in_default-clause-told : goal.returns-in_default-clause-told
returns-in_default-clause-told g c = λ small.
    hole_taken _ c.args.index c.args.start c.args.end c.args.found.now c.new.result.items (g.B.Shelf.told c.args.shelf.now).held c.in_default.is c.new.ensures.items

pub returns-then-not-is_partial-clause-told : goal.returns-then-not-is_partial-clause-told
returns-then-not-is_partial-clause-told g c = λ small.
    past_taken _ c.args.index c.args.start c.args.end c.args.found.now c.in-Some.r c.new-then-not-is_partial.result.items (g.B.Shelf.told c.args.shelf.now).held
    c.in-Some.is (sym c.is_partial.ensures ∙ c.if-not-is_partial.true) c.new-then-not-is_partial.ensures.items

pub returns-clause-told : goal.returns-clause-told
returns-clause-told g c = λ small.
    part_taken _ c.args.index c.args.start c.args.end c.args.found.now c.in-Some.r (λ text. text.items) _ (g.B.Shelf.told c.args.shelf.now).held
    c.in-Some.is (sym c.is_partial.ensures ∙ c.if-not-is_partial.false)
    (c.open_whole.ensures.told (of_some c.args.found.now c.in-Some.r (λ r. r.size ≤ c.args.block) c.in-Some.is small))
