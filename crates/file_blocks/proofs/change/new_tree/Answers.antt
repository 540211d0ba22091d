use Rattle.file_blocks.proofs.Changing.{changes_none}
use Rattle.file_blocks.proofs.change.new_tree.Goals as goal

pub returns-then-plan-clause-changes : goal.returns-then-plan-clause-changes
returns-then-plan-clause-changes g c = changes_none _ _ c.args.plan.now.tree (g.B.Shelf.told c.args.shelf.now)
