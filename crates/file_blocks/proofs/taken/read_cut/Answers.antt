use Rattle.std.proofs.Common.{ℕ, List, Option}
use Rattle.indirect_macs.specs.declared.refs.BlockRef.{BlockRef}
use Rattle.file_blocks.specs.Objects.{IsInRange}
use Rattle.file_blocks.proofs.Readings.{held_same}
use Rattle.file_blocks.proofs.Taking.{walk_then, front_found, front_unfound}
use Rattle.file_blocks.proofs.taken.read_cut.Goals as goal

pub returns-in-Ok-clause-reading : goal.returns-in-Ok-clause-reading
returns-in-Ok-clause-reading g c =
    walk_then c.args.tree.now.levels c.args.index _ _ _ _ _ c.in-Ok.ensures.reading c.front_from.ensures.reading

pub returns-in-Ok-clause-told : goal.returns-in-Ok-clause-told
returns-in-Ok-clause-told g c =
    front_found _ c.args.block c.args.index c.args.left c.args.tree.now c.in-Ok.found _ _ (g.B.Shelf.told c.args.shelf.now).held (g.B.Shelf.told c.ref_at.new.shelf).held
    (held_same c.args.tree.now.levels (IsInRange c.args.tree.now.levels c.args.index 1) _ _ _ c.in-Ok.ensures.reading)
    c.in-Ok.ensures.told c.front_from.ensures.told

pub returns-in-Err-clause-told : goal.returns-in-Err-clause-told
returns-in-Err-clause-told g c =
    front_unfound {X = Option BlockRef} {Y = Option (List ℕ)} _ c.args.block c.args.index c.args.left c.args.tree.now (λ found. found) (λ text. text) c.in-Err.stop (g.B.Shelf.told c.args.shelf.now).held c.in-Err.ensures.told
