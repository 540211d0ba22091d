use Rattle.std.proofs.Common.{◌==◌, ap, length, ◌∙◌, arith}
use Rattle.indirect_macs.specs.Runs.{levels_for}
use Rattle.file_blocks.specs.Objects.{blocks_for}
use Rattle.file_blocks.specs.Changes.{Changed}
use Rattle.file_blocks.specs.declared.change.Wrote.{Wrote}
use Rattle.std.specs.Prelude.{Ok}
use Rattle.file_blocks.proofs.Composing.{has_levels, length_told}
use Rattle.file_blocks.proofs.writes.set_length.Goals as goal

pub returns-clause-told : goal.returns-clause-told
returns-clause-told g c =
    let key = g.K.BlockKey.told c.args.key.now in
    let object = c.args.object.now in
    let levels = has_levels (blocks_for c.args.block object.length) object.tree.levels c.requires.object.levels in
    length_told
    (λ held change. Changed {X = Wrote} (λ wrote. wrote.object) key held (Ok change) c.change_object.result (g.B.Shelf.told c.args.shelf.now) (g.B.Shelf.told c.change_object.new.shelf) c.args.salts.now c.change_object.new.salts)
    key c.args.salts.now (length (g.B.Shelf.told c.args.shelf.now).sizes) c.args.block object.length c.args.new_length object.tree (c.levels_for.result == object.tree.levels)
    (g.B.Shelf.told c.args.shelf.now).held (omega arith) levels.0 c.requires.object.levels c.requires.order
    (ap (λ n. n == object.tree.levels) (c.levels_for.ensures.value ∙ ap levels_for c.blocks_for.ensures.value)) c.change_object.ensures.told
