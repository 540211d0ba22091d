use Rattle.std.proofs.Common.{◌≡◌, ◌<◌, arith, None}
use Rattle.file_blocks.specs.declared.change.Wrote.{Wrote}
use Rattle.file_blocks.specs.Objects.{blocks_for}
use Rattle.file_blocks.specs.Writes.{change_of_cut, change_of_length, cut_by}
use Rattle.file_blocks.proofs.Composing.{all_cut, all_told, has_levels, if_both, known_noted, known_told, not_cut}
use Rattle.file_blocks.proofs.writes.cut_to.Goals as goal

pub returns-then-object-to-clause-told : goal.returns-then-object-to-clause-told
returns-then-object-to-clause-told g c =
    let key = g.K.BlockKey.told c.args.key.now in
    known_told {X = Wrote} (λ wrote. wrote.object) key (λ held. change_of_cut key held c.args.block c.args.object.now c.args.to) (change_of_length c.args.object.now.tree c.args.block c.args.to)
    c.set_length.result (g.B.Shelf.told c.args.shelf.now) _ c.args.salts.now _ (λ held. not_cut key held c.args.block c.args.object.now c.args.to (omega arith)) c.set_length.ensures.told

pub returns-then-object-to-clause-noted : goal.returns-then-object-to-clause-noted
returns-then-object-to-clause-noted g c =
    let key = g.K.BlockKey.told c.args.key.now in
    known_noted key (λ held. change_of_cut key held c.args.block c.args.object.now c.args.to) (change_of_length c.args.object.now.tree c.args.block c.args.to)
    c.set_length.result (g.B.Shelf.told c.args.shelf.now) c.args.salts.now (λ held. not_cut key held c.args.block c.args.object.now c.args.to (omega arith)) c.set_length.ensures.noted

pub returns-clause-told : goal.returns-clause-told
returns-clause-told g c =
    let key = g.K.BlockKey.told c.args.key.now in
    let object = c.args.object.now in
    let levels = has_levels (blocks_for c.args.block object.length) object.tree.levels c.requires.object.levels in
    let none : c.args.to ≡ 0 = omega arith in
    let more : 0 < object.length = omega arith in
    all_told {X = Wrote} (λ wrote. wrote.object) key c.args.block object c.args.to c.change_object.result (g.B.Shelf.told c.args.shelf.now) _ c.args.salts.now _
    (omega arith) levels.0 c.requires.object.levels none more c.change_object.ensures.told

pub returns-clause-noted : goal.returns-clause-noted
returns-clause-noted g c =
    let key = g.K.BlockKey.told c.args.key.now in
    let object = c.args.object.now in
    let none : c.args.to ≡ 0 = omega arith in
    let more : 0 < object.length = omega arith in
    known_noted key (λ held. change_of_cut key held c.args.block object c.args.to) (cut_by object.tree c.args.block 0 None)
    c.change_object.result (g.B.Shelf.told c.args.shelf.now) c.args.salts.now (λ held. all_cut key held c.args.block object c.args.to none more)
    (if_both c.change_object.result (λ wrote first refs. (first, refs)) c.change_object.ensures.first c.change_object.ensures.refs)
