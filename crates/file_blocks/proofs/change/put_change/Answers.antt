use Rattle.std.proofs.Common.{◌≡◌, List, length, ap, subst, refl, sym, ◌∙◌, arith, Option}
use Rattle.std.specs.Prelude.{All, IfSome, IsTrue}
use Rattle.indirect_macs.specs.Entries.{is_size}
use Rattle.indirect_macs.specs.declared.refs.BlockRef.{BlockRef}
use Rattle.indirect_macs.specs.declared.refs.ObjTree.{ObjTree}
use Rattle.file_blocks.specs.declared.change.Wrote.{Wrote}
use Rattle.file_blocks.specs.declared.put.Placed.{Placed}
use Rattle.file_blocks.specs.ChangeFields.{change_of}
use Rattle.file_blocks.specs.Objects.{blocks_for}
use Rattle.file_blocks.proofs.Ranges.{few_blocks}
use Rattle.file_blocks.proofs.Sealing.{length-refs, sealed_all}
use Rattle.file_blocks.proofs.Changing.{change_err, change_ok, changed_stop, for_held, is_wrote, leaving_err, leaving_ok, leaving_stop, nodes_few, nodes_read, refs_sized}
use Rattle.file_blocks.proofs.change.put_change.Goals as goal

pub returns-in-Err-clause-leaving : goal.returns-in-Err-clause-leaving
returns-in-Err-clause-leaving g c =
    leaving_stop {X = Wrote} {Y = Placed} (g.K.BlockKey.told c.args.key.now) (g.T.Texts.told c.args.texts.now) c.in-Err.stop _ _ _ _ c.requires.draws c.in-Err.ensures.seals

pub returns-in-Err-clause-told : goal.returns-in-Err-clause-told
returns-in-Err-clause-told g c =
    for_held (g.B.Shelf.told c.args.shelf.now).held (λ held passes.
    changed_stop {X = Wrote} {Y = Placed} (λ wrote. wrote.object) (g.K.BlockKey.told c.args.key.now) held (change_of c.args.plan.now (g.T.Texts.told c.args.texts.now)) c.in-Err.stop _ _ _ _
    c.requires.draws c.in-Err.ensures.seals)

pub new_tree-requires-clause-within : goal.new_tree-requires-clause-within
new_tree-requires-clause-within g c =
    let size : length c.as_slice.result.now ≡ length (g.T.Texts.told c.args.texts.now) =
    ap length (c.as_slice.ensures.value ∙ c.in-Ok.ensures.refs) ∙ length-refs _ _ _ _ in
    omega (arith, size, c.requires.within)

pub new_tree-requires-clause-sizes : goal.new_tree-requires-clause-sizes
new_tree-requires-clause-sizes g c =
    subst (λ (refs : List (Option BlockRef)). All (λ entry. IfSome entry (λ r. IsTrue (is_size c.args.plan.now.block r.size))) refs)
    (sym (c.as_slice.ensures.value ∙ c.in-Ok.ensures.refs))
    (refs_sized (g.K.BlockKey.told c.args.key.now) c.args.salts.now (length (g.B.Shelf.told c.args.shelf.now).sizes) c.args.plan.now.block (g.T.Texts.told c.args.texts.now) c.requires.sizes)

pub returns-in-Err-new_tree-clause-leaving : goal.returns-in-Err-new_tree-clause-leaving
returns-in-Err-new_tree-clause-leaving g c =
    let plan = c.args.plan.now in
    let size : length c.as_slice.result.now ≡ length (g.T.Texts.told c.args.texts.now) =
    ap length (c.as_slice.ensures.value ∙ c.in-Ok.ensures.refs) ∙ length-refs _ _ _ _ in
    leaving_err {X = Wrote} {Y = ObjTree} (g.K.BlockKey.told c.args.key.now) (g.T.Texts.told c.args.texts.now) c.in-Err-new_tree.stop _ _ _ (g.B.Shelf.told c.put_texts.new.shelf) _ _ _
    (nodes_read plan.tree (blocks_for plan.block plan.length) plan.first c.as_slice.result.now (g.T.Texts.told c.args.texts.now)
    c.requires.levels (few_blocks plan.block plan.length c.requires.least c.requires.bytes) c.requires.within size)
    (nodes_few plan.tree (blocks_for plan.block plan.length) plan.first c.as_slice.result.now (g.T.Texts.told c.args.texts.now)
    c.requires.above (few_blocks plan.block plan.length c.requires.least c.requires.bytes) c.requires.within size)
    c.requires.draws
    (sealed_all _ _ c.in-Ok.placed _ _ _ _ c.in-Ok.ensures.seals) c.in-Err-new_tree.ensures.changes

pub returns-in-Err-new_tree-clause-told : goal.returns-in-Err-new_tree-clause-told
returns-in-Err-new_tree-clause-told g c =
    change_err {X = Wrote} (λ wrote. wrote.object) (g.K.BlockKey.told c.args.key.now) (change_of c.args.plan.now (g.T.Texts.told c.args.texts.now)) c.in-Err-new_tree.stop c.as_slice.result.now
    (g.B.Shelf.told c.args.shelf.now) (g.B.Shelf.told c.put_texts.new.shelf) (g.B.Shelf.told c.new_tree.new.shelf) c.args.salts.now c.put_texts.new.salts c.requires.draws
    (sealed_all _ _ c.in-Ok.placed _ _ _ _ c.in-Ok.ensures.seals) (c.as_slice.ensures.value ∙ c.in-Ok.ensures.refs)
    c.in-Err-new_tree.ensures.stays c.in-Err-new_tree.ensures.told

pub returns-clause-leaving : goal.returns-clause-leaving
returns-clause-leaving g c =
    let plan = c.args.plan.now in
    let size : length c.as_slice.result.now ≡ length (g.T.Texts.told c.args.texts.now) =
    ap length (c.as_slice.ensures.value ∙ c.in-Ok.ensures.refs) ∙ length-refs _ _ _ _ in
    leaving_ok {X = Wrote} {Y = ObjTree} (g.K.BlockKey.told c.args.key.now) (g.T.Texts.told c.args.texts.now) _ c.in-Ok-new_tree.tree _ _ _ (g.B.Shelf.told c.put_texts.new.shelf) _ _ _
    (nodes_read plan.tree (blocks_for plan.block plan.length) plan.first c.as_slice.result.now (g.T.Texts.told c.args.texts.now)
    c.requires.levels (few_blocks plan.block plan.length c.requires.least c.requires.bytes) c.requires.within size)
    (nodes_few plan.tree (blocks_for plan.block plan.length) plan.first c.as_slice.result.now (g.T.Texts.told c.args.texts.now)
    c.requires.above (few_blocks plan.block plan.length c.requires.least c.requires.bytes) c.requires.within size)
    c.requires.draws
    (sealed_all _ _ c.in-Ok.placed _ _ _ _ c.in-Ok.ensures.seals) c.in-Ok-new_tree.ensures.changes

pub returns-clause-told : goal.returns-clause-told
returns-clause-told g c =
    change_ok {X = Wrote} (λ wrote. wrote.object) (g.K.BlockKey.told c.args.key.now) (change_of c.args.plan.now (g.T.Texts.told c.args.texts.now)) _ c.in-Ok-new_tree.tree c.as_slice.result.now
    (g.B.Shelf.told c.args.shelf.now) (g.B.Shelf.told c.put_texts.new.shelf) (g.B.Shelf.told c.new_tree.new.shelf) c.args.salts.now c.put_texts.new.salts c.requires.draws
    (sealed_all _ _ c.in-Ok.placed _ _ _ _ c.in-Ok.ensures.seals) (c.as_slice.ensures.value ∙ c.in-Ok.ensures.refs)
    c.in-Ok-new_tree.ensures.stays c.in-Ok-new_tree.ensures.told refl

pub returns-clause-wrote : goal.returns-clause-wrote
returns-clause-wrote g c =
    let all = sealed_all _ _ c.in-Ok.placed _ _ _ _ c.in-Ok.ensures.seals in
    is_wrote (g.K.BlockKey.told c.args.key.now) c.args.plan.now.block c.args.plan.now.length c.in-Ok-new_tree.tree c.args.plan.now.first (length (g.B.Shelf.told c.args.shelf.now).sizes)
    (g.T.Texts.told c.args.texts.now) _ c.args.salts.now c.put_texts.new.salts c.requires.bytes c.in-Ok-new_tree.ensures.levels c.requires.within refl refl c.in-Ok.ensures.refs c.in-Ok.ensures.number all.drawn
