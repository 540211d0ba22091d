use Rattle.std.proofs.Common.{◌<◌, ◌+◌, length, arith}
use Rattle.salt_rotation.specs.declared.salts.TheConstants.{MAX_DRAWS}
use Rattle.file_blocks.specs.ChangeFields.{change_of}
use Rattle.file_blocks.proofs.Changing.{changed_full, for_held, leaving_full}
use Rattle.file_blocks.proofs.change.change_object.Goals as goal

pub returns-then-from-made-clause-leaving : goal.returns-then-from-made-clause-leaving
returns-then-from-made-clause-leaving g c = leaving_full (length (g.T.Texts.told c.args.texts.now)) (g.B.Shelf.told c.args.shelf.now) c.args.salts.now (omega arith)

pub returns-then-from-made-clause-told : goal.returns-then-from-made-clause-told
returns-then-from-made-clause-told g c =
    let few : MAX_DRAWS < c.args.salts.now.made + length (g.T.Texts.told c.args.texts.now) = omega arith in
    for_held (g.B.Shelf.told c.args.shelf.now).held (λ held passes.
    changed_full (λ wrote. wrote.object) (g.K.BlockKey.told c.args.key.now) held (change_of c.args.plan.now (g.T.Texts.told c.args.texts.now)) (g.B.Shelf.told c.args.shelf.now) c.args.salts.now few)
