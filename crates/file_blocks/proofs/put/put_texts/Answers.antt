use Rattle.std.proofs.Common.{refl, arith}
use Rattle.file_blocks.specs.declared.put.Placed.{Placed}
use Rattle.file_blocks.proofs.Sealing.{so_far_none, so_far_more, so_far_stop, so_far_all}
use Rattle.file_blocks.proofs.put.put_texts.Goals as goal

pub texts-init : goal.texts-init
texts-init g c =
    so_far_none (g.K.BlockKey.told c.args.key.now) (g.T.Texts.told c.args.texts.now) _ _ (g.B.Shelf.told c.args.shelf.now) c.args.salts.now c.new.ensures.items refl

pub returns-in-Err-clause-seals : goal.returns-in-Err-clause-seals
returns-in-Err-clause-seals g c =
    so_far_stop {X = Unit {0}} {Y = Placed} (g.K.BlockKey.told c.args.key.now) (g.T.Texts.told c.args.texts.now) c.texts.at c.in-Err.stop _ _ _ _ (omega arith)
    (c.in-Err.ensures.seals _ _ _ c.texts.invariant.sealed)

pub texts-preserved : goal.texts-preserved
texts-preserved g c =
    so_far_more (g.K.BlockKey.told c.args.key.now) (g.T.Texts.told c.args.texts.now) c.texts.at _ _ _ _ _ _ _ _ c.texts.salts _ (omega arith) c.texts.invariant
    c.in_default.ensures.refs c.in_default.ensures.number (c.in_default.ensures.seals _ _ _ c.texts.invariant.sealed)

pub returns-clause-seals : goal.returns-clause-seals
returns-clause-seals g c =
    so_far_all {X = Placed} (g.K.BlockKey.told c.args.key.now) (g.T.Texts.told c.args.texts.now) c.texts.at _ _ c.texts.placed _ _ _ _ (omega arith) c.texts.invariant
