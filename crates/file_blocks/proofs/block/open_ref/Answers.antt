use Rattle.std.proofs.Common.{◌≡◌, length, refl, sym, ◌∙◌}
use Rattle.file_blocks.proofs.Opening.{ref_unnamed, ref_opened, ref_bad}
use Rattle.file_blocks.proofs.block.open_ref.Goals as goal

pub returns-then-not-names_block-clause-told : goal.returns-then-not-names_block-clause-told
returns-then-not-names_block-clause-told g c =
    rw c.fails_at.ensures
    (ref_unnamed _ c.args.index c.args.r.now (g.B.Shelf.told c.args.shelf.now) c.names_block.ensures.sizes
    (sym c.names_block.ensures.value ∙ c.if-not-names_block.true))

pub returns-in-Ok-clause-told : goal.returns-in-Ok-clause-told
returns-in-Ok-clause-told g c =
    let whole : length c.read.new.out ≡ c.args.r.now.size = cc in
    ref_opened _ c.args.index c.args.r.now _ _ _ c.read.new.out c.open_block.new.text (g.B.Shelf.told c.args.shelf.now)
    c.sealed_of.ensures.salt c.sealed_of.ensures.iv c.sealed_of.ensures.mac c.in_default.ensures.bytes whole c.in-Ok.ensures.opened

pub returns-in-Err-open_block-clause-told : goal.returns-in-Err-open_block-clause-told
returns-in-Err-open_block-clause-told g c =
    let whole : length c.read.new.out ≡ c.args.r.now.size = cc in
    rw c.fails_at-in-Err-open_block.ensures
    (ref_bad _ c.args.index c.args.r.now _ _ _ c.read.new.out (g.B.Shelf.told c.args.shelf.now)
    c.sealed_of.ensures.salt c.sealed_of.ensures.iv c.sealed_of.ensures.mac c.in_default.ensures.bytes whole (c.in-Err-open_block.ensures.bad_tag.0 refl))
