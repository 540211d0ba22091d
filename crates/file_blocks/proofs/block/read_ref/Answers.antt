use Rattle.std.proofs.Common.{◌≤◌, arith}
use Rattle.file_blocks.proofs.Opening.{written, text_bytes, behind_len, told_bytes}
use Rattle.file_blocks.proofs.block.read_ref.Goals as goal

pub returns-clause-bytes : goal.returns-clause-bytes
returns-clause-bytes g c =
    let small : c.args.r.now.size ≤ c.args.block = omega arith in
    (text_bytes c.open_ref.new.out c.args.out.now c.fill.new.self c.args.r.now.size c.args.block _ c.open_ref.ensures.len small c.requires.fits
    (c.fill.ensures.after (λ y is. is)) (behind_len c.open_ref.new.out c.args.out.now c.args.r.now.size c.args.block c.open_ref.ensures.len small c.requires.fits)
    _ (written c.open_ref.new.out c.args.out.now c.fill.new.self c.args.r.now.size c.open_ref.ensures.len)).1

pub returns-clause-told : goal.returns-clause-told
returns-clause-told g c = λ small.
    told_bytes _ _ c.open_ref.new.out _
    (text_bytes c.open_ref.new.out c.args.out.now c.fill.new.self c.args.r.now.size c.args.block _ c.open_ref.ensures.len small c.requires.fits
    (c.fill.ensures.after (λ y is. is)) (behind_len c.open_ref.new.out c.args.out.now c.args.r.now.size c.args.block c.open_ref.ensures.len small c.requires.fits)
    _ (written c.open_ref.new.out c.args.out.now c.fill.new.self c.args.r.now.size c.open_ref.ensures.len)).0
    c.in_default.ensures.told
