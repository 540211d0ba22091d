use Rattle.std.proofs.Common.{arith}
use Rattle.file_blocks.specs.WriteFields.{write_of}
use Rattle.file_blocks.proofs.Texts.{if_ok, sized_by}
use Rattle.file_blocks.proofs.text.text_into.Goals as goal

pub returns-clause-size : goal.returns-clause-size
returns-clause-size c =
    if_ok c.splice.result c.splice.ensures.all (λ x is.
    sized_by (write_of c.args.w.now) c.args.taken.now.front.items c.args.taken.now.back.items c.args.index c.taken_in-old.result.now c.start_in.result c.piece_in.result.now _
    (record { levels = c.args.w.now.above; wide = omega (arith, c.args.w.now.wide); some = c.args.w.now.some }) c.requires.low c.requires.high c.requires.front c.requires.back
    c.taken_in-old.ensures c.start_in.ensures.value c.piece_in.ensures.value is)
