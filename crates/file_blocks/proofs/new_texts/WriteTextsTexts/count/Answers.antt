use Rattle.std.proofs.Common.{arith}
use Rattle.file_blocks.specs.WriteFields.{write_of}
use Rattle.file_blocks.proofs.Composing.{texts_counted}
use Rattle.file_blocks.proofs.NewTexts.{IsWrite, counted_up, in_order}
use Rattle.file_blocks.proofs.new_texts.WriteTextsTexts.count.Goals as goal

pub returns : goal.returns
returns c =
    let w = c.args.self.now.write in
    let is : IsWrite (write_of w) = record { levels = w.above; wide = omega (arith, w.wide); some = w.some } in
    let total = counted_up (write_of w) is in
    let order = in_order (write_of w) is in
    let size = texts_counted (write_of w) c.args.self.now.taken.front.items c.args.self.now.taken.back.items in
    omega (arith, total, order, size, c.first_of.ensures.value, c.last_of.ensures.value)
