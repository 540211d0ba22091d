use Rattle.std.proofs.Common.{◌<◌, ◌∙◌, arith}
use Rattle.file_blocks.specs.WriteFields.{write_of}
use Rattle.file_blocks.specs.Writes.{count_of}
use Rattle.file_blocks.proofs.Composing.{on_ok, text_of_write, texts_counted}
use Rattle.file_blocks.proofs.NewTexts.{IsWrite, counted_up}
use Rattle.file_blocks.proofs.new_texts.WriteTextsTexts.text_into.Goals as goal

pub overflow_add-first_of : goal.overflow_add-first_of
overflow_add-first_of c =
    let w = c.args.self.now.write in
    let is : IsWrite (write_of w) = record { levels = w.above; wide = omega (arith, w.wide); some = w.some } in
    let total = counted_up (write_of w) is in
    let size = texts_counted (write_of w) c.args.self.now.taken.front.items c.args.self.now.taken.back.items in
    omega (arith, total, size, c.requires.within, c.first_of.ensures.value, c.first_of.ensures.bound)

pub text_into-requires-clause-high : goal.text_into-requires-clause-high
text_into-requires-clause-high c =
    let w = c.args.self.now.write in
    let is : IsWrite (write_of w) = record { levels = w.above; wide = omega (arith, w.wide); some = w.some } in
    let total = counted_up (write_of w) is in
    let size = texts_counted (write_of w) c.args.self.now.taken.front.items c.args.self.now.taken.back.items in
    omega (arith, total, size, c.requires.within, c.first_of.ensures.value)

pub returns-clause-text : goal.returns-clause-text
returns-clause-text c =
    let w = write_of c.args.self.now.write in
    let taken = c.args.self.now.taken in
    let size = texts_counted w taken.front.items taken.back.items in
    let within : c.args.at < count_of w = omega (arith, size, c.requires.within) in
    on_ok c.text_into.result c.text_into.ensures.text (λ is.
    is ∙ rw c.first_of.ensures.value (text_of_write w taken.front.items taken.back.items c.args.at within))
