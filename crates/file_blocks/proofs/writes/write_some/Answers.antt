use Rattle.std.proofs.Common.{ℕ, length, subst, arith}
use Rattle.std.specs.Prelude.{IfOk}
use Rattle.file_blocks.specs.declared.change.Wrote.{Wrote}
use Rattle.file_blocks.specs.declared.taken.Taken.{Taken}
use Rattle.file_blocks.specs.declared.write.Write.{Write as Fields}
use Rattle.file_blocks.specs.Outcomes.{IsWrote}
use Rattle.file_blocks.specs.WriteFields.{write_of}
use Rattle.file_blocks.specs.Writes.{change_of_write, count_of, texts_over}
use Rattle.file_blocks.proofs.Composing.{leaving_read, leaving_unread, noted_after, planned, texts_counted, told_after, told_unread, write_planned, write_unread, write_within}
use Rattle.file_blocks.proofs.NewTexts.{IsWrite}
use Rattle.file_blocks.proofs.Texts.{texts_sized}
use Rattle.file_blocks.proofs.writes.write_some.Goals as goal

is_write : (w : Fields) → IsWrite (write_of w)
is_write w = record { levels = w.above; wide = omega (arith, w.wide); some = w.some }

pub returns-in-Err-clause-leaving : goal.returns-in-Err-clause-leaving
returns-in-Err-clause-leaving g c = leaving_unread {X = Wrote} {Y = Taken} _ _ _ c.in-Err.stop _ _ c.args.salts.now c.in-Err.ensures.reading

pub returns-in-Err-clause-told : goal.returns-in-Err-clause-told
returns-in-Err-clause-told g c =
    told_unread {X = Wrote} {Y = Taken} (λ wrote. wrote.object) (g.K.BlockKey.told c.args.key.now) (λ held. change_of_write (g.K.BlockKey.told c.args.key.now) held (write_of c.args.w.now)) _ _ c.in-Err.stop
    (g.B.Shelf.told c.args.shelf.now) _ c.args.salts.now c.in-Err.ensures.reading
    (write_unread {X = Taken} (g.K.BlockKey.told c.args.key.now) (write_of c.args.w.now) (λ taken. texts_over (write_of c.args.w.now) taken.front.items taken.back.items (count_of (write_of c.args.w.now)))
    c.in-Err.stop (g.B.Shelf.told c.args.shelf.now).held c.args.w.now.some c.in-Err.ensures.told)

pub change_object-requires-clause-within : goal.change_object-requires-clause-within
change_object-requires-clause-within g c =
    rw (c.first_of.ensures.value, c.length_after.ensures, texts_counted (write_of c.args.w.now) c.in-Ok.taken.front.items c.in-Ok.taken.back.items)
    (write_within (write_of c.args.w.now) (is_write c.args.w.now))

pub change_object-requires-clause-sizes : goal.change_object-requires-clause-sizes
change_object-requires-clause-sizes g c =
    texts_sized (write_of c.args.w.now) c.in-Ok.taken.front.items c.in-Ok.taken.back.items (is_write c.args.w.now) c.in-Ok.ensures.front c.in-Ok.ensures.back

pub returns-clause-leaving : goal.returns-clause-leaving
returns-clause-leaving g c =
    let size = texts_counted (write_of c.args.w.now) c.in-Ok.taken.front.items c.in-Ok.taken.back.items in
    leaving_read {X = Wrote} {Y = Taken} _ _ (count_of (write_of c.args.w.now)) _ c.in-Ok.taken c.change_object.result (g.B.Shelf.told c.args.shelf.now) (g.B.Shelf.told c.read_write.new.shelf) _ _ _
    (omega (arith, size)) c.in-Ok.ensures.reading c.change_object.ensures.leaving

pub returns-clause-told : goal.returns-clause-told
returns-clause-told g c =
    let key = g.K.BlockKey.told c.args.key.now in
    let w = write_of c.args.w.now in
    let texts = texts_over w c.in-Ok.taken.front.items c.in-Ok.taken.back.items (count_of w) in
    told_after {X = Wrote} {Y = Taken} (λ wrote. wrote.object) key (λ held. change_of_write key held w) (planned w c.length_after.result c.first_of.result texts) _ _ c.in-Ok.taken c.change_object.result
    (g.B.Shelf.told c.args.shelf.now) (g.B.Shelf.told c.read_write.new.shelf) _ c.args.salts.now _ c.in-Ok.ensures.reading
    (write_planned key c.args.salts.now (length (g.B.Shelf.told c.read_write.new.shelf).sizes) w texts c.length_after.result c.first_of.result (g.B.Shelf.told c.args.shelf.now).held (is_write c.args.w.now)
    c.requires.tree c.length_after.ensures c.first_of.ensures.value c.in-Ok.ensures.told)
    c.change_object.ensures.told

pub returns-clause-noted : goal.returns-clause-noted
returns-clause-noted g c =
    let key = g.K.BlockKey.told c.args.key.now in
    let w = write_of c.args.w.now in
    let texts = texts_over w c.in-Ok.taken.front.items c.in-Ok.taken.back.items (count_of w) in
    noted_after {Y = Taken} key (λ held. change_of_write key held w) (planned w c.length_after.result c.first_of.result texts) _ _ c.in-Ok.taken c.change_object.result
    (g.B.Shelf.told c.args.shelf.now) (g.B.Shelf.told c.read_write.new.shelf) c.args.salts.now c.in-Ok.ensures.reading
    (write_planned key c.args.salts.now (length (g.B.Shelf.told c.read_write.new.shelf).sizes) w texts c.length_after.result c.first_of.result (g.B.Shelf.told c.args.shelf.now).held (is_write c.args.w.now)
    c.requires.tree c.length_after.ensures c.first_of.ensures.value c.in-Ok.ensures.told)
    c.change_object.ensures.first c.change_object.ensures.refs

pub returns-clause-wrote : goal.returns-clause-wrote
returns-clause-wrote g c =
    subst (λ (n : ℕ). IfOk c.change_object.result (IsWrote c.args.w.now.block n c.args.salts.now c.change_object.new.salts)) c.length_after.ensures c.change_object.ensures.wrote
