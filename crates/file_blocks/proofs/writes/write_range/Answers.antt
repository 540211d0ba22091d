use Rattle.std.proofs.Common.{◌≡◌, length, sym, ◌∙◌}
use Rattle.std.proofs.lemmas.Bool.{eqb-true}
use Rattle.file_blocks.specs.declared.change.Wrote.{Wrote}
use Rattle.file_blocks.specs.WriteFields.{write_to}
use Rattle.file_blocks.specs.Writes.{change_of_length, change_of_write}
use Rattle.file_blocks.proofs.Composing.{known_noted, known_told, none_written}
use Rattle.file_blocks.proofs.writes.write_range.Goals as goal

pub returns-then-is_empty-clause-told : goal.returns-then-is_empty-clause-told
returns-then-is_empty-clause-told g c =
    let key = g.K.BlockKey.told c.args.key.now in
    let w = write_to c.args.object.now c.args.block c.args.from c.args.bytes.now in
    let none : length c.args.bytes.now ≡ 0 = eqb-true (length c.args.bytes.now) 0 (sym c.is_empty.ensures ∙ c.if-is_empty.true) in
    known_told {X = Wrote} (λ wrote. wrote.object) key (λ held. change_of_write key held w) (change_of_length c.args.object.now.tree c.args.block c.max-new_length.result)
    c.set_length.result (g.B.Shelf.told c.args.shelf.now) _ c.args.salts.now _ (λ held. none_written key held w c.max-new_length.result none c.max-new_length.ensures) c.set_length.ensures.told

pub returns-then-is_empty-clause-noted : goal.returns-then-is_empty-clause-noted
returns-then-is_empty-clause-noted g c =
    let key = g.K.BlockKey.told c.args.key.now in
    let w = write_to c.args.object.now c.args.block c.args.from c.args.bytes.now in
    let none : length c.args.bytes.now ≡ 0 = eqb-true (length c.args.bytes.now) 0 (sym c.is_empty.ensures ∙ c.if-is_empty.true) in
    known_noted key (λ held. change_of_write key held w) (change_of_length c.args.object.now.tree c.args.block c.max-new_length.result)
    c.set_length.result (g.B.Shelf.told c.args.shelf.now) c.args.salts.now (λ held. none_written key held w c.max-new_length.result none c.max-new_length.ensures) c.set_length.ensures.noted
