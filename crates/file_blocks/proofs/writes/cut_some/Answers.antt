use Rattle.std.proofs.Common.{◌≡◌, ◌*◌, ◌/◌, ◌-◌, ℕ, List, [], ◌∷◌, length, refl, ap, arith, Option, Vec, Global}
use Rattle.std.specs.Option.{option_map, option_map_or}
use Rattle.file_blocks.specs.declared.change.Wrote.{Wrote}
use Rattle.file_blocks.specs.Objects.{blocks_for}
use Rattle.file_blocks.specs.Writes.{change_of_cut, last_kept, left_of}
use Rattle.file_blocks.proofs.Composing.{cut_in, cut_planned, cut_planned_as, cut_unread, has_levels, leaving_read, leaving_unread, noted_after, one_at_most, one_of, told_after, told_unread}
use Rattle.file_blocks.proofs.writes.cut_some.Goals as goal

pub returns-in-Err-clause-leaving : goal.returns-in-Err-clause-leaving
returns-in-Err-clause-leaving g c = leaving_unread {X = Wrote} _ _ _ c.in-Err.stop _ _ c.args.salts.now c.in-Err.ensures.reading

pub returns-in-Err-clause-told : goal.returns-in-Err-clause-told
returns-in-Err-clause-told g c =
    let at : (c.args.to - 1) / c.from.result ≡ last_kept c.args.block c.args.to = ap (λ (n : ℕ). (c.args.to - 1) / n) c.from.ensures in
    let stays : c.args.to - c.from-2.result * c.from-3.result ≡ left_of c.args.block c.args.to = rw (c.from-2.ensures, c.from-3.ensures, c.from.ensures) refl in
    told_unread {X = Wrote} (λ wrote. wrote.object) (g.K.BlockKey.told c.args.key.now) (λ held. change_of_cut (g.K.BlockKey.told c.args.key.now) held c.args.block c.args.object.now c.args.to) _ _ c.in-Err.stop
    (g.B.Shelf.told c.args.shelf.now) _ c.args.salts.now c.in-Err.ensures.reading
    (cut_unread {X = Option (Vec ℕ Global)} (g.K.BlockKey.told c.args.key.now) c.args.block c.args.object.now c.args.to _ _ (option_map (λ (text : Vec ℕ Global). text.items)) c.in-Err.stop (g.B.Shelf.told c.args.shelf.now).held
    c.requires.some c.requires.order at stays c.in-Err.ensures.told)

pub change_object-requires-clause-within : goal.change_object-requires-clause-within
change_object-requires-clause-within g c =
    let at : (c.args.to - 1) / c.from.result ≡ last_kept c.args.block c.args.to = ap (λ (n : ℕ). (c.args.to - 1) / n) c.from.ensures in
    cut_in (λ text. text.items) c.in-Ok.front c.args.block c.args.to _ c.first_cut.result (omega arith) c.requires.some at c.first_cut.ensures

pub returns-clause-leaving : goal.returns-clause-leaving
returns-clause-leaving g c =
    leaving_read {X = Wrote} _ _ 1 _ c.in-Ok.front c.change_object.result (g.B.Shelf.told c.args.shelf.now) (g.B.Shelf.told c.read_cut.new.shelf) _ _ _
    (one_at_most (λ text. text.items) c.in-Ok.front) c.in-Ok.ensures.reading c.change_object.ensures.leaving

pub returns-clause-told : goal.returns-clause-told
returns-clause-told g c =
    let key = g.K.BlockKey.told c.args.key.now in
    let object = c.args.object.now in
    let at : (c.args.to - 1) / c.from.result ≡ last_kept c.args.block c.args.to = ap (λ (n : ℕ). (c.args.to - 1) / n) c.from.ensures in
    let stays : c.args.to - c.from-2.result * c.from-3.result ≡ left_of c.args.block c.args.to = rw (c.from-2.ensures, c.from-3.ensures, c.from.ensures) refl in
    let levels = has_levels (blocks_for c.args.block object.length) object.tree.levels c.requires.object.levels in
    let texts : List (List ℕ) = option_map_or (λ text. text.items ∷ []) c.in-Ok.front [] in
    told_after {X = Wrote} (λ wrote. wrote.object) key (λ held. change_of_cut key held c.args.block object c.args.to) (cut_planned object.tree c.args.block c.args.to c.first_cut.result texts) _ _ c.in-Ok.front
    c.change_object.result (g.B.Shelf.told c.args.shelf.now) (g.B.Shelf.told c.read_cut.new.shelf) _ c.args.salts.now _ c.in-Ok.ensures.reading
    (cut_planned_as (λ text. text.items) key c.args.salts.now (length (g.B.Shelf.told c.read_cut.new.shelf).sizes) c.args.block object c.args.to _ _ c.first_cut.result c.in-Ok.front texts
    (g.B.Shelf.told c.args.shelf.now).held (omega arith) levels.0 c.requires.object.levels c.requires.some c.requires.order at stays c.first_cut.ensures (one_of (λ text. text.items) c.in-Ok.front)
    c.in-Ok.ensures.told)
    c.change_object.ensures.told

pub returns-clause-noted : goal.returns-clause-noted
returns-clause-noted g c =
    let key = g.K.BlockKey.told c.args.key.now in
    let object = c.args.object.now in
    let at : (c.args.to - 1) / c.from.result ≡ last_kept c.args.block c.args.to = ap (λ (n : ℕ). (c.args.to - 1) / n) c.from.ensures in
    let stays : c.args.to - c.from-2.result * c.from-3.result ≡ left_of c.args.block c.args.to = rw (c.from-2.ensures, c.from-3.ensures, c.from.ensures) refl in
    let levels = has_levels (blocks_for c.args.block object.length) object.tree.levels c.requires.object.levels in
    let texts : List (List ℕ) = option_map_or (λ text. text.items ∷ []) c.in-Ok.front [] in
    noted_after key (λ held. change_of_cut key held c.args.block object c.args.to) (cut_planned object.tree c.args.block c.args.to c.first_cut.result texts) _ _ c.in-Ok.front
    c.change_object.result (g.B.Shelf.told c.args.shelf.now) (g.B.Shelf.told c.read_cut.new.shelf) c.args.salts.now c.in-Ok.ensures.reading
    (cut_planned_as (λ text. text.items) key c.args.salts.now (length (g.B.Shelf.told c.read_cut.new.shelf).sizes) c.args.block object c.args.to _ _ c.first_cut.result c.in-Ok.front texts
    (g.B.Shelf.told c.args.shelf.now).held (omega arith) levels.0 c.requires.object.levels c.requires.some c.requires.order at stays c.first_cut.ensures (one_of (λ text. text.items) c.in-Ok.front)
    c.in-Ok.ensures.told)
    c.change_object.ensures.first c.change_object.ensures.refs
