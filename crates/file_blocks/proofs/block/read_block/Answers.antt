use Rattle.std.proofs.Common.{ℕ, ◌+◌, None, ap, sym, arith, ◌∙◌, replicate}
use Rattle.file_blocks.specs.Objects.{IsAtBlock}
use Rattle.file_blocks.proofs.Grouping.{known_later, text_failed, text_hole, text_found}
use Rattle.file_blocks.proofs.Opening.{hole_bytes}
use Rattle.file_blocks.proofs.Readings.{reading_more, reading_to, reading_err, reading_ok, at_levels, held_same}
use Rattle.file_blocks.proofs.block.read_block.Goals as goal

pub returns-in-Err-clause-reading : goal.returns-in-Err-clause-reading
returns-in-Err-clause-reading g c =
    reading_to c.args.tree.now.levels (c.args.tree.now.levels + 1) (IsAtBlock c.args.tree.now.levels c.args.index) (IsAtBlock c.args.tree.now.levels c.args.index) _ _ _
    (omega arith) (λ stop is. is)
    (reading_err c.args.tree.now.levels (IsAtBlock c.args.tree.now.levels c.args.index) c.in-Err.stop _ _ c.in-Err.ensures.reading)

pub returns-in-Err-clause-told : goal.returns-in-Err-clause-told
returns-in-Err-clause-told g c =
    text_failed {X = ℕ} {Y = Unit {0}} _ c.args.block c.args.index c.args.tree.now (λ _. None) (λ _. None) c.in-Err.stop (g.B.Shelf.told c.args.shelf.now).held c.in-Err.ensures.told

pub returns-in-Some-clause-reading : goal.returns-in-Some-clause-reading
returns-in-Some-clause-reading g c =
    reading_more c.args.tree.now.levels 1 (IsAtBlock c.args.tree.now.levels c.args.index) (IsAtBlock c.args.tree.now.levels c.args.index) _ _ _ _ _
    c.in_default.ensures.reading
    (reading_to 1 1 (IsAtBlock 0 c.args.index) (IsAtBlock c.args.tree.now.levels c.args.index) _ _ _ (omega arith)
    (at_levels c.args.index c.args.tree.now.levels) c.read_ref.ensures.reading)

pub returns-in-Some-clause-known : goal.returns-in-Some-clause-known
returns-in-Some-clause-known g c =
    known_later c.args.block c.args.tree.now c.turn_to.new.group _ _
    (held_same 1 (IsAtBlock 0 c.args.index) _ _ _ c.read_ref.ensures.reading) c.turn_to.ensures.known

pub returns-in-Some-clause-told : goal.returns-in-Some-clause-told
returns-in-Some-clause-told g c =
    text_found _ c.args.block c.args.index c.args.tree.now _ c.in-Some.r _ _ (g.B.Shelf.told c.args.shelf.now).held (g.B.Shelf.told c.turn_to.new.shelf).held
    (held_same c.args.tree.now.levels (IsAtBlock c.args.tree.now.levels c.args.index) _ _ _ c.in_default.ensures.reading)
    (sym c.ref_of.ensures ∙ c.in-Some.is) c.in_default.ensures.told c.read_ref.ensures.told

pub returns-in-None-clause-reading : goal.returns-in-None-clause-reading
returns-in-None-clause-reading g c =
    reading_to c.args.tree.now.levels (c.args.tree.now.levels + 1) (IsAtBlock c.args.tree.now.levels c.args.index) (IsAtBlock c.args.tree.now.levels c.args.index) _ _ _
    (omega arith) (λ stop is. is)
    (reading_ok c.args.tree.now.levels (IsAtBlock c.args.tree.now.levels c.args.index) (IsAtBlock c.args.tree.now.levels c.args.index) (tt {0}) _ _ _ c.in_default.ensures.reading)

pub returns-in-None-clause-bytes : goal.returns-in-None-clause-bytes
returns-in-None-clause-bytes g c =
    c.fill.ensures.after (λ y is. is) ∙ ap (λ (n : ℕ). replicate n 0) c.requires.fits ∙ hole_bytes c.args.block

pub returns-in-None-clause-told : goal.returns-in-None-clause-told
returns-in-None-clause-told g c =
    text_hole _ c.args.block c.args.index c.args.tree.now _ (g.B.Shelf.told c.args.shelf.now).held (sym c.ref_of.ensures ∙ c.in-None.is) c.in_default.ensures.told
