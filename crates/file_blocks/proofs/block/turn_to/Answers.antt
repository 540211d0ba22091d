use Rattle.std.proofs.Common.{◌/◌, refl, sym, subst, ◌∙◌, List, ℕ, Option, None}
use Rattle.std.specs.Prelude.{IfSome}
use Rattle.std.proofs.lemmas.Option.{IfSome_then}
use Rattle.file_blocks.specs.Groups.{LeadsToGroup}
use Rattle.file_blocks.specs.Objects.{IsAtBlock}
use Rattle.file_blocks.proofs.Grouping.{known_ref, known_later, group_known, group_failed}
use Rattle.file_blocks.proofs.Readings.{reading_of, reading_ok, reading_err, held_same}
use Rattle.file_blocks.proofs.block.turn_to.Goals as goal

pub returns-then-has_block-clause-told : goal.returns-then-has_block-clause-told
returns-then-has_block-clause-told g c =
    known_ref c.args.block c.args.index c.args.tree.now c.args.group.now (g.B.Shelf.told c.args.shelf.now).held
    (sym c.has_block.ensures ∙ c.if-has_block.true) c.requires.known

pub returns-in-Ok-clause-reading : goal.returns-in-Ok-clause-reading
returns-in-Ok-clause-reading g c =
    reading_ok c.args.tree.now.levels (IsAtBlock c.args.tree.now.levels c.args.index) (IsAtBlock c.args.tree.now.levels c.args.index) c.in-Ok.refs _ _ _
    (reading_of c.args.tree.now.levels c.args.tree.now.levels c.args.index _ _ _ c.in-Ok.ensures.answers)

pub returns-in-Ok-clause-known : goal.returns-in-Ok-clause-known
returns-in-Ok-clause-known g c =
    subst (λ (held : Option (List (List ℕ))). IfSome held (λ blocks. LeadsToGroup blocks c.args.block c.args.tree.now (c.args.index / 32) c.in-Ok.refs))
    (sym (held_same c.args.tree.now.levels (IsAtBlock c.args.tree.now.levels c.args.index) _ _ _
    (reading_of c.args.tree.now.levels c.args.tree.now.levels c.args.index _ _ _ c.in-Ok.ensures.answers)))
    (group_known c.args.block c.args.index c.args.tree.now c.in-Ok.refs _ (g.B.Shelf.told c.args.shelf.now) _ c.in-Ok.ensures.told)

pub returns-in-Ok-clause-told : goal.returns-in-Ok-clause-told
returns-in-Ok-clause-told g c =
    IfSome_then (g.B.Shelf.told c.args.shelf.now).held
    (group_known c.args.block c.args.index c.args.tree.now c.in-Ok.refs _ (g.B.Shelf.told c.args.shelf.now) _ c.in-Ok.ensures.told)
    (λ held leads. leads c.args.index refl)

pub returns-in-Err-clause-reading : goal.returns-in-Err-clause-reading
returns-in-Err-clause-reading g c =
    reading_err c.args.tree.now.levels (IsAtBlock c.args.tree.now.levels c.args.index) c.in-Err.stop _ _
    (reading_of c.args.tree.now.levels c.args.tree.now.levels c.args.index _ _ _ c.in-Err.ensures.answers)

pub returns-in-Err-clause-known : goal.returns-in-Err-clause-known
returns-in-Err-clause-known g c =
    known_later c.args.block c.args.tree.now c.args.group.now _ _
    (held_same c.args.tree.now.levels (IsAtBlock c.args.tree.now.levels c.args.index) _ _ _
    (reading_of c.args.tree.now.levels c.args.tree.now.levels c.args.index _ _ _ c.in-Err.ensures.answers))
    c.requires.known

pub returns-in-Err-clause-told : goal.returns-in-Err-clause-told
returns-in-Err-clause-told g c =
    group_failed {X = Unit {0}} c.args.block c.args.index c.args.tree.now (λ _. None) c.in-Err.stop _ (g.B.Shelf.told c.args.shelf.now) _
    c.in-Err.ensures.answers.failure c.in-Err.ensures.told
