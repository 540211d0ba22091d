use Rattle.std.proofs.Common.{◌≡◌, ℕ, ◌+◌, List, length, Option, refl}
use Rattle.indirect_macs.specs.declared.refs.BlockRef.{BlockRef}
use Rattle.file_blocks.specs.WriteFields.{write_of}
use Rattle.file_blocks.specs.Objects.{IsInRange}
use Rattle.file_blocks.proofs.Readings.{held_same}
use Rattle.file_blocks.proofs.Taking.{walk_then, take_found, take_stopped}
use Rattle.file_blocks.proofs.taken.take.Goals as goal

sums : (a b : ℕ) (xs ys : List ℕ) → a ≡ b → xs ≡ ys → a + length xs ≡ b + length ys
sums a b xs ys same alike = rw (same, alike) refl

pub returns-in-Ok-clause-reading : goal.returns-in-Ok-clause-reading
returns-in-Ok-clause-reading g c =
    walk_then c.args.w.now.tree.levels c.args.index _ _ _ _ _ c.in-Ok.ensures.reading c.take_from.ensures.reading

pub returns-in-Ok-clause-told : goal.returns-in-Ok-clause-told
returns-in-Ok-clause-told g c =
    take_found _ (write_of c.args.w.now) c.args.index c.start_in-start.result _ c.in-Ok.found _ _ (g.B.Shelf.told c.args.shelf.now).held (g.B.Shelf.told c.ref_at.new.shelf).held
    c.start_in-start.ensures.value (sums _ _ _ _ c.start_in-start.ensures.value c.piece_in.ensures.value)
    (held_same c.args.w.now.tree.levels (IsInRange c.args.w.now.tree.levels c.args.index 1) _ _ _ c.in-Ok.ensures.reading)
    c.in-Ok.ensures.told c.take_from.ensures.told

pub returns-in-Err-clause-told : goal.returns-in-Err-clause-told
returns-in-Err-clause-told g c =
    take_stopped {X = Option BlockRef} {Y = List ℕ} _ (write_of c.args.w.now) c.args.index (λ found. found) (λ text. text) c.in-Err.stop (g.B.Shelf.told c.args.shelf.now).held c.in-Err.ensures.told
