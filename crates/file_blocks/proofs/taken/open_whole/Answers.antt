use Rattle.std.proofs.Common.{ℕ, List, Some, arith}
use Rattle.std.proofs.lemmas.List.{with_items_is}
use Rattle.file_blocks.proofs.Taking.{whole_told, whole_stopped}
use Rattle.file_blocks.proofs.taken.open_whole.Goals as goal

pub returns-in-Ok-clause-told : goal.returns-in-Ok-clause-told
returns-in-Ok-clause-told g c = λ small.
    whole_told _ c.args.index c.args.r.now c.open_ref.new.out _ (g.B.Shelf.told c.args.shelf.now).held
    (with_items_is c.in_ok-text.text c.open_ref.new.out (omega (arith, c.in-Ok.ensures.len, c.in_ok-text.ensures.len))) c.in-Ok.ensures.told

pub returns-in-Err-clause-told : goal.returns-in-Err-clause-told
returns-in-Err-clause-told g c = λ small.
    whole_stopped {X = List ℕ} {Y = List ℕ} _ c.args.index c.args.r.now (λ text. Some text) (λ text. text) c.in-Err.stop (g.B.Shelf.told c.args.shelf.now).held c.in-Err.ensures.told
