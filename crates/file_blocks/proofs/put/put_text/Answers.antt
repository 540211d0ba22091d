use Rattle.std.proofs.Common.{ℕ, List, [], ◌∷◌, ◌++◌, subst, Err}
use Rattle.indirect_macs.specs.declared.refs.BlockRef.{BlockRef}
use Rattle.indirect_macs.specs.Steps.{Puts}
use Rattle.file_blocks.specs.Changes.{next_draw}
use Rattle.file_blocks.proofs.Sealing.{puts_err, sealed_text}
use Rattle.file_blocks.proofs.put.put_text.Goals as goal

pub returns-in-Err-clause-puts : goal.returns-in-Err-clause-puts
returns-in-Err-clause-puts g c = λ before start had.
    subst (λ (sealed : List ℕ). Puts {X = BlockRef × ℕ} 0 (before ++ sealed ∷ []) (Err c.in-Err.stop) start (g.B.Shelf.told c.put.new.shelf))
    (sealed_text (g.K.BlockKey.told c.args.key.now) c.draw-drawn.result (next_draw c.args.salts.now) c.args.text.now _ _ c.seal_block-sealed.ensures.sealed c.draw-drawn.ensures.value)
    (puts_err ℕ (BlockRef × ℕ) _ c.in-Err.stop start _ (c.in-Err.ensures.puts 0 before start had))
