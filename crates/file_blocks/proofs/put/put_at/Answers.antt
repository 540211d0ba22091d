use Rattle.std.proofs.Common.{◌≡◌, ℕ, List, [], ◌∷◌, ◌++◌, get_or, refl, subst, ◌∙◌, Ok, Err}
use Rattle.indirect_macs.specs.declared.refs.BlockRef.{BlockRef}
use Rattle.indirect_macs.specs.declared.refs.MacError.TheVariants.{NoMemory}
use Rattle.indirect_macs.specs.Steps.{Puts}
use Rattle.file_blocks.specs.Changes.{next_draw, sealed_texts, sealed_under}
use Rattle.file_blocks.proofs.Sealing.{sealed_none, sealed_not, sealed_one, seals_ok, seals_no_memory}
use Rattle.file_blocks.proofs.put.put_at.Goals as goal

pub returns-in-Err-clause-seals : goal.returns-in-Err-clause-seals
returns-in-Err-clause-seals g c = λ before first start had.
    sealed_none (g.K.BlockKey.told c.args.key.now) before (get_or (g.T.Texts.told c.args.texts.now) c.args.at []) c.in-Err.stop start _ first _ c.in-Err.ensures.stop had

pub returns-in-Err-put_text-clause-seals : goal.returns-in-Err-put_text-clause-seals
returns-in-Err-put_text-clause-seals g c = λ before first start had.
    let key = g.K.BlockKey.told c.args.key.now in
    let text = get_or (g.T.Texts.told c.args.texts.now) c.args.at [] in
    let is : c.as_mut_slice.result.now ≡ text = c.as_mut_slice.ensures.value ∙ c.in_default.ensures.text in
    sealed_not {X = BlockRef × ℕ} key before text c.in-Err-put_text.stop start _ _ first c.args.salts.now c.put_text.new.salts had
    c.in-Err-put_text.ensures.drawn c.in-Err-put_text.ensures.stays
    (subst (λ (t : List ℕ). Puts {X = BlockRef × ℕ} 0 (sealed_texts key first before ++ sealed_under key (next_draw c.args.salts.now) t ∷ []) (Err c.in-Err-put_text.stop) start (g.B.Shelf.told c.put_text.new.shelf))
    is (c.in-Err-put_text.ensures.puts (sealed_texts key first before) start had.puts))

pub returns-in-Ok-push-clause-seals : goal.returns-in-Ok-push-clause-seals
returns-in-Ok-push-clause-seals g c = λ before first start had.
    let key = g.K.BlockKey.told c.args.key.now in
    let text = get_or (g.T.Texts.told c.args.texts.now) c.args.at [] in
    let is : c.as_mut_slice.result.now ≡ text = c.as_mut_slice.ensures.value ∙ c.in_default.ensures.text in
    seals_ok key (before ++ text ∷ []) tt start _ first c.put_text.new.salts
    (sealed_one {X = BlockRef × ℕ} key before text c.in-Ok.put start _ _ first c.args.salts.now c.put_text.new.salts had c.in-Ok.ensures.drawn
    (subst (λ (t : List ℕ). Puts {X = BlockRef × ℕ} 0 (sealed_texts key first before ++ sealed_under key (next_draw c.args.salts.now) t ∷ []) (Ok c.in-Ok.put) start (g.B.Shelf.told c.put_text.new.shelf))
    is (c.in-Ok.ensures.puts (sealed_texts key first before) start had.puts)))

pub returns-in-Err-push-clause-seals : goal.returns-in-Err-push-clause-seals
returns-in-Err-push-clause-seals g c = λ before first start had.
    let key = g.K.BlockKey.told c.args.key.now in
    let text = get_or (g.T.Texts.told c.args.texts.now) c.args.at [] in
    let is : c.as_mut_slice.result.now ≡ text = c.as_mut_slice.ensures.value ∙ c.in_default.ensures.text in
    seals_no_memory key (before ++ text ∷ []) NoMemory start _ first c.put_text.new.salts refl
    (sealed_one {X = BlockRef × ℕ} key before text c.in-Ok.put start _ _ first c.args.salts.now c.put_text.new.salts had c.in-Ok.ensures.drawn
    (subst (λ (t : List ℕ). Puts {X = BlockRef × ℕ} 0 (sealed_texts key first before ++ sealed_under key (next_draw c.args.salts.now) t ∷ []) (Ok c.in-Ok.put) start (g.B.Shelf.told c.put_text.new.shelf))
    is (c.in-Ok.ensures.puts (sealed_texts key first before) start had.puts)))
