use Rattle.std.proofs.Common.{◌≡◌, ℕ, ◌+◌, ◌*◌, List, [], ◌++◌, length, refl, sym, ◌∙◌, rules, arith, add-one}
use Rattle.std.proofs.lemmas.List.{take_all}
use Rattle.std.specs.Int.{div_ceil}
use Rattle.byte_blocks.proofs.Cut.{filled_more}
use Rattle.pbkdf2_keys.specs.Pbkdf2.{block, blocks, pbkdf2}
use Rattle.pbkdf2_keys.proofs.pbkdf2.Goals as goal

blocks-next : (secret salt last : List ℕ) (c i : ℕ) → last ≡ block secret salt c (i + 1) → blocks secret salt c i ++ last ≡ blocks secret salt c (i + 1)
unfolding blocks
blocks-next secret salt last c i is = rw (add-one, is, add-one) refl

pub fill-init : goal.fill-init
unfolding blocks
fill-init c = sym (take_all (length c.args.out.now) [] (omega arith))

pub fill-preserved : goal.fill-preserved
fill-preserved c =
    let last = c.derived_block-block.result in
    let long : length last ≡ 20 = search rules in
    let is = c.derived_block-block.ensures c.args.secret.now c.new-key.ensures in
    rw (← blocks-next c.args.secret.now c.args.salt.now last c.args.iters c.fill.i is) (rw c.put_block.ensures (filled_more 20 c.fill.i c.fill.out _ last long (omega arith) c.fill.invariant))

pub returns : goal.returns
unfolding pbkdf2
returns c =
    let end : c.fill.i ≡ div_ceil (length c.args.out.now) 20 = omega arith in
    let all = take_all (20 * c.fill.i) c.fill.out (omega arith) in
    rw (← end, ← c.fill.auto.out) (sym all ∙ c.fill.invariant)
