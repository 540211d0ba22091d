use Rattle.std.proofs.Common.{◌≡◌, ◌+◌, ◌*◌, [], length, refl, sym, ◌∙◌, min, rules, arith}
use Rattle.std.proofs.lemmas.List.{take_all}
use Rattle.std.specs.Int.{div_ceil}
use Rattle.hmac_hkdf.specs.Hkdf.{expand_block, expand_blocks, hkdf}
use Rattle.byte_blocks.proofs.Cut.{filled_more}
use Rattle.hmac_hkdf.proofs.Expand.{expand_block-next, expand_blocks-next}
use Rattle.hmac_hkdf.proofs.hkdf.hkdf512.Goals as goal

pub fill-init : goal.fill-init
unfolding expand_block expand_blocks
fill-init c = record { last = refl; filled = sym (take_all (length c.args.out.now) [] (omega arith)) }

pub fill-preserved : goal.fill-preserved
fill-preserved c =
    let block = c.next_block-block.result in
    let long : length block ≡ 64 = search rules in
    let new = expand_block-next c.hmac512-prk.result c.args.info.now _ block c.fill.i c.fill.invariant.last (rw (← c.min.ensures) c.next_block-block.ensures) in
    record {
      last = take_all (64 * min (c.fill.i + 1) 1) block (omega arith) ∙ new;
      filled = rw (← expand_blocks-next c.hmac512-prk.result c.args.info.now block c.fill.i new) (rw c.put_block.ensures (filled_more 64 c.fill.i c.fill.out _ block long (omega arith) c.fill.invariant.filled));
    }

pub returns : goal.returns
unfolding hkdf
returns c =
    let end : c.fill.i ≡ div_ceil (length c.args.out.now) 64 = omega arith in
    let all = take_all (64 * c.fill.i) c.fill.out (omega arith) in
    rw (← c.hmac512-prk.ensures, ← end, ← c.fill.auto.out) (sym all ∙ c.fill.invariant.filled)
