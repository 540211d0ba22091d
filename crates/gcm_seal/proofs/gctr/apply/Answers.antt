use Rattle.std.proofs.Common.{◌≡◌, ℕ, ◌+◌, ◌*◌, ◌<◌, List, length, rules, arith, refl, ap, ◌∙◌}
use Rattle.aes_block.specs.Cipher.{aes}
use Rattle.gcm_seal.specs.Gcm.{counter_block}
use Rattle.byte_blocks.specs.Blocks.{block_at}
use Rattle.gcm_seal.proofs.Counting.{counter_block-add, gctr_none, gctr_written, gctr_all}
use Rattle.gcm_seal.proofs.gctr.apply.Goals as goal

pub loop-i-init : goal.loop-i-init
unfolding counter_block
loop-i-init g c = (refl, gctr_none c.args.cipher.now c.args.initial c.args.text.now)

pub loop-i-preserved : goal.loop-i-preserved
loop-i-preserved g c =
    let key = c.args.cipher.now in
    let icb = c.args.initial in
    let i = c.loop-i.i in
    let long : length c.key_stream-stream.result ≡ 128 = search rules in
    let next : 8 * i + 8 ≡ 8 * (i + 1) = omega arith in
    let stream : (j : ℕ) → j < 8 → block_at 16 c.key_stream-stream.result j ≡ aes key (counter_block icb (8 * i + j)) = λ j h.
    c.key_stream-stream.ensures.blocks j h
    ∙ ap (λ (b : List ℕ). aes key (counter_block b j)) c.loop-i.invariant.0 ∙ ap (aes key) (counter_block-add icb (8 * i) j) in (
      c.key_stream-stream.ensures.counted ∙ ap (λ (b : List ℕ). counter_block b 8) c.loop-i.invariant.0
          ∙ counter_block-add icb (8 * i) 8 ∙ ap (counter_block icb) next,
      c.xor_block.ensures ∙ gctr_written key icb c.args.text.now c.loop-i.text c.key_stream-stream.result i long (omega arith)
          c.loop-i.invariant.1 stream,
    )

pub returns : goal.returns
returns g c = gctr_all c.args.cipher.now c.args.initial c.args.text.now c.loop-i.text c.loop-i.i (omega arith) c.loop-i.invariant.1
