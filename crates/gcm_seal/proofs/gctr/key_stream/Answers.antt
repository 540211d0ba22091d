use Rattle.std.proofs.Common.{◌≡◌, ◌+◌, ◌-◌, ◌*◌, ◌≤◌, length, refl, sym, ap, ◌∙◌, inl, inr, arith}
use Rattle.std.proofs.lemmas.Bool.{cases_lt}
use Rattle.aes_block.specs.Cipher.{aes}
use Rattle.gcm_seal.specs.Gcm.{counter_block, inc32}
use Rattle.gcm_seal.proofs.Blocks.{block_before, block_written, length-with_block}
use Rattle.gcm_seal.proofs.Counting.{counter_block_next}
use Rattle.gcm_seal.proofs.gctr.key_stream.Goals as goal

pub loop-i-init : goal.loop-i-init
unfolding counter_block
loop-i-init g c = record { size = refl; counted = refl; written = λ j h. absurd (omega arith) }

pub loop-i-preserved : goal.loop-i-preserved
loop-i-preserved g c =
    let icb = c.args.counter.now in
    let i = c.loop-i.i in
    let stream = c.loop-i.stream in
    let size = c.loop-i.invariant.size in
    let within : 16 * i + 16 ≤ length stream = omega arith in
    let size_16 : 16 * i + 16 - 16 * i ≡ 16 = omega arith in
    rw (size_16, c.copy_from_slice.ensures.after) record {
      size = length-with_block stream c.loop-i.counter i (omega arith) within ∙ size;
      counted = c.inc32.ensures ∙ ap inc32 c.loop-i.invariant.counted ∙ sym (counter_block_next icb i);
      written = λ j h.
          elim (cases_lt j i) [
            | inl before ↦ block_before stream c.loop-i.counter i j within before ∙ c.loop-i.invariant.written j before
            | inr ge ↦
                let last : j ≡ i = omega arith in
                rw last (block_written stream c.loop-i.counter i (omega arith) within ∙ c.loop-i.invariant.counted)
          ];
    }

pub returns : goal.returns
returns g c =
    let last : c.loop-i.i ≡ 8 = omega arith in
    record {
      blocks = λ j h. c.encrypt_blocks.ensures j h ∙ ap (aes c.args.cipher.now) (c.loop-i.invariant.written j (omega arith));
      counted = c.loop-i.invariant.counted ∙ ap (counter_block c.args.counter.now) last;
    }
