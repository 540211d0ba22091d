use Rattle.std.proofs.Common.{◌≡◌, ◌+◌, ◌-◌, ◌*◌, ◌/◌, ◌%◌, ◌<◌, slice_index, length, ◌≤◌, take, drop, get_or-take, length-take, length-drop, refl, sym, ap, ◌∙◌, inl, inr, arith}
use Rattle.std.proofs.lemmas.Bool.{cases_lt}
use Rattle.std.proofs.lemmas.List.{ext_get_or, get_or-drop}
use Rattle.aes_block.specs.Cipher.{aes}
use Rattle.aes_block.proofs.CipherLaws.{length-aes}
use Rattle.aes_block.proofs.LaneLaws.{length-part_read, length_over_part, part_read, over_part-above, over_part-below, over_part-within, part-bytes}
use Rattle.aes_block.proofs.Aes.encrypt_blocks.Goals as goal

pub pairs-init : goal.pairs-init
pairs-init g c = record {
  size = c.told-blocks;
  done = λ k lt. absurd (omega arith);
  left = λ k ge. refl;
}

pub pairs-preserved : goal.pairs-preserved
pairs-preserved g c =
    let key = c.args.self.now in
    let old = c.args.blocks.now in
    let now = c.pairs.blocks in
    let pair = c.pairs.pair in
    let at = 32 * pair in
    let encrypted = c.encrypt_pair-encrypted.result in
    let size = c.pairs.invariant.size in
    let within : at + 32 ≤ 128 = omega arith in
    let size_32 : at + 32 - at ≡ 32 = omega arith in
    let lanes =
    c.encrypt_pair-encrypted.ensures (λ b. take 16 (drop (16 * (2 * pair + b)) old)) (λ b k. part-bytes old c.fits-blocks 16 (16 * (2 * pair + b)) k)
    record {
      long = length-part_read now at (at + 32 - at) size_32 (omega arith);
      each = λ i h.
          let place : at + i ≡ 16 * (2 * pair + i / 16) + i % 16 = omega arith in
          part_read now at (at + 32 - at) i size_32 h ∙ c.pairs.invariant.left (at + i) (omega arith) ∙ ap (slice_index old) place
          ∙ sym (get_or-take 16 (drop (16 * (2 * pair + i / 16)) old) (i % 16) 0 (omega arith) ∙ get_or-drop (16 * (2 * pair + i / 16)) old (i % 16) 0);
    } in
    rw (size_32, c.copy_from_slice.ensures.after) record {
      size = length_over_part 32 128 now encrypted at size within lanes.long;
      done = λ k lt.
          elim (cases_lt k at) [
            | inl below ↦ over_part-below 32 128 now encrypted at k size within below ∙ c.pairs.invariant.done k below
            | inr ge ↦
                let block : 2 * pair + (k - at) / 16 ≡ k / 16 = omega arith in
                let place : (k - at) % 16 ≡ k % 16 = omega arith in
                over_part-within 32 128 now encrypted at k size within lanes.long ge (omega arith) ∙ lanes.each (k - at) (omega arith)
                ∙ rw (block, place) refl
          ];
      left = λ k ge.
          over_part-above 32 128 now encrypted at k size within lanes.long (omega arith) ∙ c.pairs.invariant.left k (omega arith);
    }

pub returns : goal.returns
returns g c = λ i h.
    let key = c.args.self.now in
    let old = c.args.blocks.now in
    let now = c.pairs.blocks in
    let block = take 16 (drop (16 * i) old) in
    let size = c.pairs.invariant.size in
    let long : length (take 16 (drop (16 * i) now)) ≡ 16 = length-take 16 (drop (16 * i) now) ∙ omega (arith, length-drop (16 * i) now) in
    ext_get_or 0 (take 16 (drop (16 * i) now)) (aes key block) (long ∙ sym (length-aes key block))
    (λ k lt.
    let below : k < 16 = omega arith in
    let own : (16 * i + k) / 16 ≡ i = omega arith in
    let place : (16 * i + k) % 16 ≡ k = omega arith in
    get_or-take 16 (drop (16 * i) now) k 0 below ∙ get_or-drop (16 * i) now k 0
    ∙ c.pairs.invariant.done (16 * i + k) (omega arith) ∙ rw (own, place) refl)
