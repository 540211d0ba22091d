use Rattle.std.proofs.Common.{◌≡◌, ℕ, ◌+◌, ◌-◌, ◌*◌, ◌/◌, ◌%◌, suc, slice_index, refl, sym, ap, ◌∙◌, arith}
use Rattle.aes_block.specs.Field.{◌⊕◌}
use Rattle.aes_block.specs.Cipher.{add_round_key, mix_columns, shift_rows, state_after, sub_bytes}
use Rattle.aes_block.specs.Lanes.{place, tower}
use Rattle.aes_block.proofs.CipherLaws.{state_after-bytes}
use Rattle.aes_block.proofs.TowerLaws.{added-place, tower_words_added}
use Rattle.aes_block.proofs.TurnLaws.{place-lt}
use Rattle.aes_block.proofs.lanes.keyed_round.Goals as goal

pub returns : goal.returns
unfolding state_after
returns c = λ w s towers bytes lanes.
    let r = c.args.number in
    let t = λ (b : ℕ). state_after w (s b) (r - 1) in
    let stepped = c.round.ensures t (λ b. state_after-bytes w (s b) (r - 1) towers.bytes (bytes b)) lanes in
    record {
      long = stepped.long;
      each = λ i h.
          let b = i / 16 in
          let p = place r (i % 16) in
          let below = place-lt r (i % 16) in
          let m = mix_columns (shift_rows (sub_bytes (t b))) in
          let own_round : (16 * r + i % 16) / 16 ≡ r = omega arith in
          let own_lane : (16 * r + i % 16) % 16 ≡ i % 16 = omega arith in
          let number : r ≡ suc (r - 1) = omega arith in
          let words : slice_index c.round_words.result i ≡ tower (slice_index w (16 * r + p) ⊕ 0x63) =
          c.round_words.ensures.each i h ∙ towers.each (16 * r + i % 16) (omega arith) ∙ rw (own_round, own_lane) refl in
          stepped.each i h ∙ ap (λ (x : ℕ). tower (slice_index m p ⊕ 0x63) ⊕ x) words
          ∙ tower_words_added (slice_index m p) (slice_index w (16 * r + p))
          ∙ ap tower
          (sym (added-place m w r p below) ∙ ap (λ (x : ℕ). slice_index (add_round_key m w x) p) number
          ∙ ap (λ (x : ℕ). slice_index (state_after w (s b) x) p) (sym number));
    }
