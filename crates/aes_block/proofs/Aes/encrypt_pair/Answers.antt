use Rattle.std.proofs.Common.{◌≡◌, ℕ, ◌+◌, ◌-◌, ◌/◌, ◌%◌, List, slice_index, sym, ap, ◌∙◌, arith}
use Rattle.aes_block.specs.Field.{◌⊕◌}
use Rattle.aes_block.specs.Cipher.{add_round_key, cipher, shift_rows, state_after, sub_bytes}
use Rattle.aes_block.specs.Lanes.{place, tower}
use Rattle.aes_block.proofs.CipherLaws.{cipher_of_schedule, state_after-bytes}
use Rattle.aes_block.proofs.TowerLaws.{added-place}
use Rattle.aes_block.proofs.TurnLaws.{place-none}
use Rattle.aes_block.proofs.Aes.encrypt_pair.Goals as goal

pub returns : goal.returns
unfolding cipher state_after
returns g c = λ s bytes lanes.
    let w = c.self.inside.words in
    let nk = g.row.NK in
    let t = λ (b : ℕ). state_after w (s b) (nk + 5) in
    let before = c.keyed_rounds-before_last.ensures w s (record { bytes = c.self.invariant.3; each = c.self.invariant.2 }) bytes record {
      long = c.towers-start.ensures.long;
      each = λ i h.
          c.towers-start.ensures.each i h
          ∙ ap tower
          (c.sum.ensures.each i h ∙ rw (lanes.each i h, c.round_words.ensures.each i h)
          (sym (added-place (s (i / 16)) w 0 (i % 16) (omega arith)))
          ∙ ap (slice_index (add_round_key (s (i / 16)) w 0)) (sym (place-none (i % 16) (omega arith))));
    } in
    let before_it : nk + 5 ≡ nk + 6 - 1 = omega arith in
    let done = c.last_round.ensures t (λ b. state_after-bytes w (s b) (nk + 5) c.self.invariant.3 (bytes b)) record {
      long = before.long;
      each = λ i h. before.each i h ∙ ap (λ (r : ℕ). tower (slice_index (t (i / 16)) (place r (i % 16)))) before_it;
    } in
    record {
      long = done.long;
      each = λ i h.
          let b = i / 16 in
          let p = i % 16 in
          let m = shift_rows (sub_bytes (t b)) in
          let last : nk + 5 ≡ nk + 6 - 1 = omega arith in
          done.each i h ∙ ap (λ (x : ℕ). slice_index m p ⊕ x) (c.round_words-2.ensures.each i h)
          ∙ sym (added-place m w (nk + 6) p (omega arith))
          ∙ ap (λ (x : ℕ). slice_index (add_round_key (shift_rows (sub_bytes (state_after w (s b) x))) w (nk + 6)) p) last
          ∙ ap (λ (x : List ℕ). slice_index x p)
          (cipher_of_schedule nk w c.args.self.now (s b) c.self.invariant.0 c.self.told.0 c.self.invariant.1 c.self.view_is);
    }
