use Rattle.std.proofs.Common.{◌≡◌, ℕ, ◌+◌, ◌-◌, ◌*◌, ◌/◌, ◌%◌, ◌<◌, slice_index, refl, sym, ap, ◌∙◌, arith}
use Rattle.std.proofs.lemmas.Simd.{get_or-replicate}
use Rattle.aes_block.specs.Field.{◌⊕◌}
use Rattle.aes_block.specs.Cipher.{sbox}
use Rattle.aes_block.specs.Lanes.{tower}
use Rattle.aes_block.proofs.TowerLaws.{sbox_is}
use Rattle.aes_block.proofs.TurnLaws.{home, home-lt, home-table, place_turned, shifted_turned, turned}
use Rattle.aes_block.proofs.lanes.last_round.Goals as goal

pub moved-own-requires : goal.moved-own-requires
moved-own-requires c = λ i h. rw (home-table (c.args.number % 4) i (omega arith) h) (home-lt (c.args.number % 4) i)

pub returns : goal.returns
returns c = λ s bytes lanes.
    let r = c.args.number in
    let t = r % 4 in
    let t' = (t + 3) % 4 in
    let turn : (r - 1) % 4 ≡ t' = omega arith in
    record {
      long = c.sum.ensures.long;
      each = λ i h.
          let b = i / 16 in
          let p = i % 16 in
          let held : (q : ℕ) → q < 16 → slice_index c.args.v (16 * b + q) ≡ tower (slice_index (s b) (turned t' q)) = λ q lt.
          let block : (16 * b + q) / 16 ≡ b = omega arith in
          let lane : (16 * b + q) % 16 ≡ q = omega arith in
          lanes.each (16 * b + q) (omega arith) ∙ rw (block, lane, place_turned (r - 1) q, turn) refl in
          let substituted : (q : ℕ) → q < 16 → slice_index c.sum-substituted.result (16 * b + q) ≡ sbox (slice_index (s b) (turned t' q)) = λ q lt.
          c.sum-substituted.ensures.each (16 * b + q) (omega arith)
          ∙ rw (c.by_places-looked_up.ensures.each (16 * b + q) (omega arith), held q lt, get_or-replicate {A = ℕ} 32 (16 * b + q) 0x63 0 (omega arith))
          (sbox_is (slice_index (s b) (turned t' q)) (bytes b (turned t' q))) in
          c.sum.ensures.each i h
          ∙ ap (λ (x : ℕ). x ⊕ slice_index c.args.words i)
          (c.moved-own.ensures.each i h ∙ rw (home-table t p (omega arith) (omega arith)) (substituted (home t p) (home-lt t p))
          ∙ sym (shifted_turned (s b) t p (omega arith) (omega arith)));
    }
