use Rattle.std.proofs.Common.{◌≡◌, ℕ, ◌+◌, ◌-◌, ◌*◌, ◌/◌, ◌%◌, ◌<◌, slice_index, refl, sym, ap, ◌∙◌, arith}
use Rattle.aes_block.specs.Field.{◌⊕◌, ◌•◌}
use Rattle.aes_block.specs.Cipher.{mix_columns, sbox, shift_rows, sub_bytes}
use Rattle.aes_block.specs.Lanes.{at_places, place, tower}
use Rattle.aes_block.specs.declared.lanes.TheConstants.{ONCE_FIRST, ONCE_SECOND, TWICE_FIRST, TWICE_SECOND}
use Rattle.aes_block.proofs.TowerLaws.{once_is, twice_is, mixed_in_tower, round_sum}
use Rattle.aes_block.proofs.TurnLaws.{backward, backward-lt, backward-table, forward, forward-lt, forward-table, mixed_turned, place_turned, turned}
use Rattle.aes_block.proofs.lanes.round.Goals as goal

pub moved-next-requires : goal.moved-next-requires
moved-next-requires c = λ i h. rw (forward-table (c.args.number % 4) i (omega arith) h) (forward-lt (c.args.number % 4) i)

pub moved-last-requires : goal.moved-last-requires
moved-last-requires c = λ i h. rw (backward-table (c.args.number % 4) i (omega arith) h) (backward-lt (c.args.number % 4) i)

pub moved-turned-requires : goal.moved-turned-requires
moved-turned-requires c = λ i h. rw (forward-table (c.args.number % 4) i (omega arith) h) (forward-lt (c.args.number % 4) i)

pub returns : goal.returns
returns c = λ s bytes lanes.
    let r = c.args.number in
    let t = r % 4 in
    let t' = (t + 3) % 4 in
    let turn : (r - 1) % 4 ≡ t' = omega arith in
    record {
      long = c.sum-2.ensures.long;
      each = λ i h.
          let b = i / 16 in
          let q = i % 16 in
          let f = forward t q in
          let ff = forward t f in
          let k = backward t q in
          let lane : i ≡ 16 * b + q = omega arith in
          let a : ℕ → ℕ = λ p. sbox (slice_index (s b) (turned t' p)) in
          let in_block : (p : ℕ) → p < 16 → (16 * b + p) / 16 ≡ b = λ p lt. omega arith in
          let in_lane : (p : ℕ) → p < 16 → (16 * b + p) % 16 ≡ p = λ p lt. omega arith in
          let held : (p : ℕ) → p < 16 → slice_index c.args.v (16 * b + p) ≡ tower (slice_index (s b) (turned t' p)) = λ p lt.
          lanes.each (16 * b + p) (omega arith) ∙ rw (in_block p lt, in_lane p lt, place_turned (r - 1) p, turn) refl in
          let once : (p : ℕ) → p < 16 → slice_index c.by_places-once.result (16 * b + p) ≡ tower (a p ⊕ 0x63) = λ p lt.
          c.by_places-once.ensures.each (16 * b + p) (omega arith)
          ∙ ap (at_places ONCE_FIRST ONCE_SECOND) (held p lt) ∙ once_is (slice_index (s b) (turned t' p)) (bytes b (turned t' p)) in
          let twice : (p : ℕ) → p < 16 → slice_index c.by_places-twice.result (16 * b + p) ≡ tower (2 • (a p ⊕ 0x63)) = λ p lt.
          c.by_places-twice.ensures.each (16 * b + p) (omega arith)
          ∙ ap (at_places TWICE_FIRST TWICE_SECOND) (held p lt) ∙ twice_is (slice_index (s b) (turned t' p)) (bytes b (turned t' p)) in
          let next : (p : ℕ) → p < 16 → slice_index c.moved-next.result (16 * b + p) ≡ tower (a (forward t p) ⊕ 0x63) = λ p lt.
          c.moved-next.ensures.each (16 * b + p) (omega arith)
          ∙ rw (in_block p lt, in_lane p lt, forward-table t p (omega arith) lt) (once (forward t p) (forward-lt t p)) in
          let near : (p : ℕ) → p < 16 → slice_index c.sum-near.result (16 * b + p) ≡ tower (2 • (a p ⊕ 0x63)) ⊕ tower (a (forward t p) ⊕ 0x63) = λ p lt.
          c.sum-near.ensures.each (16 * b + p) (omega arith) ∙ rw (twice p lt, next p lt) refl in
          let last : slice_index c.moved-last.result (16 * b + q) ≡ tower (a k ⊕ 0x63) =
          c.moved-last.ensures.each (16 * b + q) (omega arith)
          ∙ rw (in_block q (omega arith), in_lane q (omega arith), backward-table t q (omega arith) (omega arith)) (once k (backward-lt t q)) in
          let moved_near : slice_index c.moved-turned.result (16 * b + q) ≡ tower (2 • (a f ⊕ 0x63)) ⊕ tower (a ff ⊕ 0x63) =
          c.moved-turned.ensures.each (16 * b + q) (omega arith)
          ∙ rw (in_block q (omega arith), in_lane q (omega arith), forward-table t q (omega arith) (omega arith)) (near f (forward-lt t q)) in
          let w = slice_index c.args.words (16 * b + q) in
          let at : slice_index c.sum-2.result (16 * b + q) ≡ tower (slice_index (mix_columns (shift_rows (sub_bytes (s b)))) (place r q) ⊕ 0x63) ⊕ w =
          c.sum-2.ensures.each (16 * b + q) (omega arith)
          ∙ rw (c.sum-three.ensures.each (16 * b + q) (omega arith), near q (omega arith), last)
          (ap (λ (x : ℕ). ((tower (2 • (a q ⊕ 0x63)) ⊕ tower (a f ⊕ 0x63)) ⊕ tower (a k ⊕ 0x63)) ⊕ x)
          (c.sum.ensures.each (16 * b + q) (omega arith) ∙ ap (λ (x : ℕ). x ⊕ w) moved_near))
          ∙ round_sum (tower (2 • (a q ⊕ 0x63))) (tower (a f ⊕ 0x63)) (tower (2 • (a f ⊕ 0x63))) (tower (a ff ⊕ 0x63)) (tower (a k ⊕ 0x63)) w
          ∙ ap (λ (x : ℕ). x ⊕ w)
          (mixed_in_tower (a q) (a f) (a ff) (a k)
          ∙ ap (λ (x : ℕ). tower (x ⊕ 0x63))
          (sym (ap (slice_index (mix_columns (shift_rows (sub_bytes (s b))))) (place_turned r q) ∙ mixed_turned (s b) t q (omega arith) (omega arith)))) in
          ap (slice_index c.sum-2.result) lane ∙ at ∙ ap (λ (x : ℕ). tower (slice_index (mix_columns (shift_rows (sub_bytes (s b)))) (place r q) ⊕ 0x63) ⊕ slice_index c.args.words x) (sym lane);
    }
