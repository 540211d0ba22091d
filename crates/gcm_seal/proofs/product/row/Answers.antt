use Rattle.std.proofs.Common.{◌≡◌, ℕ, ◌+◌, ◌-◌, ◌*◌, ◌/◌, ◌%◌, length, slice_index, bit_xor, ap, ◌∙◌, inl, inr, arith}
use Rattle.std.proofs.lemmas.Bool.{cases_lt}
use Rattle.aes_block.proofs.LaneLaws.{length_over_part, over_part-below, over_part-within}
use Rattle.gcm_seal.proofs.MultipleLaws.{six_bits_held, three_more}
use Rattle.gcm_seal.proofs.product.row.Goals as goal

pub loop-n-preserved : goal.loop-n-preserved
loop-n-preserved c =
    let n = c.loop-n.n in
    let now = c.loop-n.sums in
    let part = c.added.result in
    let size = c.loop-n.invariant.size in
    let width : 8 * n + 8 - 8 * n ≡ 8 = omega arith in
    let long : length part ≡ 8 = omega (arith, c.copy_from_slice.ensures.len) in
    rw (width, c.copy_from_slice.ensures.after) record {
      size = length_over_part 8 64 now part (8 * n) size (omega arith) long;
      done = λ k lt.
          elim (cases_lt k (8 * n)) [
            | inl below ↦ over_part-below 8 64 now part (8 * n) k size (omega arith) below ∙ c.loop-n.invariant.done k below
            | inr ge ↦
                let group : n ≡ k / 8 = omega arith in
                let own : k - 8 * n ≡ k % 8 = omega arith in
                over_part-within 8 64 now part (8 * n) k size (omega arith) long ge (omega arith) ∙ c.added.ensures (k - 8 * n) (omega arith)
                ∙ ap (λ (m : ℕ). bit_xor (slice_index c.eight_sums-high.result m) (slice_index c.eight_sums-low.result (k - 8 * n))) group
                ∙ ap (λ (m : ℕ). bit_xor (slice_index c.eight_sums-high.result (k / 8)) (slice_index c.eight_sums-low.result m)) own
          ];
    }

pub returns : goal.returns
returns c = λ h place n within held lt.
    let v = c.args.v in
    let i : ℕ = 2 + 6 * place in
    c.loop-n.invariant.done n (omega arith)
    ∙ six_bits_held h place c.eight_sums-high.result c.eight_sums-low.result within
    (λ k below. c.eight_sums-high.ensures h i k (omega arith) held below)
    (λ k below. c.eight_sums-low.ensures h (i + 3) k (omega arith) (three_more h i v c.times_x3.result held c.times_x3.ensures) below) n lt
