use Rattle.std.proofs.Common.{◌≡◌, ℕ, ◌+◌, ◌-◌, ◌*◌, ◌/◌, ◌^◌, slice_index, bit_and, bit_xor, sym, ap, ◌∙◌, arith}
use Rattle.std.proofs.lemmas.Nat.{and_le_r}
use Rattle.gcm_seal.specs.Gcm.{product}
use Rattle.gcm_seal.proofs.MultipleLaws.{half_byte_added, wide_of_front}
use Rattle.gcm_seal.proofs.product.GhashTable.mul_counted.Goals as goal

pub loop-k-init : goal.loop-k-init
loop-k-init c = (wide_of_front _ ∙ c.self.invariant (c.args.x / 2 ^ 124) (omega arith), omega arith)

pub loop-k-preserved : goal.loop-k-preserved
loop-k-preserved c =
    let x = c.args.x in
    let k = c.loop-k.k in
    let h = slice_index c.self.inside.multiples 8 in
    let digit = bit_and (x / 2 ^ (124 - 4 * k)) 15 in
    let next : 128 - 4 * (k + 1) ≡ 124 - 4 * k = omega arith in (
      half_byte_added x h c.loop-k.front c.loop-k.back _ k (omega arith) (omega arith)
          (c.self.invariant digit (omega (arith, and_le_r (x / 2 ^ (124 - 4 * k)) 15))) c.loop-k.invariant.0
          ∙ ap (λ (j : ℕ). product (x / 2 ^ j * 2 ^ j) h) (sym next),
      omega (arith, c.loop-k.invariant.1),
    )

pub returns : goal.returns
returns c =
    let x = c.args.x in
    let last : 128 - 4 * c.loop-k.k ≡ 0 = omega arith in
    let whole : x / 2 ^ 0 * 2 ^ 0 ≡ x = omega arith in
    record {
      product =
          ap (bit_xor c.loop-k.front) c.reduced.ensures ∙ c.loop-k.invariant.0
          ∙ ap (λ (j : ℕ). product (x / 2 ^ j * 2 ^ j) (slice_index c.self.inside.multiples 8)) last
          ∙ ap (λ (y : ℕ). product y (slice_index c.self.inside.multiples 8)) whole ∙ ap (product x) c.self.view_is;
      counted = omega (arith, c.loop-k.invariant.1);
    }
