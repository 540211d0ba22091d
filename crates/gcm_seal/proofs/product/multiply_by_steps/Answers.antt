use Rattle.std.proofs.Common.{◌≡◌, arith, refl, sym, ◌∙◌}
use Rattle.gcm_seal.specs.Gcm.{z_at, v_at, product}
use Rattle.gcm_seal.proofs.StepLaws.{z_at_add, z_at_keep, v_at_even, v_at_odd}
use Rattle.gcm_seal.proofs.product.multiply_by_steps.Goals as goal
use Rattle.gcm_seal.proofs.product.multiply_by_steps.Goals.{then-x-i-eq1, else-x-i-eq1, then-v-eq0, else-v-eq0}

pub loop-i-init : goal.loop-i-init
unfolding z_at v_at
loop-i-init c = (refl, refl)

pub loop-i-preserved : goal.loop-i-preserved
loop-i-preserved c =
    let x = c.args.x in
    let y = c.args.y in
    let i = c.loop-i.i in
    let z : c.loop-i.z ≡ z_at x y i = c.loop-i.invariant.0 in
    let v : c.loop-i.v ≡ v_at y i = c.loop-i.invariant.1 in (
      elim c.if-x-i-eq1.branch [
        | then-x-i-eq1 w ↦ rw (z, v) at w.z-is ∙ sym (z_at_add x y i w.if-x-i-eq1.true)
        | else-x-i-eq1 w ↦ rw z at w.z-is ∙ sym (z_at_keep x y i w.if-x-i-eq1.false)
      ],
      elim c.if-v-eq0.branch [
        | then-v-eq0 w ↦ rw v at w.v-is ∙ sym (v_at_even y i (rw v at w.if-v-eq0.true))
        | else-v-eq0 w ↦ rw v at w.v-is ∙ sym (v_at_odd y i (rw v at w.if-v-eq0.false))
      ],
    )

pub returns : goal.returns
unfolding product
returns c =
    let last : c.loop-i.i ≡ 128 = omega arith in
    rw last at c.loop-i.invariant.0
