use Rattle.std.proofs.Common.{◌≡◌}
use Rattle.gcm_seal.specs.Gcm.{z_at, v_at}
use Rattle.gcm_seal.proofs.product.multiply_by_steps.Given as goal

abbrev pub invariant-loop-i : goal.invariant-loop-i
invariant-loop-i l = (l.z ≡ z_at l.x l.y l.i) × (l.v ≡ v_at l.y l.i)
