use Rattle.std.proofs.Common.{[], ◌∷◌, arith}
use Rattle.std.proofs.lemmas.List.{set-append_right}
use Rattle.gcm_seal.specs.Gcm.{j0}
use Rattle.gcm_seal.proofs.pre_counter_block.Goals as goal

pub returns : goal.returns
unfolding j0
returns c =
    rw c.copy_from_slice.ensures.after
    (set-append_right c.args.iv.now (0 ∷ 0 ∷ 0 ∷ 0 ∷ []) 12 15 1 c.told-iv (omega arith))
