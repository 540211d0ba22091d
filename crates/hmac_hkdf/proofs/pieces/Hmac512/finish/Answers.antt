use Rattle.hmac_hkdf.specs.Hmac.{hmac512}
use Rattle.hmac_hkdf.specs.States.{HasTaken}
use Rattle.hmac_hkdf.proofs.pieces.Hmac512.finish.Goals as goal

pub returns : goal.returns
unfolding HasTaken hmac512
returns c key text taken =
    rw (← c.finalize.ensures _ taken.0) (c.finalize-2.ensures _ (c.update.ensures _ taken.1))
