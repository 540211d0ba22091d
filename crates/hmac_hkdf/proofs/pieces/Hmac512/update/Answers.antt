use Rattle.std.proofs.Common.{append_assoc}
use Rattle.hmac_hkdf.specs.States.{HasTaken}
use Rattle.hmac_hkdf.proofs.pieces.Hmac512.update.Goals as goal

pub returns : goal.returns
unfolding HasTaken
returns c key text taken = (rw append_assoc at (c.update.ensures _ taken.0), taken.1)
