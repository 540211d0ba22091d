use Rattle.hmac_hkdf.specs.States.{IsMadeFor}
use Rattle.hmac_hkdf.proofs.keyed.Hmac1Key.new.Goals as goal

pub returns : goal.returns
unfolding IsMadeFor
returns c =
    rw (← c.padded_key-block.ensures, ← c.xor_pad.ensures, ← c.xor_pad-2.ensures) (c.begun.ensures, c.begun-2.ensures)
