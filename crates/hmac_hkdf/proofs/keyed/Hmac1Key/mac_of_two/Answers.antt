use Rattle.std.proofs.Common.{append_assoc}
use Rattle.sha1.specs.Sha1.{sha1}
use Rattle.hmac_hkdf.specs.Hmac.{hmac1, inner_block, outer_block}
use Rattle.hmac_hkdf.specs.States.{IsMadeFor}
use Rattle.hmac_hkdf.proofs.keyed.Hmac1Key.mac_of_two.Goals as goal

pub returns : goal.returns
unfolding IsMadeFor hmac1
returns c key made =
    let inner = c.update-2.ensures _ (c.update.ensures (inner_block sha1 64 key) (rw c.copied-inner.ensures made.0)) in
    let outer = c.update-3.ensures (outer_block sha1 64 key) (rw c.copied-outer.ensures made.1) in
    rw (← c.finalize.ensures _ (rw append_assoc at inner)) (c.finalize-2.ensures _ outer)
