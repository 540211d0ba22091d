use Rattle.std.proofs.Common.{refl}
use Rattle.gcm_seal.specs.Gcm.{gcm_seal, gcm_text}
use Rattle.gcm_seal.proofs.Opening.{gcm_open-gcm_seal}
use Rattle.gcm_seal.proofs.seal_with.Goals as goal

pub returns-clause-sealed : goal.returns-clause-sealed
unfolding gcm_seal gcm_text
returns-clause-sealed g c = rw (c.tag_of.ensures, c.apply.ensures, c.first_counter_block.ensures) refl

pub returns-clause-opens : goal.returns-clause-opens
returns-clause-opens g c =
    rw (returns-clause-sealed g c) at (gcm_open-gcm_seal c.args.cipher.now c.args.iv.now c.args.aad.now c.args.text.now)
