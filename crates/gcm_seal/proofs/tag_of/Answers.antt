use Rattle.std.proofs.Common.{refl}
use Rattle.gcm_seal.specs.Gcm.{gcm_tag, hash_subkey}
use Rattle.gcm_seal.proofs.tag_of.Goals as goal

pub returns : goal.returns
unfolding gcm_tag hash_subkey
returns g c = rw (c.apply_block.ensures, c.pre_counter_block.ensures, c.hash-tag.ensures, c.encrypt_block.ensures) refl
