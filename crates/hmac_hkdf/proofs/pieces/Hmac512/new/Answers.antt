use Rattle.std.proofs.lemmas.List.{append-nil}
use Rattle.hmac_hkdf.specs.States.{HasTaken}
use Rattle.hmac_hkdf.proofs.pieces.Hmac512.new.Goals as goal

pub returns : goal.returns
unfolding HasTaken
returns c =
    rw (append-nil, ← c.padded_key-block.ensures, ← c.xor_pad.ensures, ← c.xor_pad-2.ensures) (c.new_with_prefix.ensures, c.new_with_prefix-2.ensures)
