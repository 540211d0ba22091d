use Rattle.key_ciphers.specs.Ciphers.{ciphers}
use Rattle.change_key.proofs.tests.hold_nothing.Goals as goal

pub returns : goal.returns
returns c = rw (c.in_ok-tree.ensures, c.in_ok-roots.ensures) (c.nothing_is_sound.ensures ciphers)
