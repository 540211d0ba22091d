use Rattle.std.proofs.Common.{◌≡◌, ◌*◌, length, take}
use Rattle.pbkdf2_keys.specs.Pbkdf2.{blocks}
use Rattle.pbkdf2_keys.proofs.pbkdf2.Given as goal

abbrev pub invariant-fill : goal.invariant-fill
invariant-fill l = take (20 * l.i) l.out ≡ take (length l.out) (blocks l.secret l.salt l.iters l.i)
