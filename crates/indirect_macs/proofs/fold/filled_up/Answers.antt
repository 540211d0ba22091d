use Rattle.std.proofs.Common.{refl}
use Rattle.indirect_macs.proofs.Groups.{filled}
use Rattle.indirect_macs.proofs.fold.filled_up.Goals as goal

pub returns : goal.returns
returns g c = rw c.copy_from_slice.ensures.after (filled c.args.group.now _ refl)
