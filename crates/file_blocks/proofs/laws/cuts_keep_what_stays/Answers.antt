use Rattle.std.proofs.Common.{arith}
use Rattle.file_blocks.proofs.WrittenRanges.{cut_range}
use Rattle.file_blocks.proofs.laws.cuts_keep_what_stays.Goals as goal

pub returns : goal.returns
returns c = λ key salts held record_size object to from end front bytes wide some most levels kept shorter reads on order short was.
    cut_range key salts held record_size to object.tree front (omega (arith, wide)) some kept reads on object.length from end bytes wide most levels
    (omega (arith, shorter)) order short was
