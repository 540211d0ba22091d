use Rattle.std.proofs.Common.{arith}
use Rattle.file_blocks.proofs.WrittenRanges.{written_range, kept_range}
use Rattle.file_blocks.proofs.laws.writes_change_their_bytes_alone.Goals as goal

pub returns-clause-written : goal.returns-clause-written
returns-clause-written c = λ key salts held w texts levels wide some reads on.
    written_range key salts held w texts (record { levels = levels; wide = wide; some = some }) reads on

pub returns-clause-others : goal.returns-clause-others
returns-clause-others c = λ key salts held w texts from end bytes levels wide some most fewest reads on order short outside was.
    kept_range key salts held w texts (record { levels = levels; wide = omega (arith, wide); some = some }) reads on from end bytes wide most fewest order short outside was
