use Rattle.file_blocks.proofs.Bytes.{range_at, range_long}
use Rattle.file_blocks.proofs.laws.ranges_have_the_bytes_of_their_blocks.Goals as goal

pub returns-clause-bytes : goal.returns-clause-bytes
returns-clause-bytes c = λ key held record_size tree from end j bytes some is within.
    range_at key held record_size tree from end bytes some j is within

pub returns-clause-size : goal.returns-clause-size
returns-clause-size c = λ key held record_size tree from end bytes some order is.
    range_long key held record_size tree from end bytes some order is
