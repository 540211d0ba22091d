use Rattle.std.proofs.Common.{None}
use Rattle.file_blocks.proofs.BehindBytes.{write_bytes}
use Rattle.file_blocks.proofs.BehindTrees.{write_tree}
use Rattle.file_blocks.proofs.Leading.{length_is, write_length}
use Rattle.file_blocks.proofs.object_laws.writes_splice_objects.Goals as goal

pub returns-clause-tree : goal.returns-clause-tree
returns-clause-tree c = λ key salts held record_size object refs from bytes old change made fits has ends read.
    write_tree key salts held record_size object refs change fits has ends old read from bytes made

pub returns-clause-refs : goal.returns-clause-refs
returns-clause-refs c = λ key salts held more record_size object refs from bytes old change made wide some has given.
    write_bytes key salts held more record_size object refs wide some has old given from bytes change made

pub returns-clause-length : goal.returns-clause-length
returns-clause-length c = λ key salts held record_size object from bytes change made.
    (length_is key salts held change (λ index. None), write_length key held record_size object from bytes change made)
