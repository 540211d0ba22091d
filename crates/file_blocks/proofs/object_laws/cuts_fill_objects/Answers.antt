use Rattle.std.proofs.Common.{None}
use Rattle.file_blocks.proofs.BehindBytes.{cut_bytes}
use Rattle.file_blocks.proofs.BehindTrees.{cut_tree}
use Rattle.file_blocks.proofs.Leading.{cut_length, length_is}
use Rattle.file_blocks.proofs.object_laws.cuts_fill_objects.Goals as goal

pub returns-clause-tree : goal.returns-clause-tree
returns-clause-tree c = λ key salts held record_size object refs to old change made fits has ends read.
    cut_tree key salts held record_size object refs change fits has ends old read to made

pub returns-clause-refs : goal.returns-clause-refs
returns-clause-refs c = λ key salts held more record_size object refs to old change made wide some has given.
    cut_bytes key salts held more record_size object refs wide some has old given to change made

pub returns-clause-length : goal.returns-clause-length
returns-clause-length c = λ key salts held record_size object to change made.
    (length_is key salts held change (λ index. None), cut_length key held record_size object to change made)
