use Rattle.file_blocks.specs.WriteFields.{write_to}
use Rattle.file_blocks.proofs.Fitting.{cut_texts_bytes, write_texts_bytes}
use Rattle.file_blocks.proofs.object_laws.new_texts_are_bytes.Goals as goal

pub returns-clause-written : goal.returns-clause-written
returns-clause-written c = λ key held record_size object from bytes change made fair holds.
    write_texts_bytes key held (write_to object record_size from bytes) change made fair holds

pub returns-clause-cut : goal.returns-clause-cut
returns-clause-cut c = λ key held record_size object to change made holds. cut_texts_bytes key held record_size object to change made holds
