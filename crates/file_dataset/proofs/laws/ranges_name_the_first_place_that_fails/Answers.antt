use Rattle.file_dataset.proofs.LeastLemmas.{range_refused, range_fails}
use Rattle.file_dataset.proofs.laws.ranges_name_the_first_place_that_fails.Goals as goal

pub returns-clause-refused : goal.returns-clause-refused
returns-clause-refused c = λ key held record_size row from len why is. range_refused key held record_size row from len why is

pub returns-clause-fails : goal.returns-clause-fails
returns-clause-fails c = λ key held record_size row from len index level low high fails.
    range_fails key held record_size row from len index level low high fails
