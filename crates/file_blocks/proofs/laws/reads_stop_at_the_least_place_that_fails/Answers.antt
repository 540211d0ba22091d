use Rattle.file_blocks.proofs.Least.{found_first, text_stops, least_place, some_fails}
use Rattle.file_blocks.proofs.laws.reads_stop_at_the_least_place_that_fails.Goals as goal

pub returns-clause-fails : goal.returns-clause-fails
returns-clause-fails c = λ key held record_size tree first count failed is.
    let one = found_first key held record_size tree first count failed is in
    let own = text_stops key held record_size tree one.index failed one.stops in
    (one.index, own.level, one.low, one.high, own.is, own.fails)

pub returns-clause-least : goal.returns-clause-least
returns-clause-least c = λ key held record_size tree first count level place index other is low high fails.
    least_place key held record_size tree first count level place index other is low high fails

pub returns-clause-passes : goal.returns-clause-passes
returns-clause-passes c = λ key held record_size tree first count index level low high fails.
    some_fails key held record_size tree first count index level low high fails
