use Rattle.file_dataset.proofs.TestLemmas.{row_tested, row_stops, row_stops_told}
use Rattle.file_dataset.proofs.testing.test_rows.Goals as goal

pub returns-in-Err-clause-walked : goal.returns-in-Err-clause-walked
returns-in-Err-clause-walked g c =
    row_stops _ c.args.block c.args.rows.now c.rows.row-index _ c.rows.count c.in-Err.halt _ _ _ c.rows-test.true c.rows.invariant c.in-Err.ensures.walked

pub returns-in-Err-clause-told : goal.returns-in-Err-clause-told
returns-in-Err-clause-told g c =
    row_stops_told _ c.args.block c.args.rows.now c.rows.row-index _ c.rows.count c.in-Err.halt _ _ c.rows-test.true c.rows.invariant c.in-Err.ensures.told

pub rows-preserved : goal.rows-preserved
rows-preserved g c =
    row_tested _ c.args.block c.args.rows.now c.rows.row-index _ c.rows.count c.in-Ok.more _ _ _ c.rows-test.true c.rows.invariant c.in-Ok.ensures.bound
    c.in-Ok.ensures.walked c.in-Ok.ensures.told
