use Rattle.std.proofs.Common.{drop}
use Rattle.file_dataset.proofs.TestLemmas.{TestedSoFar}
use Rattle.file_dataset.proofs.testing.test_rows.Given as goal

abbrev pub invariant-rows : goal.invariant-rows
invariant-rows g l =
    TestedSoFar (g.K.BlockKey.told l.key) l.block l.rows (drop l.row-index l.rows) l.row-index l.count (g.B.Shelf.told l.fn.shelf) (g.B.Shelf.told l.shelf)
