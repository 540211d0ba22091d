use Rattle.std.proofs.Common.{◌≡◌, ◌++◌, take, drop}
use Rattle.file_dataset.specs.Changes.{put_row}
use Rattle.file_dataset.proofs.new_rows.put_row.Given as goal

-- the rows so far have their new values
abbrev pub invariant-rows : goal.invariant-rows
invariant-rows l = l.rows ≡ put_row l.new (take l.row-index l.initial.rows) ++ drop l.row-index l.initial.rows
