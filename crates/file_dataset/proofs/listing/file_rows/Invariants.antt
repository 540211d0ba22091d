use Rattle.std.proofs.Common.{◌≡◌, take}
use Rattle.file_dataset.specs.Reads.{file_rows}
use Rattle.file_dataset.proofs.listing.file_rows.Given as goal

abbrev pub invariant-entries : goal.invariant-entries
invariant-entries l = l.rows.items ≡ file_rows l.table (take l.entry-index l.entries)
