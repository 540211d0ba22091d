use Rattle.std.proofs.Common.{◌≡◌, take}
use Rattle.family_log.proofs.head.copied_tables.Given as goal

abbrev pub invariant-tables : goal.invariant-tables
invariant-tables l = l.copies.items ≡ take l.table-index l.tables
