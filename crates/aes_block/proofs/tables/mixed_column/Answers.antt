use Rattle.std.proofs.Common.{refl}
use Rattle.aes_block.specs.Lanes.{mixed_column}
use Rattle.aes_block.proofs.tables.mixed_column.Goals as goal

pub returns-clause-column : goal.returns-clause-column
unfolding mixed_column
returns-clause-column c = rw (c.column-a.ensures.column, c.column-b.ensures.column, c.column-c.ensures.column, c.column-d.ensures.column) refl
