use Rattle.std.proofs.Common.{refl, ◌∙◌}
use Rattle.aes_block.specs.Cipher.{mix_columns, shift_rows, sub_bytes}
use Rattle.aes_block.specs.Lanes.{mixed_column}
use Rattle.aes_block.proofs.tables.counted_round.Goals as goal

pub returns-clause-round : goal.returns-clause-round
unfolding mix_columns shift_rows sub_bytes mixed_column
returns-clause-round c =
    c.add_round_key.ensures
    ∙ rw (c.mixed_column-a.ensures.column, c.mixed_column-b.ensures.column, c.mixed_column-c.ensures.column, c.mixed_column-d.ensures.column) refl
