use Rattle.std.proofs.Common.{◌+◌, sym, refl, arith}
use Rattle.file_blocks.specs.Objects.{count_touched}
use Rattle.file_dataset.specs.Calls.{directory_blocks}
use Rattle.file_dataset.proofs.StepLemmas.{walked_more, walked_then, walked_wide}
use Rattle.file_dataset.proofs.ReadLemmas.{file_told, row_refusal}
use Rattle.file_dataset.proofs.reading.read_file.Goals as goal

pub returns-in-Ok-file_row-clause-walked : goal.returns-in-Ok-file_row-clause-walked
returns-in-Ok-file_row-clause-walked g c =
    walked_more (directory_blocks c.args.table.now) (count_touched c.args.table.now.block c.args.from (c.args.from + c.args.len)) c.in-Ok.directory _ _ _ _
    c.in-Ok.ensures.walked c.read_row.ensures.walked

pub returns-in-Ok-file_row-clause-told : goal.returns-in-Ok-file_row-clause-told
returns-in-Ok-file_row-clause-told g c =
    file_told _ _ c.args.hmac.now c.args.name.now c.args.from c.args.len _ c.args.table.now c.in-Ok.directory c.in-Ok-file_row.row _ _ _
    c.in-Ok.ensures.walked c.in-Ok.ensures.told (sym c.in-Ok-file_row.ensures.row) c.read_row.ensures.told

pub returns-clause-walked : goal.returns-clause-walked
returns-clause-walked g c =
    walked_wide (directory_blocks c.args.table.now) _ _ _ _ (omega arith)
    (walked_then (directory_blocks c.args.table.now) c.in-Ok.directory _ _ _ c.in-Ok.ensures.walked refl
    (row_refusal c.args.table.now c.args.name.now c.in-Ok.directory c.in-Err-file_row.why c.in-Err-file_row.ensures.row))
