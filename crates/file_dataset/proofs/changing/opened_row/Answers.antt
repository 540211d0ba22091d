use Rattle.std.proofs.Common.{ℕ, List, sym}
use Rattle.family_log.specs.declared.table.Table.{Table}
use Rattle.family_log.specs.Log.{head_spot}
use Rattle.file_directory.specs.declared.directory.DirectoryEntry.{DirectoryEntry}
use Rattle.file_dataset.specs.Calls.{directory_blocks}
use Rattle.file_dataset.specs.Reads.{file_row, held_directory}
use Rattle.file_dataset.specs.declared.changing.OpenedHead.{OpenedHead}
use Rattle.file_dataset.specs.declared.changing.OpenedRow.{OpenedRow}
use Rattle.file_dataset.proofs.OpenedLemmas.{file_row_itself, no_file, no_file_stop, visits_stop}
use Rattle.file_dataset.proofs.ReadLemmas.{row_refusal}
use Rattle.file_dataset.proofs.changing.opened_row.Goals as goal

pub returns-in-Ok-file_row-clause-row : goal.returns-in-Ok-file_row-clause-row
returns-in-Ok-file_row-clause-row g c =
    file_row_itself c.in-Ok.opened.table c.args.name.now c.in-Ok.opened.directory c.in-Ok-file_row.row c.in-Ok-file_row.ensures.row

pub returns-in-Err-file_row-clause-among : goal.returns-in-Err-file_row-clause-among
returns-in-Err-file_row-clause-among g c =
    no_file_stop c.in-Err-file_row.why
    (no_file c.in-Ok.opened.table c.args.name.now c.in-Ok.opened.directory c.in-Err-file_row.why c.in-Err-file_row.ensures.row)

pub returns-in-Err-file_row-clause-visits : goal.returns-in-Err-file_row-clause-visits
returns-in-Err-file_row-clause-visits g c =
    visits_stop (λ (opened : OpenedHead). opened.directory) (λ (opened : OpenedRow). opened.row)
    (λ (held : List (List ℕ)). held_directory (g.K.BlockKey.told c.args.key.now) c.args.hmac.now held)
    (λ (table : Table) (entries : List DirectoryEntry). file_row table c.args.name.now entries) directory_blocks c.args.hmac.now (head_spot c.args.head)
    c.in-Ok.opened c.in-Err-file_row.why c.args.fam.now c.opened_head.new.fam c.in-Ok.opened.table c.in-Ok.ensures.table.found c.in-Ok.ensures.visits
    (sym c.in-Err-file_row.ensures.row)
    (row_refusal c.in-Ok.opened.table c.args.name.now c.in-Ok.opened.directory c.in-Err-file_row.why c.in-Err-file_row.ensures.row)
