use Rattle.std.proofs.Common.{◌≡◌, ap, refl, sym}
use Rattle.file_dataset.specs.declared.kind.Kind.TheVariants as kinds
use Rattle.file_dataset.specs.Calls.{directory_blocks}
use Rattle.file_dataset.specs.ChangeCalls.{remove_stops, write_calls}
use Rattle.file_dataset.specs.Changes.{removed_in}
use Rattle.file_dataset.specs.Reads.{held_directory}
use Rattle.file_dataset.specs.Steps.{directory_stops}
use Rattle.file_dataset.proofs.OpenLemmas.{among_more, remove_read, remove_refused, remove_unread, row_named, row_stop, table_still}
use Rattle.file_dataset.proofs.WorkLeads.{leads_behind}
use Rattle.file_dataset.proofs.WorkLemmas.{works_after, works_refused, works_unread}
use Rattle.file_dataset.proofs.changing.remove_in_head.Goals as goal

pub returns-in-Err-clause-works : goal.returns-in-Err-clause-works
returns-in-Err-clause-works g c =
    works_unread kinds.Remove _ _ _ _ remove_stops (λ table. write_calls 1 table.block 0 70656) _ _ _ c.in-Err.halt c.args.fam.now c.opened_head.new.fam c.in-Err.ensures.visits
    (among_more directory_stops remove_stops c.in-Err.halt refl c.in-Err.ensures.among)
    (λ held table why is. remove_unread _ c.args.hmac.now c.args.name.now held table why is)

pub returns-clause-works : goal.returns-clause-works
returns-clause-works g c =
    works_after kinds.Remove _ _ _ _ remove_stops _ _ _
    (λ held of_head. removed_in (g.K.BlockKey.told c.args.key.now) held of_head c.args.name.now c.in-Ok.opened.directory) c.in-Ok.opened c.in-Ok.opened.table _
    c.args.fam.now c.opened_head.new.fam c.opened_head.new.fam c.in-Ok.ensures.visits c.in-Ok.ensures.table.found
    (λ held is. remove_read _ c.args.hmac.now c.args.name.now held c.in-Ok.opened.table c.in-Ok.opened.directory is)
    (works_refused kinds.Remove _ _ _ _ remove_stops c.in-Err-file_row.why c.opened_head.new.fam
    (row_stop remove_stops c.in-Ok.opened.table c.args.name.now c.in-Ok.opened.directory c.in-Err-file_row.why refl c.in-Err-file_row.ensures.row)
    (λ held. rw (table_still c.args.fam.now c.opened_head.new.fam _ c.in-Ok.opened.table c.in-Ok.ensures.visits.left c.in-Ok.ensures.table).found
    (remove_refused _ c.args.name.now held c.in-Ok.opened.table c.in-Ok.opened.directory c.in-Err-file_row.why c.in-Err-file_row.ensures.row)))

pub returns-in-Ok-file_row-clause-works : goal.returns-in-Ok-file_row-clause-works
returns-in-Ok-file_row-clause-works g c =
    works_after kinds.Remove _ _ _ _ remove_stops _ _ _
    (λ held of_head. removed_in (g.K.BlockKey.told c.args.key.now) held of_head c.args.name.now c.in-Ok.opened.directory) c.in-Ok.opened c.in-Ok.opened.table _
    c.args.fam.now c.opened_head.new.fam c.remove_opened.new.fam c.in-Ok.ensures.visits c.in-Ok.ensures.table.found
    (λ held is. remove_read _ c.args.hmac.now c.args.name.now held c.in-Ok.opened.table c.in-Ok.opened.directory is) c.remove_opened.ensures.works

pub returns-in-Ok-file_row-clause-leads : goal.returns-in-Ok-file_row-clause-leads
returns-in-Ok-file_row-clause-leads g c =
    leads_behind _ _ _ _ _ _ c.args.head c.args.fam.now c.opened_head.new.fam c.remove_opened.new.fam c.remove_opened.result c.in-Ok.ensures.visits
    c.remove_opened.ensures.leads

pub remove_opened-requires-clause-object : goal.remove_opened-requires-clause-object
remove_opened-requires-clause-object g c =
    row_named c.in-Ok.opened.table c.args.name.now c.in-Ok.opened.directory c.in-Ok-file_row.row c.in-Ok-file_row.ensures.row
