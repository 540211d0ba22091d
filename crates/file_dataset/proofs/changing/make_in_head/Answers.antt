use Rattle.std.proofs.Common.{◌≡◌, ap, refl, sym}
use Rattle.file_dataset.specs.declared.kind.Kind.TheVariants as kinds
use Rattle.file_dataset.specs.Calls.{directory_blocks}
use Rattle.file_dataset.specs.ChangeCalls.{make_stops, write_calls}
use Rattle.file_dataset.specs.Changes.{made_in}
use Rattle.file_dataset.specs.Reads.{held_directory}
use Rattle.file_dataset.specs.Steps.{directory_stops}
use Rattle.file_dataset.proofs.OpenLemmas.{among_more, make_read, make_refused, make_stop, make_unread, table_still}
use Rattle.file_dataset.proofs.WorkLeads.{leads_behind}
use Rattle.file_dataset.proofs.WorkLemmas.{works_after, works_refused, works_unread}
use Rattle.file_dataset.proofs.changing.make_in_head.Goals as goal

pub returns-in-Err-clause-works : goal.returns-in-Err-clause-works
returns-in-Err-clause-works g c =
    works_unread kinds.Make _ _ _ _ make_stops (λ table. write_calls 1 table.block 0 70656) _ _ _ c.in-Err.halt c.args.fam.now c.opened_head.new.fam c.in-Err.ensures.visits
    (among_more directory_stops make_stops c.in-Err.halt refl c.in-Err.ensures.among)
    (λ held table why is. make_unread _ c.args.hmac.now c.args.name.now held table why is)

pub returns-in-Some-clause-works : goal.returns-in-Some-clause-works
returns-in-Some-clause-works g c =
    works_after kinds.Make _ _ _ _ make_stops _ _ _
    (λ held of_head. made_in (g.K.BlockKey.told c.args.key.now) held of_head c.args.name.now c.in-Ok.opened.directory) c.in-Ok.opened c.in-Ok.opened.table _
    c.args.fam.now c.opened_head.new.fam c.opened_head.new.fam c.in-Ok.ensures.visits c.in-Ok.ensures.table.found
    (λ held is. make_read _ c.args.hmac.now c.args.name.now held c.in-Ok.opened.table c.in-Ok.opened.directory is)
    (works_refused kinds.Make _ _ _ _ make_stops c.in-Some.why c.opened_head.new.fam
    (make_stop c.in-Ok.opened.table c.args.name.now c.in-Ok.opened.directory c.in-Some.why c.in-Some.ensures)
    (λ held. rw (table_still c.args.fam.now c.opened_head.new.fam _ c.in-Ok.opened.table c.in-Ok.ensures.visits.left c.in-Ok.ensures.table).found
    (make_refused _ c.args.name.now held c.in-Ok.opened.table c.in-Ok.opened.directory c.in-Some.why c.in-Some.ensures)))

pub returns-clause-works : goal.returns-clause-works
returns-clause-works g c =
    works_after kinds.Make _ _ _ _ make_stops _ _ _
    (λ held of_head. made_in (g.K.BlockKey.told c.args.key.now) held of_head c.args.name.now c.in-Ok.opened.directory) c.in-Ok.opened c.in-Ok.opened.table _
    c.args.fam.now c.opened_head.new.fam c.make_opened.new.fam c.in-Ok.ensures.visits c.in-Ok.ensures.table.found
    (λ held is. make_read _ c.args.hmac.now c.args.name.now held c.in-Ok.opened.table c.in-Ok.opened.directory is) c.make_opened.ensures.works

pub returns-clause-leads : goal.returns-clause-leads
returns-clause-leads g c =
    leads_behind _ _ _ _ _ _ c.args.head c.args.fam.now c.opened_head.new.fam c.make_opened.new.fam c.make_opened.result c.in-Ok.ensures.visits
    c.make_opened.ensures.leads
