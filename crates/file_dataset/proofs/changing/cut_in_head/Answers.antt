use Rattle.std.proofs.Common.{◌≡◌, ◌+◌, ℕ, List, None, refl, arith}
use Rattle.family_log.specs.declared.table.Table.{Table}
use Rattle.family_log.specs.Log.{head_spot}
use Rattle.file_blocks.specs.Changes.{calls_of}
use Rattle.file_blocks.specs.Writes.{change_of_cut}
use Rattle.file_dataset.specs.declared.kind.Kind.TheVariants as kinds
use Rattle.file_dataset.specs.ChangeCalls.{write_stops}
use Rattle.file_dataset.specs.Changes.{cut_edit}
use Rattle.file_dataset.specs.Steps.{row_stops}
use Rattle.file_dataset.proofs.CallCounts.{levels_few}
use Rattle.file_dataset.proofs.LengthLemmas.{makes_edits}
use Rattle.file_dataset.proofs.OpenLemmas.{among_more, cut_read, cut_refused, cut_unread, end_stop, rows_same, same_object, table_still}
use Rattle.file_dataset.proofs.SealedLemmas.{edit_in, works_sealed}
use Rattle.file_dataset.proofs.Sizes.{row_found_form, row_object, size_bounds}
use Rattle.file_dataset.proofs.WorkLeads.{cut_leads_so, only_at, works_leads}
use Rattle.file_dataset.proofs.WorkLemmas.{works_after, works_none, works_refused, works_unread}
use Rattle.file_dataset.proofs.changing.cut_in_head.Goals as goal

pub returns-in-Some-clause-works : goal.returns-in-Some-clause-works
returns-in-Some-clause-works g c =
    works_refused kinds.Cut _ _ _ _ write_stops c.in-Some.why c.args.fam.now (end_stop c.args.to c.in-Some.why c.in-Some.ensures)
    (λ held. cut_refused _ c.args.hmac.now c.args.name.now held c.args.to c.args.head c.args.fam.now c.in-Some.why c.requires.there c.in-Some.ensures)

pub returns-in-Err-clause-works : goal.returns-in-Err-clause-works
returns-in-Err-clause-works g c =
    works_unread kinds.Cut _ _ _ _ write_stops (λ table. 6 + calls_of 1) _ _ _ c.in-Err.halt c.args.fam.now c.opened_row.new.fam c.in-Err.ensures.visits
    (among_more row_stops write_stops c.in-Err.halt refl c.in-Err.ensures.among)
    (λ held table why is. cut_unread _ c.args.hmac.now c.args.name.now held c.args.to table why c.in_default.ensures is)

pub returns-in-Err-draft_of_row-clause-works : goal.returns-in-Err-draft_of_row-clause-works
returns-in-Err-draft_of_row-clause-works g c =
    works_after kinds.Cut _ _ _ _ write_stops _ _ _
    (cut_edit (g.K.BlockKey.told c.args.key.now) c.args.hmac.now c.args.name.now c.args.to) c.in-Ok.opened c.in-Ok.opened.table _
    c.args.fam.now c.opened_row.new.fam c.opened_row.new.fam c.in-Ok.ensures.visits c.in-Ok.ensures.table.found (λ held is. refl)
    (works_none kinds.Cut _ _ _ _ write_stops c.in-Err-draft_of_row.halt c.opened_row.new.fam c.in-Err-draft_of_row.ensures.stop)

pub cut_object-sealed-requires-clause-object : goal.cut_object-sealed-requires-clause-object
cut_object-sealed-requires-clause-object g c =
    row_object c.in-Ok.opened.table.block c.in-Ok.opened.row _ c.in-Ok.ensures.table.in_form.record_size
    (row_found_form c.in-Ok.opened.table c.in-Ok.opened.row c.in-Ok.ensures.table.in_form c.in-Ok.ensures.row) c.object_of.ensures.length c.object_of.ensures.tree

pub returns-clause-works : goal.returns-clause-works
returns-clause-works g c =
    let still = table_still c.args.fam.now c.opened_row.new.fam (head_spot c.args.head) c.in-Ok.opened.table c.in-Ok.ensures.visits.left c.in-Ok.ensures.table in
    let is_object = row_object c.in-Ok.opened.table.block c.in-Ok.opened.row c.object_of.result c.in-Ok.ensures.table.in_form.record_size
    (row_found_form c.in-Ok.opened.table c.in-Ok.opened.row c.in-Ok.ensures.table.in_form c.in-Ok.ensures.row) c.object_of.ensures.length c.object_of.ensures.tree in
    works_after kinds.Cut _ _ _ _ write_stops _ _ _
    (λ held of_head. edit_in c.in-Ok.opened.row.object c.in-Ok.opened.table.rows None
    (change_of_cut (g.K.BlockKey.told c.args.key.now) held c.in-Ok.opened.table.block c.object_of.result c.args.to))
    c.in-Ok.opened c.in-Ok.opened.table _ c.args.fam.now c.opened_row.new.fam c.cut_object-sealed.new.fam c.in-Ok.ensures.visits c.in-Ok.ensures.table.found
    (λ held is. cut_read _ c.args.hmac.now c.args.name.now held c.args.to c.in-Ok.opened.table c.in-Ok.opened.row c.object_of.result c.in_default.ensures
    (same_object c.object_of.result c.in-Ok.opened.row c.object_of.ensures.length c.object_of.ensures.tree) is)
    (works_sealed kinds.Cut _ _ _ _ c.in-Ok.opened.row.object c.in-Ok.opened.table.rows None
    (λ held. change_of_cut (g.K.BlockKey.told c.args.key.now) held c.in-Ok.opened.table.block c.object_of.result c.args.to)
    c.in-Ok.opened.table c.opened_row.new.fam c.cut_object-sealed.new.fam write_stops _ _ c.in-Ok.opened.table.block _ c.in-Ok-draft_of_row.draft
    c.cut_object-sealed.result c.ended_draft.result (refl, refl) still.found (λ held. refl)
    (λ wrote made of_made form. makes_edits kinds.Cut _ _ c.in-Ok.opened.row.object c.in-Ok.opened.table.rows None c.in-Ok.opened.table c.opened_row.new.fam
    c.in-Ok-draft_of_row.draft (size_bounds c.in-Ok.opened.table.block c.in-Ok.ensures.table.in_form.record_size).0 still
    (rows_same c.in-Ok.opened.table c.in-Ok.opened.row.object c.in-Ok.opened.row c.in-Ok.ensures.table.in_form.form c.in-Ok.ensures.row)
    c.in-Ok-draft_of_row.ensures.draft wrote made of_made form)
    c.cut_object-sealed.ensures.left
    (omega (arith, levels_few c.in-Ok.opened.table.block c.object_of.result is_object))
    c.cut_object-sealed.ensures.leaving c.cut_object-sealed.ensures.told c.cut_object-sealed.ensures.noted
    c.cut_object-sealed.ensures.wrote
    (record { of_draft = c.in-Ok-draft_of_row.ensures.draft; made = c.ended_draft.ensures.made; failed = c.ended_draft.ensures.failed; stop = c.ended_draft.ensures.stop }))

pub returns-clause-leads : goal.returns-clause-leads
returns-clause-leads g c =
    let key = g.K.BlockKey.told c.args.key.now in
    let old = c.args.fam.now in
    works_leads key c.args.hmac.now c.args.head kinds.Cut old c.cut_object-sealed.new.fam
    (cut_edit key c.args.hmac.now c.args.name.now c.args.to) write_stops c.ended_draft.result
    (λ honest sizes. cut_leads_so key c.args.hmac.now c.args.head kinds.Cut old honest sizes
    (only_at old (head_spot c.args.head) c.in-Ok.opened.table c.in-Ok.ensures.table) c.args.name.now c.args.to)
    (returns-clause-works g c)
