use Rattle.std.proofs.Common.{◌≡◌, ◌+◌, ℕ, List, None, Result, Ok, Err, length, refl, sym, ◌∙◌}
use Rattle.family_log.specs.declared.table.Table.{Table}
use Rattle.family_log.specs.Log.{head_spot}
use Rattle.file_blocks.specs.WriteFields.{write_to}
use Rattle.file_blocks.specs.Writes.{change_of_write}
use Rattle.file_dataset.specs.declared.kind.Kind.TheVariants as kinds
use Rattle.file_dataset.specs.ChangeCalls.{tested_end, write_calls, write_stops}
use Rattle.file_dataset.specs.Changes.{write_edit}
use Rattle.file_dataset.specs.Steps.{row_stops}
use Rattle.file_dataset.proofs.CallCounts.{file_few}
use Rattle.file_dataset.proofs.LengthLemmas.{makes_edits}
use Rattle.file_dataset.proofs.OpenLemmas.{among_more, end_stop, rows_same, same_object, saturated, table_still, write_read, write_refused, write_unread}
use Rattle.file_dataset.proofs.SealedLemmas.{edit_in, works_sealed}
use Rattle.file_dataset.proofs.Sizes.{row_found_form, row_object, size_bounds}
use Rattle.file_dataset.proofs.WorkLeads.{only_at, works_leads, write_leads}
use Rattle.file_dataset.proofs.WorkLemmas.{works_after, works_none, works_refused, works_unread}
use Rattle.file_dataset.proofs.changing.write_in_head.Goals as goal

pub returns-in-Some-clause-works : goal.returns-in-Some-clause-works
returns-in-Some-clause-works g c =
    let fails : tested_end (c.args.from + length c.args.bytes.now) ≡ Err c.in-Some.why =
    sym (saturated (c.args.from + length c.args.bytes.now) c.saturating_add.result c.saturating_add.ensures) ∙ c.in-Some.ensures in
    works_refused kinds.Write _ _ _ _ write_stops c.in-Some.why c.args.fam.now (end_stop (c.args.from + length c.args.bytes.now) c.in-Some.why fails)
    (λ held. write_refused _ c.args.hmac.now c.args.name.now held c.args.from c.args.bytes.now c.args.head c.args.fam.now c.in-Some.why c.requires.there fails)

pub returns-in-Err-clause-works : goal.returns-in-Err-clause-works
returns-in-Err-clause-works g c =
    let small : tested_end (c.args.from + length c.args.bytes.now) ≡ Ok tt =
    sym (saturated (c.args.from + length c.args.bytes.now) c.saturating_add.result c.saturating_add.ensures) ∙ c.in_default.ensures in
    works_unread kinds.Write _ _ _ _ write_stops (λ table. write_calls 5 table.block c.args.from (c.args.from + length c.args.bytes.now)) _ _ _ c.in-Err.halt c.args.fam.now c.opened_row.new.fam c.in-Err.ensures.visits
    (among_more row_stops write_stops c.in-Err.halt refl c.in-Err.ensures.among)
    (λ held table why is. write_unread _ c.args.hmac.now c.args.name.now held c.args.from c.args.bytes.now table why small is)

pub returns-in-Err-draft_of_row-clause-works : goal.returns-in-Err-draft_of_row-clause-works
returns-in-Err-draft_of_row-clause-works g c =
    works_after kinds.Write _ _ _ _ write_stops _ _ _
    (write_edit (g.K.BlockKey.told c.args.key.now) c.args.hmac.now c.args.name.now c.args.from c.args.bytes.now) c.in-Ok.opened c.in-Ok.opened.table _
    c.args.fam.now c.opened_row.new.fam c.opened_row.new.fam c.in-Ok.ensures.visits c.in-Ok.ensures.table.found (λ held is. refl)
    (works_none kinds.Write _ _ _ _ write_stops c.in-Err-draft_of_row.halt c.opened_row.new.fam c.in-Err-draft_of_row.ensures.stop)

pub write_object-sealed-requires-clause-object : goal.write_object-sealed-requires-clause-object
write_object-sealed-requires-clause-object g c =
    row_object c.in-Ok.opened.table.block c.in-Ok.opened.row _ c.in-Ok.ensures.table.in_form.record_size
    (row_found_form c.in-Ok.opened.table c.in-Ok.opened.row c.in-Ok.ensures.table.in_form c.in-Ok.ensures.row) c.object_of.ensures.length c.object_of.ensures.tree

pub returns-clause-works : goal.returns-clause-works
returns-clause-works g c =
    let small : tested_end (c.args.from + length c.args.bytes.now) ≡ Ok tt =
    sym (saturated (c.args.from + length c.args.bytes.now) c.saturating_add.result c.saturating_add.ensures) ∙ c.in_default.ensures in
    let still = table_still c.args.fam.now c.opened_row.new.fam (head_spot c.args.head) c.in-Ok.opened.table c.in-Ok.ensures.visits.left c.in-Ok.ensures.table in
    let is_object = row_object c.in-Ok.opened.table.block c.in-Ok.opened.row c.object_of.result c.in-Ok.ensures.table.in_form.record_size
    (row_found_form c.in-Ok.opened.table c.in-Ok.opened.row c.in-Ok.ensures.table.in_form c.in-Ok.ensures.row) c.object_of.ensures.length c.object_of.ensures.tree in
    works_after kinds.Write _ _ _ _ write_stops _ _ _
    (λ held of_head. edit_in c.in-Ok.opened.row.object c.in-Ok.opened.table.rows None
    (change_of_write (g.K.BlockKey.told c.args.key.now) held (write_to c.object_of.result c.in-Ok.opened.table.block c.args.from c.args.bytes.now)))
    c.in-Ok.opened c.in-Ok.opened.table _ c.args.fam.now c.opened_row.new.fam c.write_object-sealed.new.fam c.in-Ok.ensures.visits c.in-Ok.ensures.table.found
    (λ held is. write_read _ c.args.hmac.now c.args.name.now held c.args.from c.args.bytes.now c.in-Ok.opened.table c.in-Ok.opened.row c.object_of.result small
    (same_object c.object_of.result c.in-Ok.opened.row c.object_of.ensures.length c.object_of.ensures.tree) is)
    (works_sealed kinds.Write _ _ _ _ c.in-Ok.opened.row.object c.in-Ok.opened.table.rows None
    (λ held. change_of_write (g.K.BlockKey.told c.args.key.now) held (write_to c.object_of.result c.in-Ok.opened.table.block c.args.from c.args.bytes.now))
    c.in-Ok.opened.table c.opened_row.new.fam c.write_object-sealed.new.fam write_stops _ _ c.in-Ok.opened.table.block _ c.in-Ok-draft_of_row.draft
    c.write_object-sealed.result c.ended_draft.result (refl, refl) still.found (λ held. refl)
    (λ wrote made of_made form. makes_edits kinds.Write _ _ c.in-Ok.opened.row.object c.in-Ok.opened.table.rows None c.in-Ok.opened.table c.opened_row.new.fam
    c.in-Ok-draft_of_row.draft (size_bounds c.in-Ok.opened.table.block c.in-Ok.ensures.table.in_form.record_size).0 still
    (rows_same c.in-Ok.opened.table c.in-Ok.opened.row.object c.in-Ok.opened.row c.in-Ok.ensures.table.in_form.form c.in-Ok.ensures.row)
    c.in-Ok-draft_of_row.ensures.draft wrote made of_made form)
    c.write_object-sealed.ensures.left
    (file_few c.in-Ok.opened.table.block c.args.from c.object_of.result c.args.bytes.now is_object)
    c.write_object-sealed.ensures.leaving c.write_object-sealed.ensures.told c.write_object-sealed.ensures.noted
    c.write_object-sealed.ensures.wrote
    (record { of_draft = c.in-Ok-draft_of_row.ensures.draft; made = c.ended_draft.ensures.made; failed = c.ended_draft.ensures.failed; stop = c.ended_draft.ensures.stop }))

pub returns-clause-leads : goal.returns-clause-leads
returns-clause-leads g c =
    let key = g.K.BlockKey.told c.args.key.now in
    let old = c.args.fam.now in
    works_leads key c.args.hmac.now c.args.head kinds.Write old c.write_object-sealed.new.fam
    (write_edit key c.args.hmac.now c.args.name.now c.args.from c.args.bytes.now) write_stops c.ended_draft.result
    (λ honest sizes. write_leads key c.args.hmac.now c.args.head kinds.Write old honest sizes
    (only_at old (head_spot c.args.head) c.in-Ok.opened.table c.in-Ok.ensures.table) c.args.name.now c.args.from c.args.bytes.now
    (λ k. (c.type_inv.bytes k).fits))
    (returns-clause-works g c)
