use Rattle.std.proofs.Common.{◌≡◌, ◌≤◌, ℕ, List, length, Some, None, refl, arith}
use Rattle.file_blocks.specs.WriteFields.{write_to}
use Rattle.file_blocks.specs.Writes.{change_of_write}
use Rattle.family_log.specs.Log.{head_spot}
use Rattle.file_directory.specs.Entries.{directory_text}
use Rattle.file_dataset.specs.declared.kind.Kind.TheVariants as kinds
use Rattle.file_dataset.specs.ChangeCalls.{remove_stops}
use Rattle.file_dataset.specs.Changes.{empty_object, removed_in, without_row}
use Rattle.file_dataset.proofs.CallCounts.{anew_few}
use Rattle.file_dataset.proofs.LengthLemmas.{makes_edits}
use Rattle.file_dataset.proofs.MakeLemmas.{remove_shape, removed_few, rows_of_remove}
use Rattle.file_dataset.proofs.SealedLemmas.{works_sealed}
use Rattle.file_dataset.proofs.Sizes.{size_bounds}
use Rattle.file_dataset.proofs.WorkLeads.{only_at, only_directory, removed_leads_so, works_leads}
use Rattle.file_dataset.proofs.WorkLemmas.{works_none}
use Rattle.file_dataset.proofs.changing.remove_opened.Goals as goal

pub returns-in-Err-clause-works : goal.returns-in-Err-clause-works
returns-in-Err-clause-works g c = works_none kinds.Remove _ _ _ _ remove_stops c.in-Err.halt c.args.fam.now c.in-Err.ensures.stop

pub directory_anew-sealed-requires-clause-few : goal.directory_anew-sealed-requires-clause-few
directory_anew-sealed-requires-clause-few g c =
    rw c.remove.ensures (removed_few c.args.table.now c.args.name.now c.args.directory c.args.object c.requires.table.in_form.form c.requires.directory)

pub returns-clause-works : goal.returns-clause-works
returns-clause-works g c =
    let wide = (size_bounds c.args.table.now.block c.requires.table.in_form.record_size).0 in
    let few : length (directory_text c.remove.new.self) ≤ 70656 =
    rw c.remove.ensures (removed_few c.args.table.now c.args.name.now c.args.directory c.args.object c.requires.table.in_form.form c.requires.directory) in
    works_sealed kinds.Remove _ _ _ _ 1 (without_row c.args.object c.args.table.now.rows) (Some (record { object = c.args.object; length = None }))
    (λ held. change_of_write _ held (write_to empty_object c.args.table.now.block 0 (directory_text c.remove.new.self)))
    c.args.table.now c.args.fam.now c.directory_anew-sealed.new.fam remove_stops _ _ c.args.table.now.block _ c.in-Ok.draft c.directory_anew-sealed.result
    c.ended_draft.result (refl, refl) c.requires.table.found
    (λ held. remove_shape c.args.table.now c.args.name.now c.args.directory c.args.object _ held c.remove.new.self c.requires.directory c.requires.object
    c.remove.ensures)
    (λ wrote made of_made form. makes_edits kinds.Remove _ _ 1 (without_row c.args.object c.args.table.now.rows)
    (Some (record { object = c.args.object; length = None })) c.args.table.now c.args.fam.now c.in-Ok.draft wide c.requires.table
    (rows_of_remove c.args.table.now c.args.name.now c.args.directory c.args.object c.requires.table.in_form.form c.requires.directory c.requires.object)
    c.in-Ok.ensures.draft wrote made of_made form)
    c.directory_anew-sealed.ensures.left
    (anew_few c.args.table.now.block (directory_text c.remove.new.self) (omega (arith, wide)) few)
    c.directory_anew-sealed.ensures.leaving c.directory_anew-sealed.ensures.told c.directory_anew-sealed.ensures.noted
    c.directory_anew-sealed.ensures.wrote
    (record { of_draft = c.in-Ok.ensures.draft; made = c.ended_draft.ensures.made; failed = c.ended_draft.ensures.failed; stop = c.ended_draft.ensures.stop })

pub returns-clause-leads : goal.returns-clause-leads
returns-clause-leads g c =
    let old = c.args.fam.now in
    let table = c.args.table.now in
    works_leads (g.K.BlockKey.told c.args.key.now) c.args.hmac.now c.args.head kinds.Remove old c.directory_anew-sealed.new.fam _ remove_stops c.ended_draft.result
    (λ honest sizes. removed_leads_so (g.K.BlockKey.told c.args.key.now) c.args.hmac.now c.args.head kinds.Remove old honest sizes
    (only_at old (head_spot c.args.head) table c.requires.table) c.args.name.now c.args.directory
    (only_directory old (head_spot c.args.head) table c.args.directory c.requires.table.found c.requires.directory))
    (returns-clause-works g c)
