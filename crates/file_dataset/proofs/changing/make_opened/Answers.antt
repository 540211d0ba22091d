use Rattle.std.proofs.Common.{◌≡◌, ◌≤◌, ◌+◌, ◌++◌, ◌∷◌, [], ℕ, List, length, Some, None, ap, refl, subst, ◌∙◌, arith}
use Rattle.dataset_tree.specs.ShortNames.{file_fault}
use Rattle.file_blocks.specs.WriteFields.{write_to}
use Rattle.file_blocks.specs.Writes.{change_of_write}
use Rattle.family_log.specs.Log.{head_spot}
use Rattle.file_directory.specs.Entries.{directory_text, with_entry}
use Rattle.file_directory.specs.Form.{any_object}
use Rattle.file_dataset.specs.declared.halt.Halt.TheVariants as halts
use Rattle.file_dataset.specs.declared.kind.Kind.TheVariants as kinds
use Rattle.file_dataset.specs.ChangeCalls.{make_stops}
use Rattle.file_dataset.specs.Changes.{empty_object, empty_row, greatest_object, made_in}
use Rattle.file_dataset.proofs.CallCounts.{anew_few}
use Rattle.file_dataset.proofs.LengthLemmas.{makes_edits}
use Rattle.file_dataset.proofs.MakeLemmas.{make_shape, new_few, new_is_fresh, rows_of_make, was_ok}
use Rattle.file_dataset.proofs.SealedLemmas.{works_sealed}
use Rattle.file_dataset.proofs.Sizes.{size_bounds}
use Rattle.file_dataset.proofs.WorkLeads.{made_leads_so, only_at, only_directory, works_leads}
use Rattle.file_dataset.proofs.WorkLemmas.{works_none}
use Rattle.file_dataset.proofs.changing.make_opened.Goals as goal

pub returns-in-Err-clause-works : goal.returns-in-Err-clause-works
returns-in-Err-clause-works g c = works_none kinds.Make _ _ _ _ make_stops c.in-Err.halt c.args.fam.now c.in-Err.ensures.stop

pub insert-requires : goal.insert-requires
insert-requires g c =
    new_is_fresh c.args.table.now c.args.name.now c.args.directory c.greatest_object-object.result any_object c.requires.table.in_form.form
    c.requires.directory c.requires.fault (subst (λ (text : List ℕ). file_fault text ≡ None) c.as_bytes-in_form.ensures.bytes c.as_bytes-in_form.ensures.in_form)
    (c.greatest_object-object.ensures ∙ ap greatest_object c.as_slice.ensures) refl

pub returns-then-is_err-clause-works : goal.returns-then-is_err-clause-works
returns-then-is_err-clause-works g c = works_none kinds.Make _ _ _ _ make_stops halts.NoMemory c.args.fam.now refl

pub directory_anew-sealed-requires-clause-few : goal.directory_anew-sealed-requires-clause-few
directory_anew-sealed-requires-clause-few g c =
    let greatest = c.greatest_object-object.ensures ∙ ap greatest_object c.as_slice.ensures in
    let named = subst (λ (text : List ℕ). file_fault text ≡ None) c.as_bytes-in_form.ensures.bytes c.as_bytes-in_form.ensures.in_form in
    let wide = (size_bounds c.args.table.now.block c.requires.table.in_form.record_size).0 in
    rw (was_ok c.insert.result c.is_err.ensures.value c.if-is_err.false c.insert.ensures.inserted)
    (new_few c.args.table.now c.args.name.now c.args.directory c.greatest_object-object.result wide c.requires.table.in_form.form c.requires.directory
    c.requires.fault named greatest)

pub returns-clause-works : goal.returns-clause-works
returns-clause-works g c =
    let table = c.args.table.now in
    let k = c.greatest_object-object.result in
    let greatest = c.greatest_object-object.ensures ∙ ap greatest_object c.as_slice.ensures in
    let wide = (size_bounds c.args.table.now.block c.requires.table.in_form.record_size).0 in
    let inserted = was_ok c.insert.result c.is_err.ensures.value c.if-is_err.false c.insert.ensures.inserted in
    let named = subst (λ (text : List ℕ). file_fault text ≡ None) c.as_bytes-in_form.ensures.bytes c.as_bytes-in_form.ensures.in_form in
    let few : length (directory_text c.insert.new.self) ≤ 70656 =
    rw inserted (new_few c.args.table.now c.args.name.now c.args.directory k wide c.requires.table.in_form.form c.requires.directory c.requires.fault named greatest) in
    works_sealed kinds.Make _ _ _ _ 1 (c.args.table.now.rows ++ empty_row (c.greatest_object-object.result + 1) ∷ [])
    (Some (record { object = c.greatest_object-object.result + 1; length = Some 0 }))
    (λ held. change_of_write _ held (write_to empty_object c.args.table.now.block 0 (directory_text c.insert.new.self)))
    c.args.table.now c.args.fam.now c.directory_anew-sealed.new.fam make_stops _ _ c.args.table.now.block _ c.in-Ok.draft c.directory_anew-sealed.result
    c.ended_draft.result (refl, refl) c.requires.table.found
    (λ held. make_shape c.args.table.now c.args.name.now c.args.directory c.greatest_object-object.result _ held c.insert.new.self c.requires.fault greatest inserted)
    (λ wrote made of_made form. makes_edits kinds.Make _ _ 1 (c.args.table.now.rows ++ empty_row (c.greatest_object-object.result + 1) ∷ [])
    (Some (record { object = c.greatest_object-object.result + 1; length = Some 0 })) c.args.table.now c.args.fam.now c.in-Ok.draft wide c.requires.table
    (rows_of_make c.args.table.now c.args.name.now c.args.directory c.greatest_object-object.result wide c.requires.table.in_form.form c.requires.fault greatest)
    c.in-Ok.ensures.draft wrote made of_made form)
    c.directory_anew-sealed.ensures.left
    (anew_few c.args.table.now.block (directory_text c.insert.new.self) (omega (arith, wide)) few)
    c.directory_anew-sealed.ensures.leaving c.directory_anew-sealed.ensures.told c.directory_anew-sealed.ensures.noted
    c.directory_anew-sealed.ensures.wrote
    (record { of_draft = c.in-Ok.ensures.draft; made = c.ended_draft.ensures.made; failed = c.ended_draft.ensures.failed; stop = c.ended_draft.ensures.stop })

pub returns-clause-leads : goal.returns-clause-leads
returns-clause-leads g c =
    let old = c.args.fam.now in
    let table = c.args.table.now in
    works_leads (g.K.BlockKey.told c.args.key.now) c.args.hmac.now c.args.head kinds.Make old c.directory_anew-sealed.new.fam _ make_stops c.ended_draft.result
    (λ honest sizes. made_leads_so (g.K.BlockKey.told c.args.key.now) c.args.hmac.now c.args.head kinds.Make old honest sizes
    (only_at old (head_spot c.args.head) table c.requires.table) c.args.name.now c.args.directory
    (subst (λ (text : List ℕ). file_fault text ≡ None) c.as_bytes-in_form.ensures.bytes c.as_bytes-in_form.ensures.in_form)
    (only_directory old (head_spot c.args.head) table c.args.directory c.requires.table.found c.requires.directory))
    (returns-clause-works g c)
