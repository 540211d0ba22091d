use Rattle.std.proofs.Common.{refl, sym, ◌∙◌, Ok, Err}
use Rattle.file_dataset.specs.declared.kind.Kind.TheVariants as kinds
use Rattle.file_dataset.specs.ChangeCalls.{write_stops}
use Rattle.file_dataset.proofs.EditsLemmas.{edits_ended, edits_nothing, edits_passed, edits_stopped, ended_at, place_at, refused_ended, refused_nothing, refused_stopped, stop_at}
use Rattle.family_log.specs.Log.{head_spot}
use Rattle.file_dataset.specs.Calls.{block_key_of}
use Rattle.file_dataset.specs.Changes.{cut_edit}
use Rattle.file_dataset.proofs.CallLemmas.{cut_files}
use Rattle.file_dataset.proofs.KeepLemmas.{edits_keep_others, refused_edits_keep}
use Rattle.file_dataset.proofs.KeptLemmas.{kept_table}
use Rattle.file_dataset.proofs.WorkLeads.{call_honest, cut_puts}
use Rattle.file_dataset.proofs.changes.cut.Goals as goal

pub returns-in_err-note-clause-edits : goal.returns-in_err-note-clause-edits
returns-in_err-note-clause-edits g c =
    edits_passed kinds.Cut _ _ c.args.head _ write_stops _ c.from_residual.result c.in_err-note.field-0.0 c.args.fam.now refl refl c.from_residual.ensures
    (stop_at c.args.fam.now c.args.head c.head_spot.result c.in_err-note.field-0.0 c.head_spot.ensures c.in_err-note.ensures.refused)

pub returns-in-Ok-clause-edits : goal.returns-in-Ok-clause-edits
returns-in-Ok-clause-edits g c =
    rw (sym c.hmac.ensures)
    (edits_nothing kinds.Cut _ _ c.args.head _ write_stops _ c.in-Ok.field-0 c.args.fam.now c.ended.new.fam
    (edits_ended kinds.Cut _ _ c.args.head _ write_stops c.cut_in_head-answer.result (Ok c.in-Ok.field-0) c.used-before.result c.args.fam.now c.cut_in_head-answer.new.fam
    c.ended.new.fam refl (place_at c.args.fam.now c.args.head c.head_spot.result c.head_spot.ensures c.in_ok-note.ensures.place) c.used-before.ensures.draws
    c.used-before.ensures.puts c.cut_in_head-answer.ensures.works
    (ended_at c.args.head c.in_ok-note.note c.used-before.result c.cut_in_head-answer.result (Ok c.in-Ok.field-0) c.cut_in_head-answer.new.fam c.ended.new.fam
    (c.in_ok-note.ensures.copy ∙ c.head_spot.ensures) c.in-Ok.ensures.ended)))

pub returns-in-Err-clause-edits : goal.returns-in-Err-clause-edits
returns-in-Err-clause-edits g c =
    rw (sym c.hmac.ensures)
    (edits_stopped kinds.Cut _ _ c.args.head _ write_stops _ c.in-Err.stop c.args.fam.now c.ended.new.fam
    (edits_ended kinds.Cut _ _ c.args.head _ write_stops c.cut_in_head-answer.result (Err c.in-Err.stop) c.used-before.result c.args.fam.now c.cut_in_head-answer.new.fam
    c.ended.new.fam refl (place_at c.args.fam.now c.args.head c.head_spot.result c.head_spot.ensures c.in_ok-note.ensures.place) c.used-before.ensures.draws
    c.used-before.ensures.puts c.cut_in_head-answer.ensures.works
    (ended_at c.args.head c.in_ok-note.note c.used-before.result c.cut_in_head-answer.result (Err c.in-Err.stop) c.cut_in_head-answer.new.fam c.ended.new.fam
    (c.in_ok-note.ensures.copy ∙ c.head_spot.ensures) c.in-Err.ensures.ended)))

pub returns-in-Ok-clause-before : goal.returns-in-Ok-clause-before
returns-in-Ok-clause-before g c =
    rw (sym c.hmac.ensures)
    (refused_nothing _ c.args.head c.in-Ok.field-0 c.args.fam.now c.ended.new.fam
    (refused_ended _ c.args.to c.args.head c.cut_in_head-answer.result (Ok c.in-Ok.field-0) c.used-before.result c.args.fam.now c.cut_in_head-answer.new.fam c.ended.new.fam
    (place_at c.args.fam.now c.args.head c.head_spot.result c.head_spot.ensures c.in_ok-note.ensures.place) c.cut_in_head-answer.ensures.before
    (ended_at c.args.head c.in_ok-note.note c.used-before.result c.cut_in_head-answer.result (Ok c.in-Ok.field-0) c.cut_in_head-answer.new.fam c.ended.new.fam
    (c.in_ok-note.ensures.copy ∙ c.head_spot.ensures) c.in-Ok.ensures.ended)))

pub returns-in-Err-clause-before : goal.returns-in-Err-clause-before
returns-in-Err-clause-before g c =
    rw (sym c.hmac.ensures)
    (refused_stopped _ c.args.head c.in-Err.stop c.args.fam.now c.ended.new.fam
    (refused_ended _ c.args.to c.args.head c.cut_in_head-answer.result (Err c.in-Err.stop) c.used-before.result c.args.fam.now c.cut_in_head-answer.new.fam c.ended.new.fam
    (place_at c.args.fam.now c.args.head c.head_spot.result c.head_spot.ensures c.in_ok-note.ensures.place) c.cut_in_head-answer.ensures.before
    (ended_at c.args.head c.in_ok-note.note c.used-before.result c.cut_in_head-answer.result (Err c.in-Err.stop) c.cut_in_head-answer.new.fam c.ended.new.fam
    (c.in_ok-note.ensures.copy ∙ c.head_spot.ensures) c.in-Err.ensures.ended)))

pub returns-in-Ok-clause-honest : goal.returns-in-Ok-clause-honest
returns-in-Ok-clause-honest g c =
    let old = c.args.fam.now in
    let sizes = c.used-before.ensures.sizes in
    call_honest (block_key_of c.args.key.now) c.hmac.result.now c.args.head kinds.Cut old c.cut_in_head-answer.new.fam c.ended.new.fam _ write_stops c.in_ok-note.note c.cut_in_head-answer.result sizes
    (λ honest. cut_puts (block_key_of c.args.key.now) c.hmac.result.now c.args.head kinds.Cut old honest sizes
    (λ table of_head. kept_table old (head_spot c.args.head) table c.in_ok-note.ensures.kept (sym of_head)) c.args.name.now c.args.to)
    c.cut_in_head-answer.ensures.works c.cut_in_head-answer.ensures.leads (c.in_ok-note.ensures.copy ∙ c.head_spot.ensures) c.ended.ensures.room c.ended.ensures.honest

pub returns-in-Ok-clause-files : goal.returns-in-Ok-clause-files
returns-in-Ok-clause-files g c =
    cut_files (block_key_of c.args.key.now) c.args.key.now.hmac c.args.head kinds.Cut c.args.name.now write_stops (λ _. tt) c.args.fam.now c.ended.new.fam c.in_ok-note.ensures.kept
    c.used-before.ensures.sizes (place_at c.args.fam.now c.args.head c.head_spot.result c.head_spot.ensures c.in_ok-note.ensures.place) c.args.to (Ok tt) (returns-in-Ok-clause-edits g c)

pub returns-in-Ok-clause-others : goal.returns-in-Ok-clause-others
returns-in-Ok-clause-others g c =
    edits_keep_others kinds.Cut (block_key_of c.args.key.now) c.args.key.now.hmac c.args.head (cut_edit (block_key_of c.args.key.now) c.args.key.now.hmac c.args.name.now c.args.to)
    write_stops (λ _. tt) (Ok tt) c.args.fam.now c.ended.new.fam (returns-in-Ok-clause-edits g c)

pub returns-in-Err-clause-refused : goal.returns-in-Err-clause-refused
returns-in-Err-clause-refused g c =
    refused_edits_keep kinds.Cut (block_key_of c.args.key.now) c.args.key.now.hmac c.args.head (cut_edit (block_key_of c.args.key.now) c.args.key.now.hmac c.args.name.now c.args.to)
    write_stops (λ _. tt) (Err c.in-Err.stop) c.args.fam.now c.ended.new.fam (returns-in-Err-clause-edits g c)

pub returns-in-Err-clause-honest : goal.returns-in-Err-clause-honest
returns-in-Err-clause-honest g c =
    let old = c.args.fam.now in
    let sizes = c.used-before.ensures.sizes in
    call_honest (block_key_of c.args.key.now) c.hmac.result.now c.args.head kinds.Cut old c.cut_in_head-answer.new.fam c.ended.new.fam _ write_stops c.in_ok-note.note c.cut_in_head-answer.result sizes
    (λ honest. cut_puts (block_key_of c.args.key.now) c.hmac.result.now c.args.head kinds.Cut old honest sizes
    (λ table of_head. kept_table old (head_spot c.args.head) table c.in_ok-note.ensures.kept (sym of_head)) c.args.name.now c.args.to)
    c.cut_in_head-answer.ensures.works c.cut_in_head-answer.ensures.leads (c.in_ok-note.ensures.copy ∙ c.head_spot.ensures) c.ended.ensures.room c.ended.ensures.honest

pub returns-in-Err-clause-others : goal.returns-in-Err-clause-others
returns-in-Err-clause-others g c =
    edits_keep_others kinds.Cut (block_key_of c.args.key.now) c.args.key.now.hmac c.args.head (cut_edit (block_key_of c.args.key.now) c.args.key.now.hmac c.args.name.now c.args.to)
    write_stops (λ _. tt) (Err c.in-Err.stop) c.args.fam.now c.ended.new.fam (returns-in-Err-clause-edits g c)
