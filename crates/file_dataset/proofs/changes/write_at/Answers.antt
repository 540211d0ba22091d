use Rattle.std.proofs.Common.{refl, sym, ◌∙◌}
use Rattle.file_dataset.specs.declared.kind.Kind.TheVariants as kinds
use Rattle.file_dataset.specs.ChangeCalls.{write_stops, wrote_by}
use Rattle.file_dataset.proofs.EditsLemmas.{edits_ended, edits_passed, ended_at, place_at, refused_ended, stop_at}
use Rattle.family_log.specs.Log.{head_spot}
use Rattle.file_dataset.specs.Calls.{block_key_of}
use Rattle.file_dataset.specs.Changes.{write_edit}
use Rattle.file_dataset.proofs.CallLemmas.{write_files}
use Rattle.file_dataset.proofs.KeepLemmas.{edits_keep_others, refused_edits_keep}
use Rattle.file_dataset.proofs.KeptLemmas.{kept_table}
use Rattle.file_dataset.proofs.WorkLeads.{call_honest, write_puts}
use Rattle.file_dataset.proofs.changes.write_at.Goals as goal

pub returns-in_err-note-clause-edits : goal.returns-in_err-note-clause-edits
returns-in_err-note-clause-edits g c =
    edits_passed kinds.Write _ _ c.args.head _ write_stops _ c.from_residual.result c.in_err-note.field-0.0 c.args.fam.now refl refl c.from_residual.ensures
    (stop_at c.args.fam.now c.args.head c.head_spot.result c.in_err-note.field-0.0 c.head_spot.ensures c.in_err-note.ensures.refused)

pub returns-clause-edits : goal.returns-clause-edits
returns-clause-edits g c =
    rw (sym c.hmac.ensures)
    (edits_ended kinds.Write _ _ c.args.head _ write_stops c.write_in_head-answer.result c.ended.result c.used-before.result c.args.fam.now c.write_in_head-answer.new.fam
    c.ended.new.fam refl (place_at c.args.fam.now c.args.head c.head_spot.result c.head_spot.ensures c.in_ok-note.ensures.place) c.used-before.ensures.draws c.used-before.ensures.puts c.write_in_head-answer.ensures.works
    (ended_at c.args.head c.in_ok-note.note c.used-before.result c.write_in_head-answer.result c.ended.result c.write_in_head-answer.new.fam c.ended.new.fam
    (c.in_ok-note.ensures.copy ∙ c.head_spot.ensures) c.ended.ensures.ended))

pub returns-clause-before : goal.returns-clause-before
returns-clause-before g c =
    rw (sym c.hmac.ensures)
    (refused_ended _ _ c.args.head c.write_in_head-answer.result c.ended.result c.used-before.result c.args.fam.now c.write_in_head-answer.new.fam c.ended.new.fam
    (place_at c.args.fam.now c.args.head c.head_spot.result c.head_spot.ensures c.in_ok-note.ensures.place) c.write_in_head-answer.ensures.before
    (ended_at c.args.head c.in_ok-note.note c.used-before.result c.write_in_head-answer.result c.ended.result c.write_in_head-answer.new.fam c.ended.new.fam
    (c.in_ok-note.ensures.copy ∙ c.head_spot.ensures) c.ended.ensures.ended))

pub returns-clause-honest : goal.returns-clause-honest
returns-clause-honest g c =
    let old = c.args.fam.now in
    let sizes = c.used-before.ensures.sizes in
    call_honest (block_key_of c.args.key.now) c.hmac.result.now c.args.head kinds.Write old c.write_in_head-answer.new.fam c.ended.new.fam _ write_stops c.in_ok-note.note c.write_in_head-answer.result sizes
    (λ honest. write_puts (block_key_of c.args.key.now) c.hmac.result.now c.args.head kinds.Write old honest sizes
    (λ table of_head. kept_table old (head_spot c.args.head) table c.in_ok-note.ensures.kept (sym of_head)) c.args.name.now c.args.from c.args.bytes.now (λ k. (c.type_inv.bytes k).fits))
    c.write_in_head-answer.ensures.works c.write_in_head-answer.ensures.leads (c.in_ok-note.ensures.copy ∙ c.head_spot.ensures) c.ended.ensures.room c.ended.ensures.honest

pub returns-clause-files : goal.returns-clause-files
returns-clause-files g c =
    write_files (block_key_of c.args.key.now) c.args.key.now.hmac c.args.head kinds.Write c.args.name.now write_stops (wrote_by c.args.fam.now.salts) c.args.fam.now c.ended.new.fam c.in_ok-note.ensures.kept
    c.used-before.ensures.sizes (place_at c.args.fam.now c.args.head c.head_spot.result c.head_spot.ensures c.in_ok-note.ensures.place) c.args.from c.args.bytes.now c.ended.result (returns-clause-edits g c)

pub returns-clause-others : goal.returns-clause-others
returns-clause-others g c =
    edits_keep_others kinds.Write (block_key_of c.args.key.now) c.args.key.now.hmac c.args.head (write_edit (block_key_of c.args.key.now) c.args.key.now.hmac c.args.name.now c.args.from c.args.bytes.now)
    write_stops (wrote_by c.args.fam.now.salts) c.ended.result c.args.fam.now c.ended.new.fam (returns-clause-edits g c)

pub returns-clause-refused : goal.returns-clause-refused
returns-clause-refused g c =
    refused_edits_keep kinds.Write (block_key_of c.args.key.now) c.args.key.now.hmac c.args.head (write_edit (block_key_of c.args.key.now) c.args.key.now.hmac c.args.name.now c.args.from c.args.bytes.now)
    write_stops (wrote_by c.args.fam.now.salts) c.ended.result c.args.fam.now c.ended.new.fam (returns-clause-edits g c)
