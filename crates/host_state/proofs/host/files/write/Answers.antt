use Rattle.std.proofs.Common.{length, ◌+◌}
use Rattle.file_dataset.specs.declared.reply.FileReply.TheVariants as replies
use Rattle.file_dataset.specs.Calls.{block_key_of}
use Rattle.file_dataset.specs.Changes.{write_edit}
use Rattle.file_dataset.specs.Steady.{called_write}
use Rattle.file_dataset.proofs.SteadyLemmas.{edit_called}
use Rattle.host_state.proofs.FileLemmas.{edit_served}
use Rattle.host_state.proofs.host.files.write.Goals as goal

pub returns : goal.returns
returns g c =
    let edits = c.write_at-answer.ensures.edits in
    edit_served (λ wrote. replies.Wrote wrote.blocks wrote.number) c.args.key.now.hmac (c.args.from + length c.args.bytes.now) c.args.head edits.calls edits.draws edits.put c.write_at-answer.result c.args.family.now c.write_at-answer.new.fam c.wrote.result
    (called_write (block_key_of c.args.key.now) c.args.key.now.hmac c.args.head c.args.file.now c.args.from c.args.bytes.now c.args.family.now) (λ x earlier is. is) edits.left c.write_at-answer.ensures.before
    (λ steady. edit_called _ _ c.args.key.now.hmac (c.args.from + length c.args.bytes.now) c.args.head
    (write_edit (block_key_of c.args.key.now) c.args.key.now.hmac c.args.file.now c.args.from c.args.bytes.now) _ _ c.write_at-answer.result c.args.family.now c.write_at-answer.new.fam steady c.used.ensures.sizes edits c.write_at-answer.ensures.before)
    c.wrote.ensures
