use Rattle.file_dataset.specs.declared.reply.FileReply.TheVariants as replies
use Rattle.file_dataset.specs.Calls.{block_key_of}
use Rattle.file_dataset.specs.Steady.{called_make}
use Rattle.file_dataset.proofs.SteadyLemmas.{edit_called}
use Rattle.host_state.proofs.FileLemmas.{edit_served}
use Rattle.host_state.proofs.host.files.touch.Goals as goal

pub returns : goal.returns
returns g c =
    let edits = c.make_file-answer.ensures.edits in
    edit_served (λ _. replies.Done) c.args.key.now.hmac 0 c.args.head edits.calls edits.draws edits.put c.make_file-answer.result c.args.family.now c.make_file-answer.new.fam c.done.result
    (called_make (block_key_of c.args.key.now) c.args.key.now.hmac c.args.head c.args.file.now c.args.family.now) (λ x earlier is. is) edits.left c.make_file-answer.ensures.before
    (λ steady. edit_called _ _ c.args.key.now.hmac 0 c.args.head _ _ _ c.make_file-answer.result c.args.family.now c.make_file-answer.new.fam steady c.used.ensures.sizes edits c.make_file-answer.ensures.before)
    c.done.ensures
