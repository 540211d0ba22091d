use Rattle.std.proofs.Common.{subst}
use Rattle.family_log.specs.declared.entry.Spot.{Spot}
use Rattle.file_dataset.specs.declared.reply.FileReply.TheVariants as replies
use Rattle.file_dataset.specs.Calls.{block_key_of, refused_before}
use Rattle.file_dataset.specs.Reads.{plain_read}
use Rattle.file_dataset.specs.Steady.{called_read}
use Rattle.host_state.specs.FileLines.{served}
use Rattle.host_state.specs.FileAnswers.{Serves}
use Rattle.host_state.proofs.FileLemmas.{read_served, untouched}
use Rattle.host_state.proofs.host.files.read.Goals as goal

pub returns-in-Ok : goal.returns-in-Ok
returns-in-Ok g c =
    subst (λ (spot : Spot). Serves c.bytes_read.result c.args.family.now c.read_at.new.fam spot.head (refused_before c.args.key.now.hmac c.args.family.now spot) (served (λ bytes. replies.Bytes bytes) (called_read (λ held. plain_read (block_key_of c.args.key.now) c.args.key.now.hmac held c.args.file.now c.args.from c.args.len) spot c.args.family.now))) c.in-Ok.ensures
    (read_served (λ bytes. bytes.items) (λ bytes. replies.Bytes bytes) c.args.key.now.hmac (λ held. plain_read (block_key_of c.args.key.now) c.args.key.now.hmac held c.args.file.now c.args.from c.args.len) _ c.in-Ok.spot c.read_at.result c.args.family.now c.read_at.new.fam c.bytes_read.result
    (λ y earlier is. is) c.read_at.ensures.left c.read_at.ensures.before c.read_at.ensures.told c.bytes_read.ensures)

pub returns-in-Err : goal.returns-in-Err
returns-in-Err g c = untouched c.in-Err.stop c.args.family.now c.args.head _ _
