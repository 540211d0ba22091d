use Rattle.std.proofs.Common.{subst}
use Rattle.family_log.specs.declared.entry.Spot.{Spot}
use Rattle.file_dataset.specs.declared.reply.FileReply.TheVariants as replies
use Rattle.file_dataset.specs.Calls.{block_key_of, refused_before}
use Rattle.file_dataset.specs.Reads.{plain_count}
use Rattle.file_dataset.specs.Steady.{called_read}
use Rattle.host_state.specs.FileLines.{served}
use Rattle.host_state.specs.FileAnswers.{Serves}
use Rattle.host_state.proofs.FileLemmas.{read_served, untouched}
use Rattle.host_state.proofs.host.files.verify.Goals as goal

pub returns-in-Ok : goal.returns-in-Ok
returns-in-Ok g c =
    subst (λ (spot : Spot). Serves c.counted.result c.args.family.now c.verify_head.new.fam spot.head (refused_before c.args.key.now.hmac c.args.family.now spot) (served (λ count. replies.Blocks count) (called_read (λ held. plain_count (block_key_of c.args.key.now) c.args.key.now.hmac held) spot c.args.family.now))) c.in-Ok.ensures
    (read_served (λ count. count) (λ count. replies.Blocks count) c.args.key.now.hmac (λ held. plain_count (block_key_of c.args.key.now) c.args.key.now.hmac held) _ c.in-Ok.spot c.verify_head.result c.args.family.now c.verify_head.new.fam c.counted.result
    (λ y earlier is. is) c.verify_head.ensures.left c.verify_head.ensures.before c.verify_head.ensures.told c.counted.ensures)

pub returns-in-Err : goal.returns-in-Err
returns-in-Err g c = untouched c.in-Err.stop c.args.family.now c.args.head _ _
