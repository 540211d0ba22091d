use Rattle.std.proofs.Common.{subst}
use Rattle.family_log.specs.declared.entry.Spot.{Spot}
use Rattle.file_dataset.specs.declared.reply.FileReply.TheVariants as replies
use Rattle.file_dataset.specs.Calls.{block_key_of, refused_before}
use Rattle.file_dataset.specs.Reads.{plain_names}
use Rattle.file_dataset.specs.Steady.{called_read}
use Rattle.host_state.specs.FileLines.{served}
use Rattle.host_state.specs.FileAnswers.{Serves}
use Rattle.host_state.proofs.FileLemmas.{read_served, untouched}
use Rattle.host_state.proofs.host.files.list.Goals as goal

pub returns-in-Ok : goal.returns-in-Ok
returns-in-Ok g c =
    subst (λ (spot : Spot). Serves c.listed.result c.args.family.now c.names.new.fam spot.head (refused_before c.args.key.now.hmac c.args.family.now spot) (served (λ rows. replies.Names rows) (called_read (λ held. plain_names (block_key_of c.args.key.now) c.args.key.now.hmac held) spot c.args.family.now))) c.in-Ok.ensures
    (read_served (λ rows. rows.items) (λ rows. replies.Names rows) c.args.key.now.hmac (λ held. plain_names (block_key_of c.args.key.now) c.args.key.now.hmac held) _ c.in-Ok.spot c.names.result c.args.family.now c.names.new.fam c.listed.result
    (λ y earlier is. is) c.names.ensures.left c.names.ensures.before c.names.ensures.told c.listed.ensures)

pub returns-in-Err : goal.returns-in-Err
returns-in-Err g c = untouched c.in-Err.stop c.args.family.now c.args.head _ _
