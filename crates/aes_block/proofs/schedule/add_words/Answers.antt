use Rattle.std.proofs.Common.{◌∙◌, arith}
use Rattle.aes_block.proofs.ScheduleLaws.{words_added}
use Rattle.aes_block.proofs.schedule.add_words.Goals as goal

pub returns : goal.returns
returns c = c.xor_into.ensures ∙ words_added c.args.a c.args.b (omega arith) (omega arith)
