use Rattle.file_blocks.proofs.Texts.{filled_is}
use Rattle.file_blocks.proofs.text.fill_to.Goals as goal

pub returns-in-Ok-clause-all : goal.returns-in-Ok-clause-all
returns-in-Ok-clause-all c = filled_is c.args.size _ c.args.list.now.items _ c.args.list.now.ok.0 c.in-Ok.ensures.items
