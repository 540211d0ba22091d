use Rattle.aes_block.proofs.FieldLaws.{mixed_byte}
use Rattle.aes_block.proofs.state.mixed.Goals as goal

pub returns : goal.returns
returns c = rw c.xtimes.ensures (mixed_byte c.args.a c.args.b c.args.c c.args.d)
