use Rattle.std.proofs.Common.{arith}
use Rattle.indirect_macs.proofs.Powers.{pow-32}
use Rattle.indirect_macs.proofs.RunSpans.{behind}
use Rattle.indirect_macs.proofs.replace.is_behind.Goals as goal

pub returns : goal.returns
returns c =
    rw (c.from.ensures, c.from-2.ensures, c.from-3.ensures, pow-32 c.args.level)
    (behind c.args.run.now.blocks c.args.index c.args.level (omega arith) c.requires)
