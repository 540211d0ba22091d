use Rattle.std.proofs.Common.{◌*◌, ◌^◌, ◌<◌, arith}
use Rattle.indirect_macs.proofs.Powers.{pow-32}
use Rattle.indirect_macs.proofs.children.block_over.Goals as goal

pub returns : goal.returns
returns c =
    let small : c.args.index * 32 ^ c.args.level < 4294967296 = c.requires.fits in
    rw (c.from.ensures, pow-32 c.args.level) (omega arith)
