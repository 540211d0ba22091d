use Rattle.std.proofs.Common.{arith}
use Rattle.gcm_seal.proofs.MultipleLaws.{far_of, reduced_is}
use Rattle.gcm_seal.proofs.product.reduced.Goals as goal

pub returns : goal.returns
unfolding far_of
returns c = reduced_is c.args.back (omega arith)
