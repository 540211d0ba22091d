use Rattle.gcm_seal.proofs.MultipleLaws.{eight_held}
use Rattle.gcm_seal.proofs.product.eight_sums.Goals as goal

pub returns : goal.returns
returns c = λ h i n within held lt.
    eight_held h i c.args.v c.times_x-once.result c.times_x-twice.result within held c.times_x-once.ensures c.times_x-twice.ensures n lt
