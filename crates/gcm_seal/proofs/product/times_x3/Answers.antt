use Rattle.gcm_seal.proofs.MultipleLaws.{three_times}
use Rattle.gcm_seal.proofs.product.times_x3.Goals as goal

pub returns : goal.returns
returns c =
    three_times c.args.v c.times_x.result c.times_x-2.result c.times_x-3.result c.times_x.ensures c.times_x-2.ensures c.times_x-3.ensures
