use Rattle.std.proofs.Common.{sym}
use Rattle.gcm_seal.proofs.MultipleLaws.{times_x_even, times_x_odd}
use Rattle.gcm_seal.proofs.product.times_x.Goals as goal

pub returns-then-v-eq0 : goal.returns-then-v-eq0
returns-then-v-eq0 c = sym (times_x_even c.args.v c.if-v-eq0.true)

pub returns-else-v-eq0 : goal.returns-else-v-eq0
returns-else-v-eq0 c = sym (times_x_odd c.args.v c.if-v-eq0.false)
