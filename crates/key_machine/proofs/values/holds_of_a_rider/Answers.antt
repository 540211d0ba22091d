use Rattle.std.proofs.Common.{◌≤◌, arith}
use Rattle.key_machine.proofs.HoldLaws.{few_holds, not_more_holds}
use Rattle.key_machine.proofs.values.holds_of_a_rider.Goals as goal

pub returns-clause-most : goal.returns-clause-most
returns-clause-most c = few_holds 65535 (omega arith)

pub returns-clause-more : goal.returns-clause-more
returns-clause-more c = λ sound. let few : 65536 ≤ 65535 = not_more_holds 65536 sound in omega (arith, few)
