use Rattle.std.proofs.Common.{sym, arith}
use Rattle.aes_block.specs.Field.{inverse}
use Rattle.aes_block.proofs.FieldLaws.{power-one, power_of_product}
use Rattle.aes_block.proofs.field.inverse.Goals as goal

pub returns : goal.returns
unfolding inverse
returns c =
    let b = c.args.b in
    let p1 = sym (power-one b (omega arith)) in
    let p2 = power_of_product b 1 1 c.multiply-power_2.ensures p1 p1 in
    let p3 = power_of_product b 1 2 c.multiply-power_3.ensures p1 p2 in
    let p6 = power_of_product b 3 3 c.multiply-power_6.ensures p3 p3 in
    let p12 = power_of_product b 6 6 c.multiply-power_12.ensures p6 p6 in
    let p15 = power_of_product b 3 12 c.multiply-power_15.ensures p3 p12 in
    let p30 = power_of_product b 15 15 c.multiply-power_30.ensures p15 p15 in
    let p60 = power_of_product b 30 30 c.multiply-power_60.ensures p30 p30 in
    let p120 = power_of_product b 60 60 c.multiply-power_120.ensures p60 p60 in
    let p240 = power_of_product b 120 120 c.multiply-power_240.ensures p120 p120 in
    let p252 = power_of_product b 12 240 c.multiply-power_252.ensures p12 p240 in
    power_of_product b 2 252 c.multiply.ensures p2 p252
