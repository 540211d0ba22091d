use Rattle.std.proofs.Common.{◌-◌, ◌*◌, ◌/◌, ◌^◌, bit_and, bit_xor, ap, ◌∙◌, arith}
use Rattle.std.proofs.lemmas.Nat.{and_le_r}
use Rattle.gcm_seal.proofs.MultipleLaws.{place_added}
use Rattle.gcm_seal.proofs.product.with_multiple.Goals as goal

pub returns : goal.returns
returns c = λ h has held.
    let six_bits = bit_and (c.args.x / 2 ^ (120 - 6 * c.args.place)) 63 in
    ap (bit_xor c.args.sum) (has.each c.args.place six_bits c.requires (omega (arith, and_le_r (c.args.x / 2 ^ (120 - 6 * c.args.place)) 63)))
    ∙ place_added c.args.x h c.args.sum c.args.place c.requires held
