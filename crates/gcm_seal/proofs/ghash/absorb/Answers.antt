use Rattle.std.proofs.Common.{arith, ◌∙◌}
use Rattle.gcm_seal.proofs.Hashing.{absorb_none, absorb_more, absorb_all}
use Rattle.gcm_seal.proofs.ghash.absorb.Goals as goal

pub loop-i-init : goal.loop-i-init
loop-i-init c = λ h x has whole e. absorb_none h c.args.state x _ whole e

pub loop-i-preserved : goal.loop-i-preserved
loop-i-preserved c =
    let bytes = c.args.bytes.now in
    let i = c.loop-i.i in
    λ h x has whole e.
    c.multiply-y.ensures h has
    ∙ absorb_more h c.loop-i.y c.padded_number.result x bytes i whole (omega arith) (c.loop-i.invariant h x has whole e)
    (rw c.block_at.ensures at c.padded_number.ensures)

pub returns : goal.returns
returns c = λ h x has whole e. absorb_all h c.loop-i.y x c.args.bytes.now c.loop-i.i whole (omega arith) (c.loop-i.invariant h x has whole e)
