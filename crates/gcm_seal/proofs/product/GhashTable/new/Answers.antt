use Rattle.std.proofs.Common.{◌≡◌, ◌*◌, ◌^◌, slice_index, sym, ap, ◌∙◌, arith}
use Rattle.gcm_seal.specs.Gcm.{product}
use Rattle.gcm_seal.proofs.ProductLaws.{product_eight}
use Rattle.gcm_seal.proofs.product.GhashTable.new.Goals as goal

pub invariant_of-result : goal.invariant_of-result
invariant_of-result c = λ n lt.
    let own : slice_index c.loop-n.multiples 8 ≡ c.args.h = c.loop-n.invariant.done 8 (omega arith) ∙ product_eight c.args.h in
    c.loop-n.invariant.done n (omega arith) ∙ ap (product (n * 2 ^ 124)) (sym own)

pub returns : goal.returns
returns c = c.loop-n.invariant.done 8 (omega arith) ∙ product_eight c.args.h
