use Rattle.std.proofs.Common.{◌≡◌, ℕ, ◌*◌, ◌/◌, ◌%◌, ap, ◌∙◌, arith}
use Rattle.aes_block.specs.Field.{◌⊕◌, xtimes}
use Rattle.aes_block.proofs.field.xtimes.Goals as goal

pub returns : goal.returns
unfolding xtimes
returns c =
    let b = c.args.b in
    let doubled : b * 2 ≡ 2 * b = omega arith in
    let top : b / 128 ≡ b / 128 % 2 = omega arith in
    ap (λ (x : ℕ). (x % 256) ⊕ (b / 128 * 27)) doubled ∙ ap (λ (x : ℕ). (2 * b % 256) ⊕ (x * 27)) top
