use Rattle.std.proofs.Common.{◌≡◌, ℕ, ◌*◌, ◌/◌, ◌^◌, ap, ◌∙◌, arith}
use Rattle.gcm_seal.specs.Gcm.{product}
use Rattle.gcm_seal.proofs.product.multiply.Goals as goal

pub returns : goal.returns
returns c = λ h has.
    let x = c.args.x in
    let s1 = c.with_multiple.ensures h has (has.front (x / 2 ^ 126) (omega arith)) in
    let s2 = c.with_multiple-2.ensures h has s1 in
    let s3 = c.with_multiple-3.ensures h has s2 in
    let s4 = c.with_multiple-4.ensures h has s3 in
    let s5 = c.with_multiple-5.ensures h has s4 in
    let s6 = c.with_multiple-6.ensures h has s5 in
    let s7 = c.with_multiple-7.ensures h has s6 in
    let s8 = c.with_multiple-8.ensures h has s7 in
    let s9 = c.with_multiple-9.ensures h has s8 in
    let s10 = c.with_multiple-10.ensures h has s9 in
    let s11 = c.with_multiple-11.ensures h has s10 in
    let s12 = c.with_multiple-12.ensures h has s11 in
    let s13 = c.with_multiple-13.ensures h has s12 in
    let s14 = c.with_multiple-14.ensures h has s13 in
    let s15 = c.with_multiple-15.ensures h has s14 in
    let s16 = c.with_multiple-16.ensures h has s15 in
    let s17 = c.with_multiple-17.ensures h has s16 in
    let s18 = c.with_multiple-18.ensures h has s17 in
    let s19 = c.with_multiple-19.ensures h has s18 in
    let s20 = c.with_multiple-20.ensures h has s19 in
    let s21 = c.with_multiple-21.ensures h has s20 in
    let whole : x / 2 ^ 0 * 2 ^ 0 ≡ x = omega arith in
    s21 ∙ ap (λ (y : ℕ). product y h) whole
