use Rattle.std.proofs.Common.{◌≡◌, ℕ, ◌<◌, ◌≤◌, List, [], ◌∷◌, ◌++◌, length, take, get_or, ap, sym, ◌∙◌, arith}
use Rattle.key_machine.specs.Plain.{Plain}
use Rattle.key_ciphers.specs.Ciphers.{ciphers}
use Rattle.change_key.specs.Records.{sealed_in, anew, numbered}
use Rattle.change_key.proofs.RecordLemmas.{numbered_more, rising_above}
use Rattle.change_key.proofs.records.rewrapped.Goals as goal

-- the ids rise, so that the number of a record is at most its family's id
pub overflow_cast-number : goal.overflow_cast-number
overflow_cast-number g c =
    let n : ℕ = c.loop-number.number in
    let within : n < length c.args.families.now = omega arith in
    let above : n ≤ get_or c.args.families.now n 0 = rising_above c.args.families.now c.requires.rising n 0 within in
    let fits = (c.type_inv.families n).fits in
    omega (arith, above, fits)

pub loop-number-preserved : goal.loop-number-preserved
loop-number-preserved g c =
    let p : Plain = g.V.KeyView.shows c.args.state.now in
    let n : ℕ = c.loop-number.number in
    let family : ℕ = get_or c.args.families.now n 0 in
    let make = anew ciphers p c.args.seed.now c.args.old.now c.args.new.now in
    let so_far : List (ℕ × List ℕ) = numbered make 0 (take n c.args.families.now) in
    let within : n < length c.args.families.now = omega arith in
    c.in_ok-push.ensures.items
    ∙ ap (λ (items : List (ℕ × List ℕ)). items ++ (family, c.sealed_anew.result) ∷ []) c.loop-number.invariant
    ∙ ap (λ (sealed : List ℕ). so_far ++ (family, sealed) ∷ []) (c.sealed_anew.ensures ∙ ap (λ (vector : List ℕ). sealed_in ciphers p c.args.old.now c.args.new.now vector family) c.seeded_vector-vector.ensures)
    ∙ sym (numbered_more make c.args.families.now n 0 within)
