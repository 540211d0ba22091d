use Rattle.std.proofs.Common.{◌<◌, ◌∙◌, ◌==◌, cond, ℕ, length, set, ap, arith}
use Rattle.std.specs.Prelude.{◌+◌, ◌-◌, ◌^◌, min}
use Rattle.key_store.proofs.MappingLemmas.{map_over_place}
use Rattle.key_store.proofs.uses.add_use.Goals as goal

pub loop-entry-preserved : goal.loop-entry-preserved
loop-entry-preserved c =
    let changed : ℕ × ℕ → ℕ × ℕ = λ entry. (entry.0, cond (entry.0 == c.args.id) (min (entry.1 + 1) (2 ^ 32 - 1)) entry.1) in
    let within : c.loop-entry.entry-index < length c.args.counts.now = omega arith in
    let none : ℕ × ℕ = (0, 0) in
    let there : c.loop-entry.entry-index < length c.loop-entry.counts = omega arith in
    ap (λ (entry : ℕ × ℕ). set c.loop-entry.counts c.loop-entry.entry-index entry) c.with_use.ensures
    ∙ map_over_place changed c.args.counts.now c.loop-entry.counts c.loop-entry.entry-index none within there c.loop-entry.invariant
