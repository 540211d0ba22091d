use Rattle.std.proofs.Common.{◌<◌, ◌∙◌, ℕ, List, length, set, ap, sym, arith}
use Rattle.std.proofs.lemmas.List.Edits.{map_over_more}
use Rattle.key_store.specs.declared.state.FamilyRecord.{FamilyRecord}
use Rattle.key_store.specs.State.{with_written}
use Rattle.key_store.proofs.plans.write_records.Goals as goal

pub loop-entry-preserved : goal.loop-entry-preserved
loop-entry-preserved c =
    let written : List (ℕ × List ℕ) = c.args.written.now in
    let within : c.loop-entry.entry-index < length c.args.records.now = omega arith in
    ap (λ (entry : ℕ × FamilyRecord). set c.loop-entry.records c.loop-entry.entry-index entry)
    (c.with_written.ensures ∙ ap (λ (entry : ℕ × FamilyRecord). with_written written entry) (sym c.entry-item.is))
    ∙ map_over_more (λ entry. with_written written entry) c.args.records.now c.loop-entry.records c.loop-entry.entry-index c.entry-item.result within c.loop-entry.invariant c.entry-item.is
