use Rattle.std.proofs.Common.{◌≡◌, ◌++◌, map, take, drop}
use Rattle.key_store.specs.State.{with_written}
use Rattle.key_store.proofs.plans.write_records.Given as goal

abbrev pub invariant-loop-entry : goal.invariant-loop-entry
invariant-loop-entry l = l.records ≡ map (λ entry. with_written l.written entry) (take l.entry-index l.initial.records) ++ drop l.entry-index l.initial.records
