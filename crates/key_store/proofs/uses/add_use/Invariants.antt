use Rattle.std.proofs.Common.{◌≡◌, ◌++◌, ◌==◌, cond, map, take, drop}
use Rattle.std.specs.Prelude.{◌+◌, ◌-◌, ◌^◌, min}
use Rattle.key_store.proofs.uses.add_use.Given as goal

abbrev pub invariant-loop-entry : goal.invariant-loop-entry
invariant-loop-entry l = l.counts ≡ map (λ entry. (entry.0, cond (entry.0 == l.id) (min (entry.1 + 1) (2 ^ 32 - 1)) entry.1)) (take l.entry-index l.initial.counts) ++ drop l.entry-index l.initial.counts
