use Rattle.std.proofs.Common.{◌≡◌, map, take}
use Rattle.shell_run.proofs.task.all_roots.Given as goal

-- the roots so far
abbrev pub invariant-loop-entry : goal.invariant-loop-entry
invariant-loop-entry l = l.roots.items ≡ map (λ entry. entry.0) (take l.entry-index l.entry-items)
