use Rattle.std.proofs.Common.{◌≡◌, ℕ, ◌+◌, ◌-◌, ◌*◌, ◌<◌, length, get_or, None}
use Rattle.indirect_macs.specs.Runs.{Old, Made, entries_at, new_ref}
use Rattle.indirect_macs.specs.RunFields.{run_of}
use Rattle.indirect_macs.proofs.replace.new_refs.Given as goal

-- the references so far
abbrev pub invariant-entries : goal.invariant-entries
invariant-entries l = (length l.entries ≡ 32) × ((before : Old) (made : Made) → l.old ≡ entries_at (before.node (l.level - 1)) l.index → l.below.refs.items ≡ made.refs
    → l.below.raised ≡ made.raised → (k : ℕ) → k < l.slot → get_or l.entries k None ≡ new_ref (run_of l.run) before (l.level - 1) made (32 * l.index + k))
