use Rattle.std.proofs.Common.{◌≡◌, ℕ, ◌+◌, ◌*◌, ◌<◌, length, get_or, None}
use Rattle.indirect_macs.specs.Runs.{Old, entries_at, target}
use Rattle.indirect_macs.specs.RunFields.{run_of}
use Rattle.indirect_macs.proofs.replace.new_blocks.Given as goal

-- the references so far
abbrev pub invariant-entries : goal.invariant-entries
invariant-entries l = (length l.entries ≡ 32) × ((before : Old) → l.old ≡ entries_at before.block l.index → (k : ℕ) → k < l.slot
    → get_or l.entries k None ≡ target (run_of l.run) before (32 * l.index + k))
