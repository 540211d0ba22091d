use Rattle.std.proofs.Common.{◌≡◌, ℕ, ◌<◌, length, get_or, Ok, None}
use Rattle.indirect_macs.specs.Runs.{or_hole}
use Rattle.indirect_macs.proofs.replace.old_refs.Given as goal

-- the references so far
abbrev pub invariant-entries : goal.invariant-entries
invariant-entries l = (length l.entries ≡ 32) × ((k : ℕ) → k < l.slot → get_or l.entries k None ≡ or_hole (get_or l.old k (Ok None)))
