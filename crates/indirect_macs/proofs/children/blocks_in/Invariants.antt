use Rattle.std.proofs.Common.{◌≡◌, ℕ, ◌*◌, ◌<◌, length, take, drop, get_or, None}
use Rattle.indirect_macs.specs.Entries.{block_at}
use Rattle.indirect_macs.proofs.children.blocks_in.Given as goal

-- the references so far
abbrev pub invariant-entries : goal.invariant-entries
invariant-entries l = (length l.blocks ≡ 32) × ((k : ℕ) → k < l.slot → get_or l.blocks k None ≡ block_at (take 49 (drop (49 * k) l.node)))
