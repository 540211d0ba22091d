use Rattle.std.proofs.Common.{◌≡◌, ℕ, ◌*◌, ◌<◌, length, take, drop, get_or, Ok, None}
use Rattle.indirect_macs.specs.Entries.{node_at}
use Rattle.indirect_macs.proofs.children.refs_in.Given as goal

-- the references so far
abbrev pub invariant-entries : goal.invariant-entries
invariant-entries l = (length l.found ≡ 32) × ((k : ℕ) → k < l.slot → get_or l.found k (Ok None) ≡ Ok (node_at (take 25 (drop (25 * k) l.node))))
