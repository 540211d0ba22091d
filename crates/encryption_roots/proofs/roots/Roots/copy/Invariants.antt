use Rattle.std.proofs.Common.{◌≡◌, ◌≤◌, take, vec_capacity}
use Rattle.encryption_roots.proofs.roots.Roots.copy.Given as goal

-- the first roots, in a list that has room
abbrev pub invariant-loop-id : goal.invariant-loop-id
invariant-loop-id l = record {
  copied : l.entries.items ≡ take l.id-index l.id-items;
  room : 256 ≤ vec_capacity l.entries;
}
