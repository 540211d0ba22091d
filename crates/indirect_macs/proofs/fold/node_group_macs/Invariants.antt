use Rattle.std.proofs.Common.{◌≡◌, map}
use Rattle.std.specs.List.{range_with_len}
use Rattle.indirect_macs.specs.Entries.{node_under_mac}
use Rattle.indirect_macs.specs.Fold.{group_mac, group_at}
use Rattle.indirect_macs.proofs.fold.node_group_macs.Given as goal

-- the MACs of the groups so far
abbrev pub invariant-groups : goal.invariant-groups
invariant-groups l = l.macs.items ≡ map (λ j. group_mac l.level node_under_mac (group_at l.below j)) (range_with_len 0 l.group)
