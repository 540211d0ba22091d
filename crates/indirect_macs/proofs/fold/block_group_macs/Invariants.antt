use Rattle.std.proofs.Common.{◌≡◌, map}
use Rattle.std.specs.List.{range_with_len}
use Rattle.indirect_macs.specs.Entries.{block_under_mac}
use Rattle.indirect_macs.specs.Fold.{group_mac, group_at}
use Rattle.indirect_macs.proofs.fold.block_group_macs.Given as goal

-- the MACs of the groups so far
abbrev pub invariant-groups : goal.invariant-groups
invariant-groups l = l.macs.items ≡ map (λ j. group_mac 1 block_under_mac (group_at l.refs j)) (range_with_len 0 l.group)
