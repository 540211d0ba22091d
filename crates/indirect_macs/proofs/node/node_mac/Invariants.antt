use Rattle.std.proofs.Common.{◌∷◌}
use Rattle.std.specs.List.{flat_map, range_with_len}
use Rattle.sha2.specs.Hashers.{Holds512}
use Rattle.indirect_macs.specs.Entries.{without_address}
use Rattle.indirect_macs.specs.Nodes.{entry_at}
use Rattle.indirect_macs.proofs.node.node_mac.Given as goal

-- the hasher holds the level and what is covered of the entries so far
abbrev pub invariant-entries : goal.invariant-entries
invariant-entries l =
    Holds512 l.hasher (l.level ∷ flat_map (λ slot. without_address l.level (entry_at l.level l.node slot)) (range_with_len 0 l.slot))
