use Rattle.std.proofs.Common.{◌∷◌, take}
use Rattle.std.specs.List.{flat_map}
use Rattle.sha2.specs.Hashers.{Holds512}
use Rattle.indirect_macs.specs.Entries.{block_under_mac}
use Rattle.indirect_macs.proofs.fold.blocks_mac.Given as goal

-- the hasher holds the level and what is covered of the entries so far
abbrev pub invariant-entries : goal.invariant-entries
invariant-entries l = Holds512 l.hasher (1 ∷ flat_map block_under_mac (take l.entry-index l.entries))
