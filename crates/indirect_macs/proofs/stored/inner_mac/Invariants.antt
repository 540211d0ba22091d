use Rattle.std.proofs.Common.{◌∷◌, take}
use Rattle.std.specs.List.{flat_map}
use Rattle.std.specs.Option.{option_map}
use Rattle.sha2.specs.Hashers.{Holds512}
use Rattle.indirect_macs.specs.Entries.{node_under_mac}
use Rattle.indirect_macs.proofs.stored.inner_mac.Given as goal

-- the hasher holds the level and what is covered of the entries so far
abbrev pub invariant-entries : goal.invariant-entries
invariant-entries l = Holds512 l.hasher (l.level ∷ flat_map (λ e. node_under_mac (option_map (λ r. r.mac) e)) (take l.entry-index l.entries))
