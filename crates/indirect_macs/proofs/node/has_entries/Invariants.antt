use Rattle.std.proofs.Common.{◌≡◌, true}
use Rattle.std.specs.List.{list_all, range_with_len}
use Rattle.indirect_macs.specs.Entries.{is_entry}
use Rattle.indirect_macs.specs.Nodes.{entry_at}
use Rattle.indirect_macs.proofs.node.has_entries.Given as goal

-- the entries so far are entries
abbrev pub invariant-entries : goal.invariant-entries
invariant-entries l = list_all (λ slot. is_entry l.level l.block (entry_at l.level l.node slot)) (range_with_len 0 l.slot) ≡ true
