use Rattle.indirect_macs.specs.Entries.{node_entry}
use Rattle.indirect_macs.proofs.Buffers.{IsFilled}
use Rattle.indirect_macs.proofs.stored.inner_bytes.Given as goal

-- the entries so far stand in the buffer
abbrev pub invariant-entries : goal.invariant-entries
invariant-entries l = IsFilled node_entry 25 l.entries l.slot l.bytes
