use Rattle.indirect_macs.specs.Entries.{block_entry}
use Rattle.indirect_macs.proofs.Buffers.{IsFilled}
use Rattle.indirect_macs.proofs.stored.leaf_bytes.Given as goal

-- the entries so far stand in the buffer
abbrev pub invariant-entries : goal.invariant-entries
invariant-entries l = IsFilled block_entry 49 l.entries l.slot l.bytes
