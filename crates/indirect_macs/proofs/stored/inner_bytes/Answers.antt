use Rattle.std.proofs.Common.{refl, arith}
use Rattle.indirect_macs.specs.Entries.{node_entry}
use Rattle.indirect_macs.proofs.Buffers.{filled_none, filled_part, filled_more, filled_all}
use Rattle.indirect_macs.proofs.stored.inner_bytes.Goals as goal

pub entries-init : goal.entries-init
entries-init c = filled_none node_entry 25 c.args.entries.now _ refl

pub put_ref-requires : goal.put_ref-requires
put_ref-requires c =
    filled_part node_entry 25 c.args.entries.now c.entries.slot _ _ c.entries.bytes (omega arith) (omega arith) (omega arith) c.entries.invariant

pub entries-preserved : goal.entries-preserved
entries-preserved c =
    filled_more node_entry 25 c.args.entries.now c.entries.slot _ _ c.entries.bytes c.put_ref.new.entry _ (omega arith) (omega arith) (omega arith) (omega arith)
    (omega arith) c.entries.invariant c.put_ref.ensures (omega arith)

pub returns : goal.returns
returns c = filled_all node_entry 25 c.args.entries.now c.entries.slot c.entries.bytes (omega arith) (omega arith) c.entries.invariant
