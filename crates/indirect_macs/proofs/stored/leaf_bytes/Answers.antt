use Rattle.std.proofs.Common.{refl, arith}
use Rattle.indirect_macs.specs.Entries.{block_entry}
use Rattle.indirect_macs.proofs.Buffers.{filled_none, filled_part, filled_more, filled_all}
use Rattle.indirect_macs.proofs.stored.leaf_bytes.Goals as goal

pub entries-init : goal.entries-init
entries-init c = filled_none block_entry 49 c.args.entries.now _ refl

pub put_block-requires : goal.put_block-requires
put_block-requires c =
    filled_part block_entry 49 c.args.entries.now c.entries.slot _ _ c.entries.bytes (omega arith) (omega arith) (omega arith) c.entries.invariant

pub entries-preserved : goal.entries-preserved
entries-preserved c =
    filled_more block_entry 49 c.args.entries.now c.entries.slot _ _ c.entries.bytes c.put_block.new.entry _ (omega arith) (omega arith) (omega arith) (omega arith)
    (omega arith) c.entries.invariant c.put_block.ensures (omega arith)

pub returns : goal.returns
returns c = filled_all block_entry 49 c.args.entries.now c.entries.slot c.entries.bytes (omega arith) (omega arith) c.entries.invariant
