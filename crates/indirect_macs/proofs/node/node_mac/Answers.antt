use Rattle.std.proofs.Common.{◌≡◌, ◌+◌, ◌-◌, ◌*◌, take, ap, ◌∙◌, arith}
use Rattle.indirect_macs.specs.Entries.{entry_len, without_address}
use Rattle.indirect_macs.specs.Nodes.{slots, node_mac, mac_of, entry_at}
use Rattle.indirect_macs.proofs.Slots.{flat_more}
use Rattle.indirect_macs.proofs.node.node_mac.Goals as goal

pub entries-preserved : goal.entries-preserved
entries-preserved c =
    let width : c.entry_len-len.result * c.entries.slot + c.entry_len-len.result - c.entry_len-len.result * c.entries.slot ≡ entry_len c.args.level =
    omega arith in
    let step = rw (width, c.entry_len-len.ensures) at (c.update_without_address.ensures _ c.entries.invariant) in
    rw (flat_more (λ slot. without_address c.args.level (entry_at c.args.level c.args.node.now slot)) c.entries.slot) step

pub returns : goal.returns
unfolding node_mac mac_of slots
returns c =
    let end : c.entries.slot ≡ 32 = omega arith in
    let whole = rw end at c.entries.invariant in
    c.cut.ensures ∙ ap (take 16) (c.finalize.ensures _ whole)
