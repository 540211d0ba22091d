use Rattle.std.proofs.Common.{◌≡◌, ◌+◌, ◌-◌, ◌*◌, true, false, sym, ◌∙◌, arith}
use Rattle.indirect_macs.specs.Entries.{entry_len, is_entry}
use Rattle.indirect_macs.specs.Nodes.{slots, has_entries, entry_at}
use Rattle.indirect_macs.proofs.Slots.{all_more, all_fails}
use Rattle.indirect_macs.proofs.node.has_entries.Goals as goal

pub returns-then-not-is_entry : goal.returns-then-not-is_entry
unfolding has_entries
returns-then-not-is_entry c =
    let width : c.entry_len-len.result * c.entries.slot + c.entry_len-len.result - c.entry_len-len.result * c.entries.slot ≡ entry_len c.args.level =
    omega arith in
    let this : is_entry c.args.level c.args.block (entry_at c.args.level c.args.node.now c.entries.slot) ≡ false =
    rw (width, c.entry_len-len.ensures) at (sym c.is_entry.ensures ∙ c.if-not-is_entry.true) in
    sym (all_fails (λ slot. is_entry c.args.level c.args.block (entry_at c.args.level c.args.node.now slot)) c.entries.slot c.entries-test.true this)

pub entries-preserved : goal.entries-preserved
entries-preserved c =
    let width : c.entry_len-len.result * c.entries.slot + c.entry_len-len.result - c.entry_len-len.result * c.entries.slot ≡ entry_len c.args.level =
    omega arith in
    let this : is_entry c.args.level c.args.block (entry_at c.args.level c.args.node.now c.entries.slot) ≡ true =
    rw (width, c.entry_len-len.ensures) at (sym c.is_entry.ensures ∙ c.if-not-is_entry.false) in
    all_more (λ slot. is_entry c.args.level c.args.block (entry_at c.args.level c.args.node.now slot)) c.entries.slot c.entries.invariant this

pub returns : goal.returns
unfolding has_entries slots
returns c =
    let end : c.entries.slot ≡ 32 = omega arith in
    sym (rw end at c.entries.invariant)
