use Rattle.std.proofs.Common.{◌≡◌, ℕ, ◌*◌, ap, ◌∙◌}
use Rattle.indirect_macs.specs.Entries.{block_at}
use Rattle.indirect_macs.specs.Nodes.{entry_at}
use Rattle.indirect_macs.specs.Walk.{slot_of, next_block, passed, fails_at}
use Rattle.indirect_macs.proofs.Reading.{both}
use Rattle.indirect_macs.proofs.Walking.{entry_below, gave_ok, gave_err}
use Rattle.std.proofs.lemmas.Option.{IfSome_then}
use Rattle.indirect_macs.proofs.walk.block_below.Goals as goal

pub returns-in-Ok-clause-told : goal.returns-in-Ok-clause-told
unfolding next_block
returns-in-Ok-clause-told g c =
    let entry : c.block_at.result ≡ block_at (entry_at 1 c.read_node.new.out (slot_of 1 c.args.index)) =
    c.block_at.ensures
    ∙ ap block_at (entry_below _ _ c.read_node.new.out (ap (λ (slot : ℕ). 49 * slot) c.slot_of-at.ensures.value)) in
    rw entry
    (both (g.B.Shelf.told c.args.shelf.now).held c.in-Ok.ensures.told c.in-Ok.ensures.bytes (λ held gave is.
    gave_ok (λ bytes. block_at (entry_at 1 bytes (slot_of 1 c.args.index))) _
    (passed held c.args.block 1 c.args.node.now) (fails_at 1 c.args.index) c.read_node.new.out _ _ gave is))

pub returns-in-Err-clause-told : goal.returns-in-Err-clause-told
unfolding next_block
returns-in-Err-clause-told g c =
    IfSome_then (g.B.Shelf.told c.args.shelf.now).held c.in-Err.ensures.told (λ held gave.
    gave_err (λ bytes. block_at (entry_at 1 bytes (slot_of 1 c.args.index))) _
    (passed held c.args.block 1 c.args.node.now) (fails_at 1 c.args.index) c.in-Err.stop _ _ gave)
