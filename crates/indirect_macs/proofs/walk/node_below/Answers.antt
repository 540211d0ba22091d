use Rattle.std.proofs.Common.{◌≡◌, ℕ, ◌*◌, ap, ◌∙◌}
use Rattle.indirect_macs.specs.Entries.{node_at}
use Rattle.indirect_macs.specs.Nodes.{entry_at}
use Rattle.indirect_macs.specs.Walk.{slot_of, next_node, passed, fails_at}
use Rattle.indirect_macs.proofs.Reading.{both}
use Rattle.indirect_macs.proofs.Walking.{entry_above, gave_ok, gave_err}
use Rattle.std.proofs.lemmas.Option.{IfSome_then}
use Rattle.indirect_macs.proofs.walk.node_below.Goals as goal

pub returns-in-Ok-clause-told : goal.returns-in-Ok-clause-told
unfolding next_node
returns-in-Ok-clause-told g c =
    let entry : c.node_at.result ≡ node_at (entry_at c.args.level c.read_node.new.out (slot_of c.args.level c.args.index)) =
    c.node_at.ensures
    ∙ ap node_at (entry_above c.args.level _ _ c.read_node.new.out c.requires.above (ap (λ (slot : ℕ). 25 * slot) c.slot_of-at.ensures.value)) in
    rw entry
    (both (g.B.Shelf.told c.args.shelf.now).held c.in-Ok.ensures.told c.in-Ok.ensures.bytes (λ held gave is.
    gave_ok (λ bytes. node_at (entry_at c.args.level bytes (slot_of c.args.level c.args.index))) _
    (passed held c.args.block c.args.level c.args.node.now) (fails_at c.args.level c.args.index) c.read_node.new.out _ _ gave is))

pub returns-in-Err-clause-told : goal.returns-in-Err-clause-told
unfolding next_node
returns-in-Err-clause-told g c =
    IfSome_then (g.B.Shelf.told c.args.shelf.now).held c.in-Err.ensures.told (λ held gave.
    gave_err (λ bytes. node_at (entry_at c.args.level bytes (slot_of c.args.level c.args.index))) _
    (passed held c.args.block c.args.level c.args.node.now) (fails_at c.args.level c.args.index) c.in-Err.stop _ _ gave)
