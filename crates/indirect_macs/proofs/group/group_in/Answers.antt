use Rattle.indirect_macs.specs.Nodes.{blocks_of}
use Rattle.indirect_macs.specs.Walk.{group_in, passed, fails_at}
use Rattle.indirect_macs.proofs.Reading.{both}
use Rattle.indirect_macs.proofs.Walking.{gave_ok, gave_err}
use Rattle.std.proofs.lemmas.Option.{IfSome_then}
use Rattle.indirect_macs.proofs.group.group_in.Goals as goal

pub returns-in-Ok-clause-told : goal.returns-in-Ok-clause-told
unfolding group_in
returns-in-Ok-clause-told g c =
    rw c.blocks_in.ensures
    (both (g.B.Shelf.told c.args.shelf.now).held c.in-Ok.ensures.told c.in-Ok.ensures.bytes (λ held gave is.
    gave_ok blocks_of _ (passed held c.args.block 1 c.args.node.now) (fails_at 1 c.args.index) c.read_node.new.out _ _ gave is))

pub returns-in-Err-clause-told : goal.returns-in-Err-clause-told
unfolding group_in
returns-in-Err-clause-told g c =
    IfSome_then (g.B.Shelf.told c.args.shelf.now).held c.in-Err.ensures.told (λ held gave.
    gave_err blocks_of _ (passed held c.args.block 1 c.args.node.now) (fails_at 1 c.args.index) c.in-Err.stop _ _ gave)
