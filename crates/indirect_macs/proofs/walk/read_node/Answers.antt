use Rattle.std.proofs.Common.{◌≡◌, length, Some, sym, ap, ◌∙◌}
use Rattle.indirect_macs.specs.Nodes.{node_len}
use Rattle.indirect_macs.proofs.Reading.{named_size, read_unnamed, read_failed, read_done, read_passed}
use Rattle.indirect_macs.proofs.walk.read_node.Goals as goal

pub returns-then-not-names_node-clause-told : goal.returns-then-not-names_node-clause-told
returns-then-not-names_node-clause-told g c =
    rw c.fails_at.ensures
    (read_unnamed c.args.block c.args.index c.args.level c.args.node.now _ c.names_node.ensures.sizes (sym c.names_node.ensures.value ∙ c.if-not-names_node.true))

pub read-requires : goal.read-requires
read-requires g c =
    named_size _ c.args.level c.args.node.now.addr (sym c.names_node.ensures.value ∙ c.if-not-names_node.false) ∙ ap Some (sym c.requires.fits)

pub returns-then-not-node_passes-clause-told : goal.returns-then-not-node_passes-clause-told
returns-then-not-node_passes-clause-told g c =
    let whole : length c.read.new.out ≡ node_len c.args.level = cc in
    rw c.fails_at-then-not-node_passes.ensures
    (read_failed c.args.block c.args.index c.args.level c.args.node.now _ _ c.read.new.out c.names_node.ensures.sizes
    (sym c.names_node.ensures.value ∙ c.if-not-names_node.false) (sym c.in_default.ensures.due) c.read.ensures.after
    whole (sym c.node_passes.ensures ∙ c.if-not-node_passes.true) c.in_default.ensures.bytes)

pub returns-clause-told : goal.returns-clause-told
returns-clause-told g c =
    let whole : length c.read.new.out ≡ node_len c.args.level = cc in
    read_done c.args.block c.args.index c.args.level c.args.node.now _ _ c.read.new.out c.names_node.ensures.sizes
    (sym c.names_node.ensures.value ∙ c.if-not-names_node.false) (sym c.in_default.ensures.due) c.read.ensures.after
    whole (sym c.node_passes.ensures ∙ c.if-not-node_passes.false) c.in_default.ensures.bytes

pub returns-clause-bytes : goal.returns-clause-bytes
returns-clause-bytes g c =
    let whole : length c.read.new.out ≡ node_len c.args.level = cc in
    read_passed c.args.block c.args.level c.args.node.now (g.B.Shelf.told c.args.shelf.now) c.read.new.out whole
    (sym c.node_passes.ensures ∙ c.if-not-node_passes.false) c.in_default.ensures.bytes
