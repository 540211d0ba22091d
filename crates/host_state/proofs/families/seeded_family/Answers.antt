use Rattle.std.proofs.Common.{[]}
use Rattle.host_state.proofs.HostLemmas.{family_made}
use Rattle.host_state.proofs.families.seeded_family.Goals as goal

pub returns : goal.returns
returns g c =
    family_made c.make.result g.B.Shelf.tells c.args.limit c.args.seed c.new-words.result c.args.block c.args.id c.seeded_guid-guid.result c.fill.new.out c.fill-2.new.out c.fresh_portable-portable.result
    c.make.ensures.fresh c.new-words.ensures c.seeded_guid-guid.ensures c.fill.ensures c.fill-2.ensures (c.fresh_portable-portable.ensures [])
