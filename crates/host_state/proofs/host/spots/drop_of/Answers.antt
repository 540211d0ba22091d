use Rattle.host_state.proofs.SpotLemmas.{drop_by}
use Rattle.host_state.proofs.host.spots.drop_of.Goals as goal

pub returns-clause-reply : goal.returns-clause-reply
returns-clause-reply g c =
    (drop_by c.args.spot.now c.drop_snapshot.result c.args.family.now c.drop_snapshot.new.fam c.drop_snapshot.ensures.answer c.drop_snapshot.ensures.dropped c.drop_snapshot.ensures.refused).0

pub returns-clause-left : goal.returns-clause-left
returns-clause-left g c =
    (drop_by c.args.spot.now c.drop_snapshot.result c.args.family.now c.drop_snapshot.new.fam c.drop_snapshot.ensures.answer c.drop_snapshot.ensures.dropped c.drop_snapshot.ensures.refused).1
