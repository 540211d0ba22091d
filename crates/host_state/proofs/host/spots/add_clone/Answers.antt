use Rattle.std.proofs.Common.{sym}
use Rattle.host_state.proofs.SpotHosts.{refused_clone}
use Rattle.host_state.proofs.host.spots.add_clone.Goals as goal

pub returns-in-Some : goal.returns-in-Some
returns-in-Some g c = refused_clone c.keys.result.now c.args.keys.now c.args.from.now c.args.name.now c.args.spot.now c.args.family.now c.in-Some.why c.keys.ensures (sym c.in-Some.ensures)
