use Rattle.file_dataset.proofs.ReadLemmas.{halt_noted}
use Rattle.file_dataset.proofs.noting.noted_halt.Goals as goal

pub returns-in-Some : goal.returns-in-Some
returns-in-Some g c = halt_noted c.args.spot c.args.halt c.in-Some.note c.stop_of.result c.noted_stop.result _ _ c.in-Some.ensures c.stop_of.ensures c.noted_stop.ensures.entry
