use Rattle.family_log.proofs.HeadLemmas.{positive_size}
use Rattle.family_log.proofs.family.Family.last_of.Goals as goal

pub last_ref-requires : goal.last_ref-requires
last_ref-requires g c = positive_size c.self.inside.block c.self.invariant.record_size
