use Rattle.key_machine.proofs.MountSteps.{reap_drops, reap_answers}
use Rattle.key_machine.proofs.mapping_laws.a_reap_drops_an_idle_mapping_alone.Goals as goal

pub returns-clause-dropped : goal.returns-clause-dropped
returns-clause-dropped c = reap_drops

pub returns-clause-reply : goal.returns-clause-reply
returns-clause-reply c = reap_answers
