use Rattle.key_machine.proofs.DestroySteps.{destroy_done_where_idle, destroy_busy, found_busy}
use Rattle.key_machine.proofs.destroy_laws.a_destroy_is_busy_at_its_own_mapping.Goals as goal

pub returns-clause-done : goal.returns-clause-done
returns-clause-done c = destroy_done_where_idle

pub returns-clause-busy : goal.returns-clause-busy
returns-clause-busy c = λ p name snaps told id dataset count found reply. destroy_busy p name snaps told id found dataset count reply

pub returns-clause-found : goal.returns-clause-found
returns-clause-found c = λ p name snaps told id busy found accepted. found_busy p name snaps told id found busy accepted
