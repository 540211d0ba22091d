use Rattle.key_machine.proofs.DestroySteps.{record_kept, last_gone, destroy_first}
use Rattle.key_machine.proofs.destroy_laws.a_record_goes_with_its_familys_last_dataset.Goals as goal

pub returns-clause-kept : goal.returns-clause-kept
returns-clause-kept c = λ p name snaps told id other row found there apart. record_kept p name snaps told id found other row there apart

pub returns-clause-gone : goal.returns-clause-gone
returns-clause-gone c = last_gone

pub returns-clause-first : goal.returns-clause-first
returns-clause-first c = destroy_first
