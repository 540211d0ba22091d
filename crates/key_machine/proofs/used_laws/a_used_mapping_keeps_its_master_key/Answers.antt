use Rattle.key_machine.proofs.UsedLaws.{used_keeps, used_reap}
use Rattle.key_machine.proofs.used_laws.a_used_mapping_keeps_its_master_key.Goals as goal

pub returns-clause-command : goal.returns-clause-command
returns-clause-command c = used_keeps

pub returns-clause-reap : goal.returns-clause-reap
returns-clause-reap c = used_reap
