use Rattle.key_machine.proofs.LoadLaws.{load_accepted}
use Rattle.key_machine.proofs.key_laws.a_load_is_accepted_where_the_records_open.Goals as goal

pub returns : goal.returns
returns c = load_accepted
