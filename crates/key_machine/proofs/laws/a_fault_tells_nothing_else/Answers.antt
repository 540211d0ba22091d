use Rattle.key_machine.proofs.ToldLaws.{told_len}
use Rattle.key_machine.proofs.laws.a_fault_tells_nothing_else.Goals as goal

pub returns-clause-key : goal.returns-clause-key
returns-clause-key c = λ ciphers p command kit are. told_len ciphers are p command kit
