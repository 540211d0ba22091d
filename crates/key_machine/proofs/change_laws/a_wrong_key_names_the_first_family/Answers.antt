use Rattle.key_machine.proofs.RekeyLaws.{change_names, inherit_names, change_is_refused, inherit_is_refused}
use Rattle.key_machine.proofs.change_laws.a_wrong_key_names_the_first_family.Goals as goal

pub returns-clause-change : goal.returns-clause-change
returns-clause-change c = λ ciphers p name opts load_first kit first wrong. change_names ciphers p load_first kit first opts _ wrong

pub returns-clause-inherit : goal.returns-clause-inherit
returns-clause-inherit c = λ ciphers p name load_first kit first wrong. inherit_names ciphers p load_first kit first _ wrong

pub returns-clause-change_refused : goal.returns-clause-change_refused
returns-clause-change_refused c = change_is_refused

pub returns-clause-inherit_refused : goal.returns-clause-inherit_refused
returns-clause-inherit_refused c = inherit_is_refused
