use Rattle.std.proofs.Common.{ap}
use Rattle.key_machine.specs.Reply.{Stepped}
use Rattle.key_machine.proofs.RekeyLaws.{change_rekeys, inherit_rekeys, change_step, inherit_step}
use Rattle.key_machine.proofs.change_laws.new_wrapping_keys_change_their_families_alone.Goals as goal

pub returns-clause-change : goal.returns-clause-change
returns-clause-change c = change_rekeys

pub returns-clause-inherit : goal.returns-clause-inherit
returns-clause-inherit c = inherit_rekeys

pub returns-clause-changed : goal.returns-clause-changed
returns-clause-changed c = λ p name opts load_first told id at accepted. ap (λ (stepped : Stepped). stepped.reply) (change_step p name opts load_first told id at accepted)

pub returns-clause-inherited : goal.returns-clause-inherited
returns-clause-inherited c = λ p name load_first told id at accepted. ap (λ (stepped : Stepped). stepped.reply) (inherit_step p name load_first told id at accepted)
