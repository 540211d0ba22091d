use Rattle.key_machine.proofs.RekeyLaws.{change_keeps_masters, inherit_keeps_masters}
use Rattle.key_machine.proofs.change_laws.new_wrapping_keys_keep_the_master_keys.Goals as goal

pub returns-clause-change : goal.returns-clause-change
returns-clause-change c = change_keeps_masters

pub returns-clause-inherit : goal.returns-clause-inherit
returns-clause-inherit c = inherit_keeps_masters
