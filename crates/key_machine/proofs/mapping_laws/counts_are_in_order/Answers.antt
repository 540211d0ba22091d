use Rattle.key_machine.proofs.CountLaws.{wkeys_rise, mkeys_rise, maps_rise}
use Rattle.key_machine.proofs.mapping_laws.counts_are_in_order.Goals as goal

pub returns-clause-wkeys : goal.returns-clause-wkeys
returns-clause-wkeys c = wkeys_rise

pub returns-clause-mkeys : goal.returns-clause-mkeys
returns-clause-mkeys c = mkeys_rise

pub returns-clause-maps : goal.returns-clause-maps
returns-clause-maps c = maps_rise
