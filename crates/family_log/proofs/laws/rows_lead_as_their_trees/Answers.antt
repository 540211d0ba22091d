use Rattle.family_log.proofs.GrownLemmas.{row_leads-past, row_leads-run, row_leads-within}
use Rattle.family_log.proofs.laws.rows_lead_as_their_trees.Goals as goal

pub returns-clause-runs : goal.returns-clause-runs
returns-clause-runs c = λ blocks record_size index row run is. row_leads-run blocks record_size index row run is

pub returns-clause-within : goal.returns-clause-within
returns-clause-within c = λ blocks record_size index row below. row_leads-within blocks record_size index row below

pub returns-clause-past : goal.returns-clause-past
returns-clause-past c = λ blocks record_size index row above. row_leads-past blocks record_size index row above
