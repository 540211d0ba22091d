use Rattle.indirect_macs.proofs.RunLeads.{leads_within, leads_before, leads_behind, leads_past}
use Rattle.indirect_macs.proofs.run_laws.runs_change_their_blocks_alone.Goals as goal

pub returns-clause-within : goal.returns-clause-within
returns-clause-within c = leads_within

pub returns-clause-before : goal.returns-clause-before
returns-clause-before c = leads_before

pub returns-clause-behind : goal.returns-clause-behind
returns-clause-behind c = leads_behind

pub returns-clause-past : goal.returns-clause-past
returns-clause-past c = leads_past
