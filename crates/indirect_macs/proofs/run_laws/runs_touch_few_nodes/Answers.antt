use Rattle.indirect_macs.proofs.RunBounds.{touched_few, few_puts, puts_where_levels_stay, puts_where_levels_grow}
use Rattle.indirect_macs.proofs.run_laws.runs_touch_few_nodes.Goals as goal

pub returns-clause-reads : goal.returns-clause-reads
returns-clause-reads c = λ run most fits few. touched_few run run.levels most fits few

pub returns-clause-puts : goal.returns-clause-puts
returns-clause-puts c = few_puts

pub returns-clause-stays : goal.returns-clause-stays
returns-clause-stays c = puts_where_levels_stay

pub returns-clause-grows : goal.returns-clause-grows
returns-clause-grows c = puts_where_levels_grow
