use Rattle.indirect_macs.proofs.RunSamples.{first_block_put, grown_by_one}
use Rattle.indirect_macs.proofs.run_laws.runs_by_hand.Goals as goal

pub returns-clause-first : goal.returns-clause-first
returns-clause-first c = first_block_put

pub returns-clause-grown : goal.returns-clause-grown
returns-clause-grown c = grown_by_one
