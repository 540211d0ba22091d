use Rattle.indirect_macs.proofs.Spelling.{blocks_read, blocks_have_entries, blocks_spelled, blocks_mac}
use Rattle.indirect_macs.proofs.laws.block_nodes_have_one_spelling.Goals as goal

pub returns-clause-read : goal.returns-clause-read
returns-clause-read c = blocks_read

pub returns-clause-entries : goal.returns-clause-entries
returns-clause-entries c = blocks_have_entries

pub returns-clause-spelled : goal.returns-clause-spelled
returns-clause-spelled c = blocks_spelled

pub returns-clause-mac : goal.returns-clause-mac
returns-clause-mac c = blocks_mac
