use Rattle.indirect_macs.proofs.Spelling.{refs_read, refs_have_entries, refs_spelled, refs_mac}
use Rattle.indirect_macs.proofs.laws.ref_nodes_have_one_spelling.Goals as goal

pub returns-clause-read : goal.returns-clause-read
returns-clause-read c = refs_read

pub returns-clause-entries : goal.returns-clause-entries
returns-clause-entries c = refs_have_entries

pub returns-clause-spelled : goal.returns-clause-spelled
returns-clause-spelled c = refs_spelled

pub returns-clause-mac : goal.returns-clause-mac
returns-clause-mac c = refs_mac
