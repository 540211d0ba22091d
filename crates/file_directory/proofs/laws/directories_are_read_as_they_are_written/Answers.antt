use Rattle.file_directory.proofs.ReadLemmas.{written_reads, is_read}
use Rattle.file_directory.proofs.laws.directories_are_read_as_they_are_written.Goals as goal

pub returns-clause-written : goal.returns-clause-written
returns-clause-written c = λ objects entries form. written_reads objects entries form

pub returns-clause-in_form : goal.returns-clause-in_form
returns-clause-in_form c = λ objects text entries bytes is. (is_read objects text entries bytes is).in_form

pub returns-clause-text : goal.returns-clause-text
returns-clause-text c = λ objects text entries bytes is. (is_read objects text entries bytes is).text
