use Rattle.file_directory.proofs.BoundLemmas.{entries_bound, text_bound}
use Rattle.file_directory.proofs.laws.tables_bound_directories.Goals as goal

pub returns-clause-entries : goal.returns-clause-entries
returns-clause-entries c = λ record_size table entries is form. entries_bound record_size table entries is form

pub returns-clause-text : goal.returns-clause-text
returns-clause-text c = λ record_size table entries is form. text_bound record_size table entries is form
