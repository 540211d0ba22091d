use Rattle.file_directory.proofs.ChangeLemmas.{found_with, found_without, no_such_name}
use Rattle.file_directory.proofs.laws.names_find_what_was_added_and_not_what_was_removed.Goals as goal

pub returns-clause-inserted : goal.returns-clause-inserted
returns-clause-inserted c = λ entries new name none. found_with entries new name (no_such_name new.name entries none)

pub returns-clause-removed : goal.returns-clause-removed
returns-clause-removed c = λ entries gone name. found_without entries gone name
