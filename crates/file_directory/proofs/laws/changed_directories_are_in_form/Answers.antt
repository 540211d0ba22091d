use Rattle.file_directory.proofs.ChangeLemmas.{same_form, inserted_form, removed_form, free_object}
use Rattle.file_directory.proofs.laws.changed_directories_are_in_form.Goals as goal

pub returns-clause-inserted : goal.returns-clause-inserted
returns-clause-inserted c = λ objects more entries new form kept fresh. inserted_form more entries new (same_form objects more entries form kept) fresh

pub returns-clause-removed : goal.returns-clause-removed
returns-clause-removed c = λ objects fewer entries name gone form found left. removed_form objects fewer entries name gone form found left

pub returns-clause-same : goal.returns-clause-same
returns-clause-same c = λ objects others entries form more. same_form objects others entries form more

pub returns-clause-free : goal.returns-clause-free
returns-clause-free c = λ objects entries object form out. free_object objects entries object form out
