use Rattle.dataset_tree.proofs.TreeLemmas.{names_find, ids_find, parents_have_names}
use Rattle.dataset_tree.proofs.tree.names_find_their_rows.Goals as goal

pub returns-clause-names : goal.returns-clause-names
returns-clause-names c = λ t tree. names_find t tree

pub returns-clause-ids : goal.returns-clause-ids
returns-clause-ids c = λ t tree. ids_find t tree

pub returns-clause-parents : goal.returns-clause-parents
returns-clause-parents c = λ t tree. parents_have_names t tree
