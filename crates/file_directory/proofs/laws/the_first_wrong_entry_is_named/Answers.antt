use Rattle.file_directory.proofs.ReadLemmas.{first_wrong}
use Rattle.file_directory.proofs.laws.the_first_wrong_entry_is_named.Goals as goal

pub returns : goal.returns
returns c = λ objects text at bytes is. first_wrong objects text at bytes is
