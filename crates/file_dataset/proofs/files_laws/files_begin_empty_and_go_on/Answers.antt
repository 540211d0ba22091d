use Rattle.file_dataset.proofs.FilesLemmas.{files_go_on}
use Rattle.file_dataset.proofs.FreshFiles.{shows_no_files}
use Rattle.file_dataset.proofs.files_laws.files_begin_empty_and_go_on.Goals as goal

pub returns-clause-fresh : goal.returns-clause-fresh
returns-clause-fresh c = λ key hmac_key guid block salts room head sizes least most.
    shows_no_files key hmac_key guid block salts room head sizes least most

pub returns-clause-later : goal.returns-clause-later
returns-clause-later c = λ key from spot put old new block kept placed. files_go_on key from spot put old new block kept placed
