use Rattle.file_dataset.proofs.ShownLemmas.{names_shown, none_shown, read_shown}
use Rattle.file_dataset.proofs.laws.reads_give_the_files.Goals as goal

pub returns-clause-bytes : goal.returns-clause-bytes
returns-clause-bytes c = λ key hmac_key family spot held table shown name bytes from len shows is.
    read_shown key hmac_key family spot held table shown shows name bytes from len is

pub returns-clause-missing : goal.returns-clause-missing
returns-clause-missing c = λ key hmac_key family spot held table shown name from len shows is.
    none_shown key hmac_key family spot held table shown shows name from len is

pub returns-clause-names : goal.returns-clause-names
returns-clause-names c = λ key hmac_key family spot held table shown shows. names_shown key hmac_key family spot held table shown shows
