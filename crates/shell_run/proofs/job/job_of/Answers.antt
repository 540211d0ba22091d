use Rattle.dataset_tree.specs.ShortNames.{file_named}
use Rattle.file_dataset.specs.declared.command.FileCmd.TheVariants as files
use Rattle.shell_run.specs.Jobs.{command_on, spot_named}
use Rattle.shell_run.proofs.job.job_of.Goals as goal

pub returns-in-Read : goal.returns-in-Read
returns-in-Read c =
    rw c.in-Read.is
    (c.job_if-in-Read.ensures
    (command_on (λ spot name. files.Read spot.set spot.snap name c.in-Read.from c.in-Read.len) (spot_named c.in-Read.spot) (file_named c.in-Read.file))
    c.read_command.ensures)
