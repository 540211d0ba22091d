use Rattle.std.proofs.Common.{arith}
use Rattle.file_directory.specs.Form.{objects_of}
use Rattle.file_dataset.proofs.ReadLemmas.{parsed_form}
use Rattle.file_dataset.proofs.reading.parsed.Goals as goal

pub returns-in-Ok-clause-in_form : goal.returns-in-Ok-clause-in_form
returns-in-Ok-clause-in_form c =
    parsed_form (objects_of c.args.table.now) c.args.text.now c.in-Ok.directory (λ k. (c.type_inv.text k).fits) c.in-Ok.ensures
