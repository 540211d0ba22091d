use Rattle.std.proofs.Common.{ℕ, Vec, Global}
use Rattle.file_dataset.proofs.ReadLemmas.{entries_told, entries_stop}
use Rattle.file_dataset.proofs.reading.read_directory.Goals as goal

pub returns-in-Ok-clause-told : goal.returns-in-Ok-clause-told
returns-in-Ok-clause-told g c =
    entries_told (λ (bytes : Vec ℕ Global). bytes.items) _ _ c.args.table.now c.in-Ok.text c.as_slice.result.now c.parsed.result c.in-Ok.ensures.told
    c.as_slice.ensures.value c.parsed.ensures.answer

pub returns-in-Err-clause-told : goal.returns-in-Err-clause-told
returns-in-Err-clause-told g c =
    entries_stop (λ (bytes : Vec ℕ Global). bytes.items) _ _ c.args.table.now c.in-Err.halt c.in-Err.ensures.told
