use Rattle.file_dataset.proofs.ReadLemmas.{portable_told, unportable_told}
use Rattle.file_dataset.proofs.reading.open_directory.Goals as goal

pub returns-then-has_portable-clause-told : goal.returns-then-has_portable-clause-told
returns-then-has_portable-clause-told g c =
    portable_told _ _ c.args.hmac.now c.args.table.now c.has_portable.result c.read_directory.result c.has_portable.ensures c.if-has_portable.true
    c.read_directory.ensures.told

pub returns-else-has_portable-clause-told : goal.returns-else-has_portable-clause-told
returns-else-has_portable-clause-told g c =
    unportable_told _ _ c.args.hmac.now c.args.table.now c.has_portable.result c.bad_portable.result c.has_portable.ensures c.if-has_portable.false
    c.bad_portable.ensures
