use Rattle.file_dataset.proofs.TestLemmas.{all_walked, all_told}
use Rattle.file_dataset.proofs.testing.test_all.Goals as goal

pub returns-clause-walked : goal.returns-clause-walked
returns-clause-walked g c =
    all_walked c.args.table.now _ c.in-Ok.directory c.test_rows.result _ _ _ c.in-Ok.ensures.walked c.as_slice.ensures c.test_rows.ensures.walked

pub returns-clause-told : goal.returns-clause-told
returns-clause-told g c =
    all_told _ c.args.hmac.now _ c.args.table.now _ c.in-Ok.directory c.test_rows.result _ _ c.in-Ok.ensures.walked c.in-Ok.ensures.told c.as_slice.ensures
    c.test_rows.ensures.told
