use Rattle.file_dataset.proofs.KeptLemmas.{kept_copy, kept_table}
use Rattle.file_dataset.proofs.Sizes.{readable_table, readable_copy}
use Rattle.file_dataset.proofs.noting.table_at.Goals as goal

pub returns-in-Some-clause-in_form : goal.returns-in-Some-clause-in_form
returns-in-Some-clause-in_form g c =
    readable_copy c.copied.result c.in-Some.table.now c.copied.ensures.copy
    (readable_table c.args.fam.now c.args.spot.now c.in-Some.table.now c.in-Some.ensures.kept c.in-Some.ensures.table)

pub returns-in-Some-clause-kept : goal.returns-in-Some-clause-kept
returns-in-Some-clause-kept g c =
    kept_copy c.copied.result c.args.fam.now c.args.spot.now c.in-Some.table.now c.copied.ensures.copy
    (kept_table c.args.fam.now c.args.spot.now c.in-Some.table.now c.in-Some.ensures.kept c.in-Some.ensures.table)
