use Rattle.std.proofs.Common.{◌≤◌, arith}
use Rattle.file_blocks.specs.Objects.{blocks_for}
use Rattle.file_dataset.proofs.Sizes.{row_object, few_levels, calls_bound}
use Rattle.file_dataset.proofs.StepLemmas.{object_ok, object_err}
use Rattle.file_dataset.proofs.testing.test_row.Goals as goal

pub test_blocks-requires-clause-object : goal.test_blocks-requires-clause-object
test_blocks-requires-clause-object g c = row_object c.args.block c.args.row.now _ c.requires.record_size c.requires.row c.object_of.ensures.length c.object_of.ensures.tree

pub returns-in-Ok-clause-walked : goal.returns-in-Ok-clause-walked
returns-in-Ok-clause-walked g c =
    let low : c.object_of.result.tree.levels ≤ 5 = rw c.object_of.ensures.tree (few_levels c.args.block c.args.row.now c.requires.record_size c.requires.row) in
    let same : blocks_for c.args.block c.object_of.result.length ≤ blocks_for c.args.block c.args.row.now.length = rw c.object_of.ensures.length (omega arith) in
    object_ok _ (blocks_for c.args.block c.args.row.now.length) _ c.in-Ok.count c.in-Ok.count _ _ (calls_bound _ _ _ low same) c.in-Ok.ensures.reading

pub returns-in-Err-clause-walked : goal.returns-in-Err-clause-walked
returns-in-Err-clause-walked g c =
    let low : c.object_of.result.tree.levels ≤ 5 = rw c.object_of.ensures.tree (few_levels c.args.block c.args.row.now c.requires.record_size c.requires.row) in
    let same : blocks_for c.args.block c.object_of.result.length ≤ blocks_for c.args.block c.args.row.now.length = rw c.object_of.ensures.length (omega arith) in
    object_err _ (blocks_for c.args.block c.args.row.now.length) _ _ _ c.args.row.now.object c.in-Err.stop _ _ _ (calls_bound _ _ _ low same)
    c.halt_in.ensures c.in-Err.ensures.reading
