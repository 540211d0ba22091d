use Rattle.std.proofs.Common.{◌+◌, ◌<◌, ◌≤◌, arith}
use Rattle.file_blocks.specs.Objects.{count_touched}
use Rattle.file_dataset.proofs.Sizes.{row_object, few_levels, cut_range, calls_bound, size_bounds}
use Rattle.file_dataset.proofs.StepLemmas.{object_ok, object_err}
use Rattle.file_dataset.proofs.reading.read_row.Goals as goal

pub read_range-requires-clause-object : goal.read_range-requires-clause-object
read_range-requires-clause-object g c = row_object c.args.block c.args.row.now _ c.requires.record_size c.requires.row c.object_of.ensures.length c.object_of.ensures.tree

pub returns-in-Ok-clause-walked : goal.returns-in-Ok-clause-walked
returns-in-Ok-clause-walked g c =
    let some : 0 < c.args.block = omega (arith, (size_bounds c.args.block c.requires.record_size).0) in
    let low : c.object_of.result.tree.levels ≤ 5 = rw c.object_of.ensures.tree (few_levels c.args.block c.args.row.now c.requires.record_size c.requires.row) in
    let cut = cut_range c.args.block c.args.from c.args.len c.args.row.now.length c.min-start.result c.min-end.result some c.min-start.ensures
    (omega (arith, c.min-start.ensures, c.saturating_add.ensures, c.min-end.ensures, c.requires.row.bytes)) in
    object_ok _ (count_touched c.args.block c.args.from (c.args.from + c.args.len)) _ c.in-Ok.bytes c.in-Ok.bytes _ _ (calls_bound _ _ _ low cut) c.in-Ok.ensures.reading

pub returns-in-Err-clause-walked : goal.returns-in-Err-clause-walked
returns-in-Err-clause-walked g c =
    let some : 0 < c.args.block = omega (arith, (size_bounds c.args.block c.requires.record_size).0) in
    let low : c.object_of.result.tree.levels ≤ 5 = rw c.object_of.ensures.tree (few_levels c.args.block c.args.row.now c.requires.record_size c.requires.row) in
    let cut = cut_range c.args.block c.args.from c.args.len c.args.row.now.length c.min-start.result c.min-end.result some c.min-start.ensures
    (omega (arith, c.min-start.ensures, c.saturating_add.ensures, c.min-end.ensures, c.requires.row.bytes)) in
    object_err _ (count_touched c.args.block c.args.from (c.args.from + c.args.len)) _ _ _ c.args.row.now.object c.in-Err.stop _ _ _ (calls_bound _ _ _ low cut)
    c.halt_in.ensures c.in-Err.ensures.reading
