use Rattle.std.proofs.Common.{sym, ◌∙◌, arith, Some, None}
use Rattle.indirect_macs.specs.RunFields.{run_of}
use Rattle.std.proofs.lemmas.Option.{IfSome_then}
use Rattle.indirect_macs.proofs.RunReading.{for_each_held, found_failure, found_ok, leaf_none, leaf_read, leaf_failed, leaf_stops, over_one}
use Rattle.indirect_macs.proofs.children.blocks_below.Goals as goal

pub returns-in-Some-clause-told : goal.returns-in-Some-clause-told
returns-in-Some-clause-told g c =
    for_each_held (g.B.Shelf.told c.args.shelf.now).held (λ held is.
    leaf_failed held c.args.run.now.block (run_of c.args.run.now) c.args.index c.in-Some.failed (omega arith) c.in-Some.ensures.quiet
    (found_failure held c.args.run.now.block (run_of c.args.run.now) 1 c.args.index c.args.found.now c.in-Some.failed is (sym c.failure.ensures.value ∙ c.in-Some.is)))

pub returns-in_default-or_hole-clause-told : goal.returns-in_default-or_hole-clause-told
returns-in_default-or_hole-clause-told g c =
    for_each_held (g.B.Shelf.told c.args.shelf.now).held (λ held is.
    leaf_none held c.args.run.now.block (run_of c.args.run.now) c.args.index (omega arith)
    (found_ok held c.args.run.now.block (run_of c.args.run.now) 1 c.args.index c.args.found.now None is (sym c.failure.ensures.value ∙ c.in_default.is)
    (sym c.or_hole.ensures ∙ c.in_default-or_hole.is)))

pub returns-in-Ok-clause-told : goal.returns-in-Ok-clause-told
returns-in-Ok-clause-told g c =
    IfSome_then (g.B.Shelf.told c.args.shelf.now).held c.in-Ok.ensures.bytes (λ held passes is.
    rw c.blocks_in.ensures
    (leaf_read held c.args.run.now.block (run_of c.args.run.now) c.args.index c.in-Some-or_hole.node c.read_node.new.out (omega arith)
    (found_ok held c.args.run.now.block (run_of c.args.run.now) 1 c.args.index c.args.found.now (Some c.in-Some-or_hole.node) is (sym c.failure.ensures.value ∙ c.in_default.is)
    (sym c.or_hole.ensures ∙ c.in-Some-or_hole.is)) passes))

pub returns-in-Err-clause-told : goal.returns-in-Err-clause-told
returns-in-Err-clause-told g c =
    IfSome_then (g.B.Shelf.told c.args.shelf.now).held c.in-Err.ensures.told (λ held gave is.
    leaf_stops held c.args.run.now.block (run_of c.args.run.now) c.args.index c.block_over.result _ c.in-Some-or_hole.node c.in-Err.stop _ _ (omega arith)
    (found_ok held c.args.run.now.block (run_of c.args.run.now) 1 c.args.index c.args.found.now (Some c.in-Some-or_hole.node) is (sym c.failure.ensures.value ∙ c.in_default.is)
    (sym c.or_hole.ensures ∙ c.in-Some-or_hole.is)) (omega arith) (over_one 1 _ c.in-Err.stop c.in-Err.ensures.answers.failure) gave)
