use Rattle.std.proofs.Common.{◌≡◌, Option, refl, arith}
use Rattle.indirect_macs.specs.declared.refs.BlockRef.{BlockRef}
use Rattle.file_blocks.proofs.Taking.{groups_more, groups_stop, groups_stopped, groups_ended}
use Rattle.file_blocks.proofs.taken.test_groups.Goals as goal

pub returns-in-Err-clause-reading : goal.returns-in-Err-clause-reading
returns-in-Err-clause-reading g c =
    groups_stop c.args.block c.args.tree.now c.args.from c.each.k c.args.count _ c.in-Err.stop _ _ _ c.each.invariant c.each-test.true refl c.in-Err.ensures.reading

pub returns-in-Err-clause-told : goal.returns-in-Err-clause-told
returns-in-Err-clause-told g c =
    groups_stopped {X = Option BlockRef} {Y = Unit {0}} c.args.block c.args.tree.now c.args.from c.each.k c.args.count _ (λ found. found) (λ x. x) c.in-Err.stop _ _ c.each.invariant
    c.each-test.true refl c.in-Err.ensures.told

pub each-preserved : goal.each-preserved
each-preserved g c =
    groups_more c.args.block c.args.tree.now c.args.from c.each.k _ c.in_default.field-0 (λ found. found) _ _ _ c.each.invariant refl c.in_default.ensures.reading c.in_default.ensures.told

pub returns-clause-told : goal.returns-clause-told
returns-clause-told g c =
    let at_end : c.each.k ≡ c.args.count = omega arith in
    groups_ended c.args.block c.args.tree.now c.args.from c.each.k c.args.count _ _ c.each.invariant at_end
