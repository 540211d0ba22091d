use Rattle.std.proofs.Common.{◌+◌, ◌-◌, Option, Result, length, refl, arith, Ok, Err, Vec, Global}
use Rattle.std.specs.Prelude.{min}
use Rattle.std.proofs.lemmas.Option.{IfSome_then}
use Rattle.indirect_macs.specs.declared.refs.BlockRef.{BlockRef}
use Rattle.indirect_macs.specs.declared.refs.NodeRef.{NodeRef}
use Rattle.indirect_macs.specs.declared.refs.MacError.{MacError}
use Rattle.indirect_macs.specs.RunFields.{run_of}
use Rattle.indirect_macs.specs.Runs.{levels_for, old_of, raised_below, touched_below}
use Rattle.indirect_macs.proofs.RunMade.{levels_front}
use Rattle.indirect_macs.proofs.RunLevels.{below_told, run_longer, leaf_told, leaf_stop, children_stop, level_told, same_level, changes_wider, reads_changes, step_reads, step_read, step_touched, bound_grows, leaf_changes, level_changes, sub_changes}
use Rattle.indirect_macs.proofs.replace.+replace_levels.Goals as goal

pub returns-in-Err-replace_levels-clause-told : goal.returns-in-Err-replace_levels-clause-told
returns-in-Err-replace_levels-clause-told g t c =
    IfSome_then (g.B.Shelf.told c.args.shelf.now).held
    (below_told _ (λ made. made.refs.items) (λ made. made.raised) c.args.run.now.block (run_of c.args.run.now) c.args.level (length c.args.old.now) c.args.old.now c.deref-2.result.now c.touched.result.now (Err c.in-Err-replace_levels.stop) (g.B.Shelf.told c.args.shelf.now) _ _
    (omega arith) refl c.requires.count c.in-Ok-read_children.ensures.reads c.in-Ok-read_children.ensures.hole
    (rw c.deref-2.ensures.value c.in-Ok-read_children.ensures.told)
    (λ f is. rw c.touched.ensures.count (c.touched.ensures.range f is)) c.in-Err-replace_levels.ensures.told)
    (λ held went range.
    run_longer held c.args.run.now.block (run_of c.args.run.now) _ _ _ c.in-Err-replace_levels.stop _ _
    (levels_front (run_of c.args.run.now) (old_of held c.args.run.now.block (run_of c.args.run.now)) (length (g.B.Shelf.told c.args.shelf.now).sizes) (min (c.args.level - 1) (levels_for c.args.run.now.blocks)) (min c.args.level (levels_for c.args.run.now.blocks)) (omega arith)) (went range))

pub returns-in-Ok-clause-told : goal.returns-in-Ok-clause-told
returns-in-Ok-clause-told g t c =
    leaf_told _ (λ made. made.refs.items) (λ made. made.raised) c.args.run.now.block (run_of c.args.run.now) c.args.level (length c.args.old.now) c.args.old.now c.deref.result.now c.put_leaves.result (g.B.Shelf.told c.args.shelf.now) _ _
    c.if-level-eq1.true (omega arith) refl c.requires.count c.in-Ok.ensures.reads (rw c.deref.ensures.value c.in-Ok.ensures.told) c.put_leaves.ensures.made

pub returns-in-Err-clause-told : goal.returns-in-Err-clause-told
returns-in-Err-clause-told g t c =
    leaf_stop _ (Vec (Option BlockRef) Global) (λ made. made.refs.items) (λ made. made.raised) c.args.run.now.block (run_of c.args.run.now) c.args.level (length c.args.old.now) c.args.old.now c.in-Err.stop (g.B.Shelf.told c.args.shelf.now) _
    c.if-level-eq1.true (omega arith) refl c.requires.count c.in-Err.ensures.reads c.in-Err.ensures.stops

pub returns-in-Err-read_children-clause-told : goal.returns-in-Err-read_children-clause-told
returns-in-Err-read_children-clause-told g t c =
    children_stop _ (Vec (Result (Option NodeRef) MacError) Global) (λ made. made.refs.items) (λ made. made.raised) c.args.run.now.block (run_of c.args.run.now) c.args.level (length c.args.old.now) c.args.old.now c.in-Err-read_children.stop (g.B.Shelf.told c.args.shelf.now) _
    (omega arith) c.requires.count c.in-Err-read_children.ensures.reads c.in-Err-read_children.ensures.hole c.in-Err-read_children.ensures.quiet c.in-Err-read_children.ensures.stops

pub returns-then-level-levels_for-clause-told : goal.returns-then-level-levels_for-clause-told
returns-then-level-levels_for-clause-told g t c =
    rw (← same_level (run_of c.args.run.now) c.args.level (omega (arith, c.levels_for.ensures.value, c.if-level-levels_for.true)))
    (below_told _ (λ made. made.refs.items) (λ made. made.raised) c.args.run.now.block (run_of c.args.run.now) c.args.level (length c.args.old.now) c.args.old.now c.deref-2.result.now c.touched.result.now (Ok c.in-Ok-replace_levels.below) (g.B.Shelf.told c.args.shelf.now) _ _
    (omega arith) refl c.requires.count c.in-Ok-read_children.ensures.reads c.in-Ok-read_children.ensures.hole
    (rw c.deref-2.ensures.value c.in-Ok-read_children.ensures.told)
    (λ f is. rw c.touched.ensures.count (c.touched.ensures.range f is)) c.in-Ok-replace_levels.ensures.told)

pub returns-clause-told : goal.returns-clause-told
returns-clause-told g t c =
    level_told _ (λ made. made.refs.items) (λ made. made.raised) c.args.run.now.block (run_of c.args.run.now) c.args.level c.args.old.now c.deref-3.result.now c.in-Ok-replace_levels.below c.put_level.result (g.B.Shelf.told c.args.shelf.now) _ _
    (omega arith) (omega (arith, c.levels_for.ensures.value)) c.requires.count
    (below_told _ (λ made. made.refs.items) (λ made. made.raised) c.args.run.now.block (run_of c.args.run.now) c.args.level (length c.args.old.now) c.args.old.now c.deref-2.result.now c.touched.result.now (Ok c.in-Ok-replace_levels.below) (g.B.Shelf.told c.args.shelf.now) _ _
    (omega arith) refl c.requires.count c.in-Ok-read_children.ensures.reads c.in-Ok-read_children.ensures.hole
    (rw c.deref-2.ensures.value c.in-Ok-read_children.ensures.told)
    (λ f is. rw c.touched.ensures.count (c.touched.ensures.range f is)) c.in-Ok-replace_levels.ensures.told)
    (rw c.deref-3.ensures.value c.in-Ok-read_children.ensures.told) c.put_level.ensures

pub returns-in-Ok-clause-changes : goal.returns-in-Ok-clause-changes
returns-in-Ok-clause-changes g t c = (leaf_changes _ (λ made. made.refs.items) (λ made. made.raised) (run_of c.args.run.now) c.args.level (length c.args.old.now) c.args.old.now c.deref.result.now c.put_leaves.result (g.B.Shelf.told c.args.shelf.now) _ _
    c.if-level-eq1.true (omega arith) refl c.requires.count (rw c.deref.ensures.value c.in-Ok.ensures.size) c.in-Ok.ensures.reads c.put_leaves.ensures.made).0

pub returns-in-Ok-clause-count : goal.returns-in-Ok-clause-count
returns-in-Ok-clause-count g t c = (leaf_changes _ (λ made. made.refs.items) (λ made. made.raised) (run_of c.args.run.now) c.args.level (length c.args.old.now) c.args.old.now c.deref.result.now c.put_leaves.result (g.B.Shelf.told c.args.shelf.now) _ _
    c.if-level-eq1.true (omega arith) refl c.requires.count (rw c.deref.ensures.value c.in-Ok.ensures.size) c.in-Ok.ensures.reads c.put_leaves.ensures.made).1

pub returns-in-Err-clause-changes : goal.returns-in-Err-clause-changes
returns-in-Err-clause-changes g t c =
    reads_changes _ (Vec (Option BlockRef) Global) (step_reads (run_of c.args.run.now) c.args.level) _ _ c.in-Err.stop (g.B.Shelf.told c.args.shelf.now) _ (omega (arith, step_touched (run_of c.args.run.now) c.args.level (omega arith)))
    (step_read (run_of c.args.run.now) c.args.level (length c.args.old.now) _ (g.B.Shelf.told c.args.shelf.now) _ c.requires.count c.in-Err.ensures.reads (λ high. absurd (omega (arith, high, c.if-level-eq1.true))) (λ high. absurd (omega (arith, high, c.if-level-eq1.true))))

pub returns-in-Err-read_children-clause-changes : goal.returns-in-Err-read_children-clause-changes
returns-in-Err-read_children-clause-changes g t c =
    reads_changes _ (Vec (Result (Option NodeRef) MacError) Global) (step_reads (run_of c.args.run.now) c.args.level) _ _ c.in-Err-read_children.stop (g.B.Shelf.told c.args.shelf.now) _ (omega (arith, step_touched (run_of c.args.run.now) c.args.level (omega arith)))
    (step_read (run_of c.args.run.now) c.args.level (length c.args.old.now) _ (g.B.Shelf.told c.args.shelf.now) _ c.requires.count c.in-Err-read_children.ensures.reads c.in-Err-read_children.ensures.hole c.in-Err-read_children.ensures.quiet)

pub returns-in-Err-replace_levels-clause-changes : goal.returns-in-Err-replace_levels-clause-changes
returns-in-Err-replace_levels-clause-changes g t c =
    changes_wider _ _ _ _ (Err c.in-Err-replace_levels.stop) (g.B.Shelf.told c.args.shelf.now) _ (omega arith) (bound_grows (run_of c.args.run.now) c.args.level (omega arith))
    (sub_changes (run_of c.args.run.now) c.args.level (length c.args.old.now) (touched_below (run_of c.args.run.now) (min (c.args.level - 1) (levels_for c.args.run.now.blocks)) + raised_below (run_of c.args.run.now) (min (c.args.level - 1) (levels_for c.args.run.now.blocks))) (Err c.in-Err-replace_levels.stop) (g.B.Shelf.told c.args.shelf.now) _ _ (omega arith) c.requires.count
    c.in-Ok-read_children.ensures.reads c.in-Ok-read_children.ensures.hole c.in-Err-replace_levels.ensures.changes)

pub returns-then-level-levels_for-clause-changes : goal.returns-then-level-levels_for-clause-changes
returns-then-level-levels_for-clause-changes g t c =
    changes_wider _ _ _ _ (Ok c.in-Ok-replace_levels.below) (g.B.Shelf.told c.args.shelf.now) _ (omega arith) (bound_grows (run_of c.args.run.now) c.args.level (omega arith))
    (sub_changes (run_of c.args.run.now) c.args.level (length c.args.old.now) (touched_below (run_of c.args.run.now) (min (c.args.level - 1) (levels_for c.args.run.now.blocks)) + raised_below (run_of c.args.run.now) (min (c.args.level - 1) (levels_for c.args.run.now.blocks))) (Ok c.in-Ok-replace_levels.below) (g.B.Shelf.told c.args.shelf.now) _ _ (omega arith) c.requires.count
    c.in-Ok-read_children.ensures.reads c.in-Ok-read_children.ensures.hole c.in-Ok-replace_levels.ensures.changes)

pub returns-clause-changes : goal.returns-clause-changes
returns-clause-changes g t c = (level_changes _ (λ made. made.refs.items) (λ made. made.raised) (run_of c.args.run.now) c.args.level (touched_below (run_of c.args.run.now) (min c.args.level c.args.run.now.tree.levels)) c.args.old.now c.deref-3.result.now c.in-Ok-replace_levels.below c.put_level.result (g.B.Shelf.told c.args.shelf.now) _ _
    (omega arith) (omega (arith, c.levels_for.ensures.value)) c.requires.count (rw c.deref-3.ensures.value c.in-Ok-read_children.ensures.size)
    (sub_changes (run_of c.args.run.now) c.args.level (length c.args.old.now) (touched_below (run_of c.args.run.now) (min (c.args.level - 1) (levels_for c.args.run.now.blocks)) + raised_below (run_of c.args.run.now) (min (c.args.level - 1) (levels_for c.args.run.now.blocks))) (Ok c.in-Ok-replace_levels.below) (g.B.Shelf.told c.args.shelf.now) _ _ (omega arith) c.requires.count
    c.in-Ok-read_children.ensures.reads c.in-Ok-read_children.ensures.hole c.in-Ok-replace_levels.ensures.changes) c.put_level.ensures).0

pub returns-clause-count : goal.returns-clause-count
returns-clause-count g t c = (level_changes _ (λ made. made.refs.items) (λ made. made.raised) (run_of c.args.run.now) c.args.level (touched_below (run_of c.args.run.now) (min c.args.level c.args.run.now.tree.levels)) c.args.old.now c.deref-3.result.now c.in-Ok-replace_levels.below c.put_level.result (g.B.Shelf.told c.args.shelf.now) _ _
    (omega arith) (omega (arith, c.levels_for.ensures.value)) c.requires.count (rw c.deref-3.ensures.value c.in-Ok-read_children.ensures.size)
    (sub_changes (run_of c.args.run.now) c.args.level (length c.args.old.now) (touched_below (run_of c.args.run.now) (min (c.args.level - 1) (levels_for c.args.run.now.blocks)) + raised_below (run_of c.args.run.now) (min (c.args.level - 1) (levels_for c.args.run.now.blocks))) (Ok c.in-Ok-replace_levels.below) (g.B.Shelf.told c.args.shelf.now) _ _ (omega arith) c.requires.count
    c.in-Ok-read_children.ensures.reads c.in-Ok-read_children.ensures.hole c.in-Ok-replace_levels.ensures.changes) c.put_level.ensures).1
