use Rattle.std.proofs.Common.{refl, sym, arith, None}
use Rattle.std.specs.Prelude.{min}
use Rattle.std.proofs.lemmas.Option.{IfSome_then}
use Rattle.std.proofs.lemmas.List.{get_or_read}
use Rattle.indirect_macs.specs.RunFields.{run_for}
use Rattle.indirect_macs.specs.Runs.{first_at, levels_for}
use Rattle.indirect_macs.proofs.RunReading.{for_each_held}
use Rattle.indirect_macs.proofs.RunLevels.{top_places, top_range, replaced_ok, replaced_err, replaced_none}
use Rattle.indirect_macs.proofs.replace.replace_run.Goals as goal

pub returns-then-blocks-eq0-clause-told : goal.returns-then-blocks-eq0-clause-told
returns-then-blocks-eq0-clause-told g c =
    for_each_held (g.B.Shelf.told c.args.shelf.now).held (λ held.
    replaced_none held c.args.block (run_for c.args.tree.now c.args.blocks c.args.from c.args.refs.now) _ (g.B.Shelf.told c.args.shelf.now) (omega arith) c.levels_for-levels.ensures.value refl)

pub replace_levels-requires-clause-count : goal.replace_levels-requires-clause-count
replace_levels-requires-clause-count g c =
    sym (top_places (run_for c.args.tree.now c.args.blocks c.args.from c.args.refs.now) c.max-highest.result c.requires.within c.requires.most (omega arith) (omega (arith, c.levels_for-levels.ensures.value, c.max-highest.ensures))).1

pub index-requires : goal.index-requires
index-requires g c =
    omega (
      arith,
      c.in-Ok.ensures.count,
      c.in-Ok.made.refs.ok.0,
      (top_places (run_for c.args.tree.now c.args.blocks c.args.from c.args.refs.now) (min c.max-highest.result (levels_for c.args.blocks)) c.requires.within c.requires.most (omega arith) (omega (arith, c.levels_for-levels.ensures.value, c.max-highest.ensures))).1,
    )

pub returns-in-Ok-clause-told : goal.returns-in-Ok-clause-told
returns-in-Ok-clause-told g c =
    IfSome_then (g.B.Shelf.told c.args.shelf.now).held c.in-Ok.ensures.told (λ held told.
    replaced_ok _ (λ made. made.refs.items) (λ made. made.raised) held c.args.block (run_for c.args.tree.now c.args.blocks c.args.from c.args.refs.now) c.max-highest.result c.in-Ok.made _ (g.B.Shelf.told c.args.shelf.now) _
    (omega arith) (omega (arith, c.max-highest.ensures)) (omega (arith, c.levels_for-levels.ensures.value, c.max-highest.ensures)) c.levels_for-levels.ensures.value
    (get_or_read c.in-Ok.made.refs.items _ _ (omega (arith, c.in-Ok.ensures.count, (top_places (run_for c.args.tree.now c.args.blocks c.args.from c.args.refs.now) (min c.max-highest.result (levels_for c.args.blocks)) c.requires.within c.requires.most (omega arith) (omega (arith, c.levels_for-levels.ensures.value, c.max-highest.ensures))).1)) c.index.ensures None)
    (told (top_range held c.args.block (run_for c.args.tree.now c.args.blocks c.args.from c.args.refs.now) c.max-highest.result (first_at (run_for c.args.tree.now c.args.blocks c.args.from c.args.refs.now) c.max-highest.result) 1 c.old_top.result (omega (arith, c.max-highest.ensures))
    (top_places (run_for c.args.tree.now c.args.blocks c.args.from c.args.refs.now) c.max-highest.result c.requires.within c.requires.most (omega arith) (omega (arith, c.levels_for-levels.ensures.value, c.max-highest.ensures))).0 refl c.old_top.ensures)))

pub returns-in-Err-clause-told : goal.returns-in-Err-clause-told
returns-in-Err-clause-told g c =
    IfSome_then (g.B.Shelf.told c.args.shelf.now).held c.in-Err.ensures.told (λ held told.
    replaced_err _ (λ made. made.refs.items) (λ made. made.raised) held c.args.block (run_for c.args.tree.now c.args.blocks c.args.from c.args.refs.now) c.max-highest.result c.in-Err.stop (g.B.Shelf.told c.args.shelf.now) _
    (omega arith) (omega (arith, c.max-highest.ensures)) (omega (arith, c.levels_for-levels.ensures.value, c.max-highest.ensures))
    (told (top_range held c.args.block (run_for c.args.tree.now c.args.blocks c.args.from c.args.refs.now) c.max-highest.result (first_at (run_for c.args.tree.now c.args.blocks c.args.from c.args.refs.now) c.max-highest.result) 1 c.old_top.result (omega (arith, c.max-highest.ensures))
    (top_places (run_for c.args.tree.now c.args.blocks c.args.from c.args.refs.now) c.max-highest.result c.requires.within c.requires.most (omega arith) (omega (arith, c.levels_for-levels.ensures.value, c.max-highest.ensures))).0 refl c.old_top.ensures)))
