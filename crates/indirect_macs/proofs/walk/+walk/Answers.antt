use Rattle.std.proofs.Common.{◌-◌, ◌≤◌, arith}
use Rattle.indirect_macs.proofs.Walking.{walk_hole, at_level_one, stops_at, goes_on_at, answers_go_on}
use Rattle.indirect_macs.proofs.walk.+walk.Goals as goal

pub returns-in_default-clause-told : goal.returns-in_default-clause-told
returns-in_default-clause-told g t c =
    rw c.in_default.is (walk_hole c.args.block c.args.index (c.args.level - 1) (g.B.Shelf.told c.args.shelf.now))

pub returns-then-level-eq1-clause-told : goal.returns-then-level-eq1-clause-told
returns-then-level-eq1-clause-told g t c =
    rw c.in-Some.is
    (at_level_one c.args.block c.args.index c.args.level c.in-Some.node c.block_below.result _ _ c.if-level-eq1.true c.block_below.ensures.told)

pub returns-in-Ok-clause-answers : goal.returns-in-Ok-clause-answers
returns-in-Ok-clause-answers g t c =
    answers_go_on c.args.level c.args.index c.in-Ok.next c.walk.result _ _ _ c.requires.above c.in-Ok.ensures.answers c.walk.ensures.answers

pub returns-in-Ok-clause-told : goal.returns-in-Ok-clause-told
returns-in-Ok-clause-told g t c =
    let above : 2 ≤ c.args.level = omega arith in
    rw c.in-Some.is
    (goes_on_at c.args.block c.args.index c.args.level c.in-Some.node c.in-Ok.next c.walk.result c.in-Ok.ensures.answers.calls _ _ _
    above c.in-Ok.ensures.answers.after c.in-Ok.ensures.told c.walk.ensures.told)

pub returns-in-Err-clause-told : goal.returns-in-Err-clause-told
returns-in-Err-clause-told g t c =
    let above : 2 ≤ c.args.level = omega arith in
    rw c.in-Some.is (stops_at c.args.block c.args.index c.args.level c.in-Some.node c.in-Err.stop _ _ above c.in-Err.ensures.told)
