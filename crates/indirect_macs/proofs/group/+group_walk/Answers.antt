use Rattle.std.proofs.Common.{◌-◌, ◌≤◌, arith}
use Rattle.indirect_macs.proofs.Walking.{answers_go_on}
use Rattle.indirect_macs.proofs.GroupWalks.{group_hole, group_at_one, group_stops_at, group_goes_on_at}
use Rattle.indirect_macs.proofs.group.+group_walk.Goals as goal

pub returns-in_default-clause-told : goal.returns-in_default-clause-told
returns-in_default-clause-told g t c =
    rw c.in_default.is (group_hole c.args.block c.args.index (c.args.level - 1) (g.B.Shelf.told c.args.shelf.now))

pub returns-then-level-eq1-clause-told : goal.returns-then-level-eq1-clause-told
returns-then-level-eq1-clause-told g t c =
    rw c.in-Some.is
    (group_at_one c.args.block c.args.index c.args.level c.in-Some.node c.group_in.result _ _ c.if-level-eq1.true c.group_in.ensures.told)

pub returns-in-Ok-clause-answers : goal.returns-in-Ok-clause-answers
returns-in-Ok-clause-answers g t c =
    answers_go_on c.args.level c.args.index c.in-Ok.next c.group_walk.result _ _ _ c.requires.above c.in-Ok.ensures.answers c.group_walk.ensures.answers

pub returns-in-Ok-clause-told : goal.returns-in-Ok-clause-told
returns-in-Ok-clause-told g t c =
    let above : 2 ≤ c.args.level = omega arith in
    rw c.in-Some.is
    (group_goes_on_at c.args.block c.args.index c.args.level c.in-Some.node c.in-Ok.next c.group_walk.result c.in-Ok.ensures.answers.calls _ _ _
    above c.in-Ok.ensures.answers.after c.in-Ok.ensures.told c.group_walk.ensures.told)

pub returns-in-Err-clause-told : goal.returns-in-Err-clause-told
returns-in-Err-clause-told g t c =
    let above : 2 ≤ c.args.level = omega arith in
    rw c.in-Some.is (group_stops_at c.args.block c.args.index c.args.level c.in-Some.node c.in-Err.stop _ _ above c.in-Err.ensures.told)
