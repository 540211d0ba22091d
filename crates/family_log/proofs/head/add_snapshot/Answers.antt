use Rattle.std.proofs.Common.{◌≡◌, ◌==◌, ◌∙◌, Some, sym, ap}
use Rattle.std.specs.List.{position}
use Rattle.std.proofs.lemmas.Result.{on_ok_weaker}
use Rattle.family_log.specs.declared.head.Head.{Head}
use Rattle.family_log.specs.Snapshots.{with_snapshot}
use Rattle.family_log.proofs.HeadLemmas.{with_head-placed, with_head-missed}
use Rattle.family_log.proofs.head.add_snapshot.Goals as goal

pub returns-in-Some-clause-added : goal.returns-in-Some-clause-added
returns-in-Some-clause-added c =
    let placed : position (λ (head : Head). head.id == c.args.id) c.args.heads.now.items ≡ Some c.in-Some.at =
    ap (λ heads. position (λ (head : Head). head.id == c.args.id) heads) (sym c.as_slice.ensures.value) ∙ sym c.place_of.ensures ∙ c.in-Some.is in
    on_ok_weaker c.add_snapshot.result (λ is. rw is
    (with_head-placed c.args.id (with_snapshot c.args.part.now c.args.guid) c.args.heads.now.items c.in-Some.at c.index_mut.result.now placed c.index_mut.ensures.value))
    c.add_snapshot.ensures.added

pub returns-in-None-clause-added : goal.returns-in-None-clause-added
returns-in-None-clause-added c =
    with_head-missed c.args.id (with_snapshot c.args.part.now c.args.guid) c.args.heads.now.items
    (ap (λ heads. position (λ (head : Head). head.id == c.args.id) heads) (sym c.as_slice.ensures.value) ∙ sym c.place_of.ensures ∙ c.in-None.is)
