use Rattle.std.proofs.Common.{◌≡◌, ◌==◌, ◌∙◌, Some, sym, ap}
use Rattle.std.specs.List.{position}
use Rattle.family_log.specs.declared.head.Head.{Head}
use Rattle.family_log.specs.Calls.{given}
use Rattle.family_log.proofs.HeadLemmas.{with_head-placed, with_head-missed}
use Rattle.family_log.proofs.head.put_table.Goals as goal

pub returns-in-Some : goal.returns-in-Some
returns-in-Some c =
    let placed : position (λ (head : Head). head.id == c.args.id) c.args.heads.now.items ≡ Some c.in-Some.at =
    ap (λ heads. position (λ (head : Head). head.id == c.args.id) heads) (sym c.as_slice.ensures.value) ∙ sym c.place_of.ensures ∙ c.in-Some.is in
    rw c.with_guid.ensures (with_head-placed c.args.id (given c.args.table) c.args.heads.now.items c.in-Some.at c.index_mut.result.now placed c.index_mut.ensures.value)

pub returns-in_default : goal.returns-in_default
returns-in_default c =
    with_head-missed c.args.id (given c.args.table) c.args.heads.now.items
    (ap (λ heads. position (λ (head : Head). head.id == c.args.id) heads) (sym c.as_slice.ensures.value) ∙ sym c.place_of.ensures ∙ c.in_default.is)
