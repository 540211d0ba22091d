use Rattle.std.proofs.Common.{◌≡◌, ◌<◌, ◌≤◌, length, true, is_err, None, Option, sym, ◌∙◌, subst, arith}
use Rattle.encryption_roots.specs.declared.props.Props.{Props}
use Rattle.encryption_roots.specs.ById.{at_id, with_id}
use Rattle.key_machine.specs.Plan.{set_id}
use Rattle.key_store.proofs.RoomLemmas.{on_err, one_more}
use Rattle.key_store.proofs.plans.set_root.Goals as goal

pub unreachable-requires : goal.unreachable-requires
unreachable-requires c =
    let failed : is_err c.insert.result ≡ true = sym c.is_err.ensures.value ∙ c.if-is_err.true in
    let new : at_id c.args.id c.args.roots.now ≡ None = on_err c.insert.result (at_id c.args.id c.args.roots.now ≡ None) c.insert.ensures.new failed in
    let full : 256 ≤ length c.args.roots.now = on_err c.insert.result (256 ≤ length c.args.roots.now) c.insert.ensures.full failed in
    let more : length c.args.roots.now < length (with_id c.args.id c.in-Some.props c.args.roots.now) = one_more c.args.id c.in-Some.props c.args.roots.now new in
    let room : length (with_id c.args.id c.in-Some.props c.args.roots.now) ≤ 256 = subst (λ (props : Option Props). length (set_id c.args.id props c.args.roots.now) ≤ 256) c.in-Some.is c.requires in
    omega (arith, full, more, room)
