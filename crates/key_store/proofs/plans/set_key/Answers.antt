use Rattle.std.proofs.Common.{◌≡◌, ◌<◌, ◌≤◌, ℕ, List, length, true, is_err, None, Option, sym, ◌∙◌, subst, arith}
use Rattle.std.specs.Prelude.{vec_capacity}
use Rattle.encryption_roots.specs.ById.{at_id, with_id}
use Rattle.key_machine.specs.Plan.{set_id}
use Rattle.key_store.proofs.RoomLemmas.{on_err, one_more}
use Rattle.key_store.proofs.plans.set_key.Goals as goal

pub unreachable-requires : goal.unreachable-requires
unreachable-requires c =
    let keys : List (ℕ × List ℕ) = c.args.keys.now.items in
    let room_for : ℕ = vec_capacity c.args.keys.now in
    let failed : is_err c.put_at_id.result ≡ true = sym c.is_err.ensures.value ∙ c.if-is_err.true in
    let new : at_id c.args.id keys ≡ None = on_err c.put_at_id.result (at_id c.args.id keys ≡ None) c.put_at_id.ensures.new failed in
    let full : room_for ≤ length keys = on_err c.put_at_id.result (room_for ≤ length keys) c.put_at_id.ensures.full failed in
    let more : length keys < length (with_id c.args.id c.in-Some.key keys) = one_more c.args.id c.in-Some.key keys new in
    let room : length (with_id c.args.id c.in-Some.key keys) ≤ room_for = subst (λ (key : Option (List ℕ)). length (set_id c.args.id key keys) ≤ room_for) c.in-Some.is c.requires.room in
    omega (arith, full, more, room)
