use Rattle.std.proofs.Common.{◌≡◌, ◌∙◌, ℕ, List, Result, Err, ap, subst, sym}
use Rattle.dataset_tree.specs.declared.refusal.Refusal.TheVariants.{NoSnapshot}
use Rattle.dataset_tree.specs.declared.refusal.Stop.{Stop}
use Rattle.dataset_tree.specs.declared.refusal.Stop.TheVariants as stops
use Rattle.encryption_roots.specs.ById.{at_id}
use Rattle.encryption_roots.specs.Owners.{family}
use Rattle.family_log.specs.declared.entry.Spot.{Spot}
use Rattle.family_log.specs.Log.{snap_spot}
use Rattle.family_log.specs.Model.{FamilyState}
use Rattle.key_ciphers.specs.Calls.{AnswersDone}
use Rattle.key_machine.specs.Plain.{Plain}
use Rattle.host_state.specs.Hosts.{HostState, IsHost, host_after}
use Rattle.host_state.specs.SpotAnswers.{left_after}
use Rattle.host_state.specs.SpotLines.{destroy_snap_step, drop_left, on_family}
use Rattle.host_state.proofs.SpotLemmas.{drop_keeps, head_left, head_refused_left, head_refused_replies, head_replies}
use Rattle.host_state.proofs.DatasetLemmas.{drop_heads}
use Rattle.host_state.proofs.WholeHosts.{left_host}
use Rattle.host_state.proofs.host.Host.destroy_snap.Goals as goal

pub invariant_of-self : goal.invariant_of-self
invariant_of-self g c =
    let before : HostState = record { keys = c.self.inside.keys; families = c.self.inside.families.items; limit = c.self.inside.limit; tells = g.B.Shelf.tells } in
    let left : c.drop_in.new.families.items ≡ left_after c.drop_in.result before.families (on_family before.families c.family_of-family.result NoSnapshot (drop_left (snap_spot c.in-Ok.id c.args.name.now.snap)) (at_id c.family_of-family.result before.families)).families =
    subst (λ (spot : Spot). c.drop_in.new.families.items ≡ left_after c.drop_in.result before.families (on_family before.families c.family_of-family.result NoSnapshot (drop_left spot) (at_id c.family_of-family.result before.families)).families)
    c.in_ok-spot.ensures c.drop_in.ensures.left in
    subst (λ (fs : List (ℕ × FamilyState)). IsHost before.tells before.keys fs before.limit) (sym left)
    (left_host before.tells before.keys before.families before.limit c.self.invariant c.family_of-family.result NoSnapshot (drop_left (snap_spot c.in-Ok.id c.args.name.now.snap))
    (drop_keeps before.keys.tree.last c.in-Ok.id c.args.name.now.snap) (drop_heads (snap_spot c.in-Ok.id c.args.name.now.snap)) c.drop_in.result)

pub returns-clause-reply : goal.returns-clause-reply
returns-clause-reply g c =
    let before : HostState = record { keys = c.self.inside.keys; families = c.self.inside.families.items; limit = c.self.inside.limit; tells = g.B.Shelf.tells } in
    let at : c.family_of-family.result ≡ family before.keys.tree.rows c.in-Ok.id = c.family_of-family.ensures ∙ ap (λ t. family t.rows c.in-Ok.id) (c.tree.ensures ∙ ap (λ (p : Plain). p.tree) c.keys-2.ensures) in
    let answers : AnswersDone c.drop_in.result (on_family before.families c.family_of-family.result NoSnapshot (drop_left (snap_spot c.in-Ok.id c.args.name.now.snap)) (at_id c.family_of-family.result before.families)).reply =
    subst (λ (spot : Spot). AnswersDone c.drop_in.result (on_family before.families c.family_of-family.result NoSnapshot (drop_left spot) (at_id c.family_of-family.result before.families)).reply)
    c.in_ok-spot.ensures c.drop_in.ensures.reply in
    subst (λ (h : HostState). AnswersDone c.drop_in.result (destroy_snap_step h c.args.name.now.set c.args.name.now.snap).reply) c.self.view_is
    (head_replies before (λ _. NoSnapshot) (λ head state. drop_left (snap_spot head c.args.name.now.snap) state) c.keys.result.now c.args.name.now.set c.keys.ensures c.in-Ok.id c.family_of-family.result (sym c.in-Ok.ensures) at
    c.drop_in.result answers)

pub returns-clause-state : goal.returns-clause-state
returns-clause-state g c =
    let before : HostState = record { keys = c.self.inside.keys; families = c.self.inside.families.items; limit = c.self.inside.limit; tells = g.B.Shelf.tells } in
    let at : c.family_of-family.result ≡ family before.keys.tree.rows c.in-Ok.id = c.family_of-family.ensures ∙ ap (λ t. family t.rows c.in-Ok.id) (c.tree.ensures ∙ ap (λ (p : Plain). p.tree) c.keys-2.ensures) in
    let after : HostState = record before { families = c.drop_in.new.families.items } in
    let left : c.drop_in.new.families.items ≡ left_after c.drop_in.result before.families (on_family before.families c.family_of-family.result NoSnapshot (drop_left (snap_spot c.in-Ok.id c.args.name.now.snap)) (at_id c.family_of-family.result before.families)).families =
    subst (λ (spot : Spot). c.drop_in.new.families.items ≡ left_after c.drop_in.result before.families (on_family before.families c.family_of-family.result NoSnapshot (drop_left spot) (at_id c.family_of-family.result before.families)).families)
    c.in_ok-spot.ensures c.drop_in.ensures.left in
    subst (λ (h : HostState). after ≡ host_after c.drop_in.result h (destroy_snap_step h c.args.name.now.set c.args.name.now.snap).state) c.self.view_is
    (head_left before (λ _. NoSnapshot) (λ head state. drop_left (snap_spot head c.args.name.now.snap) state) c.keys.result.now c.args.name.now.set c.keys.ensures c.in-Ok.id c.family_of-family.result (sym c.in-Ok.ensures) at
    c.drop_in.result c.drop_in.new.families.items left)

pub returns-in-Err-clause-reply : goal.returns-in-Err-clause-reply
returns-in-Err-clause-reply g c =
    let before : HostState = record { keys = c.self.inside.keys; families = c.self.inside.families.items; limit = c.self.inside.limit; tells = g.B.Shelf.tells } in
    let refused : Result (Unit {0}) Stop = Err (stops.Refused c.in-Err.why) in
    subst (λ (h : HostState). AnswersDone refused (destroy_snap_step h c.args.name.now.set c.args.name.now.snap).reply) c.self.view_is
    (head_refused_replies before (λ _. NoSnapshot) (λ head state. drop_left (snap_spot head c.args.name.now.snap) state) c.keys.result.now c.args.name.now.set c.keys.ensures c.in-Err.why (sym c.in-Err.ensures))

pub returns-in-Err-clause-state : goal.returns-in-Err-clause-state
returns-in-Err-clause-state g c =
    let before : HostState = record { keys = c.self.inside.keys; families = c.self.inside.families.items; limit = c.self.inside.limit; tells = g.B.Shelf.tells } in
    subst (λ (h : HostState). h ≡ (destroy_snap_step h c.args.name.now.set c.args.name.now.snap).state) c.self.view_is
    (head_refused_left before (λ _. NoSnapshot) (λ head state. drop_left (snap_spot head c.args.name.now.snap) state) c.keys.result.now c.args.name.now.set c.keys.ensures c.in-Err.why (sym c.in-Err.ensures))
