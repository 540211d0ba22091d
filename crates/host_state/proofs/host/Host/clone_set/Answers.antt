use Rattle.std.proofs.Common.{◌≡◌, ◌∙◌, Result, Ok, Err, ap, subst, sym}
use Rattle.dataset_tree.specs.declared.refusal.Stop.{Stop}
use Rattle.dataset_tree.specs.declared.refusal.Stop.TheVariants as stops
use Rattle.encryption_roots.specs.ById.{at_id}
use Rattle.encryption_roots.specs.Owners.{family}
use Rattle.family_log.specs.declared.entry.Spot.{Spot}
use Rattle.family_log.specs.Log.{snap_spot}
use Rattle.key_ciphers.specs.Calls.{AnswersDone}
use Rattle.key_ciphers.specs.Ciphers.{ciphers}
use Rattle.key_machine.specs.Plain.{Plain}
use Rattle.key_machine.specs.Sound.{Sound}
use Rattle.host_state.specs.Hosts.{HostState}
use Rattle.host_state.specs.SpotAnswers.{ClonesIn}
use Rattle.host_state.specs.SpotLines.{AfterClone, clone_step, encrypted_id}
use Rattle.host_state.proofs.HostParts.{pairs}
use Rattle.host_state.proofs.WholeHosts.{cloned_host}
use Rattle.host_state.proofs.SpotHosts.{cloned_steps, origin_refused_left, origin_refused_replies}
use Rattle.host_state.proofs.host.Host.clone_set.Goals as goal

pub clone_in-requires-clause-up_to : goal.clone_in-requires-clause-up_to
clone_in-requires-clause-up_to g c = c.self.invariant.up_to c.family_of-family.result

pub invariant_of-self : goal.invariant_of-self
invariant_of-self g c =
    let before : HostState = record { keys = c.self.inside.keys; families = c.self.inside.families.items; limit = c.self.inside.limit; tells = g.B.Shelf.tells } in
    let at : c.family_of-family.result ≡ family before.keys.tree.rows c.in-Ok.id = c.family_of-family.ensures ∙ ap (λ t. family t.rows c.in-Ok.id) (c.tree.ensures ∙ ap (λ (p : Plain). p.tree) c.keys-3.ensures) in
    let clones : ClonesIn c.clone_in.result c.args.from.now.set c.args.name.now (snap_spot c.in-Ok.id c.args.from.now.snap) before.keys c.clone_in.new.keys c.family_of-family.result before.families c.clone_in.new.families.items (at_id c.family_of-family.result before.families) =
    subst (λ (spot : Spot). ClonesIn c.clone_in.result c.args.from.now.set c.args.name.now spot before.keys c.clone_in.new.keys c.family_of-family.result before.families c.clone_in.new.families.items (at_id c.family_of-family.result before.families))
    c.in_ok-spot.ensures c.clone_in.ensures in
    let sound : Sound ciphers before.keys = subst (λ (p : Plain). Sound ciphers p) c.keys.ensures c.states_are_sound.ensures in
    let id_is : encrypted_id before.keys c.args.from.now.set ≡ Ok c.in-Ok.id = ap (λ (p : Plain). encrypted_id p c.args.from.now.set) (sym c.keys-2.ensures) ∙ sym c.in-Ok.ensures in
    cloned_host before c.self.invariant sound c.args.from.now.set c.args.from.now.snap c.args.name.now c.family_of-family.result c.in-Ok.id at id_is c.clone_in.new.keys c.clone_in.new.families.items c.clone_in.result clones

pub returns-clause-reply : goal.returns-clause-reply
returns-clause-reply g c =
    let before : HostState = record { keys = c.self.inside.keys; families = c.self.inside.families.items; limit = c.self.inside.limit; tells = g.B.Shelf.tells } in
    let at : c.family_of-family.result ≡ family before.keys.tree.rows c.in-Ok.id = c.family_of-family.ensures ∙ ap (λ t. family t.rows c.in-Ok.id) (c.tree.ensures ∙ ap (λ (p : Plain). p.tree) c.keys-3.ensures) in
    let clones : ClonesIn c.clone_in.result c.args.from.now.set c.args.name.now (snap_spot c.in-Ok.id c.args.from.now.snap) before.keys c.clone_in.new.keys c.family_of-family.result before.families c.clone_in.new.families.items (at_id c.family_of-family.result before.families) =
    subst (λ (spot : Spot). ClonesIn c.clone_in.result c.args.from.now.set c.args.name.now spot before.keys c.clone_in.new.keys c.family_of-family.result before.families c.clone_in.new.families.items (at_id c.family_of-family.result before.families))
    c.in_ok-spot.ensures c.clone_in.ensures in
    subst (λ (h : HostState). AnswersDone c.clone_in.result (clone_step h c.args.from.now.set c.args.from.now.snap c.args.name.now).reply) c.self.view_is
    (cloned_steps before (pairs c.self.invariant) c.args.from.now.set c.args.from.now.snap c.args.name.now c.family_of-family.result c.in-Ok.id at c.clone_in.result c.clone_in.new.keys c.clone_in.new.families.items
    c.keys-2.result.now c.keys-2.ensures (sym c.in-Ok.ensures) clones).0

pub returns-clause-state : goal.returns-clause-state
returns-clause-state g c =
    let before : HostState = record { keys = c.self.inside.keys; families = c.self.inside.families.items; limit = c.self.inside.limit; tells = g.B.Shelf.tells } in
    let at : c.family_of-family.result ≡ family before.keys.tree.rows c.in-Ok.id = c.family_of-family.ensures ∙ ap (λ t. family t.rows c.in-Ok.id) (c.tree.ensures ∙ ap (λ (p : Plain). p.tree) c.keys-3.ensures) in
    let clones : ClonesIn c.clone_in.result c.args.from.now.set c.args.name.now (snap_spot c.in-Ok.id c.args.from.now.snap) before.keys c.clone_in.new.keys c.family_of-family.result before.families c.clone_in.new.families.items (at_id c.family_of-family.result before.families) =
    subst (λ (spot : Spot). ClonesIn c.clone_in.result c.args.from.now.set c.args.name.now spot before.keys c.clone_in.new.keys c.family_of-family.result before.families c.clone_in.new.families.items (at_id c.family_of-family.result before.families))
    c.in_ok-spot.ensures c.clone_in.ensures in
    let after : HostState = record before { keys = c.clone_in.new.keys; families = c.clone_in.new.families.items } in
    subst (λ (h : HostState). AfterClone c.clone_in.result h (clone_step h c.args.from.now.set c.args.from.now.snap c.args.name.now).state after) c.self.view_is
    (cloned_steps before (pairs c.self.invariant) c.args.from.now.set c.args.from.now.snap c.args.name.now c.family_of-family.result c.in-Ok.id at c.clone_in.result c.clone_in.new.keys c.clone_in.new.families.items
    c.keys-2.result.now c.keys-2.ensures (sym c.in-Ok.ensures) clones).1

pub returns-in-Err-clause-reply : goal.returns-in-Err-clause-reply
returns-in-Err-clause-reply g c =
    let before : HostState = record { keys = c.self.inside.keys; families = c.self.inside.families.items; limit = c.self.inside.limit; tells = g.B.Shelf.tells } in
    let refused : Result (Unit {0}) Stop = Err (stops.Refused c.in-Err.why) in
    subst (λ (h : HostState). AnswersDone refused (clone_step h c.args.from.now.set c.args.from.now.snap c.args.name.now).reply) c.self.view_is
    (origin_refused_replies before c.args.from.now.set c.args.from.now.snap c.args.name.now c.keys-2.result.now c.keys-2.ensures c.in-Err.why (sym c.in-Err.ensures))

pub returns-in-Err-clause-state : goal.returns-in-Err-clause-state
returns-in-Err-clause-state g c =
    let before : HostState = record { keys = c.self.inside.keys; families = c.self.inside.families.items; limit = c.self.inside.limit; tells = g.B.Shelf.tells } in
    subst (λ (h : HostState). h ≡ (clone_step h c.args.from.now.set c.args.from.now.snap c.args.name.now).state) c.self.view_is
    (origin_refused_left before c.args.from.now.set c.args.from.now.snap c.args.name.now c.keys-2.result.now c.keys-2.ensures c.in-Err.why (sym c.in-Err.ensures))
