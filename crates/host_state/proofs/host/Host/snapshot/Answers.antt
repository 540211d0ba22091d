use Rattle.std.proofs.Common.{◌≡◌, ◌∙◌, ℕ, ◌≤◌, List, Option, Result, Err, ap, subst, sym}
use Rattle.dataset_tree.specs.declared.refusal.Refusal.TheVariants.{NoHead}
use Rattle.dataset_tree.specs.declared.refusal.Stop.{Stop}
use Rattle.dataset_tree.specs.declared.refusal.Stop.TheVariants as stops
use Rattle.encryption_roots.specs.Owners.{family}
use Rattle.family_log.specs.Model.{FamilyState}
use Rattle.key_ciphers.specs.Calls.{AnswersDone}
use Rattle.key_ciphers.specs.Ciphers.{ciphers}
use Rattle.key_machine.specs.Plain.{Plain}
use Rattle.key_machine.specs.Sound.{Sound}
use Rattle.host_state.specs.Hosts.{HostState, IsHost, host_after}
use Rattle.host_state.specs.SpotLines.{encrypted_id, guid_from, on_head, snapshot_left, snapshot_step}
use Rattle.host_state.proofs.SpotLemmas.{given_id, head_left, head_refused_left, head_refused_replies, head_replies, snapshot_keeps}
use Rattle.host_state.proofs.DatasetLemmas.{snapshot_heads}
use Rattle.host_state.proofs.WholeHosts.{left_host}
use Rattle.host_state.proofs.host.Host.snapshot.Goals as goal

pub invariant_of-self : goal.invariant_of-self
invariant_of-self g c =
    let before : HostState = record { keys = c.self.inside.keys; families = c.self.inside.families.items; limit = c.self.inside.limit; tells = g.B.Shelf.tells } in
    let sound : Sound ciphers before.keys = subst (λ (p : Plain). Sound ciphers p) c.keys.ensures c.states_are_sound.ensures in
    let within : c.in-Ok.id ≤ before.keys.tree.last =
    given_id before.keys c.args.name.now.set c.in-Ok.id (ap (λ (p : Plain). encrypted_id p c.args.name.now.set) (sym c.keys-2.ensures) ∙ sym c.in-Ok.ensures) sound.tree.tree in
    subst (λ (fs : List (ℕ × FamilyState)). IsHost before.tells before.keys fs before.limit) (sym c.snapshot_in.ensures.left)
    (left_host before.tells before.keys before.families before.limit c.self.invariant c.family_of-family.result (NoHead c.in-Ok.id) (snapshot_left c.args.name.now.snap c.guid_from.result c.in-Ok.id)
    (snapshot_keeps before.keys.tree.last c.args.name.now.snap c.guid_from.result c.in-Ok.id within) (snapshot_heads c.args.name.now.snap c.guid_from.result c.in-Ok.id) c.snapshot_in.result)

pub returns-clause-reply : goal.returns-clause-reply
returns-clause-reply g c =
    let before : HostState = record { keys = c.self.inside.keys; families = c.self.inside.families.items; limit = c.self.inside.limit; tells = g.B.Shelf.tells } in
    let at : c.family_of-family.result ≡ family before.keys.tree.rows c.in-Ok.id = c.family_of-family.ensures ∙ ap (λ t. family t.rows c.in-Ok.id) (c.tree.ensures ∙ ap (λ (p : Plain). p.tree) c.keys-3.ensures) in
    subst (λ (h : HostState). AnswersDone c.snapshot_in.result (snapshot_step h c.args.name.now.set c.args.name.now.snap c.args.seed.now).reply) c.self.view_is
    (subst (λ (guid : Option ℕ). AnswersDone c.snapshot_in.result (on_head before (λ id. NoHead id) (λ head state. snapshot_left c.args.name.now.snap guid head state) (encrypted_id before.keys c.args.name.now.set)).reply) c.guid_from.ensures
    (head_replies before (λ id. NoHead id) (λ (head : ℕ) (state : FamilyState). snapshot_left c.args.name.now.snap c.guid_from.result head state) c.keys-2.result.now c.args.name.now.set c.keys-2.ensures c.in-Ok.id c.family_of-family.result (sym c.in-Ok.ensures) at c.snapshot_in.result
    c.snapshot_in.ensures.reply))

pub returns-clause-state : goal.returns-clause-state
returns-clause-state g c =
    let before : HostState = record { keys = c.self.inside.keys; families = c.self.inside.families.items; limit = c.self.inside.limit; tells = g.B.Shelf.tells } in
    let at : c.family_of-family.result ≡ family before.keys.tree.rows c.in-Ok.id = c.family_of-family.ensures ∙ ap (λ t. family t.rows c.in-Ok.id) (c.tree.ensures ∙ ap (λ (p : Plain). p.tree) c.keys-3.ensures) in
    let after : HostState = record before { families = c.snapshot_in.new.families.items } in
    subst (λ (h : HostState). after ≡ host_after c.snapshot_in.result h (snapshot_step h c.args.name.now.set c.args.name.now.snap c.args.seed.now).state) c.self.view_is
    (subst (λ (guid : Option ℕ). after ≡ host_after c.snapshot_in.result before (on_head before (λ id. NoHead id) (λ head state. snapshot_left c.args.name.now.snap guid head state) (encrypted_id before.keys c.args.name.now.set)).state) c.guid_from.ensures
    (head_left before (λ id. NoHead id) (λ (head : ℕ) (state : FamilyState). snapshot_left c.args.name.now.snap c.guid_from.result head state) c.keys-2.result.now c.args.name.now.set c.keys-2.ensures c.in-Ok.id c.family_of-family.result (sym c.in-Ok.ensures) at c.snapshot_in.result
    c.snapshot_in.new.families.items c.snapshot_in.ensures.left))

pub returns-in-Err-clause-reply : goal.returns-in-Err-clause-reply
returns-in-Err-clause-reply g c =
    let before : HostState = record { keys = c.self.inside.keys; families = c.self.inside.families.items; limit = c.self.inside.limit; tells = g.B.Shelf.tells } in
    let refused : Result (Unit {0}) Stop = Err (stops.Refused c.in-Err.why) in
    subst (λ (h : HostState). AnswersDone refused (snapshot_step h c.args.name.now.set c.args.name.now.snap c.args.seed.now).reply) c.self.view_is
    (head_refused_replies before (λ id. NoHead id) (λ head state. snapshot_left c.args.name.now.snap (guid_from c.args.seed.now) head state) c.keys-2.result.now c.args.name.now.set c.keys-2.ensures c.in-Err.why (sym c.in-Err.ensures))

pub returns-in-Err-clause-state : goal.returns-in-Err-clause-state
returns-in-Err-clause-state g c =
    let before : HostState = record { keys = c.self.inside.keys; families = c.self.inside.families.items; limit = c.self.inside.limit; tells = g.B.Shelf.tells } in
    subst (λ (h : HostState). h ≡ (snapshot_step h c.args.name.now.set c.args.name.now.snap c.args.seed.now).state) c.self.view_is
    (head_refused_left before (λ id. NoHead id) (λ head state. snapshot_left c.args.name.now.snap (guid_from c.args.seed.now) head state) c.keys-2.result.now c.args.name.now.set c.keys-2.ensures c.in-Err.why (sym c.in-Err.ensures))
