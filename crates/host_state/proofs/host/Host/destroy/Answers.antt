use Rattle.std.proofs.Common.{◌≡◌, ◌∙◌, None, Some, Result, Err, ap, subst, sym}
use Rattle.dataset_tree.specs.declared.refusal.Refusal.{Refusal}
use Rattle.dataset_tree.specs.declared.refusal.Refusal.TheVariants.{NoSuch}
use Rattle.dataset_tree.specs.Tree.{id_named}
use Rattle.key_ciphers.specs.Ciphers.{ciphers}
use Rattle.key_machine.specs.Plain.{Plain}
use Rattle.key_machine.specs.Sound.{Sound}
use Rattle.key_store.specs.Calls.{AnswersUnloaded}
use Rattle.host_state.specs.Hosts.{HostState}
use Rattle.host_state.specs.SpotLines.{destroy_step}
use Rattle.host_state.proofs.HostParts.{pairs}
use Rattle.host_state.proofs.SpotHosts.{absent_left, absent_steps, destroy_steps}
use Rattle.host_state.proofs.WholeHosts.{destroyed_host}
use Rattle.host_state.proofs.host.Host.destroy.Goals as goal

pub invariant_of-self : goal.invariant_of-self
invariant_of-self g c =
    let before : HostState = record { keys = c.self.inside.keys; families = c.self.inside.families.items; limit = c.self.inside.limit; tells = g.B.Shelf.tells } in
    let sound : Sound ciphers before.keys = subst (λ (p : Plain). Sound ciphers p) c.keys.ensures c.states_are_sound.ensures in
    let at : id_named c.args.name.now before.keys.tree.rows ≡ Some c.in-Some.id =
    ap (λ t. id_named c.args.name.now t.rows) (sym (c.tree.ensures ∙ ap (λ (p : Plain). p.tree) c.keys-2.ensures)) ∙ sym c.in-Some.ensures in
    destroyed_host before c.self.invariant sound c.args.name.now c.in-Some.id at c.destroy_in.result c.destroy_in.new.keys c.destroy_in.new.families.items c.destroy_in.ensures.reply c.destroy_in.ensures.keys c.destroy_in.ensures.gone c.destroy_in.ensures.same

pub returns-in-Some-clause-reply : goal.returns-in-Some-clause-reply
returns-in-Some-clause-reply g c =
    let before : HostState = record { keys = c.self.inside.keys; families = c.self.inside.families.items; limit = c.self.inside.limit; tells = g.B.Shelf.tells } in
    let sound : Sound ciphers before.keys = subst (λ (p : Plain). Sound ciphers p) c.keys.ensures c.states_are_sound.ensures in
    let at : id_named c.args.name.now before.keys.tree.rows ≡ Some c.in-Some.id =
    ap (λ t. id_named c.args.name.now t.rows) (sym (c.tree.ensures ∙ ap (λ (p : Plain). p.tree) c.keys-2.ensures)) ∙ sym c.in-Some.ensures in
    subst (λ (h : HostState). AnswersUnloaded c.destroy_in.result (destroy_step h c.args.name.now).reply) c.self.view_is
    (destroy_steps before (pairs c.self.invariant) sound c.args.name.now c.in-Some.id at c.destroy_in.result c.destroy_in.new.keys c.destroy_in.new.families.items c.destroy_in.ensures.reply c.destroy_in.ensures.keys c.destroy_in.ensures.gone c.destroy_in.ensures.same).0

pub returns-in-Some-clause-state : goal.returns-in-Some-clause-state
returns-in-Some-clause-state g c =
    let before : HostState = record { keys = c.self.inside.keys; families = c.self.inside.families.items; limit = c.self.inside.limit; tells = g.B.Shelf.tells } in
    let sound : Sound ciphers before.keys = subst (λ (p : Plain). Sound ciphers p) c.keys.ensures c.states_are_sound.ensures in
    let at : id_named c.args.name.now before.keys.tree.rows ≡ Some c.in-Some.id =
    ap (λ t. id_named c.args.name.now t.rows) (sym (c.tree.ensures ∙ ap (λ (p : Plain). p.tree) c.keys-2.ensures)) ∙ sym c.in-Some.ensures in
    let after : HostState = record before { keys = c.destroy_in.new.keys; families = c.destroy_in.new.families.items } in
    subst (λ (h : HostState). after ≡ (destroy_step h c.args.name.now).state) c.self.view_is
    (destroy_steps before (pairs c.self.invariant) sound c.args.name.now c.in-Some.id at c.destroy_in.result c.destroy_in.new.keys c.destroy_in.new.families.items c.destroy_in.ensures.reply c.destroy_in.ensures.keys c.destroy_in.ensures.gone c.destroy_in.ensures.same).1

pub returns-in-None-clause-reply : goal.returns-in-None-clause-reply
returns-in-None-clause-reply g c =
    let before : HostState = record { keys = c.self.inside.keys; families = c.self.inside.families.items; limit = c.self.inside.limit; tells = g.B.Shelf.tells } in
    let none : id_named c.args.name.now before.keys.tree.rows ≡ None =
    ap (λ t. id_named c.args.name.now t.rows) (sym (c.tree.ensures ∙ ap (λ (p : Plain). p.tree) c.keys-2.ensures)) ∙ sym c.in-None.ensures in
    let refused : Result (Unit {0}) Refusal = Err NoSuch in
    subst (λ (h : HostState). AnswersUnloaded refused (destroy_step h c.args.name.now).reply) c.self.view_is (absent_steps before c.args.name.now none)

pub returns-in-None-clause-state : goal.returns-in-None-clause-state
returns-in-None-clause-state g c =
    let before : HostState = record { keys = c.self.inside.keys; families = c.self.inside.families.items; limit = c.self.inside.limit; tells = g.B.Shelf.tells } in
    let none : id_named c.args.name.now before.keys.tree.rows ≡ None =
    ap (λ t. id_named c.args.name.now t.rows) (sym (c.tree.ensures ∙ ap (λ (p : Plain). p.tree) c.keys-2.ensures)) ∙ sym c.in-None.ensures in
    subst (λ (h : HostState). h ≡ (destroy_step h c.args.name.now).state) c.self.view_is (absent_left before c.args.name.now none)
