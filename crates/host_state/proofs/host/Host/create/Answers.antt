use Rattle.std.proofs.Common.{◌≡◌, subst, ◌∙◌, ap}
use Rattle.encryption_roots.specs.declared.command.KeyCmd.TheVariants as commands
use Rattle.key_ciphers.specs.Ciphers.{ciphers}
use Rattle.key_machine.specs.Plain.{Plain}
use Rattle.key_machine.specs.Sound.{Sound}
use Rattle.host_state.specs.Hosts.{HostState, host_step}
use Rattle.host_state.specs.Hosts.{with_family}
use Rattle.host_state.proofs.HostLemmas.{created_ok, next_is}
use Rattle.host_state.proofs.WholeHosts.{created_host, created_not_host}
use Rattle.host_state.proofs.host.Host.create.Goals as goal

pub invariant_of-self-in-Ok : goal.invariant_of-self-in-Ok
invariant_of-self-in-Ok g c =
    let before : HostState = record { keys = c.self.inside.keys; families = c.self.inside.families.items; limit = c.self.inside.limit; tells = g.B.Shelf.tells } in
    let last = c.last.ensures ∙ ap (λ t. t.last) (c.tree.ensures ∙ ap (λ (p : Plain). p.tree) c.keys-2.ensures) in
    let sound : Sound ciphers before.keys = subst (λ (p : Plain). Sound ciphers p) c.keys.ensures c.states_are_sound.ensures in
    created_host before c.args.name.now c.args.opts.now c.args.kit.now c.in-Ok.id c.saturating_add-id.result c.create.new.self c.in_ok-family.family c.keep_family.new.families.items c.self.invariant sound.tree
    c.in-Ok.ensures.reply c.in-Ok.ensures.state (next_is before.keys c.args.name.now c.args.opts.now c.args.kit.now c.in-Ok.id c.last.result c.saturating_add-id.result c.in-Ok.ensures.reply last c.saturating_add-id.ensures)
    c.in_ok-family.ensures (c.keep_family.ensures.kept ∙ ap (λ fs. with_family c.in-Ok.id c.in_ok-family.family fs) c.reserve.ensures.items) c.keep_family.ensures.rising

pub invariant_of-self-in-Err : goal.invariant_of-self-in-Err
invariant_of-self-in-Err g c =
    let before : HostState = record { keys = c.self.inside.keys; families = c.self.inside.families.items; limit = c.self.inside.limit; tells = g.B.Shelf.tells } in
    created_not_host before c.args.name.now c.args.opts.now c.args.kit.now c.in-Err.stop c.create.new.self c.reserve.new.self.items c.self.invariant c.in-Err.ensures.reply c.in-Err.ensures.state c.reserve.ensures.items

pub invariant_of-self-in-Err-2 : goal.invariant_of-self-in-Err-2
invariant_of-self-in-Err-2 g c =
    let before : HostState = record { keys = c.self.inside.keys; families = c.self.inside.families.items; limit = c.self.inside.limit; tells = g.B.Shelf.tells } in
    created_not_host before c.args.name.now c.args.opts.now c.args.kit.now c.in-Err.stop c.create.new.self c.reserve.new.self.items c.self.invariant c.in-Err.ensures.reply c.in-Err.ensures.state c.reserve.ensures.items

pub returns-in-Ok-clause-state : goal.returns-in-Ok-clause-state
returns-in-Ok-clause-state g c =
    let before : HostState = record { keys = c.self.inside.keys; families = c.self.inside.families.items; limit = c.self.inside.limit; tells = g.B.Shelf.tells } in
    let after : HostState = record { keys = c.create.new.self; families = c.keep_family.new.families.items; limit = c.self.inside.limit; tells = g.B.Shelf.tells } in
    let last = c.last.ensures ∙ ap (λ t. t.last) (c.tree.ensures ∙ ap (λ (p : Plain). p.tree) c.keys-2.ensures) in
    subst (λ (h : HostState). after ≡ (host_step h (commands.Create c.args.name.now c.args.opts.now) c.args.kit.now).state) c.self.view_is
    (created_ok before c.args.name.now c.args.opts.now c.args.kit.now c.in-Ok.id c.saturating_add-id.result c.create.new.self c.in_ok-family.family c.keep_family.new.families.items
    c.in-Ok.ensures.reply c.in-Ok.ensures.state (next_is before.keys c.args.name.now c.args.opts.now c.args.kit.now c.in-Ok.id c.last.result c.saturating_add-id.result c.in-Ok.ensures.reply last c.saturating_add-id.ensures)
    c.in_ok-family.ensures (c.keep_family.ensures.kept ∙ ap (λ fs. with_family c.in-Ok.id c.in_ok-family.family fs) c.reserve.ensures.items))
