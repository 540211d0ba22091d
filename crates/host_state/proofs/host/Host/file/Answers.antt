use Rattle.std.proofs.Common.{◌≡◌, true, Result, Ok, IfOk, OnOk, ap, sym, ◌∙◌, subst}
use Rattle.std.specs.declared.alloc.AllocError.{AllocError}
use Rattle.file_dataset.specs.declared.reply.FileReply.{FileReply}
use Rattle.file_dataset.specs.declared.reply.FileReply.TheVariants as replies
use Rattle.host_state.specs.Hosts.{HostState, by_id, facts_of_record}
use Rattle.host_state.specs.FileLines.{file_step}
use Rattle.host_state.specs.FileAnswers.{ServesFiles}
use Rattle.host_state.proofs.FileLemmas.{file_refuses, file_steps, files_refused, files_under}
use Rattle.host_state.proofs.WholeHosts.{file_invariant}
use Rattle.host_state.proofs.host.Host.file.Goals as goal

pub file_on-requires-clause-paired : goal.file_on-requires-clause-paired
file_on-requires-clause-paired g c = c.self.invariant.paired ∙ ap (λ p. by_id facts_of_record p.wrapped) (sym c.keys-in-Ok.ensures)

pub invariant_of-self : goal.invariant_of-self
invariant_of-self g c =
    file_invariant g.B.Shelf.tells c.self.inside.keys c.keys-in-Ok.result.now c.self.inside.families.items c.file_on.new.families.items c.self.inside.limit c.file_on.result c.in-Ok.id c.args.command.now
    c.keys-in-Ok.ensures c.self.invariant c.file_on.ensures

pub returns-in-Ok-clause-reply : goal.returns-in-Ok-clause-reply
returns-in-Ok-clause-reply g c =
    let before : HostState = record { keys = c.self.inside.keys; families = c.self.inside.families.items; limit = c.self.inside.limit; tells = g.B.Shelf.tells } in
    subst (λ (h : HostState). h.tells ≡ true → IfOk c.file_on.result (λ reply. reply ≡ (file_step h c.args.command.now).reply)) c.self.view_is
    (λ tells. (file_steps before c.self.invariant c.keys.result.now c.keys-in-Ok.result.now c.set_of.result.now c.file_on.new.families.items c.file_on.result c.in-Ok.id c.args.command.now c.keys.ensures c.keys-in-Ok.ensures c.set_of.ensures
    c.in-Ok.ensures tells c.file_on.ensures).0)

pub returns-in-Ok-clause-state : goal.returns-in-Ok-clause-state
returns-in-Ok-clause-state g c =
    let before : HostState = record { keys = c.self.inside.keys; families = c.self.inside.families.items; limit = c.self.inside.limit; tells = g.B.Shelf.tells } in
    let after : HostState = record before { families = c.file_on.new.families.items } in
    subst (λ (h : HostState). h.tells ≡ true → OnOk c.file_on.result (after ≡ (file_step h c.args.command.now).state)) c.self.view_is
    (λ tells. (file_steps before c.self.invariant c.keys.result.now c.keys-in-Ok.result.now c.set_of.result.now c.file_on.new.families.items c.file_on.result c.in-Ok.id c.args.command.now c.keys.ensures c.keys-in-Ok.ensures c.set_of.ensures
    c.in-Ok.ensures tells c.file_on.ensures).1)

pub returns-in-Err-clause-reply : goal.returns-in-Err-clause-reply
returns-in-Err-clause-reply g c =
    let before : HostState = record { keys = c.self.inside.keys; families = c.self.inside.families.items; limit = c.self.inside.limit; tells = g.B.Shelf.tells } in
    let steps = file_refuses before c.keys.result.now c.set_of.result.now c.args.command.now c.in-Err.why c.keys.ensures c.set_of.ensures c.in-Err.ensures in
    λ tells. steps.0 ∙ ap (λ (h : HostState). (file_step h c.args.command.now).reply) c.self.view_is

pub returns-in-Err-clause-state : goal.returns-in-Err-clause-state
returns-in-Err-clause-state g c =
    let before : HostState = record { keys = c.self.inside.keys; families = c.self.inside.families.items; limit = c.self.inside.limit; tells = g.B.Shelf.tells } in
    let steps = file_refuses before c.keys.result.now c.set_of.result.now c.args.command.now c.in-Err.why c.keys.ensures c.set_of.ensures c.in-Err.ensures in
    λ tells. subst (λ (h : HostState). h ≡ (file_step h c.args.command.now).state) c.self.view_is steps.1

pub returns-in-Ok-clause-left : goal.returns-in-Ok-clause-left
returns-in-Ok-clause-left g c =
    let before : HostState = record { keys = c.self.inside.keys; families = c.self.inside.families.items; limit = c.self.inside.limit; tells = g.B.Shelf.tells } in
    let after : HostState = record before { families = c.file_on.new.families.items } in
    subst (λ (h : HostState). ServesFiles c.file_on.result h after c.args.command.now) c.self.view_is
    (files_under before c.keys.result.now c.keys-in-Ok.result.now c.set_of.result.now c.file_on.new.families.items c.file_on.result c.in-Ok.id c.args.command.now c.keys.ensures c.keys-in-Ok.ensures c.set_of.ensures
    c.in-Ok.ensures c.file_on.ensures)

pub returns-in-Err-clause-left : goal.returns-in-Err-clause-left
returns-in-Err-clause-left g c =
    let before : HostState = record { keys = c.self.inside.keys; families = c.self.inside.families.items; limit = c.self.inside.limit; tells = g.B.Shelf.tells } in
    subst (λ (h : HostState). ServesFiles (let reply : Result FileReply AllocError = Ok (replies.Refused c.in-Err.why) in reply) h h c.args.command.now) c.self.view_is
    (files_refused before c.keys.result.now c.set_of.result.now c.args.command.now c.in-Err.why c.keys.ensures c.set_of.ensures c.in-Err.ensures)
