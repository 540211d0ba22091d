use Rattle.std.proofs.Common.{◌≡◌, Option, None, subst}
use Rattle.encryption_roots.specs.declared.command.KeyCmd.{KeyCmd}
use Rattle.encryption_roots.specs.declared.command.KeyCmd.TheVariants as commands
use Rattle.encryption_roots.specs.declared.props.Location.{Location}
use Rattle.key_ciphers.specs.Ciphers.{ciphers}
use Rattle.key_machine.specs.Plain.{Plain}
use Rattle.key_machine.specs.Step.{told}
use Rattle.key_store.specs.Calls.{AnswersDone, stepped}
use Rattle.host_state.specs.Hosts.{HostState, host_after, host_step}
use Rattle.host_state.proofs.HostLemmas.{keys_after}
use Rattle.host_state.proofs.WholeHosts.{still_host}
use Rattle.host_state.proofs.PairedLemmas.{load_same}
use Rattle.host_state.proofs.host.Host.load.Goals as goal

pub invariant_of-self : goal.invariant_of-self
invariant_of-self g c =
    let before : Plain = c.self.inside.keys in
    let place : Option Location = None in
    let command : KeyCmd = commands.Load c.args.name.now c.args.check_only place in
    still_host c.load.result g.B.Shelf.tells before (stepped before command c.args.kit.now).state c.load.new.self c.self.inside.families.items c.self.inside.limit c.self.invariant
    (load_same before c.args.name.now c.args.check_only place (told ciphers before command c.args.kit.now)) (c.load.ensures.state place)

pub returns-clause-reply : goal.returns-clause-reply
returns-clause-reply g c = λ place.
    subst (λ (h : HostState). AnswersDone c.load.result (stepped h.keys (commands.Load c.args.name.now c.args.check_only place) c.args.kit.now).reply) c.self.view_is (c.load.ensures.reply place)

pub returns-clause-state : goal.returns-clause-state
returns-clause-state g c = λ place.
    let before : HostState = record { keys = c.self.inside.keys; families = c.self.inside.families.items; limit = c.self.inside.limit; tells = g.B.Shelf.tells } in
    let after : HostState = record { keys = c.load.new.self; families = c.self.inside.families.items; limit = c.self.inside.limit; tells = g.B.Shelf.tells } in
    subst (λ (h : HostState). after ≡ host_after c.load.result h (host_step h (commands.Load c.args.name.now c.args.check_only place) c.args.kit.now).state) c.self.view_is
    (keys_after c.load.result before c.load.new.self (stepped c.self.inside.keys (commands.Load c.args.name.now c.args.check_only place) c.args.kit.now).state (c.load.ensures.state place))
