use Rattle.std.proofs.Common.{◌≡◌, Option, None, subst}
use Rattle.encryption_roots.specs.declared.command.KeyCmd.{KeyCmd}
use Rattle.encryption_roots.specs.declared.command.KeyCmd.TheVariants as commands
use Rattle.key_ciphers.specs.Ciphers.{ciphers}
use Rattle.key_machine.specs.Plain.{Plain}
use Rattle.key_machine.specs.Step.{told}
use Rattle.key_store.specs.Calls.{AnswersDone, state_after, stepped}
use Rattle.encryption_roots.specs.declared.props.Location.{Location}
use Rattle.key_store.proofs.AgreesLemmas.{agrees_after}
use Rattle.host_state.proofs.lone_keys.LoneKeys.load.Goals as goal

pub invariant_of-self : goal.invariant_of-self
invariant_of-self c =
    let before : Plain = c.self.inside.keys in
    let place : Option Location = None in
    let command : KeyCmd = commands.Load c.args.name.now c.args.check_only place in
    agrees_after c.self.inside.words c.load.result before (stepped before command c.args.kit.now).state c.load.new.self c.self.invariant
    (c.key_commands_leave_the_slots.ensures.load c.self.inside.words before c.args.name.now c.args.check_only place (told ciphers before command c.args.kit.now) c.self.invariant) (c.load.ensures.state place)

pub returns-clause-reply : goal.returns-clause-reply
returns-clause-reply c = λ place.
    subst (λ (p : Plain). AnswersDone c.load.result (stepped p (commands.Load c.args.name.now c.args.check_only place) c.args.kit.now).reply) c.self.view_is (c.load.ensures.reply place)

pub returns-clause-state : goal.returns-clause-state
returns-clause-state c = λ place.
    subst (λ (p : Plain). c.load.new.self ≡ state_after c.load.result p (stepped p (commands.Load c.args.name.now c.args.check_only place) c.args.kit.now).state) c.self.view_is (c.load.ensures.state place)
