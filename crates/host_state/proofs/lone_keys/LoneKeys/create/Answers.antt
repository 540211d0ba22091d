use Rattle.encryption_roots.specs.declared.command.KeyCmd.{KeyCmd}
use Rattle.encryption_roots.specs.declared.command.KeyCmd.TheVariants as commands
use Rattle.key_ciphers.specs.Ciphers.{ciphers}
use Rattle.key_machine.specs.Plain.{Plain}
use Rattle.key_machine.specs.Step.{told}
use Rattle.key_store.specs.Calls.{stepped}
use Rattle.key_store.proofs.AgreesLemmas.{agrees_after}
use Rattle.host_state.proofs.lone_keys.LoneKeys.create.Goals as goal

pub invariant_of-self : goal.invariant_of-self
invariant_of-self c =
    let before : Plain = c.self.inside.keys in
    let command : KeyCmd = commands.Create c.args.name.now c.args.opts.now in
    agrees_after c.self.inside.words c.create.result before (stepped before command c.args.kit.now).state c.create.new.self c.self.invariant
    (c.key_commands_leave_the_slots.ensures.create c.self.inside.words before c.args.name.now c.args.opts.now (told ciphers before command c.args.kit.now) c.self.invariant) c.create.ensures.state
