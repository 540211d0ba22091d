use Rattle.encryption_roots.specs.declared.command.KeyCmd.{KeyCmd}
use Rattle.encryption_roots.specs.declared.command.KeyCmd.TheVariants as commands
use Rattle.key_ciphers.specs.Ciphers.{ciphers}
use Rattle.key_machine.specs.Step.{told}
use Rattle.key_store.specs.Calls.{stepped}
use Rattle.key_store.proofs.AgreesLemmas.{agrees_after}
use Rattle.key_store.proofs.tests.create.Goals as goal

pub returns : goal.returns
returns c = λ t agrees.
    let command : KeyCmd = commands.Create c.args.name.now c.args.opts.now in
    agrees_after t c.create.result c.args.state.now (stepped c.args.state.now command c.args.kit.now).state c.create.new.self agrees
    (c.key_commands_leave_the_slots.ensures.create t c.args.state.now c.args.name.now c.args.opts.now (told ciphers c.args.state.now command c.args.kit.now) agrees) c.create.ensures.state
