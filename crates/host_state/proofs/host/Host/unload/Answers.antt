use Rattle.encryption_roots.specs.declared.command.KeyCmd.{KeyCmd}
use Rattle.encryption_roots.specs.declared.command.KeyCmd.TheVariants as commands
use Rattle.key_machine.specs.Plain.{Plain}
use Rattle.key_machine.specs.Step.{key_step}
use Rattle.key_machine.specs.Told.{nothing_told}
use Rattle.host_state.proofs.WholeHosts.{still_host_at}
use Rattle.host_state.proofs.PairedLemmas.{unload_same}
use Rattle.host_state.proofs.host.Host.unload.Goals as goal

pub invariant_of-self : goal.invariant_of-self
invariant_of-self g c =
    let before : Plain = c.self.inside.keys in
    let command : KeyCmd = commands.Unload c.args.name.now in
    still_host_at g.B.Shelf.tells before (key_step before command nothing_told).state c.unload.new.self c.self.inside.families.items c.self.inside.limit c.self.invariant
    (unload_same before c.args.name.now nothing_told) c.unload.ensures.state
