use Rattle.encryption_roots.specs.declared.command.KeyCmd.{KeyCmd}
use Rattle.encryption_roots.specs.declared.command.KeyCmd.TheVariants as commands
use Rattle.key_machine.specs.Plain.{Plain}
use Rattle.key_machine.specs.Step.{key_step}
use Rattle.key_machine.specs.Told.{nothing_told}
use Rattle.host_state.proofs.WholeHosts.{still_host}
use Rattle.host_state.proofs.PairedLemmas.{mount_same}
use Rattle.host_state.proofs.host.Host.mount.Goals as goal

pub invariant_of-self : goal.invariant_of-self
invariant_of-self g c =
    let before : Plain = c.self.inside.keys in
    let command : KeyCmd = commands.Mount c.args.name.now in
    still_host c.mount.result g.B.Shelf.tells before (key_step before command nothing_told).state c.mount.new.self c.self.inside.families.items c.self.inside.limit c.self.invariant
    (mount_same before c.args.name.now nothing_told) c.mount.ensures.state
