use Rattle.encryption_roots.specs.declared.command.KeyCmd.TheVariants as commands
use Rattle.key_machine.specs.Plain.{Plain}
use Rattle.key_machine.specs.Step.{key_step}
use Rattle.key_machine.specs.Told.{nothing_told}
use Rattle.host_state.specs.Hosts.{with_reap}
use Rattle.host_state.proofs.WholeHosts.{still_host_at}
use Rattle.host_state.proofs.PairedLemmas.{unmount_reaped_same}
use Rattle.host_state.proofs.host.Host.unmount.Goals as goal

pub invariant_of-self : goal.invariant_of-self
invariant_of-self g c =
    let before : Plain = c.self.inside.keys in
    still_host_at g.B.Shelf.tells before (with_reap c.args.name.now (key_step before (commands.Unmount c.args.name.now) nothing_told)).state c.unmount.new.self c.self.inside.families.items c.self.inside.limit c.self.invariant
    (unmount_reaped_same before c.args.name.now nothing_told) c.unmount.ensures.state
