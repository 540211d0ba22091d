use Rattle.std.proofs.Common.{subst}
use Rattle.encryption_roots.specs.declared.command.KeyCmd.{KeyCmd}
use Rattle.encryption_roots.specs.declared.command.KeyCmd.TheVariants as commands
use Rattle.key_ciphers.specs.Ciphers.{ciphers}
use Rattle.key_machine.specs.Plain.{Plain}
use Rattle.key_machine.specs.Sound.{Sound}
use Rattle.key_store.specs.Calls.{stepped}
use Rattle.host_state.proofs.WholeHosts.{still_host}
use Rattle.host_state.proofs.PairedLemmas.{change_same}
use Rattle.host_state.proofs.host.Host.change.Goals as goal

pub invariant_of-self : goal.invariant_of-self
invariant_of-self g c =
    let before : Plain = c.self.inside.keys in
    let command : KeyCmd = commands.Change c.args.name.now c.args.opts.now c.args.load_first in
    let sound : Sound ciphers before = subst (λ (p : Plain). Sound ciphers p) c.keys.ensures c.states_are_sound.ensures in
    still_host c.change.result g.B.Shelf.tells before (stepped before command c.args.kit.now).state c.change.new.self c.self.inside.families.items c.self.inside.limit c.self.invariant
    (change_same before sound.tree.records c.args.name.now c.args.opts.now c.args.load_first c.args.kit.now) c.change.ensures.state
