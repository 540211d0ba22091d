use Rattle.std.proofs.Common.{subst}
use Rattle.key_ciphers.specs.Ciphers.{ciphers}
use Rattle.key_machine.specs.Plain.{Plain}
use Rattle.key_machine.specs.Sound.{Sound}
use Rattle.host_state.proofs.SpotHosts.{cloned, gone_again, new_head, not_cloned}
use Rattle.host_state.proofs.host.spots.add_free_clone.Goals as goal

pub clone_head-requires : goal.clone_head-requires
clone_head-requires g c =
    new_head c.args.keys.now c.args.from.now c.args.name.now c.args.spot.now c.args.family.now c.requires.accepted c.in-Ok.head c.in-Ok.ensures.reply c.requires.new

pub returns-in-Ok-clone_head : goal.returns-in-Ok-clone_head
returns-in-Ok-clone_head g c =
    cloned c.args.keys.now c.args.from.now c.args.name.now c.args.spot.now c.args.family.now c.requires.accepted c.in-Ok.head c.add_clone.new.self c.clone_head.new.fam c.in-Ok.ensures.reply
    c.in-Ok.ensures.state c.in-Ok-clone_head.ensures.made

pub returns-in-Err : goal.returns-in-Err
returns-in-Err g c =
    not_cloned c.args.keys.now c.args.from.now c.args.name.now c.args.spot.now c.args.family.now c.requires.accepted c.in-Err.stop c.add_clone.new.self c.in-Err.ensures.reply c.in-Err.ensures.state

pub returns-in-Err-clone_head : goal.returns-in-Err-clone_head
returns-in-Err-clone_head g c =
    gone_again c.args.keys.now c.args.from.now c.args.name.now c.args.spot.now c.args.family.now c.requires.accepted (subst (λ (p : Plain). Sound ciphers p) c.keys.ensures c.states_are_sound.ensures) c.in-Err-clone_head.stop
    c.add_clone.new.self c.destroy.new.self c.clone_head.new.fam c.in-Err-clone_head.ensures.answer c.in-Ok.ensures.state c.destroy.ensures.state c.in-Err-clone_head.ensures.refused
