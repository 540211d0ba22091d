use Rattle.std.proofs.Common.{◌≡◌, ◌<◌, length, true, refl, sym, subst, arith}
use Rattle.mapping_words.specs.Told.{Told, with_mount}
use Rattle.key_machine.specs.Mount.{with_mounted}
use Rattle.key_machine.specs.Plain.{Plain}
use Rattle.key_store.specs.Agrees.{Agrees}
use Rattle.key_store.specs.State.{plain_of}
use Rattle.key_store.specs.declared.state.KeyState.TheInside.{Inside}
use Rattle.key_store.proofs.MountLemmas.{slot_there, slot_open, slot_unmounted, again_agrees, again_fits, again_is, again_kept}
use Rattle.key_store.proofs.state.KeyState.mount_again.Goals as goal

pub mount-requires-clause-there : goal.mount-requires-clause-there
mount-requires-clause-there g c = slot_there c.self.inside c.args.self.now c.self.view_is c.self.invariant (g.K.SlotKeeper.told c.args.keeper.now) c.requires.agrees c.args.id c.args.slot c.requires.mapped

pub mount-requires-clause-is_open : goal.mount-requires-clause-is_open
mount-requires-clause-is_open g c = slot_open c.self.inside c.args.self.now c.self.view_is c.self.invariant (g.K.SlotKeeper.told c.args.keeper.now) c.requires.agrees c.args.id c.args.slot c.requires.mapped

pub mount-requires-clause-unmounted : goal.mount-requires-clause-unmounted
mount-requires-clause-unmounted g c =
    slot_unmounted c.self.inside c.args.self.now c.self.view_is c.self.invariant (g.K.SlotKeeper.told c.args.keeper.now) c.requires.agrees c.args.id c.args.slot c.requires.mapped c.args.name.now c.requires.accepted c.requires.named

pub add_mount-requires-clause-room : goal.add_mount-requires-clause-room
add_mount-requires-clause-room g c =
    let fits : length c.self.inside.mounted.items < 256 = again_fits c.self.inside c.args.self.now c.self.view_is c.self.invariant (g.K.SlotKeeper.told c.args.keeper.now) c.requires.agrees c.args.id c.args.slot c.requires.mapped c.args.name.now c.requires.accepted c.requires.named in
    omega (arith, fits, c.self.invariant.room.mounted)

pub invariant_of-self : goal.invariant_of-self
invariant_of-self g c =
    again_kept c.self.inside c.args.self.now c.self.view_is c.self.invariant (g.K.SlotKeeper.told c.args.keeper.now) c.requires.agrees c.args.id c.args.slot c.requires.mapped c.args.name.now c.requires.accepted c.requires.named
    (record c.self.inside { mounted = c.add_mount.new.mounted }) refl c.add_mount.ensures.added c.add_mount.ensures.room

pub returns-clause-agrees : goal.returns-clause-agrees
returns-clause-agrees g c =
    let t : Told = g.K.SlotKeeper.told c.args.keeper.now in
    let now : Plain = c.args.self.now in
    let made : Inside = record c.self.inside { mounted = c.add_mount.new.mounted } in
    let is : plain_of made ≡ with_mounted now c.args.id =
    again_is c.self.inside now c.self.view_is c.self.invariant t c.requires.agrees c.args.id c.args.slot c.requires.mapped c.args.name.now c.requires.accepted c.requires.named made refl c.add_mount.ensures.added in
    let both : Agrees (with_mount t c.args.slot true) (with_mounted now c.args.id) =
    again_agrees c.self.inside now c.self.view_is c.self.invariant t c.requires.agrees c.args.id c.args.slot c.requires.mapped c.args.name.now c.requires.accepted c.requires.named in
    subst (λ (told : Told). Agrees told (plain_of made)) (sym c.mount.ensures.mounted) (subst (λ (p : Plain). Agrees (with_mount t c.args.slot true) p) (sym is) both)
