use Rattle.std.proofs.Common.{◌≡◌, None, is_some, true, false, refl, sym, ap, ◌∙◌, subst}
use Rattle.encryption_roots.specs.ById.{at_id}
use Rattle.mapping_words.specs.Told.{Told, with_mount}
use Rattle.key_machine.specs.Plain.{Plain}
use Rattle.key_machine.specs.Sound.{Sound}
use Rattle.key_machine.specs.Unmount.{with_unmounted}
use Rattle.key_machine.specs.Users.{is_mounted}
use Rattle.key_machine.proofs.MountLaws.{unmountable}
use Rattle.key_ciphers.specs.Ciphers.{ciphers}
use Rattle.key_store.specs.Agrees.{Agrees}
use Rattle.key_store.specs.State.{plain_of}
use Rattle.key_store.specs.declared.state.KeyState.TheInside.{Inside}
use Rattle.key_store.proofs.MountLemmas.{slot_there, slot_mounted, unmounts_agree, unmount_is, unmount_kept, mounted_mapped}
use Rattle.key_store.proofs.state.KeyState.unmount.Goals as goal

pub unreachable-requires : goal.unreachable-requires
unreachable-requires g c =
    let now : Plain = c.args.self.now in
    let mounted : is_mounted now c.in-Ok.id ≡ true = unmountable now c.args.name.now c.in-Ok.id c.in-Ok.ensures.0 c.in-Ok.ensures.1 in
    let sound : Sound ciphers now = subst (λ (q : Plain). Sound ciphers q) c.self.view_is c.self.invariant.sound in
    let some : is_some (at_id c.in-Ok.id now.mapped) ≡ true = mounted_mapped ciphers now c.in-Ok.id sound mounted in
    let none : at_id c.in-Ok.id now.mapped ≡ None = sym c.slot_of.ensures ∙ c.in_default.is in
    let both : false ≡ true = sym (ap (λ found. is_some found) none) ∙ some in
    cc

pub unmount-requires-clause-there : goal.unmount-requires-clause-there
unmount-requires-clause-there g c = slot_there c.self.inside c.args.self.now c.self.view_is c.self.invariant (g.K.SlotKeeper.told c.args.keeper.now) c.requires.agrees c.in-Ok.id c.in-Some.slot (sym c.slot_of.ensures ∙ c.in-Some.is)

pub unmount-requires-clause-is_mounted : goal.unmount-requires-clause-is_mounted
unmount-requires-clause-is_mounted g c = slot_mounted c.self.inside c.args.self.now c.self.view_is c.self.invariant (g.K.SlotKeeper.told c.args.keeper.now) c.requires.agrees c.in-Ok.id c.in-Some.slot (sym c.slot_of.ensures ∙ c.in-Some.is) ∙ unmountable c.args.self.now c.args.name.now c.in-Ok.id c.in-Ok.ensures.0 c.in-Ok.ensures.1

pub invariant_of-self : goal.invariant_of-self
invariant_of-self g c =
    unmount_kept c.self.inside c.args.self.now c.self.view_is c.self.invariant (g.K.SlotKeeper.told c.args.keeper.now) c.requires.agrees c.in-Ok.id c.in-Some.slot (sym c.slot_of.ensures ∙ c.in-Some.is) (record c.self.inside { mounted = c.remove_mount.new.mounted }) refl c.remove_mount.ensures.removed c.remove_mount.ensures.room

pub returns-clause-agrees : goal.returns-clause-agrees
returns-clause-agrees g c =
    let t : Told = g.K.SlotKeeper.told c.args.keeper.now in
    let now : Plain = c.args.self.now in
    let made : Inside = record c.self.inside { mounted = c.remove_mount.new.mounted } in
    let is : plain_of made ≡ with_unmounted now c.in-Ok.id = unmount_is c.self.inside c.args.self.now c.self.view_is c.self.invariant (g.K.SlotKeeper.told c.args.keeper.now) c.requires.agrees c.in-Ok.id c.in-Some.slot (sym c.slot_of.ensures ∙ c.in-Some.is) made refl c.remove_mount.ensures.removed in
    let both : Agrees (with_mount t c.in-Some.slot false) (with_unmounted now c.in-Ok.id) = unmounts_agree c.self.inside c.args.self.now c.self.view_is c.self.invariant (g.K.SlotKeeper.told c.args.keeper.now) c.requires.agrees c.in-Ok.id c.in-Some.slot (sym c.slot_of.ensures ∙ c.in-Some.is) in
    subst (λ (told : Told). Agrees told (plain_of made)) (sym c.unmount.ensures.unmounted) (subst (λ (p : Plain). Agrees (with_mount t c.in-Some.slot false) p) (sym is) both)
