use Rattle.std.proofs.Common.{◌≡◌, ◌<◌, ◌+◌, ◌-◌, ◌^◌, ◌==◌, cond, map, min, ℕ, List, None, is_some, length, true, false, refl, sym, ap, ◌∙◌, subst, arith}
use Rattle.std.proofs.lemmas.List.{length-set}
use Rattle.std.specs.Option.{option_map}
use Rattle.std.specs.Vec.{with_items}
use Rattle.encryption_roots.specs.ById.{with_id}
use Rattle.encryption_roots.specs.Owners.{family}
use Rattle.mapping_words.specs.declared.slot.Slot.{Slot}
use Rattle.mapping_words.specs.Told.{Told, slot_at, opened, with_mount}
use Rattle.key_machine.specs.Mount.{free_slot, with_mounted, with_mapping}
use Rattle.key_machine.specs.Plain.{Plain, mkey}
use Rattle.key_ciphers.specs.Ciphers.{ciphers, master_of}
use Rattle.key_store.specs.Agrees.{Agrees}
use Rattle.key_store.specs.State.{plain_of}
use Rattle.key_store.specs.declared.state.KeyState.TheInside.{Inside}
use Rattle.key_store.proofs.MountLemmas.{opened_slot, opened_kept, some_free, key_opens, free_there, free_closed, free_left, free_gens, mapping_fits, mount_fits, anew_step, anew_agrees_now, anew_is, anew_kept}
use Rattle.key_store.proofs.UseLemmas.{changed_items}
use Rattle.key_store.proofs.state.KeyState.mount_anew.Goals as goal

pub unreachable-requires : goal.unreachable-requires
unreachable-requires g c =
    let none : free_slot c.args.self.now ≡ None = sym c.free_slot.ensures ∙ c.in_default.is in
    let some : is_some (free_slot c.args.self.now) ≡ true = some_free c.self.inside c.args.self.now c.self.view_is c.self.invariant (g.K.SlotKeeper.told c.args.keeper.now) c.requires.agrees c.args.name.now c.args.id c.requires.accepted c.requires.named c.requires.unmapped in
    let both : false ≡ true = sym (ap (λ found. is_some found) none) ∙ some in
    cc

pub unreachable-requires-in_default-family_key : goal.unreachable-requires-in_default-family_key
unreachable-requires-in_default-family_key g c =
    let none : None ≡ mkey ciphers c.args.self.now (family c.args.self.now.tree.rows c.args.id) =
    sym (ap (λ k. option_map master_of k) c.in_default-family_key.is) ∙ c.family_key.ensures ∙ ap (λ n. mkey ciphers c.args.self.now n) (c.family_of-family.ensures ∙ ap (λ (q : Plain). family q.tree.rows c.args.id) c.self.view_is) in
    let some : is_some (mkey ciphers c.args.self.now (family c.args.self.now.tree.rows c.args.id)) ≡ true = key_opens c.self.inside c.args.self.now c.self.view_is c.self.invariant (g.K.SlotKeeper.told c.args.keeper.now) c.requires.agrees c.args.name.now c.args.id c.requires.accepted c.requires.named c.requires.unmapped in
    let both : false ≡ true = ap (λ found. is_some found) none ∙ some in
    cc

pub invariant_of-self : goal.invariant_of-self
invariant_of-self g c = opened_kept c.self.inside (record c.self.inside { opened = c.put_at_id.new.entries }) c.self.invariant refl c.in_err-put_at_id.ensures.err c.in_err-put_at_id.ensures.room

pub open_slot-generation-requires-clause-there : goal.open_slot-generation-requires-clause-there
open_slot-generation-requires-clause-there g c = free_there c.self.inside c.args.self.now c.self.view_is c.self.invariant (g.K.SlotKeeper.told c.args.keeper.now) c.requires.agrees c.args.name.now c.args.id c.requires.accepted c.requires.named c.requires.unmapped c.in-Some.slot (sym c.free_slot.ensures ∙ c.in-Some.is)

pub open_slot-generation-requires-clause-closed : goal.open_slot-generation-requires-clause-closed
open_slot-generation-requires-clause-closed g c = free_closed c.self.inside c.args.self.now c.self.view_is c.self.invariant (g.K.SlotKeeper.told c.args.keeper.now) c.requires.agrees c.args.name.now c.args.id c.requires.accepted c.requires.named c.requires.unmapped c.in-Some.slot (sym c.free_slot.ensures ∙ c.in-Some.is)

pub open_slot-generation-requires-clause-unused : goal.open_slot-generation-requires-clause-unused
open_slot-generation-requires-clause-unused g c = free_left c.self.inside c.args.self.now c.self.view_is c.self.invariant (g.K.SlotKeeper.told c.args.keeper.now) c.requires.agrees c.args.name.now c.args.id c.requires.accepted c.requires.named c.requires.unmapped c.in-Some.slot (sym c.free_slot.ensures ∙ c.in-Some.is)

pub mount-requires-clause-there : goal.mount-requires-clause-there
mount-requires-clause-there g c =
    let t : Told = g.K.SlotKeeper.told c.args.keeper.now in
    let there : c.in-Some.slot < length t.slots = free_there c.self.inside c.args.self.now c.self.view_is c.self.invariant (g.K.SlotKeeper.told c.args.keeper.now) c.requires.agrees c.args.name.now c.args.id c.requires.accepted c.requires.named c.requires.unmapped c.in-Some.slot (sym c.free_slot.ensures ∙ c.in-Some.is) in
    let new : Slot = record { generation = (slot_at t c.in-Some.slot).generation + 1; is_open = true; is_mounted = false } in
    let long : length (opened t c.in-Some.slot).slots ≡ length t.slots = length-set t.slots c.in-Some.slot new in
    subst (λ (told : Told). c.in-Some.slot < length told.slots) (sym c.open_slot-generation.ensures.opened) (omega (arith, there, long))

pub mount-requires-clause-is_open : goal.mount-requires-clause-is_open
mount-requires-clause-is_open g c =
    let t : Told = g.K.SlotKeeper.told c.args.keeper.now in
    subst (λ (told : Told). (slot_at told c.in-Some.slot).is_open ≡ true) (sym c.open_slot-generation.ensures.opened) (ap (λ (s : Slot). s.is_open) (opened_slot t c.in-Some.slot (free_there c.self.inside c.args.self.now c.self.view_is c.self.invariant (g.K.SlotKeeper.told c.args.keeper.now) c.requires.agrees c.args.name.now c.args.id c.requires.accepted c.requires.named c.requires.unmapped c.in-Some.slot (sym c.free_slot.ensures ∙ c.in-Some.is))))

pub mount-requires-clause-unmounted : goal.mount-requires-clause-unmounted
mount-requires-clause-unmounted g c =
    let t : Told = g.K.SlotKeeper.told c.args.keeper.now in
    subst (λ (told : Told). (slot_at told c.in-Some.slot).is_mounted ≡ false) (sym c.open_slot-generation.ensures.opened) (ap (λ (s : Slot). s.is_mounted) (opened_slot t c.in-Some.slot (free_there c.self.inside c.args.self.now c.self.view_is c.self.invariant (g.K.SlotKeeper.told c.args.keeper.now) c.requires.agrees c.args.name.now c.args.id c.requires.accepted c.requires.named c.requires.unmapped c.in-Some.slot (sym c.free_slot.ensures ∙ c.in-Some.is))))

pub set_generation-requires : goal.set_generation-requires
set_generation-requires g c = free_gens c.self.inside c.args.self.now c.self.view_is c.self.invariant (g.K.SlotKeeper.told c.args.keeper.now) c.requires.agrees c.args.name.now c.args.id c.requires.accepted c.requires.named c.requires.unmapped c.in-Some.slot (sym c.free_slot.ensures ∙ c.in-Some.is)

pub put_with_room-requires-clause-room : goal.put_with_room-requires-clause-room
put_with_room-requires-clause-room g c =
    let fits : length c.self.inside.mapped.items < 256 = mapping_fits c.self.inside c.args.self.now c.self.view_is c.self.invariant (g.K.SlotKeeper.told c.args.keeper.now) c.requires.agrees c.args.name.now c.args.id c.requires.accepted c.requires.named c.requires.unmapped c.in-Some.slot (sym c.free_slot.ensures ∙ c.in-Some.is) in
    omega (arith, fits, c.self.invariant.room.mapped)

pub add_mount-requires-clause-room : goal.add_mount-requires-clause-room
add_mount-requires-clause-room g c =
    let fits : length c.self.inside.mounted.items < 256 = mount_fits c.self.inside c.args.self.now c.self.view_is c.self.invariant (g.K.SlotKeeper.told c.args.keeper.now) c.requires.agrees c.args.name.now c.args.id c.requires.accepted c.requires.named c.requires.unmapped c.in-Some.slot (sym c.free_slot.ensures ∙ c.in-Some.is) in
    omega (arith, fits, c.self.invariant.room.mounted)

pub invariant_of-self-2 : goal.invariant_of-self-2
invariant_of-self-2 g c =
    anew_kept c.self.inside c.args.self.now c.self.view_is c.self.invariant (g.K.SlotKeeper.told c.args.keeper.now) c.requires.agrees c.args.name.now c.args.id c.requires.accepted c.requires.named c.requires.unmapped c.in-Some.slot (sym c.free_slot.ensures ∙ c.in-Some.is) c.open_slot-generation.result c.open_slot-generation.ensures.generation c.in-Some-family_key.key
    (sym (ap (λ k. option_map master_of k) c.in-Some-family_key.is) ∙ c.family_key.ensures ∙ ap (λ n. mkey ciphers c.args.self.now n) (c.family_of-family.ensures ∙ ap (λ (q : Plain). family q.tree.rows c.args.id) c.self.view_is))
    (record c.self.inside { gens = c.set_generation.new.gens; mapped = c.put_with_room.new.entries; mounted = c.add_mount.new.mounted; opened = c.put_at_id.new.entries; mkey_counts = with_items c.self.inside.mkey_counts c.add_use.new.counts }) refl c.set_generation.ensures c.put_with_room.ensures.put
    c.add_mount.ensures.added
    (c.in_ok-put_at_id.ensures.ok ∙ ap (λ n. with_id n c.in-Some-family_key.key c.self.inside.opened.items) c.family_of-family.ensures)
    (changed_items c.self.inside (λ (entry : ℕ × ℕ). (entry.0, cond (entry.0 == (family c.self.inside.tree.rows c.args.id)) (min (entry.1 + 1) (2 ^ 32 - 1)) entry.1)) c.add_use.new.counts
    (c.add_use.ensures ∙ ap (λ (counts : List (ℕ × ℕ)). map (λ (entry : ℕ × ℕ). (entry.0, cond (entry.0 == c.family_of-family.result) (min (entry.1 + 1) (2 ^ 32 - 1)) entry.1)) counts) c.as_mut_slice.ensures.value
    ∙ ap (λ n. map (λ (entry : ℕ × ℕ). (entry.0, cond (entry.0 == n) (min (entry.1 + 1) (2 ^ 32 - 1)) entry.1)) c.self.inside.mkey_counts.items) c.family_of-family.ensures)) (omega arith)
    c.put_with_room.ensures.room c.add_mount.ensures.room c.in_ok-put_at_id.ensures.room

pub returns-clause-ok : goal.returns-clause-ok
returns-clause-ok g c =
    anew_is c.self.inside c.args.self.now c.self.view_is c.self.invariant (g.K.SlotKeeper.told c.args.keeper.now) c.requires.agrees c.args.name.now c.args.id c.requires.accepted c.requires.named c.requires.unmapped c.in-Some.slot (sym c.free_slot.ensures ∙ c.in-Some.is) c.open_slot-generation.result c.open_slot-generation.ensures.generation c.in-Some-family_key.key
    (sym (ap (λ k. option_map master_of k) c.in-Some-family_key.is) ∙ c.family_key.ensures ∙ ap (λ n. mkey ciphers c.args.self.now n) (c.family_of-family.ensures ∙ ap (λ (q : Plain). family q.tree.rows c.args.id) c.self.view_is))
    (record c.self.inside { gens = c.set_generation.new.gens; mapped = c.put_with_room.new.entries; mounted = c.add_mount.new.mounted; opened = c.put_at_id.new.entries; mkey_counts = with_items c.self.inside.mkey_counts c.add_use.new.counts }) refl c.set_generation.ensures c.put_with_room.ensures.put
    c.add_mount.ensures.added
    ∙ sym (ap (λ stepped. stepped.state) (anew_step c.self.inside c.args.self.now c.self.view_is c.self.invariant (g.K.SlotKeeper.told c.args.keeper.now) c.requires.agrees c.args.name.now c.args.id c.requires.accepted c.requires.named c.requires.unmapped c.in-Some.slot (sym c.free_slot.ensures ∙ c.in-Some.is)))

pub returns-clause-done : goal.returns-clause-done
returns-clause-done g c = ap (λ stepped. stepped.reply) (anew_step c.self.inside c.args.self.now c.self.view_is c.self.invariant (g.K.SlotKeeper.told c.args.keeper.now) c.requires.agrees c.args.name.now c.args.id c.requires.accepted c.requires.named c.requires.unmapped c.in-Some.slot (sym c.free_slot.ensures ∙ c.in-Some.is))

pub returns-clause-agrees : goal.returns-clause-agrees
returns-clause-agrees g c =
    let t : Told = g.K.SlotKeeper.told c.args.keeper.now in
    let now : Plain = c.args.self.now in
    let made : Inside = (record c.self.inside { gens = c.set_generation.new.gens; mapped = c.put_with_room.new.entries; mounted = c.add_mount.new.mounted; opened = c.put_at_id.new.entries; mkey_counts = with_items c.self.inside.mkey_counts c.add_use.new.counts }) in
    let is : plain_of made ≡ with_mounted (with_mapping now c.args.id c.in-Some.slot) c.args.id = anew_is c.self.inside c.args.self.now c.self.view_is c.self.invariant (g.K.SlotKeeper.told c.args.keeper.now) c.requires.agrees c.args.name.now c.args.id c.requires.accepted c.requires.named c.requires.unmapped c.in-Some.slot (sym c.free_slot.ensures ∙ c.in-Some.is) c.open_slot-generation.result c.open_slot-generation.ensures.generation c.in-Some-family_key.key
    (sym (ap (λ k. option_map master_of k) c.in-Some-family_key.is) ∙ c.family_key.ensures ∙ ap (λ n. mkey ciphers c.args.self.now n) (c.family_of-family.ensures ∙ ap (λ (q : Plain). family q.tree.rows c.args.id) c.self.view_is))
    (record c.self.inside { gens = c.set_generation.new.gens; mapped = c.put_with_room.new.entries; mounted = c.add_mount.new.mounted; opened = c.put_at_id.new.entries; mkey_counts = with_items c.self.inside.mkey_counts c.add_use.new.counts }) refl c.set_generation.ensures c.put_with_room.ensures.put
    c.add_mount.ensures.added in
    let both : Agrees (with_mount (opened t c.in-Some.slot) c.in-Some.slot true) (with_mounted (with_mapping now c.args.id c.in-Some.slot) c.args.id) = anew_agrees_now c.self.inside c.args.self.now c.self.view_is c.self.invariant (g.K.SlotKeeper.told c.args.keeper.now) c.requires.agrees c.args.name.now c.args.id c.requires.accepted c.requires.named c.requires.unmapped c.in-Some.slot (sym c.free_slot.ensures ∙ c.in-Some.is) in
    let told_is = c.mount.ensures.mounted ∙ ap (λ (told : Told). with_mount told c.in-Some.slot true) c.open_slot-generation.ensures.opened in
    subst (λ (told : Told). Agrees told (plain_of made)) (sym told_is) (subst (λ (p : Plain). Agrees (with_mount (opened t c.in-Some.slot) c.in-Some.slot true) p) (sym is) both)
