use Rattle.std.proofs.Common.{◌≡◌, ℕ, ◌-◌, List, ◌==◌, cond, not, map, true, false, refl, sym, ap, ◌∙◌, subst, arith}
use Rattle.std.specs.Prelude.{unwrap_or}
use Rattle.std.specs.Vec.{with_items}
use Rattle.encryption_roots.specs.ById.{IsRisingById, at_id, without_id}
use Rattle.encryption_roots.specs.Owners.{family}
use Rattle.mapping_words.specs.Told.{Told, slot_at, closed}
use Rattle.key_machine.specs.Plain.{Plain}
use Rattle.key_machine.specs.Reap.{without_mapping}
use Rattle.key_store.specs.Agrees.{Agrees}
use Rattle.key_store.specs.State.{plain_of}
use Rattle.key_store.specs.declared.state.KeyState.TheInside.{Inside}
use Rattle.key_store.proofs.MountLemmas.{exact_is, slot_there, slot_open, slot_mounted, closed_agrees_now, closed_is, counts_rising, closed_kept}
use Rattle.key_store.proofs.UseLemmas.{changed_items}
use Rattle.key_store.proofs.state.KeyState.close.Goals as goal

pub close_slot-requires-clause-there : goal.close_slot-requires-clause-there
close_slot-requires-clause-there g c = slot_there c.self.inside c.args.self.now c.self.view_is c.self.invariant (g.K.SlotKeeper.told c.args.keeper.now) c.requires.agrees c.args.id c.args.slot c.requires.mapped

pub close_slot-requires-clause-is_open : goal.close_slot-requires-clause-is_open
close_slot-requires-clause-is_open g c = slot_open c.self.inside c.args.self.now c.self.view_is c.self.invariant (g.K.SlotKeeper.told c.args.keeper.now) c.requires.agrees c.args.id c.args.slot c.requires.mapped

pub returns-in-Err-clause-exact : goal.returns-in-Err-clause-exact
returns-in-Err-clause-exact g c = λ tells.
    exact_is g.K.SlotKeeper.tells (slot_at (g.K.SlotKeeper.told c.args.keeper.now) c.args.slot) true _ tells c.in-Err.ensures.exact
    (slot_mounted c.self.inside c.args.self.now c.self.view_is c.self.invariant (g.K.SlotKeeper.told c.args.keeper.now) c.requires.agrees c.args.id c.args.slot c.requires.mapped)

pub uses_of-is_used-requires : goal.uses_of-is_used-requires
uses_of-is_used-requires g c =
    subst (λ (entries : List (ℕ × ℕ)). IsRisingById entries) (sym c.as_slice.ensures.value)
    (counts_rising c.self.inside c.args.self.now c.self.view_is c.self.invariant (g.K.SlotKeeper.told c.args.keeper.now) c.requires.agrees c.args.id c.args.slot c.requires.mapped c.in-Ok.ensures.unmounted
    (record c.self.inside { mapped = c.remove_at_id.new.entries; mkey_counts = with_items c.self.inside.mkey_counts c.take_use.new.counts }) refl c.remove_at_id.ensures.removed
    (changed_items c.self.inside (λ (entry : ℕ × ℕ). (entry.0, cond (entry.0 == (family c.self.inside.tree.rows c.args.id)) (entry.1 - 1) entry.1)) c.take_use.new.counts
    (c.take_use.ensures ∙ ap (λ (counts : List (ℕ × ℕ)). map (λ (entry : ℕ × ℕ). (entry.0, cond (entry.0 == c.family_of-family.result) (entry.1 - 1) entry.1)) counts) c.as_mut_slice.ensures.value
    ∙ ap (λ n. map (λ (entry : ℕ × ℕ). (entry.0, cond (entry.0 == n) (entry.1 - 1) entry.1)) c.self.inside.mkey_counts.items) c.family_of-family.ensures)))

pub invariant_of-self : goal.invariant_of-self
invariant_of-self g c =
    closed_kept c.self.inside c.args.self.now c.self.view_is c.self.invariant (g.K.SlotKeeper.told c.args.keeper.now) c.requires.agrees c.args.id c.args.slot c.requires.mapped c.in-Ok.ensures.unmounted
    (record c.self.inside { mapped = c.remove_at_id.new.entries; opened = c.keep_opened.new.opened; mkey_counts = with_items c.self.inside.mkey_counts c.take_use.new.counts }) refl c.remove_at_id.ensures.removed
    (changed_items c.self.inside (λ (entry : ℕ × ℕ). (entry.0, cond (entry.0 == (family c.self.inside.tree.rows c.args.id)) (entry.1 - 1) entry.1)) c.take_use.new.counts
    (c.take_use.ensures ∙ ap (λ (counts : List (ℕ × ℕ)). map (λ (entry : ℕ × ℕ). (entry.0, cond (entry.0 == c.family_of-family.result) (entry.1 - 1) entry.1)) counts) c.as_mut_slice.ensures.value
    ∙ ap (λ n. map (λ (entry : ℕ × ℕ). (entry.0, cond (entry.0 == n) (entry.1 - 1) entry.1)) c.self.inside.mkey_counts.items) c.family_of-family.ensures))
    c.uses_of-is_used.result
    (c.uses_of-is_used.ensures ∙ ap (λ (entries : List (ℕ × ℕ)). unwrap_or (at_id c.family_of-family.result entries) 0) c.as_slice.ensures.value
    ∙ ap (λ n. unwrap_or (at_id n (with_items c.self.inside.mkey_counts c.take_use.new.counts).items) 0) c.family_of-family.ensures)
    (c.keep_opened.ensures.opened ∙ ap (λ n. cond (not (c.uses_of-is_used.result == 0)) c.self.inside.opened.items (without_id n c.self.inside.opened.items)) c.family_of-family.ensures)
    c.keep_opened.ensures.rising c.remove_at_id.ensures.room c.keep_opened.ensures.room (omega arith)

pub returns-clause-unmounted : goal.returns-clause-unmounted
returns-clause-unmounted g c =
    sym (slot_mounted c.self.inside c.args.self.now c.self.view_is c.self.invariant (g.K.SlotKeeper.told c.args.keeper.now) c.requires.agrees c.args.id c.args.slot c.requires.mapped) ∙ c.in-Ok.ensures.unmounted

pub returns-clause-exact : goal.returns-clause-exact
returns-clause-exact g c = λ tells.
    exact_is g.K.SlotKeeper.tells (slot_at (g.K.SlotKeeper.told c.args.keeper.now) c.args.slot) false _ tells c.in-Ok.ensures.exact
    (slot_mounted c.self.inside c.args.self.now c.self.view_is c.self.invariant (g.K.SlotKeeper.told c.args.keeper.now) c.requires.agrees c.args.id c.args.slot c.requires.mapped)

pub returns-clause-agrees : goal.returns-clause-agrees
returns-clause-agrees g c =
    let t : Told = g.K.SlotKeeper.told c.args.keeper.now in
    let now : Plain = c.args.self.now in
    let made : Inside = record c.self.inside { mapped = c.remove_at_id.new.entries; opened = c.keep_opened.new.opened; mkey_counts = with_items c.self.inside.mkey_counts c.take_use.new.counts } in
    let is : plain_of made ≡ without_mapping now c.args.id =
    closed_is c.self.inside now c.self.view_is c.self.invariant t c.requires.agrees c.args.id c.args.slot c.requires.mapped c.in-Ok.ensures.unmounted made refl c.remove_at_id.ensures.removed in
    let both : Agrees (closed t c.args.slot) (without_mapping now c.args.id) =
    closed_agrees_now c.self.inside now c.self.view_is c.self.invariant t c.requires.agrees c.args.id c.args.slot c.requires.mapped c.in-Ok.ensures.unmounted in
    subst (λ (told : Told). Agrees told (plain_of made)) (sym c.in-Ok.ensures.closed) (subst (λ (p : Plain). Agrees (closed t c.args.slot) p) (sym is) both)
