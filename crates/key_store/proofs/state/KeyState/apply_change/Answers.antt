use Rattle.std.proofs.Common.{◌≡◌, ◌≤◌, ◌∙◌, ℕ, List, length, map, refl, ap, sym, arith}
use Rattle.std.proofs.lemmas.List.{length-map, with_items_is}
use Rattle.std.specs.Vec.{with_items}
use Rattle.key_machine.specs.Plan.{set_id}
use Rattle.key_store.specs.declared.state.FamilyRecord.{FamilyRecord}
use Rattle.key_store.specs.declared.state.KeyState.TheInside.{Inside}
use Rattle.key_store.specs.State.{with_written}
use Rattle.key_store.proofs.PlanLemmas.{few_roots, few_keys, carried_out, carried_kept}
use Rattle.key_store.proofs.state.KeyState.apply_change.Goals as goal

pub set_root-requires : goal.set_root-requires
set_root-requires c = few_roots c.self.inside c.args.self.now c.args.plan c.self.view_is c.self.invariant c.requires.planned

pub set_key-requires-clause-room : goal.set_key-requires-clause-room
set_key-requires-clause-room c =
    let few : length (set_id c.args.plan.root c.args.plan.key c.self.inside.loaded.items) ≤ 256 = few_keys c.self.inside c.args.self.now c.args.plan c.self.view_is c.self.invariant c.requires.planned in
    omega (arith, few, c.self.invariant.room.loaded)

-- the records that the code leaves, in the place of those before
abbrev written_over : Inside → List (ℕ × List ℕ) → List (ℕ × FamilyRecord)
written_over s written = map (λ entry. with_written written entry) s.records.items

left_items : (s : Inside) (written : List (ℕ × List ℕ)) (new : List (ℕ × FamilyRecord)) → new ≡ written_over s written → (with_items s.records new).items ≡ written_over s written
left_items s written new are =
    with_items_is s.records new (ap length are ∙ length-map s.records.items (λ entry. with_written written entry) ∙ sym s.records.ok.0) ∙ are

pub invariant_of-self : goal.invariant_of-self
invariant_of-self c =
    let records : c.write_records.new.records ≡ written_over c.self.inside c.args.plan.wrapped.items =
    c.write_records.ensures ∙ ap (λ (r : List (ℕ × FamilyRecord)). map (λ entry. with_written c.as_slice.result.now entry) r) c.as_mut_slice.ensures.value
    ∙ ap (λ (w : List (ℕ × List ℕ)). map (λ entry. with_written w entry) c.self.inside.records.items) c.as_slice.ensures.value in
    carried_kept c.self.inside c.args.self.now c.args.plan c.self.view_is c.self.invariant c.requires.planned
    (record c.self.inside { roots = c.set_root.new.roots; records = with_items c.self.inside.records c.write_records.new.records; loaded = c.set_key.new.keys })
    refl c.set_root.ensures (left_items c.self.inside c.args.plan.wrapped.items c.write_records.new.records records) c.set_key.ensures.keys refl (omega arith) c.set_key.ensures.room

pub returns : goal.returns
returns c =
    let records : c.write_records.new.records ≡ written_over c.self.inside c.args.plan.wrapped.items =
    c.write_records.ensures ∙ ap (λ (r : List (ℕ × FamilyRecord)). map (λ entry. with_written c.as_slice.result.now entry) r) c.as_mut_slice.ensures.value
    ∙ ap (λ (w : List (ℕ × List ℕ)). map (λ entry. with_written w entry) c.self.inside.records.items) c.as_slice.ensures.value in
    carried_out c.self.inside c.args.self.now c.args.plan c.self.view_is c.self.invariant c.requires.planned
    (record c.self.inside { roots = c.set_root.new.roots; records = with_items c.self.inside.records c.write_records.new.records; loaded = c.set_key.new.keys })
    refl c.set_root.ensures (left_items c.self.inside c.args.plan.wrapped.items c.write_records.new.records records) c.set_key.ensures.keys refl
