-- A keeper and a state that agree, and one slot of both that changes.
use Rattle.std.proofs.Common.{◌≡◌, ◌≢◌, ⊎_elim, ℕ, ◌+◌, ◌<◌, Bool, true, false, ◌==◌, ◌&&◌, ◌||◌, List, length, get_or, set, Some, None, refl, ap, sym, ◌∙◌, subst, arith}
use Rattle.std.proofs.lemmas.Bool.{cases_eq, eq-eqb, ne_eqb}
use Rattle.std.proofs.lemmas.List.{length-set, get_or-set_same, get_or-set_other}
use Rattle.std.proofs.lemmas.List.Folds.{list_any_none}
use Rattle.std.specs.List.{All, AllPairs, list_any}
use Rattle.mapping_words.specs.Told.{Told, fresh_slot, slot_at, with_slot, opened, with_mount, closed, refused_close}
use Rattle.mapping_words.specs.declared.slot.Slot.{Slot}
use Rattle.encryption_roots.specs.ById.{IsRisingById, at_id, without_id}
use Rattle.key_machine.specs.Mount.{is_taken, with_mounted, with_mapping}
use Rattle.key_machine.specs.Plain.{Plain}
use Rattle.key_machine.specs.Reap.{without_mapping}
use Rattle.key_machine.specs.Unmount.{with_unmounted}
use Rattle.key_machine.specs.Users.{generation_of, is_mounted}
use Rattle.key_machine.proofs.KeyLists.{each_found}
use Rattle.key_machine.proofs.SlotLaws.{slots_with, other_generation}
use Rattle.encryption_roots.proofs.ByIdLemmas.{IsRisingById-with_id, at_id-with_id}
use Rattle.key_store.specs.Agrees.{Agrees, is_mounted_on, slot_shown}
use Rattle.key_store.proofs.MappingLemmas.{any_put, any_drop, any_same, any_mount, mounted_else, unmounted_own, none_left_on}

-- ---- one slot changes

pub agrees_at : (t : Told) (p q : Plain) (slot : ℕ) (now : Slot) → Agrees t p → slot < 256 → now ≡ slot_shown q slot → ((other : ℕ) → other ≢ slot → slot_shown p other ≡ slot_shown q other) → Agrees (with_slot t slot now) q
agrees_at t p q slot now agrees within here elsewhere =
    let short : length t.slots ≡ 256 = agrees.slots in
    record {
      slots = length-set t.slots slot now ∙ short;
      each = λ other inside.
          ⊎_elim
          (λ (same : other ≡ slot).
          subst (λ (n : ℕ). get_or (set t.slots slot now) n fresh_slot ≡ slot_shown q n) (sym same)
          (get_or-set_same t.slots slot now fresh_slot (omega (arith, short, within)) ∙ here))
          (λ (apart : other ≡ slot → ⊥). get_or-set_other t.slots slot other now fresh_slot apart ∙ agrees.each other inside ∙ elsewhere other apart) (cases_eq other slot);
    }

-- a refused close changes no slot
pub agrees_refused : (t : Told) (p : Plain) (slot word : ℕ) → Agrees t p → Agrees (refused_close t slot word) p
agrees_refused t p slot word agrees = record { slots = agrees.slots; each = agrees.each }

-- ---- a dataset's own slot

module _ (p : Plain) (id slot : ℕ) (rising : IsRisingById p.mapped) (apart : AllPairs (λ a b. a.1 ≢ b.1) p.mapped) (there : at_id id p.mapped ≡ Some slot) where
  own : (slot == slot) ≡ true
  own = eq-eqb slot slot refl

  pub own_taken : is_taken p slot ≡ true
  own_taken = any_drop (λ mapping. mapping.1 == slot) id slot p.mapped rising there ∙ ap (λ b. b || list_any (λ mapping. mapping.1 == slot) (without_id id p.mapped)) own

  -- by the mount of the dataset, whatever is mounted
  abbrev on_slot : List ℕ → ℕ → Bool
  on_slot mounted at = list_any (λ mapping. (mapping.1 == at) && list_any (λ other. other == mapping.0) mounted) p.mapped

  or_false : (b : Bool) → (b || false) ≡ b
  or_false true = refl
  or_false false = refl

  own_mount : (mounted : List ℕ) → on_slot mounted slot ≡ list_any (λ other. other == id) mounted
  own_mount mounted =
      let test : ℕ × ℕ → Bool = λ mapping. (mapping.1 == slot) && list_any (λ other. other == mapping.0) mounted in
      any_drop test id slot p.mapped rising there
      ∙ ap (λ b. test (id, slot) || b) (none_left_on (λ at. list_any (λ other. other == at) mounted) id slot p.mapped apart there)
      ∙ or_false (test (id, slot)) ∙ ap (λ b. b && list_any (λ other. other == id) mounted) own

  pub own_mounted : is_mounted_on p slot ≡ is_mounted p id
  own_mounted = own_mount p.mounted

  -- mounts that differ at the dataset alone show the same on other slots
  other_mount : (one two : List ℕ) → ((at : ℕ) → at ≢ id → list_any (λ other. other == at) one ≡ list_any (λ other. other == at) two) → (at : ℕ) → at ≢ slot → on_slot one at ≡ on_slot two at
  other_mount one two same at else_where =
      any_same (λ mapping. (mapping.1 == at) && list_any (λ other. other == mapping.0) one) (λ mapping. (mapping.1 == at) && list_any (λ other. other == mapping.0) two) p.mapped
      (λ k d within.
      let mapping : ℕ × ℕ = get_or p.mapped k d in
      ⊎_elim
      (λ (mine : mapping.0 ≡ id).
      let found : at_id mapping.0 p.mapped ≡ Some mapping.1 = each_found p.mapped rising k d within in
      let both : Some mapping.1 ≡ Some slot = sym found ∙ ap (λ n. at_id n p.mapped) mine ∙ there in
      let here : mapping.1 ≡ slot = cc in
      let off : (mapping.1 == at) ≡ false = ne_eqb mapping.1 at (λ on. else_where (sym on ∙ here)) in
      rw off refl)
      (λ (others : mapping.0 ≡ id → ⊥). ap (λ b. (mapping.1 == at) && b) (same mapping.0 others)) (cases_eq mapping.0 id))

  -- the mounts change at the dataset
  remounted : (t : Told) (mounted : List ℕ) (is : Bool) → slot < 256 → list_any (λ other. other == id) mounted ≡ is → ((at : ℕ) → at ≢ id → list_any (λ other. other == at) p.mounted ≡ list_any (λ other. other == at) mounted)
      → Agrees t p → Agrees (with_mount t slot is) (record p { mounted = mounted })
  remounted t mounted is within now same agrees =
      let q : Plain = record p { mounted = mounted } in
      let shown : slot_at t slot ≡ slot_shown p slot = agrees.each slot within in
      let mount : is_mounted_on q slot ≡ is = own_mount mounted ∙ now in
      agrees_at t p q slot (record (slot_at t slot) { is_mounted = is }) agrees within
      (ap (λ (s : Slot). let changed : Slot = record s { is_mounted = is } in changed) shown
      ∙ ap (λ (b : Bool). let changed : Slot = record { generation = generation_of p slot; is_open = is_taken p slot; is_mounted = b } in changed) (sym mount))
      (λ other apart_from. ap (λ (b : Bool). let s : Slot = record { generation = generation_of p other; is_open = is_taken p other; is_mounted = b } in s) (other_mount p.mounted mounted same other apart_from))

  pub mounted_agrees : (t : Told) → slot < 256 → Agrees t p → Agrees (with_mount t slot true) (with_mounted p id)
  mounted_agrees t within agrees =
      let self : (id == id) ≡ true = eq-eqb id id refl in
      remounted t (with_mounted p id).mounted true within (any_mount (λ other. other == id) id p.mounted ∙ ap (λ b. b || list_any (λ other. other == id) p.mounted) self)
      (λ at apart_from.
      let off : (id == at) ≡ false = ne_eqb id at (λ same. apart_from (sym same)) in
      sym (any_mount (λ other. other == at) id p.mounted ∙ ap (λ b. b || list_any (λ other. other == at) p.mounted) off)) agrees

  pub unmounted_agrees : (t : Told) → slot < 256 → Agrees t p → Agrees (with_mount t slot false) (with_unmounted p id)
  unmounted_agrees t within agrees =
      remounted t (with_unmounted p id).mounted false within (unmounted_own id p.mounted) (λ at apart_from. sym (mounted_else id at p.mounted apart_from)) agrees

  -- the mapping goes
  pub closed_agrees : (t : Told) → slot < 256 → (slot_at t slot).is_mounted ≡ false → Agrees t p → Agrees (closed t slot) (without_mapping p id)
  closed_agrees t within idle agrees =
      let q : Plain = without_mapping p id in
      let shown : slot_at t slot ≡ slot_shown p slot = agrees.each slot within in
      let taken : is_taken q slot ≡ false = drop_and (none_left_on (λ at. true) id slot p.mapped apart there) in
      let mount : is_mounted_on q slot ≡ false = none_left_on (λ at. is_mounted p at) id slot p.mapped apart there in
      let idle_too : is_mounted_on p slot ≡ false = sym (ap (λ (s : Slot). s.is_mounted) shown) ∙ idle in
      agrees_at t p q slot (record (slot_at t slot) { is_open = false }) agrees within
      (ap (λ (s : Slot). let changed : Slot = record s { is_open = false } in changed) shown
      ∙ ap (λ (b : Bool). let s : Slot = record { generation = generation_of p slot; is_open = false; is_mounted = b } in s) (idle_too ∙ sym mount)
      ∙ ap (λ (b : Bool). let s : Slot = record { generation = generation_of p slot; is_open = b; is_mounted = is_mounted_on q slot } in s) (sym taken))
      (λ other apart_from.
      let off : (slot == other) ≡ false = ne_eqb slot other (λ same. apart_from (sym same)) in
      let test : ℕ × ℕ → Bool = λ mapping. (mapping.1 == other) && is_mounted p mapping.0 in
      let same_open : is_taken p other ≡ is_taken q other =
      any_drop (λ mapping. mapping.1 == other) id slot p.mapped rising there ∙ ap (λ b. b || is_taken q other) off in
      let same_mount : is_mounted_on p other ≡ is_mounted_on q other =
      any_drop test id slot p.mapped rising there ∙ ap (λ b. (b && is_mounted p id) || is_mounted_on q other) off in
      ap (λ (b : Bool). let s : Slot = record { generation = generation_of p other; is_open = b; is_mounted = is_mounted_on p other } in s) same_open
      ∙ ap (λ (b : Bool). let s : Slot = record { generation = generation_of p other; is_open = is_taken q other; is_mounted = b } in s) same_mount)
    where
      drop_and : list_any (λ mapping. (mapping.1 == slot) && true) (without_id id p.mapped) ≡ false → list_any (λ mapping. mapping.1 == slot) (without_id id p.mapped) ≡ false
      drop_and none = any_same (λ mapping. mapping.1 == slot) (λ mapping. (mapping.1 == slot) && true) (without_id id p.mapped) (λ k d within. sym (and_true ((get_or (without_id id p.mapped) k d).1 == slot))) ∙ none
        where
          and_true : (b : Bool) → (b && true) ≡ b
          and_true true = refl
          and_true false = refl

-- ---- a new mapping

-- what isn't taken has no mount
pub unused_slot : (p : Plain) (slot : ℕ) → All (λ mapping. mapping.1 ≢ slot) p.mapped → (is_taken p slot ≡ false) × (is_mounted_on p slot ≡ false)
unused_slot p slot free = (
  list_any_none (λ mapping. mapping.1 == slot) p.mapped (λ k d within. ne_eqb (get_or p.mapped k d).1 slot (free k d within)),
  list_any_none (λ mapping. (mapping.1 == slot) && is_mounted p mapping.0) p.mapped
      (λ k d within. let off : ((get_or p.mapped k d).1 == slot) ≡ false = ne_eqb (get_or p.mapped k d).1 slot (free k d within) in rw off refl),
)

pub opened_agrees : (t : Told) (p : Plain) (id slot : ℕ) → at_id id p.mapped ≡ None → is_mounted p id ≡ false → All (λ mapping. mapping.1 ≢ slot) p.mapped → slot < 256 → length p.gens ≡ 256 → Agrees t p
    → Agrees (opened t slot) (with_mapping p id slot)
opened_agrees t p id slot new idle free within long agrees =
    let q : Plain = with_mapping p id slot in
    let unused = unused_slot p slot free in
    let shown : slot_at t slot ≡ slot_shown p slot = agrees.each slot within in
    let own : (slot == slot) ≡ true = eq-eqb slot slot refl in
    let taken : is_taken q slot ≡ true = any_put (λ mapping. mapping.1 == slot) id slot p.mapped new ∙ ap (λ b. b || is_taken p slot) own in
    let mount : is_mounted_on q slot ≡ false =
    any_put (λ mapping. (mapping.1 == slot) && is_mounted p mapping.0) id slot p.mapped new
    ∙ ap (λ b. ((slot == slot) && b) || is_mounted_on p slot) idle ∙ ap (λ b. (b && false) || is_mounted_on p slot) own ∙ unused.1 in
    let generation : generation_of q slot ≡ generation_of p slot + 1 = get_or-set_same p.gens slot (generation_of p slot + 1) 0 (omega (arith, long, within)) in
    agrees_at t p q slot (record { generation = (slot_at t slot).generation + 1; is_open = true; is_mounted = false }) agrees within
    (ap (λ (s : Slot). let changed : Slot = record { generation = s.generation + 1; is_open = true; is_mounted = false } in changed) shown
    ∙ ap (λ (n : ℕ). let s : Slot = record { generation = n; is_open = true; is_mounted = false } in s) (sym generation)
    ∙ ap (λ (b : Bool). let s : Slot = record { generation = generation_of q slot; is_open = b; is_mounted = false } in s) (sym taken)
    ∙ ap (λ (b : Bool). let s : Slot = record { generation = generation_of q slot; is_open = is_taken q slot; is_mounted = b } in s) (sym mount))
    (λ other apart_from.
    let off : (slot == other) ≡ false = ne_eqb slot other (λ same. apart_from (sym same)) in
    let test : ℕ × ℕ → Bool = λ mapping. (mapping.1 == other) && is_mounted p mapping.0 in
    let same_open : is_taken p other ≡ is_taken q other = sym (any_put (λ mapping. mapping.1 == other) id slot p.mapped new ∙ ap (λ b. b || is_taken p other) off) in
    let same_mount : is_mounted_on p other ≡ is_mounted_on q other = sym (any_put test id slot p.mapped new ∙ ap (λ b. (b && is_mounted p id) || is_mounted_on p other) off) in
    let same_generation : generation_of p other ≡ generation_of q other = sym (other_generation p slot other (generation_of p slot + 1) apart_from) in
    ap (λ (n : ℕ). let s : Slot = record { generation = n; is_open = is_taken p other; is_mounted = is_mounted_on p other } in s) same_generation
    ∙ ap (λ (b : Bool). let s : Slot = record { generation = generation_of q other; is_open = b; is_mounted = is_mounted_on p other } in s) same_open
    ∙ ap (λ (b : Bool). let s : Slot = record { generation = generation_of q other; is_open = is_taken q other; is_mounted = b } in s) same_mount)

pub anew_agrees : (t : Told) (p : Plain) (id slot : ℕ) → IsRisingById p.mapped → AllPairs (λ a b. a.1 ≢ b.1) p.mapped → at_id id p.mapped ≡ None → is_mounted p id ≡ false → All (λ mapping. mapping.1 ≢ slot) p.mapped → slot < 256
    → length p.gens ≡ 256 → Agrees t p → Agrees (with_mount (opened t slot) slot true) (with_mounted (with_mapping p id slot) id)
anew_agrees t p id slot rising apart new idle free within long agrees =
    mounted_agrees (with_mapping p id slot) id slot (IsRisingById-with_id id slot p.mapped rising) (slots_with id slot p.mapped apart free) (at_id-with_id id slot p.mapped) (opened t slot) within
    (opened_agrees t p id slot new idle free within long agrees)
