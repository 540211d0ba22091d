-- Facts about the slots of a shelf in memory.
use Rattle.std.proofs.Common.{◌≡◌, ℕ, ◌<◌, ◌≤◌, true, ◌&&◌, eqb, List, [], ◌∷◌, length, sum, map, refl, ap, ◌∙◌, sym, arith, Option, Some, None, slice_index_or, slice_set}
use Rattle.std.specs.Prelude.{bit_xor, slice_index, unwrap_or}
use Rattle.std.specs.Bool.{Decides}
use Rattle.std.specs.List.{slice_get}
use Rattle.std.specs.Option.{option_map, option_eq}
use Rattle.std.specs.Cmp.Lexicographic.{pointwise, pointwise_decides, bytes_decides}
use Rattle.std.proofs.lemmas.Bool.Decides.{Decides-and, Decides-eqb}
use Rattle.std.proofs.lemmas.List.{map-set, get_or-map, length-map}
use Rattle.std.proofs.lemmas.List.Sums.{get_or-le-sum_by, sum-map}
use Rattle.std.proofs.lemmas.Option.{slice_get-map, slice_get-get_or, slice_get_past}
use Rattle.std.proofs.Math.Seq.{map-set_same}
use Rattle.std.specs.Vec.{with_item}
use Rattle.shelf_store.specs.declared.mem_shelf.MemShelf.TheInside.{Inside}
use Rattle.shelf_store.specs.ShelfState.{ShelfState, HasToldSizes, with_changed_byte, altered}
use Rattle.shelf_store.specs.SlotState.{SlotState, slot_eq}
use Rattle.shelf_store.specs.MemShelfFields.{sizes_of, told_by, IsCounted}

-- a map over a map
map-map : {X Y Z : Type 0} (g : Y → Z) (f : X → Y) (xs : List X) → map g (map f xs) ≡ map (λ x. g (f x)) xs
map-map g f [] = refl
map-map g f (x ∷ xs) = ap (λ ys. g (f x) ∷ ys) (map-map g f xs)

-- what a counted shelf tells has the told sizes
pub tells_sizes : (s : Inside) → IsCounted s → HasToldSizes (told_by s)
tells_sizes s counted = record {
  within_limit = omega (arith, counted.used, counted.within_limit);
  of_placed = map-map length (λ slot. slot.placed) s.slots.items ∙ counted.placed_sizes;
  of_held = map-map length (λ slot. slot.held) s.slots.items;
}

-- what a shelf with the same slots tells has the told sizes too
pub tells_sizes_still : (s t : Inside) → IsCounted s → t.slots.items ≡ s.slots.items → t.used ≡ s.used → HasToldSizes (told_by t)
tells_sizes_still s t counted slots used =
    let placed_sizes : map (λ slot. length slot.placed) t.slots.items ≡ sizes_of t.slots.items = rw slots counted.placed_sizes in
    tells_sizes t (record {
      used = used ∙ counted.used ∙ ap (λ slots. sum (sizes_of slots)) (sym slots);
      within_limit = omega (arith, used, counted.within_limit);
      placed_sizes = placed_sizes;
    })

-- the size at an address
pub size_at : (slots : List SlotState) (i : ℕ) (slot : SlotState) → i < length slots → slot ≡ slice_index_or slots i slot
    → slice_get (sizes_of slots) i ≡ Some (length slot.held)
size_at slots i slot within is =
    slice_get-map (λ s. length s.held) slots i
    ∙ ap (option_map (λ s. length s.held)) (slice_get-get_or slots i slot within ∙ ap Some (sym is))

-- the held block at an address
pub held_at : (slots : List SlotState) (i : ℕ) (slot : SlotState) → i < length slots → slot ≡ slice_index_or slots i slot
    → slice_get (map (λ s. s.held) slots) i ≡ Some slot.held
held_at slots i slot within is =
    slice_get-map (λ s. s.held) slots i ∙ ap (option_map (λ s. s.held)) (slice_get-get_or slots i slot within ∙ ap Some (sym is))

pub size_past : (slots : List SlotState) (i : ℕ) → length slots ≤ i → slice_get (sizes_of slots) i ≡ None
size_past slots i past = slice_get_past (sizes_of slots) i (omega (arith, length-map slots (λ s. length s.held)))

-- one block is no larger than all together
pub size_le_sum : (slots : List SlotState) (i : ℕ) (slot : SlotState) → i < length slots → slot ≡ slice_index_or slots i slot
    → length slot.held ≤ sum (sizes_of slots)
size_le_sum slots i slot within is =
    let size = λ (s : SlotState). length s.held in
    omega (arith, get_or-le-sum_by size slots i slot within, sum-map size slots, ap size is)

-- a slot in whose place another with the same size and the same placed bytes is put
pub record Replaces (slots : List SlotState) (i : ℕ) (old new : SlotState) : Type 0 where
  pub within : i < length slots
  pub was : old ≡ slice_index_or slots i old
  pub placed : new.placed ≡ old.placed
  pub size : length new.held ≡ length old.held

pub sizes-replaced : (slots : List SlotState) (i : ℕ) (old new : SlotState) → Replaces slots i old new
    → sizes_of (slice_set slots i new) ≡ sizes_of slots
sizes-replaced slots i old new r = map-set_same (λ s. length s.held) slots i new old (r.size ∙ ap (λ (s : SlotState). length s.held) r.was)

pub placed-replaced : {X : Type 0} (f : List ℕ → X) (slots : List SlotState) (i : ℕ) (old new : SlotState) → Replaces slots i old new
    → map (λ s. f s.placed) (slice_set slots i new) ≡ map (λ s. f s.placed) slots
placed-replaced f slots i old new r =
    map-set_same (λ s. f s.placed) slots i new old (ap f r.placed ∙ ap (λ (s : SlotState). f s.placed) r.was)

-- what the held blocks are after a byte of one was changed
pub held-altered : (slots : List SlotState) (i : ℕ) (old new : SlotState) (at mask : ℕ) → Replaces slots i old new
    → new.held ≡ slice_set old.held at (bit_xor (slice_index old.held at) mask)
    → map (λ s. s.held) (slice_set slots i new) ≡ with_changed_byte (map (λ s. s.held) slots) i at mask
held-altered slots i old new at mask r is =
    let block : slice_index_or (map (λ s. s.held) slots) i [] ≡ old.held =
    get_or-map (λ s. s.held) slots i old [] r.within ∙ sym (ap (λ (s : SlotState). s.held) r.was) in
    map-set (λ s. s.held) slots i new ∙ rw (block, is) refl

-- a replaced slot leaves the shelf counted, and it tells that a byte was altered
pub counted-replaced : (s : Inside) (i : ℕ) (old new : SlotState) → IsCounted s → Replaces s.slots.items i old new
    → IsCounted (record s { slots = with_item s.slots i new })
counted-replaced s i old new counted r =
    let sizes = sizes-replaced s.slots.items i old new r in
    record {
      used = counted.used ∙ ap sum (sym sizes);
      within_limit = counted.within_limit;
      placed_sizes = placed-replaced length s.slots.items i old new r ∙ counted.placed_sizes ∙ sym sizes;
    }

pub told-altered : (s : Inside) (i : ℕ) (old new : SlotState) (at mask : ℕ) → Replaces s.slots.items i old new
    → new.held ≡ slice_set old.held at (bit_xor (slice_index old.held at) mask)
    → told_by (record s { slots = with_item s.slots i new }) ≡ altered (told_by s) i at mask
told-altered s i old new at mask r is =
    rw (
      sizes-replaced s.slots.items i old new r,
      placed-replaced (λ bytes. bytes) s.slots.items i old new r,
      held-altered s.slots.items i old new at mask r is,
    ) refl

-- `==` on slots and on armed failures decides whether they are equal
same_parts : (a b : SlotState) → (a.placed ≡ b.placed) × (a.held ≡ b.held) → a ≡ b
same_parts a b same = λ i. record { placed = same.0 i; held = same.1 i }

slot_eq-Decides : (a b : SlotState) → Decides (slot_eq a b) (a ≡ b)
slot_eq-Decides a b =
    let parts = Decides-and _ _ (bytes_decides a.placed b.placed) (bytes_decides a.held b.held) in
    (λ e. same_parts a b (parts.0 e), λ e. parts.1 (ap (λ (s : SlotState). s.placed) e, ap (λ (s : SlotState). s.held) e))

pub slots_eq-Decides : (xs ys : List SlotState) → Decides (pointwise slot_eq xs ys) (xs ≡ ys)
slots_eq-Decides = pointwise_decides slot_eq-Decides

armed_same : (a b : Option ℕ) → option_eq eqb a b ≡ true → a ≡ b
armed_same None None e = refl
armed_same None (Some y) e = cc
armed_same (Some x) None e = cc
armed_same (Some x) (Some y) e = ap Some ((Decides-eqb x y).0 e)

-- shelves with the same failures and the same slots tell the same
pub told_same : (s t : Inside) → true ≡ (eqb s.arming.faults t.arming.faults && option_eq eqb s.arming.armed t.arming.armed)
    → s.slots.items ≡ t.slots.items → told_by s ≡ told_by t
told_same s t same slots =
    let both = Decides-and _ _ (Decides-eqb s.arming.faults t.arming.faults) (λ e. e, λ e. e) in
    let parts = both.0 (sym same) in
    rw (parts.0, armed_same s.arming.armed t.arming.armed parts.1, slots) refl

-- slots with the same placed and held blocks are the same
slots_same : (xs ys : List SlotState) → map (λ s. s.placed) xs ≡ map (λ s. s.placed) ys
    → map (λ s. s.held) xs ≡ map (λ s. s.held) ys → xs ≡ ys
slots_same [] [] p h = refl
slots_same [] (y ∷ ys) p h = cc
slots_same (x ∷ xs) [] p h = cc
slots_same (x ∷ xs) (y ∷ ys) p h =
    let first_placed : x.placed ≡ y.placed = cc in
    let first_held : x.held ≡ y.held = cc in
    let other_placed : map (λ s. s.placed) xs ≡ map (λ s. s.placed) ys = cc in
    let other_held : map (λ s. s.held) xs ≡ map (λ s. s.held) ys = cc in
    λ i. same_parts x y (first_placed, first_held) i ∷ slots_same xs ys other_placed other_held i

-- so are those of shelves that tell the same
pub slots_of_same : (s t : Inside) → told_by s ≡ told_by t → s.slots.items ≡ t.slots.items
slots_of_same s t same =
    slots_same s.slots.items t.slots.items
    (ap (λ (told : ShelfState). unwrap_or told.placed []) same) (ap (λ (told : ShelfState). unwrap_or told.held []) same)
