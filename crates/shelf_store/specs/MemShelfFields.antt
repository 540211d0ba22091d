-- What the fields of a `MemShelf` stand for.
use Rattle.std.specs.Prelude.{ℕ, ◌≡◌, ◌≤◌, List, map, length, sum, Some}
use Rattle.shelf_store.specs.declared.shelf.TheConstants.{SHELF_BYTES}
use Rattle.shelf_store.specs.ShelfState.{ShelfState}
use Rattle.shelf_store.specs.SlotState.{SlotState}
use Rattle.shelf_store.specs.declared.mem_shelf.MemShelf.TheInside.{Inside}

-- the size of each block
abbrev pub sizes_of : List SlotState → List ℕ
sizes_of slots = map (λ slot. length slot.held) slots

-- what the shelf tells: everything
abbrev pub told_by : Inside → ShelfState
told_by s = record {
  sizes = sizes_of s.slots.items;
  faults = s.arming.faults;
  armed = s.arming.armed;
  placed = Some (map (λ slot. slot.placed) s.slots.items);
  held = Some (map (λ slot. slot.held) s.slots.items);
}

-- the bytes are counted and within the limit, and each block has the size of what was put
pub record IsCounted (s : Inside) : Type 0 where
  pub used : s.used ≡ sum (sizes_of s.slots.items)
  pub within_limit : s.used ≤ SHELF_BYTES
  pub placed_sizes : map (λ slot. length slot.placed) s.slots.items ≡ sizes_of s.slots.items
