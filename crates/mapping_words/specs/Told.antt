-- What a keeper of slots tells, and what each call makes of it.
use Rattle.std.specs.Prelude.{ℕ, ◌+◌, ◌-◌, ◌^◌, Bool, true, false, if◌then◌else◌, min, List, replicate, slice_index_or, slice_set}
use Rattle.std.specs.declared.option.Option.{Option}
use Rattle.std.specs.declared.option.Option.TheVariants.{Some, None}
use Rattle.mapping_words.specs.declared.slot.Slot.{Slot}
use Rattle.mapping_words.specs.declared.slot.RefusedClose.{RefusedClose}

-- A keeper tells the parts of each slot, how many closes were refused so far, and the last one of these.
pub record Told : Type 0 where
  pub slots : List Slot
  pub refused : ℕ
  pub last : Option RefusedClose

-- closed, and never opened
abbrev pub fresh_slot : Slot
fresh_slot = record { generation = 0; is_open = false; is_mounted = false }

abbrev pub fresh : ℕ → Told
fresh slots = record { slots = replicate slots fresh_slot; refused = 0; last = None }

abbrev pub slot_at : Told → ℕ → Slot
slot_at t slot = slice_index_or t.slots slot fresh_slot

abbrev pub with_slot : Told → ℕ → Slot → Told
with_slot t slot now = record t { slots = slice_set t.slots slot now }

-- open under the next generation, and not mounted
abbrev pub opened : Told → ℕ → Told
opened t slot =
    with_slot t slot (record { generation = (slot_at t slot).generation + 1; is_open = true; is_mounted = false })

abbrev pub with_mount : Told → ℕ → Bool → Told
with_mount t slot is = with_slot t slot (record (slot_at t slot) { is_mounted = is })

abbrev pub closed : Told → ℕ → Told
closed t slot = with_slot t slot (record (slot_at t slot) { is_open = false })

-- one more close was refused, of this slot by this word; the number of them stands still at the end of its 64 bits
abbrev pub refused_close : Told → ℕ → ℕ → Told
refused_close t slot word =
    record t { refused = min (t.refused + 1) (2 ^ 64 - 1); last = Some (record { slot = slot; word = word }) }

-- the count of a slot that none but its mount uses
abbrev pub mount_count : Slot → ℕ
mount_count slot = if slot.is_mounted then 1 else 0

-- The count, where the keeper tells it: it is then the mount's.
abbrev pub told_count : Bool → Slot → Option ℕ
told_count tells slot = if tells then Some (mount_count slot) else None
