-- How a keeper of slots and a keystore's state go together.
use Rattle.std.specs.Prelude.{◌≡◌, ℕ, ◌<◌, ◌+◌, ◌-◌, ◌^◌, Bool, ◌&&◌, ◌==◌, min, length}
use Rattle.std.specs.declared.option.Option.TheVariants.{Some}
use Rattle.std.specs.List.{list_any}
use Rattle.mapping_words.specs.Told.{Told, slot_at}
use Rattle.mapping_words.specs.Words.{count_in, IsInUse}
use Rattle.mapping_words.specs.declared.slot.Slot.{Slot}
use Rattle.key_machine.specs.Limits.{slot_count}
use Rattle.key_machine.specs.Mount.{is_taken}
use Rattle.key_machine.specs.Plain.{Plain}
use Rattle.key_machine.specs.Users.{generation_of, is_mounted}

-- whether a dataset that is mapped on the slot is mounted
abbrev pub is_mounted_on : Plain → ℕ → Bool
is_mounted_on p slot = list_any (λ mapping. (mapping.1 == slot) && is_mounted p mapping.0) p.mapped

-- a slot as a plain state shows it
abbrev pub slot_shown : Plain → ℕ → Slot
slot_shown p slot = record {
  generation = generation_of p slot;
  is_open = is_taken p slot;
  is_mounted = is_mounted_on p slot;
}

-- There are 256 slots. Each has the generation that the state gives it, is open exactly where a dataset is mapped on
-- it, and is mounted exactly where that dataset is mounted.
pub record Agrees (t : Told) (p : Plain) : Type 0 where
  pub slots : length t.slots ≡ slot_count
  pub each : (slot : ℕ) → slot < slot_count → slot_at t slot ≡ slot_shown p slot

-- no close was refused
pub record SameRefusals (old new : Told) : Type 0 where
  pub refused : new.refused ≡ old.refused
  pub last : new.last ≡ old.last

-- One more close was refused, the last one: that of this slot, which is in use by this count.
pub record IsRefused (old new : Told) (slot count : ℕ) : Type 0 where
  pub refused : new.refused ≡ min (old.refused + 1) (2 ^ 64 - 1)
  pub word : ℕ
  pub last : new.last ≡ Some (record { slot = slot; word = word })
  pub in_use : IsInUse (slot_at new slot) word
  pub counted : count_in word ≡ count
