-- The number of a mapping's word: bits 0 to 31 are the count, bit 32 says open, bit 33 mounted, and bits 34
-- to 63 are the generation.
use Rattle.std.specs.Prelude.{◌≡◌, ℕ, ◌+◌, ◌*◌, ◌%◌, ◌^◌, ◌≤◌, if◌then◌else◌}
use Rattle.mapping_words.specs.declared.slot.Slot.{Slot}

abbrev pub word_of : Slot → ℕ → ℕ
word_of slot count =
    count + (if slot.is_open then 2 ^ 32 else 0) + (if slot.is_mounted then 2 ^ 33 else 0) + slot.generation * 2 ^ 34

abbrev pub count_in : ℕ → ℕ
count_in word = word % 2 ^ 32

-- the word has the slot's parts, and a count of at least 1
pub record IsInUse (slot : Slot) (word : ℕ) : Type 0 where
  pub parts : word ≡ word_of slot (count_in word)
  pub counted : 1 ≤ count_in word
