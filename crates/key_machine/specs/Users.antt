-- Who uses a key: live users, the word of a slot, and how holds and mounts are added.
use Rattle.std.specs.Prelude.{ℕ, ◌+◌, ◌*◌, ◌^◌, Bool, not, ◌&&◌, ◌==◌, nat_lt, List, [], ◌∷◌, slice_index, if◌then◌else◌}
use Rattle.std.specs.declared.option.Option.{Option}
use Rattle.std.specs.declared.option.Option.TheVariants.{Some, None}
use Rattle.std.specs.List.{list_any, count_by, find}
use Rattle.encryption_roots.specs.Owners.{family}
use Rattle.key_machine.specs.Limits.{slot_count}
use Rattle.key_machine.specs.Plain.{Plain, Hold, owner_of, is_same}

-- the generation of a slot
abbrev pub generation_of : Plain → ℕ → ℕ
generation_of p slot = slice_index p.gens slot

abbrev pub is_mounted : Plain → ℕ → Bool
is_mounted p id = list_any (λ mounted. mounted == id) p.mounted

-- the live users of a dataset's mapping: its mount, and the holds on its slot and generation
abbrev pub users_of : Plain → ℕ × ℕ → ℕ
users_of p mapping =
    (if is_mounted p mapping.0 then 1 else 0) + count_by (λ hold. (hold.slot == mapping.1)
    && (hold.generation == generation_of p mapping.1)) p.users

abbrev pub is_used : Plain → ℕ × ℕ → Bool
is_used p mapping = not (users_of p mapping == 0)

-- the live users of a family's master key: its mapped datasets
abbrev pub mkey_users : Plain → ℕ → ℕ
mkey_users p id = count_by (λ mapping. family p.tree.rows mapping.0 == id) p.mapped

-- the live users of a root's wrapping key: the families that it owns and that have a mapped dataset
abbrev pub wkey_users : Plain → ℕ → ℕ
wkey_users p root = count_by (λ entry. is_same root (owner_of p entry.0) && not (mkey_users p entry.0 == 0)) p.wrapped

-- The word of a slot: the count in bits 0 to 31, open in bit 32, mounted in bit 33, the generation from bit 34 on.
abbrev pub word_of : Plain → ℕ → Option (ℕ × ℕ) → ℕ
word_of p slot None = generation_of p slot * 2 ^ 34
word_of p slot (Some mapping) =
    users_of p mapping + 2 ^ 32 + (if is_mounted p mapping.0 then 2 ^ 33 else 0) + generation_of p slot * 2 ^ 34

-- 0 for a slot past the last, whatever is mapped
abbrev pub word : Plain → ℕ → ℕ
word p slot = if nat_lt slot slot_count then word_of p slot (find (λ mapping. mapping.1 == slot) p.mapped) else 0

-- ---- entries by number

-- An entry goes before the first one of a greater number, and so behind those of its own number.
abbrev pub with_entry : {X : Type 0} → (number : X → ℕ) → X → List X → List X
with_entry number entry [] = entry ∷ []
with_entry number entry (first ∷ later) =
    if nat_lt (number entry) (number first) then entry ∷ first ∷ later else first ∷ with_entry number entry later

-- One rider may hold a mapping several times.
abbrev pub with_hold : Hold → List Hold → List Hold
with_hold hold users = with_entry (λ other. other.rider) hold users

abbrev pub with_mount : ℕ → List ℕ → List ℕ
with_mount id mounted = with_entry (λ other. other) id mounted
