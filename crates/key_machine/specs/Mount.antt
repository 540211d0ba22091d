-- `mount`: a dataset's mapping is mounted; where it has none it gets one, on the lowest free slot.
use Rattle.std.specs.Prelude.{ℕ, ◌+◌, Bool, false, not, ◌&&◌, ◌||◌, ◌==◌, nat_lt, List, [], ◌∷◌, slice_set, is_some, is_none}
use Rattle.std.specs.declared.option.Option.{Option}
use Rattle.std.specs.declared.option.Option.TheVariants.{Some, None}
use Rattle.std.specs.List.{find, list_any, range_with_len}
use Rattle.dataset_tree.specs.declared.refusal.Refusal.{Refusal}
use Rattle.dataset_tree.specs.declared.refusal.Refusal.TheVariants.{NoSuch, NotEncrypted, Mounted, KeyUnavailable, Full}
use Rattle.dataset_tree.specs.declared.tree.Row.{Row}
use Rattle.dataset_tree.specs.Tree.{row_named}
use Rattle.encryption_roots.specs.ById.{at_id, with_id}
use Rattle.key_machine.specs.Limits.{slot_count, max_generation}
use Rattle.key_machine.specs.Plain.{Plain, is_encrypted_row}
use Rattle.key_machine.specs.Rekey.{has_key_row}
use Rattle.key_machine.specs.Reply.{Stepped, Done, refused}
use Rattle.key_machine.specs.Users.{generation_of, is_mounted, with_mount}

-- ---- slots

-- whether a dataset is mapped on the slot
abbrev pub is_taken : Plain → ℕ → Bool
is_taken p slot = list_any (λ mapping. mapping.1 == slot) p.mapped

-- whether nothing is mapped on the slot, and a generation is left to it
abbrev pub is_free : Plain → ℕ → Bool
is_free p slot = not (is_taken p slot) && nat_lt (generation_of p slot) max_generation

-- the lowest free slot
abbrev pub free_slot : Plain → Option ℕ
free_slot p = find (is_free p) (range_with_len 0 slot_count)

-- ---- refusals; nothing is taken

abbrev pub is_mapped : Plain → ℕ → Bool
is_mapped p id = is_some (at_id id p.mapped)

abbrev pub is_mounted_row : Plain → Option Row → Bool
is_mounted_row p None = false
is_mounted_row p (Some row) = is_mounted p row.id

-- whether the dataset is mapped, or could be
abbrev pub has_slot_row : Plain → Option Row → Bool
has_slot_row p None = false
has_slot_row p (Some row) = is_mapped p row.id || is_some (free_slot p)

abbrev pub mount_cases : Plain → List ℕ → List (Bool × Refusal)
mount_cases p name =
    let row = row_named name p.tree.rows in
    (is_none row, NoSuch)
    ∷ (not (is_encrypted_row row), NotEncrypted)
    ∷ (is_mounted_row p row, Mounted)
    ∷ (not (has_key_row p row), KeyUnavailable)
    ∷ (not (has_slot_row p row), Full slot_count)
    ∷ []

-- ---- effect

-- the dataset's mapping is mounted
abbrev pub with_mounted : Plain → ℕ → Plain
with_mounted p id = record p { mounted = with_mount id p.mounted }

-- the dataset is mapped on the slot, which takes its next generation
abbrev pub with_mapping : Plain → ℕ → ℕ → Plain
with_mapping p id slot = record p {
  gens = slice_set p.gens slot (generation_of p slot + 1);
  mapped = with_id id slot p.mapped;
}

-- on a free slot
abbrev pub mounted_on : Plain → ℕ → Option ℕ → Stepped
mounted_on p id None = refused p (Full slot_count)
mounted_on p id (Some slot) = record { state = with_mounted (with_mapping p id slot) id; reply = Done }

-- on the slot where it is mapped, or on the lowest free one
abbrev pub mounted_at : Plain → ℕ → Option ℕ → Stepped
mounted_at p id None = mounted_on p id (free_slot p)
mounted_at p id (Some slot) = record { state = with_mounted p id; reply = Done }

abbrev pub mount_done : Plain → Option ℕ → Stepped
mount_done p None = refused p NoSuch
mount_done p (Some id) = mounted_at p id (at_id id p.mapped)
