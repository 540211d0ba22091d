-- Why a command is refused: ordered lists of cases, the first of which that holds is the refusal.
use Rattle.std.specs.Prelude.{Bool, not, false, List, [], ◌∷◌, is_none, if◌then◌else◌}
use Rattle.std.specs.declared.option.Option.{Option}
use Rattle.std.specs.declared.option.Option.TheVariants.{Some, None}
use Rattle.dataset_tree.specs.declared.refusal.Refusal.{Refusal}
use Rattle.dataset_tree.specs.declared.refusal.Refusal.TheVariants.{NoSuch, NotEncrypted, NotRoot, BadOptions}
use Rattle.dataset_tree.specs.declared.tree.Row.{Row}
use Rattle.key_machine.specs.Plain.{Plain, is_root, is_loaded, is_encrypted_row}

-- the first case that holds
abbrev pub first_of : List (Bool × Refusal) → Option Refusal
first_of [] = None
first_of (case ∷ cases) = if case.0 then Some case.1 else first_of cases

-- the first refusal that there is
abbrev pub first_refusal : List (Option Refusal) → Option Refusal
first_refusal [] = None
first_refusal (Some why ∷ later) = Some why
first_refusal (None ∷ later) = first_refusal later

-- Until a command is built it is refused, whatever the state, and takes and does nothing.
abbrev pub not_built : Refusal
not_built = BadOptions

-- ---- a command on the key of a root

abbrev pub is_root_row : Plain → Option Row → Bool
is_root_row p None = false
is_root_row p (Some row) = is_root p row.id

abbrev pub is_loaded_row : Plain → Option Row → Bool
is_loaded_row p None = false
is_loaded_row p (Some row) = is_loaded p row.id

abbrev pub root_cases : Plain → Option Row → List (Bool × Refusal) → List (Bool × Refusal)
root_cases p row cases =
    (is_none row, NoSuch)
    ∷ (not (is_encrypted_row row), NotEncrypted)
    ∷ (not (is_root_row p row), NotRoot)
    ∷ cases
