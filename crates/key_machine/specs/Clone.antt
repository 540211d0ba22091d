-- `clone`: an encrypted dataset in the family of another, whose key it uses. It is no root and has no record.
use Rattle.std.specs.Prelude.{ℕ, ◌+◌, Bool, not, nat_le, List, [], ◌∷◌, length, is_some, is_none}
use Rattle.std.specs.declared.option.Option.{Option}
use Rattle.std.specs.declared.option.Option.TheVariants.{Some, None}
use Rattle.dataset_tree.specs.declared.kinds.Kind.TheVariants.{Crypt}
use Rattle.dataset_tree.specs.declared.refusal.Refusal.{Refusal}
use Rattle.dataset_tree.specs.declared.refusal.Refusal.TheVariants.{NoSuch, NotEncrypted, Exists, NoParent, Full}
use Rattle.dataset_tree.specs.SetName.{parent_name}
use Rattle.dataset_tree.specs.Tree.{row_named, parent_in, with_row}
use Rattle.key_machine.specs.Limits.{max_datasets, max_id}
use Rattle.key_machine.specs.Plain.{Plain, is_encrypted_row}
use Rattle.key_machine.specs.Reply.{Stepped, Made, refused}

-- ---- refusals; nothing is taken

-- That the snapshot is there is tested before.
abbrev pub clone_cases : Plain → (from name : List ℕ) → List (Bool × Refusal)
clone_cases p from name =
    let origin = row_named from p.tree.rows in
    (is_none origin, NoSuch)
    ∷ (not (is_encrypted_row origin), NotEncrypted)
    ∷ (is_some (row_named name p.tree.rows), Exists)
    ∷ (is_none (parent_in p.tree.rows (parent_name name)), NoParent)
    ∷ (nat_le max_datasets (length p.tree.rows), Full max_datasets)
    ∷ (nat_le max_id p.tree.last, Full max_id)
    ∷ []

-- ---- effect

abbrev pub cloned : Plain → ℕ → List ℕ → Plain
cloned p origin name = record p { tree = with_row p.tree name Crypt origin }

abbrev pub clone_done : Plain → List ℕ → Option ℕ → Stepped
clone_done p name None = refused p NoSuch
clone_done p name (Some origin) = record { state = cloned p origin name; reply = Made (p.tree.last + 1) }
