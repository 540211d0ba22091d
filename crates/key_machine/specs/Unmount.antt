-- `unmount`: the dataset is mounted no longer. Its mapping stays, for those who hold it.
use Rattle.std.specs.Prelude.{ℕ, Bool, not, ◌==◌, List, [], ◌∷◌, is_none}
use Rattle.std.specs.declared.option.Option.{Option}
use Rattle.std.specs.declared.option.Option.TheVariants.{Some, None}
use Rattle.std.specs.List.{filter}
use Rattle.dataset_tree.specs.declared.refusal.Refusal.{Refusal}
use Rattle.dataset_tree.specs.declared.refusal.Refusal.TheVariants.{NoSuch, NotEncrypted, NotMounted}
use Rattle.dataset_tree.specs.Tree.{row_named}
use Rattle.key_machine.specs.Mount.{is_mounted_row}
use Rattle.key_machine.specs.Plain.{Plain, is_encrypted_row}
use Rattle.key_machine.specs.Reply.{Stepped, Done, refused}

-- ---- refusals; nothing is taken

abbrev pub unmount_cases : Plain → List ℕ → List (Bool × Refusal)
unmount_cases p name =
    let row = row_named name p.tree.rows in
    (is_none row, NoSuch)
    ∷ (not (is_encrypted_row row), NotEncrypted)
    ∷ (not (is_mounted_row p row), NotMounted)
    ∷ []

-- ---- effect

abbrev pub without_mount : ℕ → List ℕ → List ℕ
without_mount id mounted = filter (λ other. not (other == id)) mounted

abbrev pub with_unmounted : Plain → ℕ → Plain
with_unmounted p id = record p { mounted = without_mount id p.mounted }

abbrev pub unmount_done : Plain → Option ℕ → Stepped
unmount_done p None = refused p NoSuch
unmount_done p (Some id) = record { state = with_unmounted p id; reply = Done }
