-- `destroy`: a dataset goes, with its root, its loaded key and its mapping; and the record of its family with
-- the family's last dataset.
use Rattle.std.specs.Prelude.{ℕ, Bool, false, not, ◌&&◌, ◌||◌, ◌==◌, List, [], ◌∷◌, is_none, if◌then◌else◌}
use Rattle.std.specs.declared.option.Option.{Option}
use Rattle.std.specs.declared.option.Option.TheVariants.{Some, None}
use Rattle.std.specs.List.{list_any}
use Rattle.dataset_tree.specs.declared.refusal.Refusal.{Refusal}
use Rattle.dataset_tree.specs.declared.refusal.Refusal.TheVariants.{NoSuch, HasChildren, Mounted, Busy}
use Rattle.dataset_tree.specs.declared.tree.Row.{Row}
use Rattle.dataset_tree.specs.Tree.{row_named, is_needed, without_row}
use Rattle.encryption_roots.specs.ById.{without_id}
use Rattle.encryption_roots.specs.Owners.{family}
use Rattle.key_machine.specs.Mount.{is_mounted_row}
use Rattle.key_machine.specs.Plain.{Plain, Stored}
use Rattle.key_machine.specs.Reply.{Stepped, Done, refused}
use Rattle.key_machine.specs.Unload.{InUse}

-- ---- refusals; nothing is taken

-- whether the dataset has children, or was cloned
abbrev pub is_needed_row : Plain → Option Row → Bool
is_needed_row p None = false
is_needed_row p (Some row) = is_needed row.id p.tree.rows

-- Plain datasets can be destroyed too. `snaps` says whether the dataset has snapshots.
abbrev pub destroy_cases : Plain → List ℕ → Bool → List (Bool × Refusal)
destroy_cases p name snaps =
    let row = row_named name p.tree.rows in
    (is_none row, NoSuch)
    ∷ (is_needed_row p row || snaps, HasChildren)
    ∷ (is_mounted_row p row, Mounted)
    ∷ []

-- ---- effect

-- whether another dataset is of this one's family
abbrev pub has_relatives : Plain → ℕ → Bool
has_relatives p id =
    list_any (λ row. not (row.id == id) && (family p.tree.rows row.id == family p.tree.rows id)) p.tree.rows

-- the records without that of the dataset's family, where no other dataset is of it
abbrev pub records_left : Plain → ℕ → List (ℕ × Stored)
records_left p id = if has_relatives p id then p.wrapped else without_id (family p.tree.rows id) p.wrapped

abbrev pub destroyed : Plain → ℕ → Plain
destroyed p id = record p {
  tree = without_row p.tree id;
  roots = without_id id p.roots;
  wrapped = records_left p id;
  loaded = without_id id p.loaded;
  mapped = without_id id p.mapped;
}

-- What the close of its mapping found decides.
abbrev pub destroyed_unless : Plain → ℕ → Option InUse → Stepped
destroyed_unless p id None = record { state = destroyed p id; reply = Done }
destroyed_unless p id (Some busy) = refused p (Busy busy.dataset busy.count)

abbrev pub destroy_done : Plain → Option InUse → Option ℕ → Stepped
destroy_done p found None = refused p NoSuch
destroy_done p found (Some id) = destroyed_unless p id found
