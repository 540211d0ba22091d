-- The owner of a dataset's key, and the family of a dataset.
use Rattle.std.specs.Prelude.{◌≡◌, ◌≢◌, ℕ, zero, suc, ◌==◌, List, length, if◌then◌else◌, is_some}
use Rattle.std.specs.List.{All}
use Rattle.std.specs.declared.option.Option.{Option}
use Rattle.std.specs.declared.option.Option.TheVariants.{Some, None}
use Rattle.dataset_tree.specs.declared.kinds.Kind.{Kind}
use Rattle.dataset_tree.specs.declared.kinds.Kind.TheVariants.{Plain, Crypt}
use Rattle.dataset_tree.specs.declared.tree.Row.{Row}
use Rattle.dataset_tree.specs.Tree.{Datasets, IsTree, row_of}
use Rattle.encryption_roots.specs.declared.props.Props.{Props}
use Rattle.encryption_roots.specs.Roots.{props_of}

-- where the walk to the owner goes on: a clone's owner is that of its origin, another dataset's that of its parent
abbrev pub next_to_owner : Row → ℕ
next_to_owner row = if row.origin == 0 then row.parent else row.origin

abbrev pub owner_by_kind : Kind → Option ℕ → Option ℕ
owner_by_kind Plain found = None
owner_by_kind Crypt found = found

-- the owner of a dataset with this row, given that of the dataset where the walk goes on
abbrev pub owner_from : List (ℕ × Props) → ℕ → Option Row → (ℕ → Option ℕ) → Option ℕ
owner_from roots id None further = None
owner_from roots id (Some row) further =
    owner_by_kind row.kind (if is_some (props_of id roots) then Some id else further (next_to_owner row))

abbrev pub owner_within : ℕ → List Row → List (ℕ × Props) → ℕ → Option ℕ
owner_within zero rows roots id = None
owner_within (suc steps) rows roots id =
    owner_from roots id (row_of id rows) (λ next. owner_within steps rows roots next)

-- The owner: none for a plain dataset and where there is none of this id. No dataset comes twice on the walk,
-- so it has at most as many steps as there are rows.
abbrev pub owner : List Row → List (ℕ × Props) → ℕ → Option ℕ
owner rows roots id = owner_within (length rows) rows roots id

abbrev pub family_from : ℕ → Option Row → (ℕ → ℕ) → ℕ
family_from id None further = id
family_from id (Some row) further = if row.origin == 0 then id else further row.origin

abbrev pub family_within : ℕ → List Row → ℕ → ℕ
family_within zero rows id = id
family_within (suc steps) rows id = family_from id (row_of id rows) (λ next. family_within steps rows next)

-- The family: the first dataset along the origins, of which there are at most as many as rows.
abbrev pub family : List Row → ℕ → ℕ
family rows id = family_within (length rows) rows id

-- in a tree, a dataset with this row, and an id without a dataset
abbrev pub IsRowOf : Datasets → ℕ → Row → Type 0
IsRowOf t id row = IsTree t × (row_of id t.rows ≡ Some row)

abbrev pub HasNoRow : Datasets → ℕ → Type 0
HasNoRow t id = IsTree t × (row_of id t.rows ≡ None)

-- in a tree, no clone is plain or a root
abbrev pub HasHeirsAsClones : Datasets → List (ℕ × Props) → Type 0
HasHeirsAsClones t roots =
    IsTree t × All (λ row. row.origin ≢ 0 → (row.kind ≡ Crypt) × (props_of row.id roots ≡ None)) t.rows
