-- What a root owns, and which roots stand below a dataset.
use Rattle.std.specs.Prelude.{ℕ, zero, suc, Bool, true, false, ◌==◌, ◌&&◌, ◌||◌, List, length, map, is_some}
use Rattle.std.specs.List.{filter}
use Rattle.std.specs.declared.option.Option.{Option}
use Rattle.std.specs.declared.option.Option.TheVariants.{Some, None}
use Rattle.dataset_tree.specs.declared.kinds.Kind.{Kind}
use Rattle.dataset_tree.specs.declared.kinds.Kind.TheVariants.{Plain, Crypt}
use Rattle.dataset_tree.specs.declared.tree.Row.{Row}
use Rattle.dataset_tree.specs.Tree.{row_of}
use Rattle.encryption_roots.specs.declared.props.Props.{Props}
use Rattle.encryption_roots.specs.Owners.{owner}
use Rattle.encryption_roots.specs.Roots.{props_of}

-- the ids of the datasets that pass a test, in their order
abbrev pub ids_where : (Row → Bool) → List Row → List ℕ
ids_where test rows = map (λ row. row.id) (filter test rows)

-- ---- the families of a root

abbrev pub is_crypt : Kind → Bool
is_crypt Plain = false
is_crypt Crypt = true

-- whether this dataset is the first of a family: an encrypted one that is no clone
abbrev pub begins_family : Row → Bool
begins_family row = is_crypt row.kind && (row.origin == 0)

-- whether this root was found as an owner
abbrev pub is_owner : ℕ → Option ℕ → Bool
is_owner root None = false
is_owner root (Some found) = found == root

-- The families whose key a root owns, in order of id: each is named by its first dataset. In a sound keystore
-- they are the families that have a record and this owner, since there each family has one record.
abbrev pub owned_families : List Row → List (ℕ × Props) → ℕ → List ℕ
owned_families rows roots root = ids_where (λ row. begins_family row && is_owner root (owner rows roots row.id)) rows

-- ---- the roots below a dataset

abbrev pub below_from : ℕ → ℕ → Option Row → (ℕ → Bool) → Bool
below_from top id None further = false
below_from top id (Some row) further = (id == top) || further row.parent

abbrev pub is_below_within : ℕ → List Row → ℕ → ℕ → Bool
is_below_within zero rows top id = false
is_below_within (suc steps) rows top id =
    below_from top id (row_of id rows) (λ next. is_below_within steps rows top next)

-- Whether a dataset stands at or below another, along the parents, of which there are at most as many as rows.
abbrev pub is_below : List Row → ℕ → ℕ → Bool
is_below rows top id = is_below_within (length rows) rows top id

-- the roots that stand at or below a dataset, in order of id
abbrev pub roots_below : List Row → List (ℕ × Props) → ℕ → List ℕ
roots_below rows roots top = ids_where (λ row. is_some (props_of row.id roots) && is_below rows top row.id) rows
