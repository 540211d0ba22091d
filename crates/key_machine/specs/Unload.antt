-- `unload-key`: a root's key goes, once the mappings of its datasets are closed.
use Rattle.std.specs.Prelude.{ℕ, Bool, not, ◌&&◌, nat_lt, List, [], ◌∷◌}
use Rattle.std.specs.declared.option.Option.{Option}
use Rattle.std.specs.declared.option.Option.TheVariants.{Some, None}
use Rattle.std.specs.Option.{option_map}
use Rattle.std.specs.List.{filter, find}
use Rattle.dataset_tree.specs.declared.refusal.Refusal.{Refusal}
use Rattle.dataset_tree.specs.declared.refusal.Refusal.TheVariants.{NoSuch, KeyUnavailable, Busy}
use Rattle.dataset_tree.specs.Tree.{row_named}
use Rattle.encryption_roots.specs.ById.{without_id}
use Rattle.key_machine.specs.Plain.{Plain, owner_of, is_same}
use Rattle.key_machine.specs.Refusals.{root_cases, is_loaded_row}
use Rattle.key_machine.specs.Reply.{Stepped, Done, refused}
use Rattle.key_machine.specs.Users.{users_of, is_used}

-- ---- refusals; nothing is taken

abbrev pub unload_cases : Plain → List ℕ → List (Bool × Refusal)
unload_cases p name =
    let row = row_named name p.tree.rows in
    root_cases p row ((not (is_loaded_row p row), KeyUnavailable) ∷ [])

-- ---- closes

-- the mapping that a close found in use: its dataset, and the count of its word
pub record InUse : Type 0 where
  pub dataset : ℕ
  pub count : ℕ

-- whether the root owns the mapping's dataset
abbrev pub is_owned : Plain → ℕ → ℕ × ℕ → Bool
is_owned p root mapping = is_same root (owner_of p mapping.0)

-- what the closes of a root's mappings, in order of id, find by the plain state's own users: the first that is in use
abbrev pub first_in_use : Plain → ℕ → Option InUse
first_in_use p root =
    option_map (λ mapping. record {
      dataset = mapping.0;
      count = users_of p mapping;
    }) (find (λ mapping. is_owned p root mapping && is_used p mapping) p.mapped)

-- the mappings without those of a root, or without those of them whose datasets are below one
abbrev pub closed : Plain → ℕ → List (ℕ × ℕ)
closed p root = filter (λ mapping. not (is_owned p root mapping)) p.mapped

abbrev pub closed_below : Plain → ℕ → ℕ → List (ℕ × ℕ)
closed_below p root dataset = filter (λ mapping. not (is_owned p root mapping && nat_lt mapping.0 dataset)) p.mapped

-- ---- effect

-- What the closes found decides: the first mapping in use stops them, and is named with the count that was found.
abbrev pub unloaded : Plain → ℕ → Option InUse → Stepped
unloaded p root None =
    record { state = record p { mapped = closed p root; loaded = without_id root p.loaded }; reply = Done }
unloaded p root (Some busy) =
    refused (record p { mapped = closed_below p root busy.dataset }) (Busy busy.dataset busy.count)

abbrev pub unload_done : Plain → Option InUse → Option ℕ → Stepped
unload_done p found None = refused p NoSuch
unload_done p found (Some root) = unloaded p root found
