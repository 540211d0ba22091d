-- Searching files by path.
use Rattle.std.proofs.Common.{◌≡◌, ℕ, true, false, List, [], ◌∷◌, Some, find, cond, refl}
use Rattle.std.specs.Prelude.{String, Vec, string_bytes, bytes_eq, option_map}
use Rattle.edge_io.specs.KeyFiles.{file_at, plain_files}

-- the file at a path is found among the files as they are stored
pub file_at_plain : {A B : Type 0} (path : List ℕ) (files : List (String A × Vec ℕ B))
    → file_at path (plain_files files) ≡ option_map (λ file. file.1.items) (find (λ file. bytes_eq (string_bytes file.0) path) files)
file_at_plain path [] = refl
file_at_plain path (file ∷ files) =
    elim (bytes_eq (string_bytes file.0) path) as (λ same. option_map (λ file. file.1) (cond same (Some (string_bytes file.0, file.1.items)) (find (λ file. bytes_eq file.0 path) (plain_files files)))
    ≡ option_map (λ file. file.1.items) (cond same (Some file) (find (λ file. bytes_eq (string_bytes file.0) path) files))) [
      | true ↦ refl
      | false ↦ file_at_plain path files
    ]
