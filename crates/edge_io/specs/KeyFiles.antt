-- Key files by path, and what fetching one answers.
use Rattle.std.specs.Prelude.{◌≡◌, ℕ, ◌≤◌, List, map, take, find, option_map, bytes_eq, None, Some, Bool, true, false, Result, Ok, Err, Vec, String, string_bytes, ⊤}
use Rattle.std.specs.declared.option.Option.{Option}
use Rattle.edge_io.specs.declared.errors.FetchError.{FetchError}
use Rattle.edge_io.specs.declared.errors.FetchError.TheVariants as errors
use Rattle.edge_io.specs.declared.key_files.TheConstants.{MAX_KEY_FILE}
use Rattle.edge_io.specs.Faults.{Rose}

-- the bytes of the file at a path: of several files of one path the first counts
abbrev pub file_at : List ℕ → List (List ℕ × List ℕ) → Option (List ℕ)
file_at path files = option_map (λ file. file.1) (find (λ file. bytes_eq file.0 path) files)

-- what there is to fetch at a path: the first 1024 bytes of the file, where there is one
abbrev pub fetched : List ℕ → List (List ℕ × List ℕ) → Option (List ℕ)
fetched path files = option_map (take MAX_KEY_FILE) (file_at path files)

-- A fetch answers what there is to fetch, failure and want of memory apart, which say nothing of the file.
abbrev pub FetchGives : {A : Type 0} → Result (Vec ℕ A) FetchError → Option (List ℕ) → Type 0
FetchGives (Ok bytes) there = there ≡ Some bytes.items
FetchGives (Err errors.Missing) there = there ≡ None
FetchGives (Err errors.Failed) there = ⊤
FetchGives (Err errors.NoMemory) there = ⊤

-- whether a fetch failed
abbrev pub is_failed : {T : Type 0} → Result T FetchError → Bool
is_failed (Ok _) = false
is_failed (Err errors.Failed) = true
is_failed (Err errors.Missing) = false
is_failed (Err errors.NoMemory) = false

-- The count of faults rises where a fetch failed, and stays as it was at any other answer.
abbrev pub FetchCounts : {T : Type 0} → ℕ → ℕ → Result T FetchError → Type 0
FetchCounts before now (Ok _) = now ≡ before
FetchCounts before now (Err errors.Missing) = now ≡ before
FetchCounts before now (Err errors.Failed) = (before ≤ now) × Rose before now
FetchCounts before now (Err errors.NoMemory) = now ≡ before

-- the path and the bytes of each file
abbrev pub plain_files : {A B : Type 0} → List (String A × Vec ℕ B) → List (List ℕ × List ℕ)
plain_files files = map (λ file. (string_bytes file.0, file.1.items)) files
