-- What an edit makes of files.
use Rattle.std.specs.Prelude.{ℕ, not, if◌then◌else◌, List, [], ◌∷◌, map, Option}
use Rattle.std.specs.List.{filter, find}
use Rattle.std.specs.Option.{option_map}
use Rattle.std.specs.Str.{bytes_eq}
use Rattle.file_directory.specs.Entries.{stands_before}
use Rattle.file_blocks.specs.Objects.{filled, spliced}

-- files by their names, in byte order, with their bytes
abbrev pub Files : Type 0
Files = List (List ℕ × List ℕ)

-- the bytes of the file with this name
abbrev pub bytes_of : (name : List ℕ) → Files → Option (List ℕ)
bytes_of name files = option_map (λ file. file.1) (find (λ file. bytes_eq file.0 name) files)

-- one file more, which is empty, behind those whose names stand before its own
abbrev pub touched : (name : List ℕ) → Files → Files
touched name [] = (name, []) ∷ []
touched name (file ∷ files) =
    if stands_before file.0 name then file ∷ touched name files else (name, []) ∷ file ∷ files

-- without the file with this name
abbrev pub removed : (name : List ℕ) → Files → Files
removed name files = filter (λ file. not (bytes_eq file.0 name)) files

-- with other bytes in the file with this name
abbrev pub changed : (change : List ℕ → List ℕ) → (name : List ℕ) → Files → Files
changed change name files = map (λ file. if bytes_eq file.0 name then (file.0, change file.1) else file) files

-- with these bytes written over those of a file from a place on, and zeros up to there where it was shorter
abbrev pub written : (name : List ℕ) → (from : ℕ) → (bytes : List ℕ) → Files → Files
written name from bytes files = changed (λ old. spliced old from bytes) name files

-- with a file cut to this length, or filled up to it with zeros
abbrev pub cut : (name : List ℕ) → (to : ℕ) → Files → Files
cut name to files = changed (filled to) name files
