-- The entries of a directory, the text that they make, and how a file is found, added and taken out.
use Rattle.std.specs.Prelude.{ℕ, ◌==◌, Bool, not, if◌then◌else◌, List, [], ◌∷◌, ◌++◌, length, Option}
use Rattle.std.specs.Ordering.{nat_cmp, is_lt}
use Rattle.std.specs.Cmp.Lexicographic.{slice_cmp}
use Rattle.std.specs.List.{filter, find, flat_map, list_any}
use Rattle.std.specs.Option.{option_map}
use Rattle.std.specs.Str.{bytes_eq}
use Rattle.byte_fields.specs.LittleEndian.{little_endian_bytes}
use Rattle.file_directory.specs.declared.directory.DirectoryEntry.{DirectoryEntry}

-- whether a name stands before another in byte order
abbrev pub stands_before : (earlier later : List ℕ) → Bool
stands_before earlier later = is_lt (slice_cmp nat_cmp earlier later)

-- an entry as it is stored: the object in 4 bytes, the lowest first, the length of the name in one, the name
abbrev pub entry_bytes : DirectoryEntry → List ℕ
entry_bytes entry = little_endian_bytes 4 entry.object ++ length entry.name ∷ entry.name

abbrev pub directory_text : List DirectoryEntry → List ℕ
directory_text entries = flat_map entry_bytes entries

abbrev pub has_name : List ℕ → DirectoryEntry → Bool
has_name name entry = bytes_eq entry.name name

-- the object of the file with this name
abbrev pub object_named : List ℕ → List DirectoryEntry → Option ℕ
object_named name entries = option_map (λ entry. entry.object) (find (has_name name) entries)

-- whether an object is that of an entry
abbrev pub is_taken : ℕ → List DirectoryEntry → Bool
is_taken object entries = list_any (λ entry. entry.object == object) entries

-- the entries with one more, which stands behind those whose names are before its own
abbrev pub with_entry : DirectoryEntry → List DirectoryEntry → List DirectoryEntry
with_entry new [] = new ∷ []
with_entry new (entry ∷ entries) =
    if stands_before entry.name new.name then entry ∷ with_entry new entries else new ∷ entry ∷ entries

-- the entries without that of this name
abbrev pub without_name : List ℕ → List DirectoryEntry → List DirectoryEntry
without_name name entries = filter (λ entry. not (has_name name entry)) entries
