-- How a directory's text is read, and where it is wrong.
use Rattle.std.specs.Prelude.{ℕ, zero, suc, ◌≡◌, ◌<◌, ◌≤◌, ◌+◌, ◌&&◌, nat_le, Bool, not, if◌then◌else◌, List, [], ◌∷◌, ◌++◌, length, take, drop, slice_index, is_none, Option, Some, None, Result, Ok, Err}
use Rattle.std.specs.List.{list_all}
use Rattle.std.specs.Option.{option_map_or}
use Rattle.dataset_tree.specs.declared.refusal.Refusal.{Refusal}
use Rattle.dataset_tree.specs.declared.refusal.Refusal.TheVariants.{BadDirectory}
use Rattle.dataset_tree.specs.ShortNames.{file_fault}
use Rattle.byte_fields.specs.LittleEndian.{little_endian_value}
use Rattle.file_directory.specs.declared.directory.DirectoryEntry.{DirectoryEntry}
use Rattle.file_directory.specs.Entries.{stands_before, directory_text, is_taken}
use Rattle.file_directory.specs.Form.{IsDirectory}

-- how many bytes the entry at a text's front has, by the length of its name
abbrev pub front_size : List ℕ → ℕ
front_size text = 5 + slice_index text 4

-- the entry at a text's front, where it is whole
abbrev pub front_entry : List ℕ → DirectoryEntry
front_entry text = record {
  object = little_endian_value (take 4 text);
  name = take (slice_index text 4) (drop 5 text);
}

-- whether an object isn't the directory's own, is in the table, and is that of none of these entries
abbrev pub is_free : (objects : ℕ → Bool) → List DirectoryEntry → ℕ → Bool
is_free objects before object = nat_le 2 object && objects object && not (is_taken object before)

-- whether a name stands above those of these entries
abbrev pub is_above : List DirectoryEntry → List ℕ → Bool
is_above before name = list_all (λ entry. stands_before entry.name name) before

-- whether an entry can stand behind these
abbrev pub may_follow : (objects : ℕ → Bool) → List DirectoryEntry → DirectoryEntry → Bool
may_follow objects before entry =
    is_free objects before entry.object && is_above before entry.name && is_none (file_fault entry.name)

-- the entry at a text's front that stands behind these, none where it is wrong
abbrev pub next_entry : (objects : ℕ → Bool) → List DirectoryEntry → (text : List ℕ) → Option DirectoryEntry
next_entry objects before text =
    if nat_le (front_size text) (length text) && may_follow objects before (front_entry text)
    then Some (front_entry text) else None

-- what is read of a text behind these entries, by as many entries as `most` at most: all entries, or the offset
-- of the first one that is wrong
unfoldable pub read_behind : (objects : ℕ → Bool) → (most : ℕ) → List DirectoryEntry → (text : List ℕ)
    → Result (List DirectoryEntry) ℕ
read_behind objects zero before text = Ok before
read_behind objects (suc most) before [] = Ok before
read_behind objects (suc most) before (b ∷ bs) =
    option_map_or (λ entry. read_behind objects most (before ++ entry ∷ []) (drop (front_size (b ∷ bs)) (b ∷ bs)))
    (next_entry objects before (b ∷ bs)) (Err (length (directory_text before)))

-- the entries of a text, or the offset of the first one that is wrong; it has fewer entries than bytes
abbrev pub read_directory : (objects : ℕ → Bool) → (text : List ℕ) → Result (List DirectoryEntry) ℕ
read_directory objects text = read_behind objects (length text) [] text

-- what the reading of a directory answers
abbrev pub directory_answer : Result (List DirectoryEntry) ℕ → Result (List DirectoryEntry) Refusal
directory_answer (Ok entries) = Ok entries
directory_answer (Err at) = Err (BadDirectory at)

-- up to this offset the text is a directory in form, and no directory in form goes further
pub record IsFirstWrong (objects : ℕ → Bool) (text : List ℕ) (at : ℕ) : Type 0 where
  pub front : List DirectoryEntry
  pub in_form : IsDirectory objects front
  pub front_is : directory_text front ≡ take at text
  pub within : at < length text
  pub longest : (longer : List DirectoryEntry) (rest : List ℕ) → IsDirectory objects longer
      → text ≡ directory_text longer ++ rest → length (directory_text longer) ≤ at
