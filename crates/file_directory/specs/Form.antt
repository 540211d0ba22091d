-- When entries are a directory of a table.
use Rattle.std.specs.Prelude.{ℕ, ◌≡◌, ◌≢◌, ◌<◌, ◌≤◌, ◌^◌, Bool, true, false, List, is_some, None}
use Rattle.std.specs.List.{All, AllPairs}
use Rattle.dataset_tree.specs.ShortNames.{file_fault}
use Rattle.family_log.specs.declared.table.Table.{Table}
use Rattle.family_log.specs.Tables.{row_of}
use Rattle.file_directory.specs.declared.directory.DirectoryEntry.{DirectoryEntry}
use Rattle.file_directory.specs.Entries.{stands_before, object_named, is_taken}

-- which objects a table has
abbrev pub objects_of : Table → ℕ → Bool
objects_of table object = is_some (row_of object table)

-- any object, of whatever table
abbrev pub any_object : ℕ → Bool
any_object object = true

-- an entry names a file in form, and its object is none of the directory's own and one of the table's
pub record IsEntry (objects : ℕ → Bool) (entry : DirectoryEntry) : Type 0 where
  pub name : file_fault entry.name ≡ None
  pub least : 2 ≤ entry.object
  pub greatest : entry.object < 2 ^ 32
  pub in_table : objects entry.object ≡ true

-- each entry is in form, the names rise in byte order, and no two entries have one object
pub record IsDirectory (objects : ℕ → Bool) (entries : List DirectoryEntry) : Type 0 where
  pub each : All (IsEntry objects) entries
  pub rising : AllPairs (λ earlier later. stands_before earlier.name later.name ≡ true) entries
  pub apart : AllPairs (λ earlier later. earlier.object ≢ later.object) entries

-- an entry can be added: it is in form, and no entry has its name or its object
pub record IsNew (objects : ℕ → Bool) (entries : List DirectoryEntry) (new : DirectoryEntry) : Type 0 where
  pub entry : IsEntry objects new
  pub no_name : object_named new.name entries ≡ None
  pub no_object : is_taken new.object entries ≡ false
