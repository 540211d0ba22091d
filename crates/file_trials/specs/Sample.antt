-- A directory of two files, for trials: `a` is object 2 and has 1030 bytes, `b` is object 3 and has 6.
use Rattle.std.specs.Prelude.{ℕ, List, [], ◌∷◌, Some}
use Rattle.family_log.specs.declared.table.Table.{Table}
use Rattle.family_log.specs.declared.table.TableRow.{TableRow}
use Rattle.family_log.specs.declared.entry.LogEntry.{LogEntry}
use Rattle.family_log.specs.declared.entry.LogEntry.TheVariants.{Make, Receive}

abbrev pub sample_row : (object bytes addr : ℕ) → (mac : List ℕ) → TableRow
sample_row object bytes addr mac = record {
  object = object;
  length = bytes;
  tree = record { levels = 1; top = Some (record { addr = addr; mac = mac }) };
}

abbrev pub sample_table : (directory first second portable : List ℕ) → Table
sample_table directory first second portable = record {
  block = 512;
  rows = sample_row 1 12 4 directory ∷ sample_row 2 1030 5 first ∷ sample_row 3 6 6 second ∷ [];
  portable = portable;
  guid = 0;
}

abbrev pub sample_entry : LogEntry
sample_entry =
    Receive 1
    (record { object = 1; length = Some 12 } ∷ record { object = 2; length = Some 1030 }
    ∷ record { object = 3; length = Some 6 } ∷ []) []

abbrev pub fresh_entry : LogEntry
fresh_entry = Make 1 (record { object = 1; length = Some 0 } ∷ []) []
