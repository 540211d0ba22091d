-- A file that is made or removed: what is asked of the directory, and the rows of the new table.
use Rattle.std.proofs.Common.{◌≡◌, ℕ, ◌==◌, ◌<◌, ◌≤◌, ◌+◌, ◌^◌, Bool, true, false, not, List, [], ◌∷◌, ◌++◌, length, refl, sym, ap, subst, ◌∙◌, arith, Option, Some, None, Result, Ok, Err, is_some, if◌then◌else◌, max, nat_lt, get_or, lit<}
use Rattle.std.specs.List.{All, find, slice_get}
use Rattle.std.specs.Prelude.{OnOk, is_err}
use Rattle.std.specs.Option.{option_and_then, option_map, option_map_or, option_or}
use Rattle.std.proofs.lemmas.Bool.{eq-eqb, eqb-true, ne_eqb}
use Rattle.std.proofs.lemmas.Bool.Decides.{nat_tests}
use Rattle.std.proofs.lemmas.List.Elements.{All-head, All-tail}
use Rattle.std.proofs.lemmas.List.Folds.{find-append}
use Rattle.dataset_tree.specs.ShortNames.{file_fault}
use Rattle.dataset_tree.specs.declared.refusal.Refusal.{Refusal}
use Rattle.dataset_tree.specs.declared.refusal.Refusal.TheVariants as refusals
use Rattle.block_crypt.specs.Blocks.{KeyValue}
use Rattle.family_log.specs.declared.entry.LengthAt.{LengthAt}
use Rattle.family_log.specs.declared.table.Table.{Table}
use Rattle.family_log.specs.declared.table.TableRow.{TableRow}
use Rattle.family_log.specs.Tables.{IsTable, row_of}
use Rattle.file_directory.specs.declared.directory.DirectoryEntry.{DirectoryEntry}
use Rattle.file_directory.specs.Entries.{directory_text, has_name, object_named, with_entry, without_name}
use Rattle.file_directory.specs.Form.{IsDirectory, IsEntry, IsNew, any_object, objects_of}
use Rattle.file_directory.proofs.BoundLemmas.{text_bound}
use Rattle.file_directory.proofs.ChangeLemmas.{filtered_form, free_object, inserted_form, same_form}
use Rattle.file_blocks.specs.WriteFields.{write_to}
use Rattle.file_blocks.specs.Writes.{change_of_write}
use Rattle.file_dataset.specs.declared.limits.TheConstants.{MAX_FILES, MAX_OBJECT}
use Rattle.file_dataset.specs.Changes.{Edit, empty_object, empty_row, greatest_object, made_in, make_fault, new_object, removed_in, without_row}
use Rattle.file_dataset.specs.Reads.{file_row}
use Rattle.file_dataset.proofs.FormLemmas.{below_greatest, by_space, empty_form, less_form, more_form, with_rows}
use Rattle.file_dataset.proofs.LengthLemmas.{HasRows, length_of, other_said}
use Rattle.file_dataset.proofs.SealedLemmas.{edit_in}

none_of : {X : Type 0} (o : Option X) → is_some o ≡ false → o ≡ None
none_of None is = refl
none_of (Some x) is = absurd (cc)

-- ---- the numbers of objects

-- the first object is the directory's
some_greatest : (rows : List TableRow) → option_map (λ row. row.object) (slice_get rows 0) ≡ Some 1 → 1 ≤ greatest_object rows
some_greatest [] first = absurd (cc)
some_greatest (row ∷ rows) first = let one : row.object ≡ 1 = cc in omega (arith, one)

has_directory : (rows more : List TableRow) → option_map (λ row. row.object) (slice_get rows 0) ≡ Some 1
    → is_some (length_of (rows ++ more) 1) ≡ true
has_directory [] more first = absurd (cc)
has_directory (row ∷ rows) more first =
    let one : row.object ≡ 1 = cc in
    let here : (row.object == 1) ≡ true = eq-eqb row.object 1 one in
    rw here refl

-- no object has a greater number
none_above : (rows : List TableRow) (o : ℕ) → greatest_object rows < o → find (λ row. row.object == o) rows ≡ None
none_above [] o above = refl
none_above (row ∷ rows) o above =
    let other : (row.object == o) ≡ false = ne_eqb row.object o (λ e. omega (arith, e, above)) in
    rw other (none_above rows o (omega (arith, above)))

-- ---- a new file

no_fault : (table : Table) (name : List ℕ) (entries : List DirectoryEntry) → make_fault table name entries ≡ None
    → (object_named name entries ≡ None) × (length table.rows ≤ 1024) × (greatest_object table.rows + 1 ≤ 16777216)
no_fault table name entries is =
    by_space (is_some (object_named name entries))
    (λ there. let taken : Some refusals.FileExists ≡ None = rw there at is in absurd (cc))
    (λ free.
    by_space (nat_lt MAX_FILES (length table.rows))
    (λ full. let many : Some (refusals.Full MAX_FILES) ≡ None = rw (free, full) at is in absurd (cc))
    (λ room.
    by_space (nat_lt MAX_OBJECT (new_object table))
    (λ full. let many : Some (refusals.Full MAX_OBJECT) ≡ None = rw (free, room, full) at is in absurd (cc))
    (λ small.
    let few : length table.rows ≤ 1024 = grind (arith, nat_tests, room) in
    let low : greatest_object table.rows + 1 ≤ 16777216 = grind (arith, nat_tests, small) in
    (none_of (object_named name entries) free, few, low))))

module _ (table : Table) (name : List ℕ) (entries : List DirectoryEntry) (k : ℕ) where
  abbrev new_entry : DirectoryEntry
  new_entry = record { object = k + 1; name = name }

  abbrev new_rows : List TableRow
  new_rows = table.rows ++ empty_row (k + 1) ∷ []

  -- a file of this name and of the object behind the greatest can be added
  pub new_is_fresh : (objects : ℕ → Bool) → IsTable table.block table → IsDirectory (objects_of table) entries → make_fault table name entries ≡ None
      → file_fault name ≡ None → k ≡ greatest_object table.rows → objects (k + 1) ≡ true → IsNew objects entries new_entry
  new_is_fresh objects form dir fault named greatest there =
      let free = no_fault table name entries fault in
      let some = some_greatest table.rows form.first in
      let none : find (λ row. row.object == k + 1) table.rows ≡ None = none_above table.rows (k + 1) (omega (arith, greatest)) in
      record {
        entry = record {
          name = named;
          least = omega (arith, greatest, some);
          greatest = (let big : 16777216 < 2 ^ 32 = lit< tt in omega (arith, greatest, free.2, big));
          in_table = there;
        };
        no_name = free.0;
        no_object = free_object (objects_of table) entries (k + 1) dir (rw none refl);
      }

  -- the object has a row of its own
  new_found : (o : ℕ) → find (λ row. row.object == o) new_rows
      ≡ option_or (find (λ row. row.object == o) table.rows) (if k + 1 == o then Some (empty_row (k + 1)) else None)
  new_found o = find-append (λ row. row.object == o) table.rows (empty_row (k + 1) ∷ [])

  new_there : is_some (find (λ row. row.object == k + 1) new_rows) ≡ true
  new_there =
      let here : (k + 1 == k + 1) ≡ true = eq-eqb (k + 1) (k + 1) refl in
      ap is_some (new_found (k + 1)) ∙ rw here (by_found (find (λ row. row.object == k + 1) table.rows))
    where
      by_found : (o : Option TableRow) → is_some (option_or o (Some (empty_row (k + 1)))) ≡ true
      by_found None = refl
      by_found (Some row) = refl

  old_there : (o : ℕ) → is_some (find (λ row. row.object == o) table.rows) ≡ true → is_some (find (λ row. row.object == o) new_rows) ≡ true
  old_there o is = ap is_some (new_found o) ∙ by_found (find (λ row. row.object == o) table.rows) is
    where
      by_found : (found : Option TableRow) → is_some found ≡ true
          → is_some (option_or found (if k + 1 == o then Some (empty_row (k + 1)) else None)) ≡ true
      by_found None is = absurd (cc)
      by_found (Some row) is = refl

  pub new_form : 512 ≤ table.block → IsTable table.block table → make_fault table name entries ≡ None → k ≡ greatest_object table.rows
      → IsTable table.block (with_rows table new_rows)
  new_form wide form fault greatest =
      let free = no_fault table name entries fault in
      more_form table.block table (empty_row (k + 1)) free.1 (omega (arith, greatest)) (empty_form table.block (k + 1) wide (omega (arith, greatest, free.2))) form

  -- the directory's text stays short
  pub new_few : 512 ≤ table.block → IsTable table.block table → IsDirectory (objects_of table) entries → make_fault table name entries ≡ None
      → file_fault name ≡ None → k ≡ greatest_object table.rows → length (directory_text (with_entry new_entry entries)) ≤ 70656
  new_few wide form dir fault named greatest =
      text_bound table.block (with_rows table new_rows) (with_entry new_entry entries) (new_form wide form fault greatest)
      (inserted_form (objects_of (with_rows table new_rows)) entries new_entry
      (same_form (objects_of table) (objects_of (with_rows table new_rows)) entries dir old_there)
      (new_is_fresh (objects_of (with_rows table new_rows)) form dir fault named greatest new_there))

  new_lengths : (o : ℕ) → k ≡ greatest_object table.rows
      → length_of new_rows o ≡ option_map_or (λ l. l) (other_said (Some (record { object = k + 1; length = Some 0 })) o) (length_of table.rows o)
  new_lengths o greatest =
      ap (option_map (λ row. row.length)) (new_found o)
      ∙ by_space (k + 1 == o)
      (λ same.
      let e : k + 1 ≡ o = eqb-true (k + 1) o same in
      let none : find (λ row. row.object == o) table.rows ≡ None = none_above table.rows o (omega (arith, greatest, e)) in
      rw (same, none) refl)
      (λ other. rw other (by_found (find (λ row. row.object == o) table.rows)))
    where
      by_found : (found : Option TableRow) → option_map (λ row. row.length) (option_or found None) ≡ option_map (λ row. row.length) found
      by_found None = refl
      by_found (Some row) = refl

  pub rows_of_make : 512 ≤ table.block → IsTable table.block table → make_fault table name entries ≡ None → k ≡ greatest_object table.rows
      → HasRows table 1 new_rows (Some (record { object = k + 1; length = Some 0 }))
  rows_of_make wide form fault greatest = record {
    form = new_form wide form fault greatest;
    has = has_directory table.rows (empty_row (k + 1) ∷ []) form.first;
    lengths = λ o other. new_lengths o greatest;
  }

  pub make_shape : (key : KeyValue) (held : List (List ℕ)) (after : List DirectoryEntry) → make_fault table name entries ≡ None → k ≡ greatest_object table.rows
      → after ≡ with_entry new_entry entries
      → made_in key held table name entries
      ≡ edit_in 1 new_rows (Some (record { object = k + 1; length = Some 0 })) (change_of_write key held (write_to empty_object table.block 0 (directory_text after)))
  make_shape key held after fault greatest is = rw (fault, is, greatest) refl

-- ---- a file less

named_entry : (objects : ℕ → Bool) (name : List ℕ) (entries : List DirectoryEntry) (object : ℕ) → All (IsEntry objects) entries
    → object_named name entries ≡ Some object → (2 ≤ object) × (objects object ≡ true)
named_entry objects name [] object each is = absurd (cc)
named_entry objects name (entry ∷ entries) object each is =
    by_space (has_name name entry)
    (λ here.
    let found : Some entry.object ≡ Some object = rw here at is in
    let e : entry.object ≡ object = cc in
    let good = All-head (IsEntry objects) entry entries each in
    (subst (λ (n : ℕ). 2 ≤ n) e good.least, subst (λ (n : ℕ). objects n ≡ true) e good.in_table))
    (λ other. named_entry objects name entries object (All-tail (IsEntry objects) entry entries each) (rw other at is))

pub found_object : (object : ℕ) (rows : List TableRow) (row : TableRow) → find (λ r. r.object == object) rows ≡ Some row → row.object ≡ object
found_object object [] row is = absurd (cc)
found_object object (first ∷ rows) row is =
    by_space (first.object == object)
    (λ here.
    let found : Some first ≡ Some row = rw here at is in
    let e : first ≡ row = cc in
    ap (λ (r : TableRow). r.object) (sym e) ∙ eqb-true first.object object here)
    (λ other. found_object object rows row (rw other at is))

none_left : (object : ℕ) (rows : List TableRow) → length_of (without_row object rows) object ≡ None
none_left object [] = refl
none_left object (row ∷ rows) =
    by_space (row.object == object) (λ here. rw here (none_left object rows)) (λ other. rw (other, other) (none_left object rows))

others_left : (object o : ℕ) (rows : List TableRow) → (object == o) ≡ false
    → find (λ row. row.object == o) (without_row object rows) ≡ find (λ row. row.object == o) rows
others_left object o [] apart = refl
others_left object o (row ∷ rows) apart =
    by_space (row.object == object)
    (λ here.
    let e : row.object ≡ object = eqb-true row.object object here in
    let none : (row.object == o) ≡ false = rw e apart in
    rw (here, none) (others_left object o rows apart))
    (λ other. rw other (by_space (row.object == o) (λ same. rw same refl) (λ beside. rw beside (others_left object o rows apart))))

module _ (table : Table) (name : List ℕ) (entries : List DirectoryEntry) (object : ℕ) where
  pub rows_of_remove : IsTable table.block table → IsDirectory (objects_of table) entries → object_named name entries ≡ Some object
      → HasRows table 1 (without_row object table.rows) (Some (record { object = object; length = None }))
  rows_of_remove form dir named =
      let high = (named_entry (objects_of table) name entries object dir.each named).0 in
      record {
        form = less_form table.block table object high form;
        has =
            let apart : (object == 1) ≡ false = ne_eqb object 1 (λ e. omega (arith, e, high)) in
            let stays : find (λ row. row.object == 1) (without_row object table.rows) ≡ find (λ row. row.object == 1) table.rows = others_left object 1 table.rows apart in
            rw stays (first_there table.rows form.first);
        lengths = λ o other. less_lengths o;
      }
    where
      first_there : (rows : List TableRow) → option_map (λ row. row.object) (slice_get rows 0) ≡ Some 1 → is_some (length_of rows 1) ≡ true
      first_there [] first = absurd (cc)
      first_there (row ∷ rows) first =
          let one : row.object ≡ 1 = cc in
          let here : (row.object == 1) ≡ true = eq-eqb row.object 1 one in
          rw here refl

      less_lengths : (o : ℕ) → length_of (without_row object table.rows) o
          ≡ option_map_or (λ l. l) (other_said (Some (record { object = object; length = None })) o) (length_of table.rows o)
      less_lengths o =
          by_space (object == o)
          (λ same. let e : object ≡ o = eqb-true object o same in rw same (subst (λ (n : ℕ). length_of (without_row object table.rows) n ≡ None) e (none_left object table.rows)))
          (λ apart. rw apart (ap (option_map (λ row. row.length)) (others_left object o table.rows apart)))

  pub removed_few : IsTable table.block table → IsDirectory (objects_of table) entries → length (directory_text (without_name name entries)) ≤ 70656
  removed_few form dir =
      text_bound table.block table (without_name name entries) form (filtered_form (objects_of table) (λ entry. not (has_name name entry)) entries dir)

  pub remove_shape : (key : KeyValue) (held : List (List ℕ)) (after : List DirectoryEntry) → IsDirectory (objects_of table) entries
      → object_named name entries ≡ Some object → after ≡ without_name name entries
      → removed_in key held table name entries
      ≡ edit_in 1 (without_row object table.rows) (Some (record { object = object; length = None }))
      (change_of_write key held (write_to empty_object table.block 0 (directory_text after)))
  remove_shape key held after dir named is =
      by_row (row_of object table) refl (named_entry (objects_of table) name entries object dir.each named).1
    where
      by_row : (found : Option TableRow) → row_of object table ≡ found → is_some found ≡ true
          → removed_in key held table name entries
          ≡ edit_in 1 (without_row object table.rows) (Some (record { object = object; length = None }))
          (change_of_write key held (write_to empty_object table.block 0 (directory_text after)))
      by_row None same there = absurd (cc)
      by_row (Some row) same there = let e : row.object ≡ object = found_object object table.rows row same in rw (named, same, e, is) refl

-- ---- what an answer that is no failure says

pub was_ok : {X E : Type 0} {P : Type 0} (result : Result X E) {test : Bool} → test ≡ is_err result → test ≡ false → OnOk result P → P
was_ok (Ok x) same quiet is = is
was_ok (Err e) same quiet is = absurd (cc)
