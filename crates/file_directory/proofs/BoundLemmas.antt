-- How long a directory and its text can be.
use Rattle.std.proofs.Common.{◌≡◌, ◌≢◌, ℕ, suc, ◌+◌, ◌*◌, ◌≤◌, ◌==◌, Bool, true, false, not, cond, min, List, [], ◌∷◌, length, get_or, Some, None, is_some, refl, ap, arith, subst}
use Rattle.std.specs.List.{All, AllPairs, filter, find, prefix_len, slice_get}
use Rattle.std.specs.Option.{option_map}
use Rattle.std.proofs.lemmas.Bool.Decides.{nat_tests}
use Rattle.std.proofs.lemmas.List.{length-append}
use Rattle.std.proofs.lemmas.List.Elements.{All-head, All-tail, All-filter, filter_passes}
use Rattle.std.proofs.lemmas.List.Kept.{AllPairs-filter}
use Rattle.dataset_tree.specs.ShortNames.{is_file_byte, short_fault_at}
use Rattle.family_log.specs.declared.table.Table.{Table}
use Rattle.family_log.specs.declared.table.TableRow.{TableRow}
use Rattle.family_log.specs.Tables.{IsTable}
use Rattle.file_directory.specs.declared.directory.DirectoryEntry.{DirectoryEntry}
use Rattle.file_directory.specs.Entries.{entry_bytes, directory_text}
use Rattle.file_directory.specs.Form.{IsEntry, IsDirectory, objects_of}
use Rattle.file_directory.proofs.OrderLemmas.{pairs-head, pairs-tail}
use Rattle.file_directory.proofs.FormLemmas.{Differs}
use Rattle.file_directory.proofs.TextLemmas.{size_of_entry}

abbrev has_other : ℕ → DirectoryEntry → Bool
has_other object entry = not (entry.object == object)

all_left : (object : ℕ) (entries : List DirectoryEntry) → All (λ entry. object ≢ entry.object) entries
    → length (filter (has_other object) entries) ≡ length entries
all_left object [] all = refl
all_left object (entry ∷ entries) all =
    let other : object ≢ entry.object = All-head (λ (e : DirectoryEntry). object ≢ e.object) entry entries all in
    let test : (entry.object == object) ≡ false = grind (arith, nat_tests) in
    rw test (ap suc (all_left object entries (All-tail (λ (e : DirectoryEntry). object ≢ e.object) entry entries all)))

-- at most one entry has an object
one_less : (object : ℕ) (entries : List DirectoryEntry) → AllPairs Differs entries
    → length entries ≤ 1 + length (filter (has_other object) entries)
one_less object [] pairs = omega arith
one_less object (entry ∷ entries) pairs = either (entry.object == object) refl (one_less object entries (pairs-tail Differs entry entries pairs))
  where
    either : (b : Bool) → (entry.object == object) ≡ b → length entries ≤ 1 + length (filter (has_other object) entries)
        → suc (length entries) ≤ 1 + length (cond (not b) (entry ∷ filter (has_other object) entries) (filter (has_other object) entries))
    either true is rest =
        let same : entry.object ≡ object = grind (arith, nat_tests) in
        let left = all_left object entries (subst (λ (n : ℕ). All (λ (e : DirectoryEntry). n ≢ e.object) entries) same (pairs-head Differs entry entries pairs)) in
        omega arith
    either false is rest = omega arith

abbrev in_rows : List TableRow → ℕ → Bool
in_rows rows object = is_some (find (λ row. row.object == object) rows)

in_rest : (row : TableRow) (rows : List TableRow) (object : ℕ) → in_rows (row ∷ rows) object ≡ true → (row.object == object) ≡ false
    → in_rows rows object ≡ true
in_rest row rows object found other = rw other at found

turned_round : (a b : ℕ) → not (a == b) ≡ true → (b == a) ≡ false
turned_round a b h = grind (arith, nat_tests)

-- entries of different objects, all of them among these rows, are no more than the rows
no_more_than_rows : (rows : List TableRow) (entries : List DirectoryEntry) → AllPairs Differs entries
    → All (λ entry. in_rows rows entry.object ≡ true) entries → length entries ≤ length rows
no_more_than_rows [] [] pairs found = omega arith
no_more_than_rows [] (entry ∷ entries) pairs found = absurd (cc (All-head (λ (e : DirectoryEntry). in_rows [] e.object ≡ true) entry entries found))
no_more_than_rows (row ∷ rows) entries pairs found =
    let test : DirectoryEntry → Bool = has_other row.object in
    let left : List DirectoryEntry = filter test entries in
    let found_left : All (λ e. in_rows (row ∷ rows) e.object ≡ true) left = All-filter test (λ (e : DirectoryEntry). in_rows (row ∷ rows) e.object ≡ true) entries found in
    let passes : All (λ e. test e ≡ true) left = filter_passes test entries in
    let rest = no_more_than_rows rows left (AllPairs-filter Differs test entries pairs)
    (λ k d within. in_rest row rows (get_or left k d).object (found_left k d within) (turned_round (get_or left k d).object row.object (passes k d within))) in
    omega (arith, one_less row.object entries pairs)

first_is : (row : TableRow) (rows : List TableRow) → option_map (λ (r : TableRow). r.object) (Some row) ≡ Some 1 → row.object ≡ 1
first_is row rows is = cc

not_first : (first object : ℕ) → first ≡ 1 → 2 ≤ object → (first == object) ≡ false
not_first first object is least = grind (arith, nat_tests)

rows_bound : (rows : List TableRow) (entries : List DirectoryEntry) → option_map (λ (r : TableRow). r.object) (slice_get rows 0) ≡ Some 1
    → length rows ≤ 1025 → AllPairs Differs entries → All (λ entry. 2 ≤ entry.object) entries
    → All (λ entry. in_rows rows entry.object ≡ true) entries → length entries ≤ 1024
rows_bound [] entries first count pairs least found = absurd (cc)
rows_bound (row ∷ rows) entries first count pairs least found =
    let rest = no_more_than_rows rows entries pairs (λ k d within. in_rest row rows (get_or entries k d).object (found k d within)
    (not_first row.object (get_or entries k d).object (first_is row rows first) (least k d within))) in
    omega arith

pub entries_bound : (record_size : ℕ) (table : Table) (entries : List DirectoryEntry) → IsTable record_size table
    → IsDirectory (objects_of table) entries → length entries ≤ 1024
entries_bound record_size table entries is form =
    rows_bound table.rows entries is.first is.count form.apart (λ k d within. (form.each k d within).least) (λ k d within. (form.each k d within).in_table)

-- ---- bytes

in_form_is_short : (name : List ℕ) (good : ℕ) → short_fault_at name (min 64 good) ≡ None → length name ≤ 64
in_form_is_short name good none = grind (arith, nat_tests)

pub text_bound_each : (objects : ℕ → Bool) (entries : List DirectoryEntry) → All (IsEntry objects) entries → length (directory_text entries) ≤ 69 * length entries
text_bound_each objects [] all = omega arith
text_bound_each objects (entry ∷ entries) all =
    let good : IsEntry objects entry = All-head (IsEntry objects) entry entries all in
    let short : length entry.name ≤ 64 = in_form_is_short entry.name (prefix_len is_file_byte entry.name) good.name in
    let rest = text_bound_each objects entries (All-tail (IsEntry objects) entry entries all) in
    omega (arith, length-append (entry_bytes entry) (directory_text entries), size_of_entry entry)

pub text_bound : (record_size : ℕ) (table : Table) (entries : List DirectoryEntry) → IsTable record_size table
    → IsDirectory (objects_of table) entries → length (directory_text entries) ≤ 70656
text_bound record_size table entries is form =
    omega (arith, entries_bound record_size table entries is form, text_bound_each (objects_of table) entries form.each)
