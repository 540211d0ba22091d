-- How objects are found in the rows of a changed table.
use Rattle.std.proofs.Common.{◌≡◌, ◌≢◌, ℕ, zero, suc, ◌+◌, ◌<◌, ◌≤◌, Bool, true, false, ◌==◌, not, if◌then◌else◌, List, [], ◌∷◌, ◌++◌, length, Option, Some, None, refl, sym, ap, ◌∙◌, arith}
use Rattle.std.specs.Prelude.{max}
use Rattle.std.specs.List.{All, AllPairs, find, slice_get}
use Rattle.std.specs.Option.{option_map, option_or}
use Rattle.std.proofs.lemmas.Bool.Decides.{Decides-eqb}
use Rattle.std.proofs.lemmas.List.Elements.{All-cons, All-head, All-tail}
use Rattle.family_log.specs.declared.table.Table.{Table}
use Rattle.family_log.specs.declared.table.TableRow.{TableRow}
use Rattle.family_log.specs.Tables.{IsTable, row_of}
use Rattle.file_dataset.specs.Changes.{empty_row, greatest_object, new_object, put_row, without_row}
use Rattle.file_dataset.proofs.EntryLemmas.{other_number, same_number}
use Rattle.file_dataset.proofs.FileLists.{by_space}

-- the row of an object
abbrev pub found_row : (object : ℕ) → List TableRow → Option TableRow
found_row object rows = find (λ row. row.object == object) rows

equal : (a b : ℕ) → (a == b) ≡ true → a ≡ b
equal a b is = (Decides-eqb a b).0 is

-- ---- a row in the place of its object's

pub put_others : (new : TableRow) (rows : List TableRow) (object : ℕ) → object ≢ new.object → found_row object (put_row new rows) ≡ found_row object rows
put_others new [] object apart = refl
put_others new (row ∷ rows) object apart =
    by_space (row.object == new.object)
    (λ own. let same : row.object ≡ new.object = equal row.object new.object own in
    let other : (new.object == object) ≡ false = other_number new.object object (λ e. apart (sym e)) in
    rw (own, other, same, other) (put_others new rows object apart))
    (λ off. by_space (row.object == object) (λ here. rw (off, here) refl) (λ there. rw (off, there) (put_others new rows object apart)))

pub put_own : (new row : TableRow) (rows : List TableRow) → found_row new.object rows ≡ Some row → found_row new.object (put_row new rows) ≡ Some new
put_own new row [] found = absurd (cc)
put_own new row (first ∷ rows) found =
    by_space (first.object == new.object) (λ own. rw (own, same_number new.object) refl) (λ off. rw (off, off) (put_own new row rows (rw off at found)))

-- ---- a row more

pub found_pushed : (object : ℕ) (rows : List TableRow) (last : TableRow)
    → found_row object (rows ++ last ∷ []) ≡ option_or (found_row object rows) (if last.object == object then Some last else None)
found_pushed object [] last = refl
found_pushed object (row ∷ rows) last = by_space (row.object == object) (λ here. rw here refl) (λ off. rw off (found_pushed object rows last))

pub least_greatest : (rows : List TableRow) → All (λ row. row.object ≤ greatest_object rows) rows
least_greatest [] = λ k d within. absurd (omega (arith, within))
least_greatest (row ∷ rows) =
    All-cons (λ (r : TableRow). r.object ≤ max row.object (greatest_object rows)) row rows (omega arith)
    (λ k d within. let below = least_greatest rows k d within in omega (arith, below))

none_found : (object : ℕ) (rows : List TableRow) → All (λ row. row.object < object) rows → found_row object rows ≡ None
none_found object [] all = refl
none_found object (row ∷ rows) all =
    let less : row.object < object = All-head (λ (r : TableRow). r.object < object) row rows all in
    rw (other_number row.object object (λ same. omega (arith, less, same))) (none_found object rows (All-tail (λ (r : TableRow). r.object < object) row rows all))

-- the number of a new object is that of no row, and is 2 at least
pub new_is_free : (table : Table) → row_of (new_object table) table ≡ None
new_is_free table =
    none_found (new_object table) table.rows (λ k d within. let below = least_greatest table.rows k d within in omega (arith, below))

pub new_is_high : (record_size : ℕ) (table : Table) → IsTable record_size table → 2 ≤ new_object table
new_is_high record_size table form = by_rows table.rows form.first
  where
    by_rows : (rows : List TableRow) → option_map (λ row. row.object) (slice_get rows 0) ≡ Some 1 → 2 ≤ greatest_object rows + 1
    by_rows [] first = absurd (cc)
    by_rows (row ∷ rows) first = let one : row.object ≡ 1 = cc in omega (arith, one)

-- the directory's row
pub first_found : (record_size : ℕ) (table : Table) → IsTable record_size table → (row : TableRow) × (row_of 1 table ≡ Some row)
first_found record_size table form = by_rows table.rows form.first
  where
    by_rows : (rows : List TableRow) → option_map (λ row. row.object) (slice_get rows 0) ≡ Some 1 → (row : TableRow) × (found_row 1 rows ≡ Some row)
    by_rows [] first = absurd (cc)
    by_rows (row ∷ rows) first = let one : row.object ≡ 1 = cc in (row, rw one refl)

-- the row that is found is the object's
pub found_is : (object : ℕ) (rows : List TableRow) (row : TableRow) → found_row object rows ≡ Some row → row.object ≡ object
found_is object [] row found = absurd (cc)
found_is object (first ∷ rows) row found =
    by_space (first.object == object)
    (λ here. let same : first ≡ row = (let e = rw here at found in cc) in ap (λ (r : TableRow). r.object) (sym same) ∙ equal first.object object here)
    (λ off. found_is object rows row (rw off at found))

-- ---- without a row

pub without_own : (object : ℕ) (rows : List TableRow) → found_row object (without_row object rows) ≡ None
without_own object [] = refl
without_own object (row ∷ rows) = by_space (row.object == object) (λ here. rw here (without_own object rows)) (λ off. rw (off, off) (without_own object rows))

pub without_others : (gone object : ℕ) (rows : List TableRow) → object ≢ gone → found_row object (without_row gone rows) ≡ found_row object rows
without_others gone object [] apart = refl
without_others gone object (row ∷ rows) apart =
    by_space (row.object == gone)
    (λ own. let same : row.object ≡ gone = equal row.object gone own in
    let other : (row.object == object) ≡ false = other_number row.object object (λ e. apart (sym e ∙ same)) in
    rw (own, other) (without_others gone object rows apart))
    (λ off. by_space (row.object == object) (λ here. rw (off, here) refl) (λ there. rw (off, there) (without_others gone object rows apart)))
