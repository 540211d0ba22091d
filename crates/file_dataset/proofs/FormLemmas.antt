-- The form of a table with new rows.
use Rattle.std.proofs.Common.{◌≡◌, ℕ, zero, suc, ◌+◌, ◌<◌, ◌≤◌, ◌==◌, ◌^◌, Bool, true, false, not, List, [], ◌∷◌, ◌++◌, length, map, get_or, refl, sym, ap, subst, ◌∙◌, arith, Option, Some, None, if◌then◌else◌, max, lit≤, length-append}
use Rattle.std.specs.List.{All, AllPairs, filter, find, slice_get}
use Rattle.std.specs.Option.{option_map}
use Rattle.std.proofs.lemmas.Bool.{eqb-true, ne_eqb}
use Rattle.std.proofs.lemmas.List.{get_or-map, length-map}
use Rattle.std.proofs.lemmas.List.Elements.{All-append, All-cons, All-filter, All-map, All-nil}
use Rattle.std.proofs.lemmas.List.Kept.{AllPairs-filter}
use Rattle.std.proofs.lemmas.List.Quantifiers.{all_pairs_push}
use Rattle.family_log.specs.declared.table.Table.{Table}
use Rattle.family_log.specs.declared.table.TableRow.{TableRow}
use Rattle.family_log.specs.Tables.{AreLevels, IsRow, IsTable, blocks_of}
use Rattle.family_log.proofs.LevelLemmas.{levels-computed}
use Rattle.file_blocks.specs.declared.object.Object.{Object}
use Rattle.file_blocks.specs.Objects.{IsObject}
use Rattle.file_blocks.proofs.Passing.{blocks_none}
use Rattle.file_blocks.proofs.Ranges.{few_blocks}
use Rattle.file_dataset.specs.Changes.{empty_row, greatest_object, new_object, put_row, row_with, without_row}

pub by_space : {P : Type 0} (b : Bool) → (b ≡ true → P) → (b ≡ false → P) → P
by_space true yes_case no_case = yes_case refl
by_space false yes_case no_case = no_case refl

abbrev Rises : TableRow → TableRow → Type 0
Rises earlier later = earlier.object < later.object

abbrev pub with_rows : Table → List TableRow → Table
with_rows table rows = record table { rows = rows }

-- ---- a row that is put in the place of its object's

abbrev put_in : TableRow → TableRow → TableRow
put_in new row = if row.object == new.object then new else row

put_object : (new row : TableRow) → (put_in new row).object ≡ row.object
put_object new row =
    by_space (row.object == new.object)
    (λ same. let e : row.object ≡ new.object = eqb-true row.object new.object same in rw same (sym e))
    (λ other. rw other refl)

put_rising : (new : TableRow) (rows : List TableRow) → AllPairs Rises rows → AllPairs Rises (put_row new rows)
put_rising new rows rising i j d before within =
    let few : j < length rows = rw (sym (length-map rows (put_in new))) within in
    let earlier : get_or (put_row new rows) i d ≡ put_in new (get_or rows i d) = get_or-map (put_in new) rows i d d (omega (arith, before, few)) in
    let later : get_or (put_row new rows) j d ≡ put_in new (get_or rows j d) = get_or-map (put_in new) rows j d d few in
    rw (earlier, later, put_object new (get_or rows i d), put_object new (get_or rows j d)) (rising i j d before few)

put_first : (new : TableRow) (rows : List TableRow) → option_map (λ row. row.object) (slice_get (put_row new rows) 0)
    ≡ option_map (λ row. row.object) (slice_get rows 0)
put_first new [] = refl
put_first new (row ∷ rows) = ap Some (put_object new row)

-- the new row has the form, but for its number, which is that of a row
put_rows : (size : ℕ) (new : TableRow) (rows : List TableRow) → new.length ≤ 4294967296 → AreLevels (blocks_of size new.length) new.tree.levels
    → All (IsRow size) rows → All (IsRow size) (put_row new rows)
put_rows size new rows bytes levels each = All-map (IsRow size) (put_in new) rows (λ k d within. in_form (get_or rows k d) (each k d within))
  where
    in_form : (row : TableRow) → IsRow size row → IsRow size (put_in new row)
    in_form row is =
        by_space (row.object == new.object)
        (λ same.
        let e : row.object ≡ new.object = eqb-true row.object new.object same in
        rw same (record { object = subst (λ (n : ℕ). n ≤ 16777216) e is.object; bytes = bytes; levels = levels }))
        (λ other. rw other is)

pub put_form : (size : ℕ) (table : Table) (rows : List TableRow) (object : ℕ) (made : Object) → 512 ≤ size → IsObject size made
    → IsTable size (with_rows table rows) → IsTable size (with_rows table (put_row (row_with object made) rows))
put_form size table rows object made wide is form =
    let few = few_blocks size made.length wide is.bytes in
    record {
      block = form.block;
      count = rw (length-map rows (put_in (row_with object made))) form.count;
      first = put_first (row_with object made) rows ∙ form.first;
      rising = put_rising (row_with object made) rows form.rising;
      rows = put_rows size (row_with object made) rows is.bytes
          ((levels-computed (blocks_of size made.length) made.tree.levels (omega (arith, few))).1 is.levels) form.rows;
    }

-- ---- a row more

pub below_greatest : (rows : List TableRow) (k : ℕ) (d : TableRow) → k < length rows → (get_or rows k d).object ≤ greatest_object rows
below_greatest [] k d within = absurd (omega (arith, within))
below_greatest (row ∷ rows) zero d within = omega arith
below_greatest (row ∷ rows) (suc k) d within = let rest = below_greatest rows k d (omega (arith, within)) in omega (arith, rest)

first_behind : (rows : List TableRow) (row : TableRow) → option_map (λ row. row.object) (slice_get rows 0) ≡ Some 1
    → option_map (λ row. row.object) (slice_get (rows ++ row ∷ []) 0) ≡ Some 1
first_behind [] row is = absurd (cc)
first_behind (first ∷ rows) row is = is

pub more_form : (size : ℕ) (table : Table) (row : TableRow) → length table.rows ≤ 1024 → greatest_object table.rows < row.object → IsRow size row
    → IsTable size table → IsTable size (with_rows table (table.rows ++ row ∷ []))
more_form size table row few above is form = record {
  block = form.block;
  count = let long = length-append table.rows (row ∷ []) in omega (arith, long, few);
  first = first_behind table.rows row form.first;
  rising = all_pairs_push Rises table.rows row form.rising
      (λ k d within. let low = below_greatest table.rows k d within in omega (arith, low, above));
  rows = All-append (IsRow size) table.rows (row ∷ []) form.rows (All-cons (IsRow size) row [] is (All-nil (IsRow size)));
}

pub empty_form : (size object : ℕ) → 512 ≤ size → object ≤ 16777216 → IsRow size (empty_row object)
empty_form size object wide few = record {
  object = few;
  bytes = lit≤ tt;
  levels =
      let none : blocks_of size 0 ≡ 0 = blocks_none size (omega (arith, wide)) in
      record { positive = lit≤ tt; enough = rw none (lit≤ tt); least = λ fewer above below. absurd (omega arith) };
}

-- ---- a row less

first_without : (object : ℕ) (rows : List TableRow) → 2 ≤ object → option_map (λ row. row.object) (slice_get rows 0) ≡ Some 1
    → option_map (λ row. row.object) (slice_get (without_row object rows) 0) ≡ Some 1
first_without object [] high is = absurd (cc)
first_without object (row ∷ rows) high is =
    let one : row.object ≡ 1 = cc in
    let other : (row.object == object) ≡ false = ne_eqb row.object object (λ e. omega (arith, e, one, high)) in
    rw other is

fewer : (object : ℕ) (rows : List TableRow) → length (without_row object rows) ≤ length rows
fewer object [] = omega arith
fewer object (row ∷ rows) =
    let rest = fewer object rows in
    by_space (row.object == object) (λ same. rw same (omega (arith, rest))) (λ other. rw other (omega (arith, rest)))

pub less_form : (size : ℕ) (table : Table) (object : ℕ) → 2 ≤ object → IsTable size table → IsTable size (with_rows table (without_row object table.rows))
less_form size table object high form = record {
  block = form.block;
  count = let less = fewer object table.rows in omega (arith, less, form.count);
  first = first_without object table.rows high form.first;
  rising = AllPairs-filter Rises (λ row. not (row.object == object)) table.rows form.rising;
  rows = All-filter (λ row. not (row.object == object)) (IsRow size) table.rows form.rows;
}
