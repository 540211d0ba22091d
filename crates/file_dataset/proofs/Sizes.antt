-- Record sizes, levels, and how many blocks a range has.
use Rattle.std.proofs.Common.{◌≡◌, ℕ, ◌+◌, ◌-◌, ◌*◌, ◌/◌, ◌^◌, ◌<◌, ◌≤◌, ◌==◌, ◌||◌, Bool, true, false, nat_lt, List, [], ◌∷◌, refl, sym, arith, lit≤, Some, if◌then◌else◌, inl, inr, subst}
use Rattle.std.specs.Prelude.{min, IfSome}
use Rattle.std.specs.List.{All, find, list_any}
use Rattle.std.proofs.lemmas.Bool.{cases_lt}
use Rattle.std.proofs.lemmas.Bool.Decides.{nat_tests}
use Rattle.std.proofs.lemmas.List.Elements.{All-cons, All-head, All-tail}
use Rattle.std.proofs.lemmas.Nat.{le-div}
use Rattle.std.proofs.Math.Nat.{div-mul-le_self, mul-le-mul}
use Rattle.family_log.specs.declared.table.Table.{Table}
use Rattle.family_log.specs.declared.table.TableRow.{TableRow}
use Rattle.family_log.specs.Tables.{IsRecordSize, IsRow, IsTable, blocks_of, row_of}
use Rattle.family_log.proofs.LevelLemmas.{levels-computed}
use Rattle.file_blocks.specs.Objects.{IsObject, blocks_for, count_touched}
use Rattle.file_blocks.specs.declared.object.Object.{Object}
use Rattle.file_blocks.proofs.Ranges.{few_blocks}
use Rattle.family_log.specs.declared.entry.Spot.{Spot}
use Rattle.family_log.specs.Model.{FamilyState, IsFamily, table_of}
use Rattle.family_log.proofs.KeptLemmas.{table_of-is}
use Rattle.std.specs.Prelude.{IfOk}
use Rattle.std.proofs.Common.{Option, Result, Ok, Err}
use Rattle.file_dataset.specs.Steps.{IsReadable}

-- ---- record sizes

between_sizes : (low high size : ℕ) → (ks : List ℕ) → All (λ k. (low ≤ 2 ^ k) × (2 ^ k ≤ high)) ks
    → list_any (λ k. size == 2 ^ k) ks ≡ true → (low ≤ size) × (size ≤ high)
between_sizes low high size [] all is = absurd (cc)
between_sizes low high size (k ∷ ks) all is =
    by_test (size == 2 ^ k) refl is (λ rest. between_sizes low high size ks (All-tail (λ (n : ℕ). (low ≤ 2 ^ n) × (2 ^ n ≤ high)) k ks all) rest)
  where
    by_test : (b : Bool) → (size == 2 ^ k) ≡ b → (b || list_any (λ k. size == 2 ^ k) ks) ≡ true
        → (list_any (λ k. size == 2 ^ k) ks ≡ true → (low ≤ size) × (size ≤ high)) → (low ≤ size) × (size ≤ high)
    by_test true same is later =
        let first = All-head (λ (n : ℕ). (low ≤ 2 ^ n) × (2 ^ n ≤ high)) k ks all in
        let e : size ≡ 2 ^ k = grind (arith, nat_tests, same) in
        subst (λ (n : ℕ). (low ≤ n) × (n ≤ high)) (sym e) first
    by_test false other is later = later is

abbrev InSizes : ℕ → Type 0
InSizes k = (512 ≤ 2 ^ k) × (2 ^ k ≤ 131072)

no_sizes : All InSizes []
no_sizes k d within = absurd (omega (arith, within))

pub size_bounds : (size : ℕ) → IsRecordSize size → (512 ≤ size) × (size ≤ 131072)
size_bounds size is =
    between_sizes 512 131072 size (9 ∷ 10 ∷ 11 ∷ 12 ∷ 13 ∷ 14 ∷ 15 ∷ 16 ∷ 17 ∷ [])
    (All-cons InSizes 9 (10 ∷ 11 ∷ 12 ∷ 13 ∷ 14 ∷ 15 ∷ 16 ∷ 17 ∷ []) (lit≤ tt, lit≤ tt) (All-cons InSizes 10 (11 ∷ 12 ∷ 13 ∷ 14 ∷ 15 ∷ 16 ∷ 17 ∷ []) (lit≤ tt, lit≤ tt) (All-cons InSizes 11 (12 ∷ 13 ∷ 14 ∷ 15 ∷ 16 ∷ 17 ∷ []) (lit≤ tt, lit≤ tt) (All-cons InSizes 12 (13 ∷ 14 ∷ 15 ∷ 16 ∷ 17 ∷ []) (lit≤ tt, lit≤ tt) (All-cons InSizes 13 (14 ∷ 15 ∷ 16 ∷ 17 ∷ []) (lit≤ tt, lit≤ tt) (All-cons InSizes 14 (15 ∷ 16 ∷ 17 ∷ []) (lit≤ tt, lit≤ tt) (All-cons InSizes 15 (16 ∷ 17 ∷ []) (lit≤ tt, lit≤ tt) (All-cons InSizes 16 (17 ∷ []) (lit≤ tt, lit≤ tt) (All-cons InSizes 17 [] (lit≤ tt, lit≤ tt) no_sizes))))))))) is

-- ---- levels

pub row_object : (size : ℕ) (row : TableRow) (object : Object) → IsRecordSize size → IsRow size row → object.length ≡ row.length
    → object.tree ≡ row.tree → IsObject size object
row_object size row object sizes is length_is tree_is =
    let few : blocks_for size row.length ≤ 8388608 = few_blocks size row.length (size_bounds size sizes).0 is.bytes in
    record {
      bytes = rw length_is is.bytes;
      levels = rw (length_is, tree_is) ((levels-computed (blocks_of size row.length) row.tree.levels (omega (arith, few))).0 is.levels);
    }

pub few_levels : (size : ℕ) (row : TableRow) → IsRecordSize size → IsRow size row → row.tree.levels ≤ 5
few_levels size row sizes is =
    let few : blocks_for size row.length ≤ 8388608 = few_blocks size row.length (size_bounds size sizes).0 is.bytes in
    elim (cases_lt 5 row.tree.levels) [
      | inl more ↦ absurd (omega (arith, few, is.levels.least 5 (lit≤ tt) more))
      | inr most ↦ omega (arith, most)
    ]

-- ---- ranges

-- a range that is cut at an object's end has no more blocks
pub cut_range : (record_size from len bytes start end : ℕ) → 0 < record_size → start ≡ min from bytes → end ≡ min (from + len) bytes
    → count_touched record_size start end ≤ count_touched record_size from (from + len)
unfolding count_touched
cut_range record_size from len bytes start end some starts ends =
    elim (cases_lt start end) [
      | inl less ↦
          let same : start ≡ from = omega (arith, starts, ends, less) in
          let yes : nat_lt start end ≡ true = grind (arith, less) in
          let more : from < from + len = omega (arith, starts, ends, less) in
          let wide : nat_lt from (from + len) ≡ true = grind (arith, more) in
          let most : (end - 1) / record_size ≤ (from + len - 1) / record_size =
          le-div ((end - 1) / record_size) (from + len - 1) record_size some (omega (arith, div-mul-le_self (end - 1) record_size, ends, less)) in
          rw (yes, wide, same) (omega (arith, most))
      | inr none ↦
          let no_block : nat_lt start end ≡ false = grind (arith, none) in
          rw no_block (omega arith)
    ]

pub calls_bound : (levels few many : ℕ) → levels ≤ 5 → few ≤ many → (levels + 1) * few ≤ 6 * many
calls_bound levels few many low less = let six : levels + 1 ≤ 6 = omega (arith, low) in mul-le-mul six less

-- ---- rows

pub row_found : (record_size object : ℕ) (rows : List TableRow) → All (IsRow record_size) rows
    → IfSome (find (λ (row : TableRow). row.object == object) rows) (IsRow record_size)
row_found record_size object [] all = tt
row_found record_size object (row ∷ rows) all =
    by_test (row.object == object) (row_found record_size object rows (All-tail (IsRow record_size) row rows all))
  where
    by_test : (b : Bool) → IfSome (find (λ (row : TableRow). row.object == object) rows) (IsRow record_size)
        → IfSome (if b then Some row else find (λ (row : TableRow). row.object == object) rows) (IsRow record_size)
    by_test true rest = All-head (IsRow record_size) row rows all
    by_test false rest = rest

pub row_in_form : (table : Table) (object : ℕ) → IsReadable table → IfSome (row_of object table) (IsRow table.block)
row_in_form table object is = row_found table.block object table.rows is.form.rows

pub row_found_form : (table : Table) (row : TableRow) → IsReadable table → row_of row.object table ≡ Some row → IsRow table.block row
row_found_form table row is found = subst (λ (o : Option TableRow). IfSome o (IsRow table.block)) found (row_in_form table row.object is)

pub readable_table : (family : FamilyState) (spot : Spot) (table : Table) → IsFamily family → Some table ≡ table_of spot family.heads
    → IsReadable table
readable_table family spot table kept found =
    let form = table_of-is family.block family.room spot family.heads family.log table kept found in
    record {
      record_size = subst IsRecordSize (sym form.block) kept.record_size;
      form = subst (λ (size : ℕ). IsTable size table) (sym form.block) form;
    }

pub readable_copy : {E : Type 0} (copy : Result Table E) (table : Table) → IfOk copy (λ t. t ≡ table) → IsReadable table → IfOk copy IsReadable
readable_copy (Ok t) table same is = subst IsReadable (sym same) is
readable_copy (Err e) table same is = tt
