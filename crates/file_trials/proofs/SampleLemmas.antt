-- The table and the entry of the sampled family.
use Rattle.std.proofs.Common.{◌≡◌, ℕ, ◌<◌, ◌≤◌, Bool, true, false, List, [], ◌∷◌, refl, ap, ◌∙◌, arith, lit≤, Result, Ok, Err, if◌then◌else◌}
use Rattle.std.specs.Prelude.{◌==◌, is_err}
use Rattle.std.proofs.lemmas.List.Elements.{All-cons}
use Rattle.std.proofs.lemmas.List.Kept.{AllPairs-cons}
use Rattle.family_log.specs.declared.table.Table.{Table}
use Rattle.family_log.specs.declared.table.TableRow.{TableRow}
use Rattle.family_log.specs.declared.entry.HeadChange.{HeadChange}
use Rattle.family_log.specs.Tables.{IsRow, IsTable, length_in}
use Rattle.family_log.specs.Log.{head_spot, last_length, newest}
use Rattle.family_log.specs.Model.{FamilyState}
use Rattle.family_log.specs.Calls.{IsChangeOf, new_place}
use Rattle.file_trials.specs.Sample.{sample_row, sample_table, sample_entry, fresh_entry}

by_space : {P : Type 0} (b : Bool) → (b ≡ true → P) → (b ≡ false → P) → P
by_space true yes_case no_case = yes_case refl
by_space false yes_case no_case = no_case refl

sample_row-is_row : (object bytes addr : ℕ) (mac : List ℕ) → object ≤ 3 → bytes ≤ 1030 → IsRow 512 (sample_row object bytes addr mac)
sample_row-is_row object bytes addr mac few small = record {
  object = omega (arith, few);
  bytes = omega (arith, small);
  levels = record { positive = lit≤ tt; enough = omega (arith, small); least = λ fewer above below. absurd (omega (arith, above, below)) };
}

abbrev Rises : TableRow → TableRow → Type 0
Rises earlier later = earlier.object < later.object

module _ (d f s portable : List ℕ) where
  first : TableRow
  first = sample_row 1 12 4 d

  second : TableRow
  second = sample_row 2 1030 5 f

  third : TableRow
  third = sample_row 3 6 6 s

  sample_table-is_table : IsTable 512 (sample_table d f s portable)
  unfolding first second third
  sample_table-is_table = record {
    block = refl;
    count = lit≤ tt;
    first = refl;
    rising =
        AllPairs-cons Rises first (second ∷ third ∷ [])
        (All-cons (Rises first) second (third ∷ []) (lit≤ tt) (All-cons (Rises first) third [] (lit≤ tt) (λ k e within. absurd (omega arith))))
        (AllPairs-cons Rises second (third ∷ []) (All-cons (Rises second) third [] (lit≤ tt) (λ k e within. absurd (omega arith)))
        (AllPairs-cons Rises third [] (λ k e within. absurd (omega arith)) (λ i j e before within. absurd (omega arith))));
    rows =
        All-cons (IsRow 512) first (second ∷ third ∷ []) (sample_row-is_row 1 12 4 d (lit≤ tt) (lit≤ tt))
        (All-cons (IsRow 512) second (third ∷ []) (sample_row-is_row 2 1030 5 f (lit≤ tt) (lit≤ tt))
        (All-cons (IsRow 512) third [] (sample_row-is_row 3 6 6 s (lit≤ tt) (lit≤ tt)) (λ k e within. absurd (omega arith))));
  }

  sample_length : (object : ℕ) → length_in (sample_table d f s portable) object ≡ last_length (fresh_entry ∷ sample_entry ∷ []) (head_spot 1) object
  unfolding newest
  sample_length object =
      by_space (1 == object) (λ one. rw one refl) (λ other.
      by_space (2 == object) (λ two. rw (other, two) refl) (λ more.
      by_space (3 == object) (λ three. rw (other, more, three) refl) (λ none. rw (other, more, none) refl)))

pub sample_change : (family : FamilyState) (d f s portable : List ℕ) (change : HeadChange) → family.block ≡ 512
    → family.log ≡ fresh_entry ∷ [] → change.table ≡ sample_table d f s portable → change.entry ≡ sample_entry
    → IsChangeOf family 1 change
sample_change family d f s portable change block log table entry = record {
  of_head = rw entry refl;
  table = rw (block, table) (sample_table-is_table d f s portable);
  lengths = λ object. rw (table, log, entry) (sample_length d f s portable object);
}
