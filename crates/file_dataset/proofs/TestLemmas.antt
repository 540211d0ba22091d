-- The test of rows one after another, over plain variables.
use Rattle.std.proofs.Common.{◌≡◌, ℕ, zero, suc, ◌+◌, ◌*◌, ◌<◌, ◌≤◌, List, [], ◌∷◌, length, drop, get_or, refl, ap, subst, ◌∙◌, arith, Option, Some, None, Result, Ok, Err}
use Rattle.std.specs.Prelude.{IfSome}
use Rattle.std.specs.Result.{result_map_both}
use Rattle.dataset_tree.specs.declared.refusal.Refusal.{Refusal}
use Rattle.block_crypt.specs.Blocks.{KeyValue}
use Rattle.shelf_store.specs.ShelfState.{ShelfState}
use Rattle.indirect_macs.proofs.Reading.{both}
use Rattle.family_log.specs.declared.table.TableRow.{TableRow}
use Rattle.file_blocks.specs.Objects.{blocks_for}
use Rattle.file_dataset.specs.declared.halt.Halt.{Halt}
use Rattle.file_dataset.specs.declared.halt.Halt.TheVariants as halts
use Rattle.family_log.specs.declared.table.Table.{Table}
use Rattle.file_directory.specs.declared.directory.DirectoryEntry.{DirectoryEntry}
use Rattle.file_dataset.specs.Calls.{all_blocks, blocks_in, directory_blocks}
use Rattle.file_dataset.specs.Reads.{held_directory, plain_count, tested_row, tested_rows}
use Rattle.file_dataset.specs.Steps.{Finds, Walked}
use Rattle.file_dataset.proofs.StepLemmas.{walked_none, walked_more, walked_ok, walked_wide, walked_before}

-- a count with more behind it
abbrev counted_on : ℕ → Result ℕ Refusal → Result ℕ Refusal
counted_on count rest = result_map_both (λ more. count + more) (λ why. why) rest

-- so many of the rows are tested, and these are left
pub record TestedSoFar (key : KeyValue) (record_size : ℕ) (rows left : List TableRow) (done count : ℕ)
    (s t : ShelfState) : Type 0 where
  pub blocks : ℕ
  pub walked : Walked {X = Unit {0}} blocks (Ok tt) s t
  pub so_far : blocks + blocks_in record_size left ≡ blocks_in record_size rows
  pub bound : count ≤ 8388608 * done
  pub told : IfSome s.held (λ held. tested_rows key held record_size rows
      ≡ counted_on count (tested_rows key held record_size left))

pub for_each : (held : Option (List (List ℕ))) {P : List (List ℕ) → Type 0} → ((h : List (List ℕ)) → P h) → IfSome held P
for_each None each = tt
for_each (Some h) each = each h

none_yet : (rest : Result ℕ Refusal) → rest ≡ counted_on 0 rest
none_yet (Ok more) = let e : 0 + more ≡ more = omega arith in rw e refl
none_yet (Err why) = refl

one_more : (count more : ℕ) (rest : Result ℕ Refusal) → counted_on count (counted_on more rest) ≡ counted_on (count + more) rest
one_more count more (Ok n) = let e : count + (more + n) ≡ count + more + n = omega arith in rw e refl
one_more count more (Err why) = refl

pub tests_begun : (key : KeyValue) (record_size : ℕ) (rows : List TableRow) (s : ShelfState)
    → TestedSoFar key record_size rows (drop 0 rows) 0 0 s s
tests_begun key record_size rows s =
    record {
      blocks = 0;
      walked = walked_none 0 tt s;
      so_far = omega arith;
      bound = omega arith;
      told = for_each s.held (λ held. none_yet (tested_rows key held record_size rows));
    }

pub tests_more : (key : KeyValue) (record_size : ℕ) (rows rest : List TableRow) (row : TableRow) (done count more : ℕ) (s t u : ShelfState)
    → TestedSoFar key record_size rows (row ∷ rest) done count s t → more ≤ 8388608
    → Walked (blocks_for record_size row.length) (Ok more) t u
    → IfSome t.held (λ held. Finds (λ n. n) (tested_row key held record_size row) (Ok more))
    → TestedSoFar key record_size rows rest (done + 1) (count + more) s u
tests_more key record_size rows rest row done count more s t u so few walked told =
    record {
      blocks = so.blocks + blocks_for record_size row.length;
      walked = walked_more so.blocks (blocks_for record_size row.length) tt _ s t u so.walked (walked_ok _ more tt t u walked);
      so_far = omega (arith, so.so_far);
      bound = omega (arith, so.bound, few);
      told =
          both s.held so.told (walked_before so.blocks _ s t _ so.walked told)
          (λ held before finds. before ∙ (rw finds (one_more count more (tested_rows key held record_size rest))));
    }

pub tests_stop : (key : KeyValue) (record_size : ℕ) (rows rest : List TableRow) (row : TableRow) (done count : ℕ) (halt : Halt) (s t u : ShelfState)
    → TestedSoFar key record_size rows (row ∷ rest) done count s t
    → Walked {X = ℕ} (blocks_for record_size row.length) (Err halt) t u
    → Walked {X = ℕ} (blocks_in record_size rows) (Err halt) s u
tests_stop key record_size rows rest row done count halt s t u so walked =
    walked_wide (so.blocks + blocks_for record_size row.length) (blocks_in record_size rows) _ s u (omega (arith, so.so_far))
    (walked_more so.blocks (blocks_for record_size row.length) tt _ s t u so.walked walked)

pub tests_stop_told : (key : KeyValue) (record_size : ℕ) (rows rest : List TableRow) (row : TableRow) (done count : ℕ) (halt : Halt) (s t : ShelfState)
    → TestedSoFar key record_size rows (row ∷ rest) done count s t
    → IfSome t.held (λ held. Finds {X = ℕ} (λ n. n) (tested_row key held record_size row) (Err halt))
    → IfSome s.held (λ held. Finds {X = ℕ} (λ n. n) (tested_rows key held record_size rows) (Err halt))
tests_stop_told key record_size rows rest row done count halt s t so told =
    both s.held so.told (walked_before so.blocks _ s t _ so.walked told) (λ held before finds. by_halt halt held before finds)
  where
    by_halt : (halt : Halt) (held : List (List ℕ)) → tested_rows key held record_size rows ≡ counted_on count (tested_rows key held record_size (row ∷ rest))
        → Finds {X = ℕ} (λ n. n) (tested_row key held record_size row) (Err halt)
        → Finds {X = ℕ} (λ n. n) (tested_rows key held record_size rows) (Err halt)
    by_halt (halts.Refused why) held before finds = before ∙ rw finds refl
    by_halt halts.ShelfFault held before finds = tt
    by_halt halts.NoMemory held before finds = tt

pub tests_ended : (key : KeyValue) (record_size : ℕ) (rows : List TableRow) (done count : ℕ) (s t : ShelfState)
    → TestedSoFar key record_size rows [] done count s t → Walked (blocks_in record_size rows) (Ok count) s t
tests_ended key record_size rows done count s t so =
    walked_wide so.blocks (blocks_in record_size rows) _ s t (omega (arith, so.so_far)) (walked_ok _ tt count s t so.walked)

pub tests_ended_told : (key : KeyValue) (record_size : ℕ) (rows : List TableRow) (done count : ℕ) (s t : ShelfState)
    → TestedSoFar key record_size rows [] done count s t
    → IfSome s.held (λ held. Finds (λ n. n) (tested_rows key held record_size rows) (Ok count))
tests_ended_told key record_size rows done count s t so =
    both s.held so.told so.told (λ held before again. before ∙ (let e : count + 0 ≡ count = omega arith in rw e refl))

-- ---- by index

front : (xs : List TableRow) (i : ℕ) (d : TableRow) → i < length xs → drop i xs ≡ get_or xs i d ∷ drop (suc i) xs
front [] i d within = absurd (omega (arith, within))
front (x ∷ xs) zero d within = refl
front (x ∷ xs) (suc i) d within = front xs i d (omega (arith, within))

so_far_at : (key : KeyValue) (record_size : ℕ) (rows : List TableRow) (i : ℕ) (d : TableRow) (count : ℕ) (s t : ShelfState) → i < length rows
    → TestedSoFar key record_size rows (drop i rows) i count s t
    → TestedSoFar key record_size rows (get_or rows i d ∷ drop (i + 1) rows) i count s t
so_far_at key record_size rows i d count s t within so =
    let next : suc i ≡ i + 1 = omega arith in
    let split : drop i rows ≡ get_or rows i d ∷ drop (i + 1) rows =
    front rows i d within ∙ ap (λ (n : ℕ). get_or rows i d ∷ drop n rows) next in
    subst (λ (left : List TableRow). TestedSoFar key record_size rows left i count s t) split so

pub row_tested : (key : KeyValue) (record_size : ℕ) (rows : List TableRow) (i : ℕ) (d : TableRow) (count more : ℕ) (s t u : ShelfState)
    → i < length rows → TestedSoFar key record_size rows (drop i rows) i count s t → more ≤ 8388608
    → Walked (blocks_for record_size (get_or rows i d).length) (Ok more) t u
    → IfSome t.held (λ held. Finds (λ n. n) (tested_row key held record_size (get_or rows i d)) (Ok more))
    → TestedSoFar key record_size rows (drop (i + 1) rows) (i + 1) (count + more) s u
row_tested key record_size rows i d count more s t u within so few walked told =
    tests_more key record_size rows (drop (i + 1) rows) (get_or rows i d) i count more s t u
    (so_far_at key record_size rows i d count s t within so) few walked told

pub row_stops : (key : KeyValue) (record_size : ℕ) (rows : List TableRow) (i : ℕ) (d : TableRow) (count : ℕ) (halt : Halt) (s t u : ShelfState)
    → i < length rows → TestedSoFar key record_size rows (drop i rows) i count s t
    → Walked {X = ℕ} (blocks_for record_size (get_or rows i d).length) (Err halt) t u
    → Walked {X = ℕ} (blocks_in record_size rows) (Err halt) s u
row_stops key record_size rows i d count halt s t u within so walked =
    tests_stop key record_size rows (drop (i + 1) rows) (get_or rows i d) i count halt s t u
    (so_far_at key record_size rows i d count s t within so) walked

pub row_stops_told : (key : KeyValue) (record_size : ℕ) (rows : List TableRow) (i : ℕ) (d : TableRow) (count : ℕ) (halt : Halt) (s t : ShelfState)
    → i < length rows → TestedSoFar key record_size rows (drop i rows) i count s t
    → IfSome t.held (λ held. Finds {X = ℕ} (λ n. n) (tested_row key held record_size (get_or rows i d)) (Err halt))
    → IfSome s.held (λ held. Finds {X = ℕ} (λ n. n) (tested_rows key held record_size rows) (Err halt))
row_stops_told key record_size rows i d count halt s t within so told =
    tests_stop_told key record_size rows (drop (i + 1) rows) (get_or rows i d) i count halt s t
    (so_far_at key record_size rows i d count s t within so) told

-- ---- all objects behind the directory

pub all_walked : (table : Table) (rows : List TableRow) (entries : List DirectoryEntry) (result : Result ℕ Halt) (s t u : ShelfState)
    → Walked (directory_blocks table) (Ok entries) s t → rows ≡ table.rows → Walked (blocks_in table.block rows) result t u
    → Walked (all_blocks table) result s u
all_walked table rows entries result s t u walked same more =
    walked_more (directory_blocks table) (blocks_in table.block table.rows) entries result s t u walked
    (subst (λ (r : List TableRow). Walked (blocks_in table.block r) result t u) same more)

pub all_told : (key : KeyValue) (hmac_key : List ℕ) (n : ℕ) (table : Table) (rows : List TableRow) (entries : List DirectoryEntry)
    (result : Result ℕ Halt) (s t : ShelfState) → Walked n (Ok entries) s t
    → IfSome s.held (λ held. Finds (λ e. e) (held_directory key hmac_key held table) (Ok entries)) → rows ≡ table.rows
    → IfSome t.held (λ held. Finds (λ count. count) (tested_rows key held table.block rows) result)
    → IfSome s.held (λ held. Finds (λ count. count) (plain_count key hmac_key held table) result)
all_told key hmac_key n table rows entries result s t walked told same more =
    both s.held told
    (walked_before n (Ok entries) s t _ walked
    (subst (λ (r : List TableRow). IfSome t.held (λ held. Finds (λ count. count) (tested_rows key held table.block r) result)) same more))
    (λ held finds counts. rw finds counts)
