-- The loops over blocks: what holds of them so far, on every shelf, over plain variables.
use Rattle.std.proofs.Common.{◌≡◌, ℕ, zero, suc, ◌+◌, ◌-◌, ◌*◌, ◌/◌, ◌<◌, ◌≤◌, Bool, true, false, List, [], ◌++◌, length, take, drop, refl, sym, ap, ◌∙◌, inl, inr, arith, length-take-le, length-drop, length-append, Option, Some, None, Ok, Err, if◌then◌else◌}
use Rattle.std.specs.Prelude.{IfSome, min, is_some, ◌⊎◌}
use Rattle.std.specs.Option.{option_map}
use Rattle.std.proofs.lemmas.Option.{IfSome_then}
use Rattle.std.proofs.Math.Nat.{mul-add, mod-lt, div-add-mod, mul-le-mul_left}
use Rattle.indirect_macs.specs.declared.refs.MacError.TheVariants.{NoMemory}
use Rattle.block_crypt.specs.Blocks.{KeyValue}
use Rattle.shelf_store.specs.ShelfState.{ShelfState}
use Rattle.indirect_macs.specs.declared.refs.ObjTree.{ObjTree}
use Rattle.indirect_macs.specs.declared.refs.MacError.{MacError}
use Rattle.indirect_macs.proofs.Reading.{both}
use Rattle.file_blocks.specs.Objects.{Gives, IsAtBlock, IsInRange, Reading, text_at, block_bytes, object_range, tested_blocks, count_touched}
use mir.Val.{bool_byte}
use Rattle.file_blocks.proofs.Readings.{reading_none, reading_more, reading_to, reading_ok, reading_err, reading_full, held_before, at_in_range}
use Rattle.file_blocks.proofs.Ranges.{ReadSoFar, read_begun, read_more, read_stopped, read_ended, touched, reaches, step_bound, TestedSoFar, tested_begun, tested_more, tested_stopped}

pub for_each_held : (held : Option (List (List ℕ))) {P : List (List ℕ) → Type 0} → ((h : List (List ℕ)) → P h) → IfSome held P
for_each_held None each = tt
for_each_held (Some h) each = each h

-- ---- reading

pub record Reads (key : KeyValue) (record_size : ℕ) (tree : ObjTree) (from end k : ℕ) (bytes buffer : List ℕ) (s t : ShelfState) : Type 0 where
  pub reading : Reading {X = Unit {0}} ((tree.levels + 1) * k) (IsInRange tree.levels (from / record_size) (count_touched record_size from end)) (Ok tt) s t
  pub size : length bytes ≡ min (end - record_size * (from / record_size)) (record_size * k) - (from - record_size * (from / record_size))
  pub fits : length buffer ≡ record_size
  pub told : IfSome s.held (λ held. ReadSoFar key held record_size tree from end k bytes)

pub reads_begun : (key : KeyValue) (record_size : ℕ) (tree : ObjTree) (from end : ℕ) (bytes buffer : List ℕ) (s : ShelfState) → bytes ≡ [] → length buffer ≡ record_size
    → Reads key record_size tree from end 0 bytes buffer s s
reads_begun key record_size tree from end bytes buffer s none fits =
    let zeros : record_size * 0 ≡ 0 = omega arith in
    record {
      reading = reading_none ((tree.levels + 1) * 0) (IsInRange tree.levels (from / record_size) (count_touched record_size from end)) (tt {0}) s;
      size = rw (none, zeros) (omega arith);
      fits = fits;
      told = for_each_held s.held (λ held. read_begun key held record_size tree from end bytes none);
    }

-- the block that fails, or whose reading the shelf refuses
pub reads_stop : {X : Type 0} (key : KeyValue) (record_size : ℕ) (tree : ObjTree) (from end k index : ℕ) (bytes buffer : List ℕ)
    (stop : MacError) (s t u : ShelfState)
    → Reads key record_size tree from end k bytes buffer s t → index ≡ from / record_size + k → k < count_touched record_size from end
    → Reading {X = X} (tree.levels + 1) (IsAtBlock tree.levels index) (Err stop) t u
    → Reading {X = Unit {0}} ((tree.levels + 1) * count_touched record_size from end) (IsInRange tree.levels (from / record_size) (count_touched record_size from end)) (Err stop) s u
reads_stop key record_size tree from end k index bytes buffer stop s t u so place within block =
    reading_to ((tree.levels + 1) * k + (tree.levels + 1)) ((tree.levels + 1) * count_touched record_size from end)
    (IsAtBlock tree.levels index) (IsInRange tree.levels (from / record_size) (count_touched record_size from end)) _ s u
    (step_bound (tree.levels + 1) k (count_touched record_size from end) within)
    (at_in_range tree.levels (from / record_size) (count_touched record_size from end) index (omega (arith, place)) (omega (arith, place, within)))
    (reading_more ((tree.levels + 1) * k) (tree.levels + 1) _ (IsAtBlock tree.levels index) (tt {0}) _ s t u so.reading (reading_err (tree.levels + 1) (IsAtBlock tree.levels index) stop t u block))

pub reads_stop_told : {X Y : Type 0} (key : KeyValue) (record_size : ℕ) (tree : ObjTree) (from end k index : ℕ) (bytes buffer : List ℕ) (f : X → Option (List ℕ)) (g : Y → List ℕ)
    (stop : MacError) (s t : ShelfState)
    → Reads key record_size tree from end k bytes buffer s t → index ≡ from / record_size + k → k < count_touched record_size from end
    → IfSome t.held (λ held. Gives f (text_at key held record_size tree index) (Err stop))
    → IfSome s.held (λ held. Gives g (object_range key held record_size tree from end) (Err stop))
reads_stop_told key record_size tree from end k index bytes buffer f g stop s t so place within block =
    both s.held so.told (held_before _ _ _ s t _ so.reading block) (λ held front gives.
    read_stopped key held record_size tree from end k index bytes f g stop front place within gives)

-- a block that was read
pub reads_block : {X : Type 0} (key : KeyValue) (record_size : ℕ) (tree : ObjTree) (from end k index : ℕ) (bytes buffer : List ℕ) (x : X) (s t u : ShelfState)
    → Reads key record_size tree from end k bytes buffer s t → k < count_touched record_size from end
    → Reading (tree.levels + 1) (IsAtBlock tree.levels index) (Ok x) t u
    → Reading {X = Unit {0}} ((tree.levels + 1) * (k + 1)) (IsInRange tree.levels (from / record_size) (count_touched record_size from end)) (Ok tt) s u
reads_block key record_size tree from end k index bytes buffer x s t u so within block =
    let one : (tree.levels + 1) * 1 ≡ tree.levels + 1 = omega arith in
    reading_to ((tree.levels + 1) * k + (tree.levels + 1)) ((tree.levels + 1) * (k + 1)) (IsInRange tree.levels (from / record_size) (count_touched record_size from end))
    (IsInRange tree.levels (from / record_size) (count_touched record_size from end)) _ s u (omega (arith, mul-add (tree.levels + 1) k 1, one)) (λ stop is. is)
    (reading_more ((tree.levels + 1) * k) (tree.levels + 1) _ _ (tt {0}) _ s t u so.reading
    (reading_ok (tree.levels + 1) (IsAtBlock tree.levels index) _ x (tt {0}) t u block))

-- want of memory for a block that was read
pub reads_full : {X : Type 0} (key : KeyValue) (record_size : ℕ) (tree : ObjTree) (from end k index : ℕ) (bytes buffer : List ℕ) (x : X) (stop : MacError) (s t u : ShelfState)
    → Reads key record_size tree from end k bytes buffer s t → k < count_touched record_size from end
    → Reading (tree.levels + 1) (IsAtBlock tree.levels index) (Ok x) t u → stop ≡ NoMemory
    → Reading {X = Unit {0}} ((tree.levels + 1) * count_touched record_size from end) (IsInRange tree.levels (from / record_size) (count_touched record_size from end)) (Err stop) s u
reads_full key record_size tree from end k index bytes buffer x stop s t u so within block is =
    let next : k + 1 ≤ count_touched record_size from end = omega (arith, within) in
    rw is (reading_full ((tree.levels + 1) * count_touched record_size from end) tree.levels (from / record_size) (count_touched record_size from end) _ (tt {0}) s u
    (reading_to ((tree.levels + 1) * (k + 1)) ((tree.levels + 1) * count_touched record_size from end) _ _ (Ok (tt {0})) s u (mul-le-mul_left (tree.levels + 1) next) (λ stop is. is)
    (reads_block key record_size tree from end k index bytes buffer x s t u so within block)))

part_size : (upto skip done width low high : ℕ) (before : ℕ) (buffer : List ℕ) → length buffer ≡ width → done < upto → before ≡ min upto done - skip
    → low ≡ skip - done → high ≡ min width (upto - done) → ((done ≡ 0) ⊎ (width ≤ done)) → skip < width
    → before + length (take (high - low) (drop low buffer)) ≡ min upto (done + width) - skip
part_size upto skip done width low high before buffer whole within is lows highs first far =
    let size : length (take (high - low) (drop low buffer)) ≡ high - low =
    length-take-le (high - low) (drop low buffer) (omega (arith, whole, length-drop low buffer, highs)) in
    rw size (elim first [
      | inl zero_done ↦ omega (arith, within, is, lows, highs, zero_done, far)
      | inr more ↦ omega (arith, within, is, lows, highs, more, far)
    ])

pub reads_more : {X : Type 0} (key : KeyValue) (record_size : ℕ) (tree : ObjTree) (from end k index low high : ℕ) (stored : Option X) (f : X → List ℕ)
    (bytes buffer read new : List ℕ) (s t u : ShelfState)
    → Reads key record_size tree from end k bytes buffer s t → 0 < record_size → index ≡ from / record_size + k → k < count_touched record_size from end
    → length read ≡ record_size
    → Reading (tree.levels + 1) (IsAtBlock tree.levels index) (Ok stored) t u
    → read ≡ block_bytes record_size (option_map f stored)
    → IfSome t.held (λ held. text_at key held record_size tree index ≡ Ok (option_map f stored))
    → low ≡ from - record_size * (from / record_size) - record_size * k
    → high ≡ min record_size (end - record_size * (from / record_size) - record_size * k)
    → new ≡ bytes ++ take (high - low) (drop low read)
    → Reads key record_size tree from end (k + 1) new read s u
reads_more key record_size tree from end k index low high stored f bytes buffer read new s t u so some place within fits block is told lows highs appended =
    let is_touched = touched record_size from end k within in
    let start = record_size * (from / record_size) in
    let next : record_size * (k + 1) ≡ record_size * k + record_size = (let one : record_size * 1 ≡ record_size = omega arith in omega (arith, mul-add record_size k 1, one)) in
    let skip : from - start < record_size = omega (arith, div-add-mod from record_size, mod-lt from some) in
    record {
      reading = reads_block key record_size tree from end k index bytes buffer stored s t u so within block;
      size =
          ap length appended ∙ length-append bytes (take (high - low) (drop low read))
          ∙ part_size (end - start) (from - start) (record_size * k) record_size low high (length bytes) read fits is_touched.low so.size lows highs (first_or_far k) skip
          ∙ ap (λ (n : ℕ). min (end - start) n - (from - start)) (sym next);
      fits = fits;
      told =
          both s.held so.told (held_before _ _ _ s t _ so.reading told) (λ held front found.
          read_more key held record_size tree from end k index low high (option_map f stored) read bytes new front place within found is lows highs appended);
    }
  where
    first_or_far : (k : ℕ) → (record_size * k ≡ 0) ⊎ (record_size ≤ record_size * k)
    first_or_far zero = inl (omega arith)
    first_or_far (suc n) =
        let one : record_size * 1 ≡ record_size = omega arith in
        let e : record_size * suc n ≡ record_size * (n + 1) = ap (λ (m : ℕ). record_size * m) (omega arith) in
        inr (omega (arith, e, mul-add record_size n 1, one))

pub reads_ended : (key : KeyValue) (record_size : ℕ) (tree : ObjTree) (from end k : ℕ) (bytes buffer : List ℕ) (s t : ShelfState)
    → Reads key record_size tree from end k bytes buffer s t → k ≡ count_touched record_size from end
    → Reading {X = Unit {0}} ((tree.levels + 1) * count_touched record_size from end) (IsInRange tree.levels (from / record_size) (count_touched record_size from end)) (Ok tt) s t
reads_ended key record_size tree from end k bytes buffer s t so at_end = rw at_end at so.reading

pub reads_size : (key : KeyValue) (record_size : ℕ) (tree : ObjTree) (from end k : ℕ) (bytes buffer : List ℕ) (s t : ShelfState)
    → Reads key record_size tree from end k bytes buffer s t → 0 < record_size → from ≤ end → k ≡ count_touched record_size from end → length bytes ≡ end - from
reads_size key record_size tree from end k bytes buffer s t so some order at_end = (rw at_end at so.size) ∙ reaches record_size from end some order

pub reads_told : (key : KeyValue) (record_size : ℕ) (tree : ObjTree) (from end k : ℕ) (bytes buffer : List ℕ) (s t : ShelfState)
    → Reads key record_size tree from end k bytes buffer s t → k ≡ count_touched record_size from end
    → IfSome s.held (λ held. object_range key held record_size tree from end ≡ Ok bytes)
reads_told key record_size tree from end k bytes buffer s t so at_end =
    IfSome_then s.held so.told (λ held front. read_ended key held record_size tree from end k bytes front at_end)

-- ---- testing

pub record Tests (key : KeyValue) (record_size : ℕ) (tree : ObjTree) (blocks k count : ℕ) (buffer : List ℕ) (s t : ShelfState) : Type 0 where
  pub reading : Reading {X = Unit {0}} ((tree.levels + 1) * k) (IsInRange tree.levels 0 blocks) (Ok tt) s t
  pub bound : count ≤ k
  pub fits : length buffer ≡ record_size
  pub told : IfSome s.held (λ held. TestedSoFar key held record_size tree k count)

pub tests_begun : (key : KeyValue) (record_size : ℕ) (tree : ObjTree) (blocks : ℕ) (buffer : List ℕ) (s : ShelfState) → length buffer ≡ record_size
    → Tests key record_size tree blocks 0 0 buffer s s
tests_begun key record_size tree blocks buffer s fits =
    record {
      reading = reading_none ((tree.levels + 1) * 0) (IsInRange tree.levels 0 blocks) (tt {0}) s;
      bound = omega arith;
      fits = fits;
      told = for_each_held s.held (λ held. tested_begun key held record_size tree);
    }

pub tests_stop : {X Y : Type 0} (key : KeyValue) (record_size : ℕ) (tree : ObjTree) (blocks k count : ℕ) (buffer : List ℕ) (stop : MacError) (s t u : ShelfState)
    → Tests key record_size tree blocks k count buffer s t → k < blocks
    → Reading {X = X} (tree.levels + 1) (IsAtBlock tree.levels k) (Err stop) t u
    → Reading {X = Y} ((tree.levels + 1) * blocks) (IsInRange tree.levels 0 blocks) (Err stop) s u
tests_stop key record_size tree blocks k count buffer stop s t u so within block =
    reading_to ((tree.levels + 1) * k + (tree.levels + 1)) ((tree.levels + 1) * blocks)
    (IsAtBlock tree.levels k) (IsInRange tree.levels 0 blocks) _ s u
    (step_bound (tree.levels + 1) k blocks within)
    (at_in_range tree.levels 0 blocks k (omega arith) (omega (arith, within)))
    (reading_more ((tree.levels + 1) * k) (tree.levels + 1) _ (IsAtBlock tree.levels k) (tt {0}) _ s t u so.reading (reading_err (tree.levels + 1) (IsAtBlock tree.levels k) stop t u block))

pub tests_stop_told : {X Y : Type 0} (key : KeyValue) (record_size : ℕ) (tree : ObjTree) (blocks k count : ℕ) (buffer : List ℕ) (f : X → Option (List ℕ)) (g : Y → ℕ)
    (stop : MacError) (s t : ShelfState)
    → Tests key record_size tree blocks k count buffer s t → k < blocks
    → IfSome t.held (λ held. Gives f (text_at key held record_size tree k) (Err stop))
    → IfSome s.held (λ held. Gives g (tested_blocks key held record_size tree blocks) (Err stop))
tests_stop_told key record_size tree blocks k count buffer f g stop s t so within block =
    both s.held so.told (held_before _ _ _ s t _ so.reading block) (λ held front gives.
    tested_stopped key held record_size tree k blocks count f g stop front within gives)

pub tests_more : {X : Type 0} (key : KeyValue) (record_size : ℕ) (tree : ObjTree) (blocks k count new : ℕ) (stored : Option X) (f : X → List ℕ)
    (buffer read : List ℕ) (s t u : ShelfState)
    → Tests key record_size tree blocks k count buffer s t → length read ≡ record_size
    → Reading (tree.levels + 1) (IsAtBlock tree.levels k) (Ok stored) t u
    → IfSome t.held (λ held. text_at key held record_size tree k ≡ Ok (option_map f stored))
    → new ≡ count + (if is_some stored then 1 else 0)
    → Tests key record_size tree blocks (k + 1) new read s u
tests_more {X = X} key record_size tree blocks k count new stored f buffer read s t u so fits block told is =
    let one : (tree.levels + 1) * 1 ≡ tree.levels + 1 = omega arith in
    record {
      reading =
          reading_to ((tree.levels + 1) * k + (tree.levels + 1)) ((tree.levels + 1) * (k + 1)) (IsInRange tree.levels 0 blocks) (IsInRange tree.levels 0 blocks) _ s u
          (omega (arith, mul-add (tree.levels + 1) k 1, one)) (λ stop is. is)
          (reading_more ((tree.levels + 1) * k) (tree.levels + 1) _ _ (tt {0}) _ s t u so.reading
          (reading_ok (tree.levels + 1) (IsAtBlock tree.levels k) _ stored (tt {0}) t u block));
      bound = omega (arith, is, so.bound, by_stored stored);
      fits = fits;
      told =
          both s.held so.told (held_before _ _ _ s t _ so.reading told) (λ held front found.
          tested_more key held record_size tree k count new stored f front found is);
    }
  where
    by_stored : (o : Option X) → (if is_some o then 1 else 0) ≤ 1
    by_stored None = omega arith
    by_stored (Some x) = omega arith

-- a test as a number
pub byte_is : (b : Bool) → bool_byte b ≡ (if b then 1 else 0)
byte_is true = refl
byte_is false = refl
