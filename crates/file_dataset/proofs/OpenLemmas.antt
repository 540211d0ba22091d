-- A change behind the reading of the directory, and refusals before a block is read, over plain variables.
use Rattle.std.proofs.Common.{◌≡◌, ℕ, ◌+◌, ◌==◌, ◌&&◌, ◌<◌, ◌≤◌, ◌^◌, ◌-◌, Bool, true, false, List, [], ◌∷◌, length, min, nat_lt, refl, sym, ap, subst, ◌∙◌, arith, Option, Some, None, is_ok, is_some, if◌then◌else◌, Result, Ok, Err}
use Rattle.std.specs.Prelude.{IfErr}
use Rattle.std.specs.List.{list_all, list_any}
use Rattle.std.specs.Option.{option_and_then, option_map_or}
use Rattle.std.proofs.lemmas.Bool.{eqb-true}
use Rattle.std.proofs.lemmas.Bool.Decides.{nat_tests}
use Rattle.dataset_tree.specs.Refusal.{number_of}
use Rattle.dataset_tree.specs.declared.refusal.Refusal.{Refusal}
use Rattle.dataset_tree.specs.declared.refusal.Refusal.TheVariants as refusals
use Rattle.block_crypt.specs.Blocks.{KeyValue}
use Rattle.shelf_store.specs.ShelfState.{ShelfState}
use Rattle.family_log.specs.declared.entry.Spot.{Spot}
use Rattle.family_log.specs.declared.head.Head.{Head}
use Rattle.family_log.specs.declared.table.Table.{Table}
use Rattle.family_log.specs.declared.table.TableRow.{TableRow}
use Rattle.family_log.specs.Calls.{new_place}
use Rattle.family_log.specs.Log.{head_spot}
use Rattle.family_log.specs.Model.{FamilyState, head_of, table_of}
use Rattle.family_log.specs.Tables.{IsTable, row_of}
use Rattle.file_blocks.specs.WriteFields.{write_to}
use Rattle.file_blocks.specs.Writes.{change_of_cut, change_of_write}
use Rattle.file_blocks.specs.declared.object.Object.{Object}
use Rattle.file_directory.specs.declared.directory.DirectoryEntry.{DirectoryEntry}
use Rattle.file_directory.specs.Entries.{object_named}
use Rattle.file_dataset.specs.declared.edit.Made.{Made}
use Rattle.file_dataset.specs.declared.halt.Halt.{Halt}
use Rattle.file_dataset.specs.declared.halt.Halt.TheVariants as halts
use Rattle.file_dataset.specs.declared.limits.TheConstants.{MAX_FILES, MAX_LENGTH, MAX_OBJECT}
use Rattle.file_dataset.specs.Calls.{by_table, tested_portable}
use Rattle.file_dataset.specs.ChangeCalls.{make_stops, tested_edit, tested_end, write_stops}
use Rattle.file_dataset.specs.Changes.{Edit, cut_edit, edit_of_row, if_read, made_in, make_edit, make_fault, new_object, object_at, remove_edit, removed_in, write_edit}
use Rattle.file_dataset.specs.ChangeSteps.{IsUnused}
use Rattle.file_dataset.specs.Reads.{file_row, held_directory, in_object, then_read}
use Rattle.file_dataset.specs.Steps.{IsHaltedBy, IsOneHalt, IsTableAt, IsUnreadBy, Visits}
use Rattle.file_dataset.proofs.FormLemmas.{by_space}
use Rattle.file_dataset.proofs.LengthLemmas.{HasRows}
use Rattle.file_dataset.proofs.MakeLemmas.{found_object}
use Rattle.file_dataset.proofs.SealedLemmas.{edit_in}

-- ---- the refusals of a step are among those of a call

-- each of these numbers is one of those
abbrev pub are_among : (few many : List ℕ) → Bool
are_among few many = list_all (λ number. list_any (λ other. other == number) many) few

both_so : (a b : Bool) → (a && b) ≡ true → (a ≡ true) × (b ≡ true)
both_so true b is = (refl, is)
both_so false b is = absurd (cc)

wider : (few many : List ℕ) (n : ℕ) → are_among few many ≡ true → list_any (λ number. number == n) few ≡ true
    → list_any (λ number. number == n) many ≡ true
wider [] many n listed is = absurd (cc)
wider (number ∷ few) many n listed is =
    let parts = both_so (list_any (λ other. other == number) many) (are_among few many) listed in
    by_space (number == n)
    (λ same. let e : number ≡ n = eqb-true number n same in subst (λ (k : ℕ). list_any (λ other. other == k) many ≡ true) e parts.0)
    (λ other. wider few many n parts.1 (rw other at is))

pub among_more : (few many : List ℕ) (halt : Halt) → are_among few many ≡ true → IsOneHalt few halt → IsOneHalt many halt
among_more few many (halts.Refused why) listed is = wider few many (number_of why) listed is
among_more few many halts.ShelfFault listed is = tt
among_more few many halts.NoMemory listed is = tt

-- ---- the head and its table

-- a head that is there has a table of its own
pub head_there : (family : FamilyState) (head : ℕ) → is_ok (new_place family head) ≡ true
    → (table : Table) × (table_of (head_spot head) family.heads ≡ Some table)
head_there family head is = by_head (head_of head family.heads) refl
  where
    by_head : (found : Option Head) → head_of head family.heads ≡ found → (table : Table) × (table_of (head_spot head) family.heads ≡ Some table)
    by_head None none = let no_head : (let place : Result ℕ Refusal = Err (refusals.NoHead head) in is_ok place ≡ true) = rw none at is in absurd (cc)
    by_head (Some found) same = (found.table, rw same refl)

pub table_still : (old between : FamilyState) (spot : Spot) (table : Table) → between ≡ record old { shelf = between.shelf } → IsTableAt old spot table
    → IsTableAt between spot table
table_still old between spot table left at =
    subst (λ (family : FamilyState). IsTableAt family spot table) (sym left)
    (record { found = at.found; in_form = at.in_form; record_size = at.record_size; lengths = at.lengths })

-- ---- refused before a block is read

halted_as : (X Y : Type 0) (halt : Halt) (why : Refusal) → IsHaltedBy {X = X} (Err halt) why → IsHaltedBy {X = Y} (Err halt) why
halted_as X Y (halts.Refused other) why is = is
halted_as X Y halts.ShelfFault why is = is
halted_as X Y halts.NoMemory why is = is

module _ {X Y : Type 0} (sees : X → Y) (answer : (held : List (List ℕ)) → Table → Result Y Refusal) (most : Table → ℕ) (hmac_key : List ℕ)
    (spot : Spot) (old between : FamilyState) where
  -- where a reading stopped
  pub unused_err : (halt : Halt) → Visits {X = X} sees answer most hmac_key spot (Err halt) old between
      → IfErr (by_table (tested_portable hmac_key) old spot) (IsUnused {X = Made} (Err halt) old between)
  unused_err halt visits = by_test (by_table (tested_portable hmac_key) old spot) visits.before
    where
      by_test : (r : Result (Unit {0}) Refusal) → IfErr r (IsUnreadBy {X = X} (Err halt) old.shelf between.shelf)
          → IfErr r (IsUnused {X = Made} (Err halt) old between)
      by_test (Ok x) is = tt
      by_test (Err why) is = record {
        halted = halted_as X Made halt why is.halted;
        same = visits.left ∙ ap (λ (shelf : ShelfState). let family : FamilyState = record old { shelf = shelf } in family) is.same;
      }

  -- and where it went well
  pub unused_ok : (x : X) (P : Refusal → Type 0) → Visits sees answer most hmac_key spot (Ok x) old between
      → IfErr (by_table (tested_portable hmac_key) old spot) P
  unused_ok x P visits = by_test (by_table (tested_portable hmac_key) old spot) visits.before
    where
      by_test : (r : Result (Unit {0}) Refusal) → IfErr r (IsUnreadBy (Ok x) old.shelf between.shelf) → IfErr r P
      by_test (Ok x) is = tt
      by_test (Err why) is = absurd is.halted

-- the end is tested first
pub end_passes : (hmac_key : List ℕ) (end : ℕ) (old : FamilyState) (spot : Spot) (P : Refusal → Type 0) → tested_end end ≡ Ok tt
    → IfErr (by_table (tested_portable hmac_key) old spot) P → IfErr (by_table (tested_edit hmac_key end) old spot) P
end_passes hmac_key end old spot P is tested = by_table_of (table_of spot old.heads) tested
  where
    by_table_of : (o : Option Table) → IfErr (option_map_or (tested_portable hmac_key) o (Err refusals.NoSnapshot)) P
        → IfErr (option_map_or (tested_edit hmac_key end) o (Err refusals.NoSnapshot)) P
    by_table_of None tested = tested
    by_table_of (Some table) tested = rw is tested

pub end_fails : (hmac_key : List ℕ) (end head : ℕ) (old : FamilyState) (why : Refusal) → is_ok (new_place old head) ≡ true → tested_end end ≡ Err why
    → IfErr (by_table (tested_edit hmac_key end) old (head_spot head)) (IsUnused {X = Made} (Err (halts.Refused why)) old old)
end_fails hmac_key end head old why there is =
    let at = head_there old head there in
    rw (at.1, is) (record { halted = refl; same = refl })

-- an end that is cut at 64 bits is tested alike
pub saturated : (end cut : ℕ) → cut ≡ min end (2 ^ 64 - 1) → tested_end cut ≡ tested_end end
saturated end cut is =
    by_space (nat_lt MAX_LENGTH end)
    (λ big.
    let more : MAX_LENGTH < end = grind (arith, nat_tests, big) in
    let also : nat_lt MAX_LENGTH cut ≡ true = (let above : MAX_LENGTH < cut = omega (arith, is, more) in grind (arith, above)) in
    rw (big, also) refl)
    (λ small.
    let also : nat_lt MAX_LENGTH cut ≡ false = (let below : cut ≤ end = omega (arith, is) in grind (arith, nat_tests, below, small)) in
    rw (small, also) refl)

-- ---- edits behind what was read

pub make_unread : (key : KeyValue) (hmac_key name : List ℕ) (held : List (List ℕ)) (table : Table) (why : Refusal)
    → held_directory key hmac_key held table ≡ Err why → make_edit key hmac_key name held table ≡ Err why
unfolding make_edit
make_unread key hmac_key name held table why is = rw is refl

pub make_read : (key : KeyValue) (hmac_key name : List ℕ) (held : List (List ℕ)) (table : Table) (entries : List DirectoryEntry)
    → held_directory key hmac_key held table ≡ Ok entries → make_edit key hmac_key name held table ≡ made_in key held table name entries
unfolding make_edit
make_read key hmac_key name held table entries is = rw is refl

pub make_refused : (key : KeyValue) (name : List ℕ) (held : List (List ℕ)) (table : Table) (entries : List DirectoryEntry) (why : Refusal)
    → Some why ≡ make_fault table name entries → made_in key held table name entries ≡ Err why
make_refused key name held table entries why is = rw (sym is) refl

pub remove_unread : (key : KeyValue) (hmac_key name : List ℕ) (held : List (List ℕ)) (table : Table) (why : Refusal)
    → held_directory key hmac_key held table ≡ Err why → remove_edit key hmac_key name held table ≡ Err why
unfolding remove_edit
remove_unread key hmac_key name held table why is = rw is refl

pub remove_read : (key : KeyValue) (hmac_key name : List ℕ) (held : List (List ℕ)) (table : Table) (entries : List DirectoryEntry)
    → held_directory key hmac_key held table ≡ Ok entries → remove_edit key hmac_key name held table ≡ removed_in key held table name entries
unfolding remove_edit
remove_read key hmac_key name held table entries is = rw is refl

pub remove_refused : (key : KeyValue) (name : List ℕ) (held : List (List ℕ)) (table : Table) (entries : List DirectoryEntry) (why : Refusal)
    → Err why ≡ file_row table name entries → removed_in key held table name entries ≡ Err why
remove_refused key name held table entries why is = rw (sym is) refl

-- ---- a file's own object

end_small : (end : ℕ) → tested_end end ≡ Ok tt → nat_lt MAX_LENGTH end ≡ false
end_small end is =
    by_space (nat_lt MAX_LENGTH end)
    (λ big. let no : (let r : Result (Unit {0}) Refusal = Err (refusals.TooBig MAX_LENGTH) in r ≡ Ok tt) = rw big at is in absurd (cc))
    (λ small. small)

pub end_within : (end : ℕ) → tested_end end ≡ Ok tt → end ≤ 4294967296
end_within end is = let small = end_small end is in grind (arith, nat_tests, small)

pub end_stop : (end : ℕ) (why : Refusal) → tested_end end ≡ Err why → IsOneHalt write_stops (halts.Refused why)
end_stop end why is =
    by_space (nat_lt MAX_LENGTH end)
    (λ big.
    let same : (let r : Result (Unit {0}) Refusal = Err (refusals.TooBig MAX_LENGTH) in r ≡ Err why) = rw big at is in
    let e : refusals.TooBig MAX_LENGTH ≡ why = cc in
    subst (λ (w : Refusal). IsOneHalt write_stops (halts.Refused w)) e refl)
    (λ small. let no : (let r : Result (Unit {0}) Refusal = Ok tt in r ≡ Err why) = rw small at is in absurd (cc))

end_big : (X : Type 0) (end : ℕ) (why : Refusal) (rest : Result X Refusal) → tested_end end ≡ Err why
    → (if nat_lt MAX_LENGTH end then Err (refusals.TooBig MAX_LENGTH) else rest) ≡ Err why
end_big X end why rest is =
    by_space (nat_lt MAX_LENGTH end)
    (λ big.
    let same : (let r : Result (Unit {0}) Refusal = Err (refusals.TooBig MAX_LENGTH) in r ≡ Err why) = rw big at is in
    let e : refusals.TooBig MAX_LENGTH ≡ why = cc in
    rw (big, e) refl)
    (λ small. let no : (let r : Result (Unit {0}) Refusal = Ok tt in r ≡ Err why) = rw small at is in absurd (cc))

pub same_object : (object : Object) (row : TableRow) → object.length ≡ row.length → object.tree ≡ row.tree → object ≡ object_at row
same_object object row length_is tree_is = λ i. record { length = length_is i; tree = tree_is i }

module _ (key : KeyValue) (hmac_key name : List ℕ) (held : List (List ℕ)) where
  pub write_refused : (from : ℕ) (bytes : List ℕ) (head : ℕ) (family : FamilyState) (why : Refusal) → is_ok (new_place family head) ≡ true
      → tested_end (from + length bytes) ≡ Err why → by_table (write_edit key hmac_key name from bytes held) family (head_spot head) ≡ Err why
  unfolding write_edit
  write_refused from bytes head family why there is =
      let at = head_there family head there in
      rw at.1 (end_big Edit (from + length bytes) why _ is)

  pub write_unread : (from : ℕ) (bytes : List ℕ) (table : Table) (why : Refusal) → tested_end (from + length bytes) ≡ Ok tt
      → then_read (file_row table name) (held_directory key hmac_key held table) ≡ Err why → write_edit key hmac_key name from bytes held table ≡ Err why
  unfolding write_edit
  write_unread from bytes table why small is = rw (end_small (from + length bytes) small, is) refl

  pub write_read : (from : ℕ) (bytes : List ℕ) (table : Table) (row : TableRow) (object : Object) → tested_end (from + length bytes) ≡ Ok tt
      → object ≡ object_at row → then_read (file_row table name) (held_directory key hmac_key held table) ≡ Ok row
      → write_edit key hmac_key name from bytes held table
      ≡ edit_in row.object table.rows None (change_of_write key held (write_to object table.block from bytes))
  unfolding write_edit
  write_read from bytes table row object small same is = rw (end_small (from + length bytes) small, is, same) refl

  pub cut_refused : (to head : ℕ) (family : FamilyState) (why : Refusal) → is_ok (new_place family head) ≡ true → tested_end to ≡ Err why
      → by_table (cut_edit key hmac_key name to held) family (head_spot head) ≡ Err why
  unfolding cut_edit
  cut_refused to head family why there is =
      let at = head_there family head there in
      rw at.1 (end_big Edit to why _ is)

  pub cut_unread : (to : ℕ) (table : Table) (why : Refusal) → tested_end to ≡ Ok tt
      → then_read (file_row table name) (held_directory key hmac_key held table) ≡ Err why → cut_edit key hmac_key name to held table ≡ Err why
  unfolding cut_edit
  cut_unread to table why small is = rw (end_small to small, is) refl

  pub cut_read : (to : ℕ) (table : Table) (row : TableRow) (object : Object) → tested_end to ≡ Ok tt → object ≡ object_at row
      → then_read (file_row table name) (held_directory key hmac_key held table) ≡ Ok row
      → cut_edit key hmac_key name to held table ≡ edit_in row.object table.rows None (change_of_cut key held table.block object to)
  unfolding cut_edit
  cut_read to table row object small same is = rw (end_small to small, is, same) refl

-- the rows stay, but for that of the object
pub rows_same : (table : Table) (object : ℕ) (row : TableRow) → IsTable table.block table → row_of object table ≡ Some row
    → HasRows table object table.rows None
rows_same table object row form found = record {
  form = form;
  has = rw found refl;
  lengths = λ o other. refl;
}

-- the refusals of a name
pub make_stop : (table : Table) (name : List ℕ) (entries : List DirectoryEntry) (why : Refusal) → Some why ≡ make_fault table name entries
    → IsOneHalt make_stops (halts.Refused why)
make_stop table name entries why is =
    by_space (is_some (object_named name entries))
    (λ there. let taken : Some why ≡ Some refusals.FileExists = rw there at is in one_of refusals.FileExists refl taken)
    (λ free.
    by_space (nat_lt MAX_FILES (length table.rows))
    (λ full. let many : Some why ≡ Some (refusals.Full MAX_FILES) = rw (free, full) at is in one_of (refusals.Full MAX_FILES) refl many)
    (λ room.
    by_space (nat_lt MAX_OBJECT (new_object table))
    (λ full. let many : Some why ≡ Some (refusals.Full MAX_OBJECT) = rw (free, room, full) at is in one_of (refusals.Full MAX_OBJECT) refl many)
    (λ small. let none : Some why ≡ None = rw (free, room, small) at is in absurd (cc))))
  where
    one_of : (other : Refusal) → IsOneHalt make_stops (halts.Refused other) → Some why ≡ Some other → IsOneHalt make_stops (halts.Refused why)
    one_of other is same = let e : why ≡ other = cc in subst (λ (w : Refusal). IsOneHalt make_stops (halts.Refused w)) (sym e) is

-- the object of the row that is found is that of the name
pub row_named : (table : Table) (name : List ℕ) (entries : List DirectoryEntry) (row : TableRow) → Ok row ≡ file_row table name entries
    → object_named name entries ≡ Some row.object
row_named table name entries row is = by_object (object_named name entries) is
  where
    by_row : (object : ℕ) (found : Option TableRow) → row_of object table ≡ found → Ok row ≡ option_map_or (λ r. Ok r) found (Err refusals.NoFile)
        → Some object ≡ Some row.object
    by_row object None same is = absurd (cc)
    by_row object (Some other) same is =
        let here : other ≡ row = cc in
        ap Some (sym (ap (λ (r : TableRow). r.object) (sym here) ∙ found_object object table.rows other same))

    by_object : (object : Option ℕ) → Ok row ≡ option_map_or (λ r. Ok r) (option_and_then (λ n. row_of n table) object) (Err refusals.NoFile)
        → object ≡ Some row.object
    by_object None is = absurd (cc)
    by_object (Some object) is = by_row object (row_of object table) refl is

-- a name that isn't there
pub row_stop : (numbers : List ℕ) (table : Table) (name : List ℕ) (entries : List DirectoryEntry) (why : Refusal) → IsOneHalt numbers (halts.Refused refusals.NoFile)
    → Err why ≡ file_row table name entries → IsOneHalt numbers (halts.Refused why)
row_stop numbers table name entries why listed is =
    by_row (option_and_then (λ object. row_of object table) (object_named name entries)) is
  where
    by_row : (row : Option TableRow) → Err why ≡ option_map_or (λ r. Ok r) row (Err refusals.NoFile) → IsOneHalt numbers (halts.Refused why)
    by_row (Some row) is = absurd (cc)
    by_row None is = let e : why ≡ refusals.NoFile = cc in subst (λ (w : Refusal). IsOneHalt numbers (halts.Refused w)) (sym e) listed
