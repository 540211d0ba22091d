-- A change of a head before its entry, over plain variables.
use Rattle.std.proofs.Common.{◌≡◌, ◌≤◌, ℕ, ◌+◌, Bool, true, false, List, [], ◌∷◌, ◌++◌, length, refl, sym, ap, subst, ◌∙◌, inl, inr, arith, Option, Some, None, Result, Ok, Err}
use Rattle.std.specs.Prelude.{IfSome, IfOk, IfErr, IsOk}
use Rattle.std.specs.Option.{option_map_or}
use Rattle.dataset_tree.specs.declared.refusal.Refusal.{Refusal}
use Rattle.dataset_tree.specs.declared.refusal.Refusal.TheVariants as refusals
use Rattle.block_crypt.specs.Blocks.{KeyValue}
use Rattle.shelf_store.specs.ShelfState.{ShelfState, after_calls}
use Rattle.salt_rotation.specs.SaltState.{SaltState}
use Rattle.indirect_macs.specs.Calls.{fails_within}
use Rattle.indirect_macs.specs.Replaced.{with_blocks}
use Rattle.indirect_macs.proofs.Putting.{sizes_kept}
use Rattle.indirect_macs.proofs.Reading.{both}
use Rattle.indirect_macs.proofs.RunLevels.{blocks_nothing}
use Rattle.indirect_macs.proofs.Walking.{after_more, fails_more, held_kept}
use Rattle.family_log.specs.declared.table.Table.{Table}
use Rattle.family_log.specs.declared.entry.HeadChange.{HeadChange}
use Rattle.family_log.specs.Log.{head_spot}
use Rattle.family_log.specs.Model.{FamilyState, table_of}
use Rattle.file_blocks.specs.Changes.{AreDraws, after_draws}
use Rattle.file_blocks.proofs.Changing.{blocks_behind}
use Rattle.file_blocks.proofs.Sealing.{no_draws}
use Rattle.file_dataset.specs.declared.edit.Made.{Made}
use Rattle.file_dataset.specs.declared.halt.Halt.{Halt}
use Rattle.file_dataset.specs.declared.halt.Halt.TheVariants as halts
use Rattle.file_dataset.specs.declared.kind.Kind.{Kind}
use Rattle.file_dataset.specs.Calls.{by_table, calls_for}
use Rattle.file_dataset.specs.ChangeCalls.{DrawsForAll, IsCause, IsEditOf, used, wrote_by}
use Rattle.file_dataset.specs.Changes.{Edit, change_by, edit_draws, edit_puts}
use Rattle.file_dataset.specs.ChangeSteps.{HasMade, IsToldWork, WorkEnded, Works}
use Rattle.file_dataset.specs.Steps.{Finds, IsOneHalt, IsTableAt, Visits, is_fault}
use Rattle.file_dataset.proofs.NoteLemmas.{for_each}

-- ---- a call that only reads

abbrev pub with_shelf : ShelfState → FamilyState → FamilyState
with_shelf shelf family = record family { shelf = shelf }

-- calls of the shelf alone were made
pub walked_used : (calls : ℕ) (old between : FamilyState) (t : ShelfState) → between ≡ with_shelf t old → t ≡ after_calls calls old.shelf
    → between ≡ used calls [] 0 old
walked_used calls old between t is after =
    is ∙ ap (λ (shelf : ShelfState). with_shelf shelf old) (after ∙ ap (after_calls calls) (sym (blocks_nothing old.shelf)))
    ∙ sym (ap (λ (salts : SaltState). record old { salts = salts; shelf = after_calls calls (with_blocks [] old.shelf) }) (no_draws old.salts))

halted_alike : (X Y : Type 0) (halt : Halt) → is_fault {X = X} (Err halt) ≡ is_fault {X = Y} (Err halt)
halted_alike X Y (halts.Refused why) = refl
halted_alike X Y halts.ShelfFault = refl
halted_alike X Y halts.NoMemory = refl

pub no_puts : (count : ℕ) → AreDraws count 0 0
no_puts count = record { low = omega arith; high = omega arith }

-- what isn't read isn't changed
by_refused : {Y Z : Type 0} (answer : Table → Result Y Refusal) (edit : Table → Result Z Refusal) (table : Option Table) (why : Refusal)
    → ((table : Table) → answer table ≡ Err why → edit table ≡ Err why)
    → (let family : Result Y Refusal = option_map_or answer table (Err refusals.NoSnapshot) in family ≡ Err why)
    → option_map_or edit table (Err refusals.NoSnapshot) ≡ Err why
by_refused answer edit None why passes is = let same : refusals.NoSnapshot ≡ why = cc in rw same refl
by_refused answer edit (Some table) why passes is = passes table is

-- ---- how many calls are made

-- a reading, and what comes behind it
more_calls : (most rest : Table → ℕ) (calls : ℕ) (table : Option Table) → calls ≤ calls_for (option_map_or most table 0)
    → calls ≤ option_map_or (λ t. calls_for (most t) + rest t) table 0
more_calls most rest calls None few = omega (arith, few)
more_calls most rest calls (Some table) few = omega (arith, few)

both_calls : (most rest : Table → ℕ) (calls further : ℕ) (table : Option Table) → calls ≤ calls_for (option_map_or most table 0)
    → further ≤ option_map_or rest table 0 → calls + further ≤ option_map_or (λ t. calls_for (most t) + rest t) table 0
both_calls most rest calls further None few less = omega (arith, few, less)
both_calls most rest calls further (Some table) few less = omega (arith, few, less)

module _ (kind : Kind) (key : KeyValue) (hmac_key : List ℕ) (head : ℕ) (edit : (held : List (List ℕ)) → Table → Result Edit Refusal)
    (numbers : List ℕ) where
  unread_ended : {X Y : Type 0} (sees : X → Y) (answer : (held : List (List ℕ)) → Table → Result Y Refusal) (halt : Halt) (old new : FamilyState)
      (held rest : List (List ℕ))
      → ((table : Table) (why : Refusal) → answer held table ≡ Err why → edit held table ≡ Err why)
      → Finds sees (by_table (answer held) old (head_spot head)) (Err halt)
      → WorkEnded kind key hmac_key head held (edit held) [] rest 0 (Err halt) old new
  unread_ended sees answer (halts.Refused why) old new held rest passes finds =
      (inl refl, inr (inl (by_refused (answer held) (edit held) (table_of (head_spot head) old.heads) why (λ table is. passes table why is) finds)))
  unread_ended sees answer halts.ShelfFault old new held rest passes finds = inl refl
  unread_ended sees answer halts.NoMemory old new held rest passes finds = inl refl

  -- a reading that a change begins with ends it
  pub works_unread : {X Y : Type 0} (rest : Table → ℕ) (sees : X → Y) (answer : (held : List (List ℕ)) → Table → Result Y Refusal) (most : Table → ℕ) (halt : Halt)
      (old new : FamilyState) → Visits {X = X} sees answer most hmac_key (head_spot head) (Err halt) old new → IsOneHalt numbers halt
      → ((held : List (List ℕ)) (table : Table) (why : Refusal) → answer held table ≡ Err why → edit held table ≡ Err why)
      → Works kind key hmac_key head edit (λ table. calls_for (most table) + rest table) numbers (Err halt) old new
  works_unread {X = X} rest sees answer most halt old new visits among passes =
      record {
        calls = visits.walked.calls;
        put = [];
        draws = 0;
        bound = more_calls most rest visits.walked.calls (table_of (head_spot head) old.heads) visits.walked.bound;
        left = walked_used visits.walked.calls old new new.shelf visits.left visits.walked.after;
        fault = halted_alike Made X halt ∙ visits.walked.fault;
        among = among;
        made = tt;
        told = each_held old.shelf.held visits.told;
      }
    where
      each_held : (o : Option (List (List ℕ))) → IfSome o (λ held. Finds {X = X} sees (by_table (answer held) old (head_spot head)) (Err halt))
          → IfSome o (λ held. IsToldWork kind key hmac_key head held (edit held) [] 0 (Err halt) old new)
      each_held None finds = tt
      each_held (Some held) finds =
          record {
            rest = edit_puts key old.salts held (length old.shelf.sizes) (by_table (edit held) old (head_spot head));
            parts = refl;
            counted = no_puts (edit_draws (by_table (edit held) old (head_spot head)));
            ended = unread_ended sees answer halt old new held _ (λ table why is. passes held table why is) finds;
          }

  -- ---- behind a call that reads

  -- both edits give the same
  alike : (inner : (held : List (List ℕ)) → Table → Result Edit Refusal) (table : Table) (held : List (List ℕ)) (old : FamilyState)
      → table_of (head_spot head) old.heads ≡ Some table → edit held table ≡ inner held table
      → by_table (inner held) old (head_spot head) ≡ by_table (edit held) old (head_spot head)
  alike inner table held old found same = rw found (sym same)

  after_ended : (inner : (held : List (List ℕ)) → Table → Result Edit Refusal) (table : Table) (held put rest : List (List ℕ)) (draws : ℕ)
      (result : Result Made Halt) (old new : FamilyState) (t : ShelfState) → table_of (head_spot head) old.heads ≡ Some table
      → edit held table ≡ inner held table → length t.sizes ≡ length old.shelf.sizes
      → WorkEnded kind key hmac_key head held (inner held) put rest draws result (with_shelf t old) new
      → WorkEnded kind key hmac_key head held (edit held) put rest draws result old new
  after_ended inner table held put rest draws (Ok made) old new t found same base is = record {
    table = is.table;
    e = is.e;
    of_head = is.of_head;
    is =
        let here : Some is.table ≡ Some table = sym is.of_head ∙ found in
        let one : is.table ≡ table = cc in
        subst (λ (other : Table). edit held other ≡ Ok is.e) (sym one) (same ∙ subst (λ (other : Table). inner held other ≡ Ok is.e) one is.is);
    all = is.all;
    enough = is.enough;
    change = subst (λ (count : ℕ). made.change ≡ change_by kind key hmac_key old.salts held count head is.table is.e) base is.change;
  }
  after_ended inner table held put rest draws (Err (halts.Refused why)) old new t found same base is =
      subst (λ (a : Result Edit Refusal). DrawsForAll old.salts a draws × IsCause old.salts a put rest draws new.shelf why)
      (alike inner table held old found same) is
  after_ended inner table held put rest draws (Err halts.ShelfFault) old new t found same base is =
      subst (λ (a : Result Edit Refusal). DrawsForAll old.salts a draws) (alike inner table held old found same) is
  after_ended inner table held put rest draws (Err halts.NoMemory) old new t found same base is =
      subst (λ (a : Result Edit Refusal). DrawsForAll old.salts a draws) (alike inner table held old found same) is

  after_told : (inner : (held : List (List ℕ)) → Table → Result Edit Refusal) (table : Table) (held put : List (List ℕ)) (draws : ℕ)
      (result : Result Made Halt) (old new : FamilyState) (t : ShelfState) → table_of (head_spot head) old.heads ≡ Some table
      → edit held table ≡ inner held table → length t.sizes ≡ length old.shelf.sizes
      → IsToldWork kind key hmac_key head held (inner held) put draws result (with_shelf t old) new
      → IsToldWork kind key hmac_key head held (edit held) put draws result old new
  after_told inner table held put draws result old new t found same base is =
      let answers = alike inner table held old found same in
      record {
        rest = is.rest;
        parts =
            subst (λ (count : ℕ). put ++ is.rest ≡ edit_puts key old.salts held count (by_table (edit held) old (head_spot head))) base
            (subst (λ (a : Result Edit Refusal). put ++ is.rest ≡ edit_puts key old.salts held (length t.sizes) a) answers is.parts);
        counted = subst (λ (a : Result Edit Refusal). AreDraws (edit_draws a) (length put) draws) answers is.counted;
        ended = after_ended inner table held put is.rest draws result old new t found same base is.ended;
      }

  after_used : (n calls draws : ℕ) (put : List (List ℕ)) (old : FamilyState)
      → used calls put draws (with_shelf (after_calls n old.shelf) old) ≡ used (n + calls) put draws old
  after_used n calls draws put old =
      ap (λ (shelf : ShelfState). with_shelf shelf (record old { salts = after_draws draws old.salts }))
      (ap (after_calls calls) (blocks_behind put n old.shelf) ∙ sym (after_more n calls (with_blocks put old.shelf)))

  after_edited : (draws : ℕ) (result : Result Made Halt) (old : FamilyState) (t : ShelfState)
      → IfOk result (λ made. IsEditOf hmac_key (with_shelf t old) head made.change × (made.wrote ≡ wrote_by old.salts draws))
      → IfOk result (λ made. IsEditOf hmac_key old head made.change × (made.wrote ≡ wrote_by old.salts draws))
  after_edited draws (Ok made) old t is = (
    record {
      told = record { of_head = is.0.told.of_head; table = is.0.told.table; lengths = is.0.told.lengths };
      portable = is.0.portable;
    },
    is.1,
  )
  after_edited draws (Err halt) old t is = tt

  -- what is made of what was read is what the whole makes
  pub works_after : {X Y : Type 0} {inner_cost : Table → ℕ} (sees : X → Y) (answer : (held : List (List ℕ)) → Table → Result Y Refusal) (most : Table → ℕ)
      (inner : (held : List (List ℕ)) → Table → Result Edit Refusal) (x : X) (table : Table) (result : Result Made Halt)
      (old between new : FamilyState) → Visits sees answer most hmac_key (head_spot head) (Ok x) old between
      → table_of (head_spot head) old.heads ≡ Some table
      → ((held : List (List ℕ)) → answer held table ≡ Ok (sees x) → edit held table ≡ inner held table)
      → Works kind key hmac_key head inner inner_cost numbers result between new
      → Works kind key hmac_key head edit (λ table. calls_for (most table) + inner_cost table) numbers result old new
  works_after {inner_cost = inner_cost} sees answer most inner x table result old between new visits found same works =
      behind visits.walked.calls visits.walked.bound (visits.left ∙ ap (λ (shelf : ShelfState). with_shelf shelf old) visits.walked.after)
      (sym visits.walked.fault) visits.told works
    where
      behind : (n : ℕ) → n ≤ calls_for (option_map_or most (table_of (head_spot head) old.heads) 0) → between ≡ with_shelf (after_calls n old.shelf) old → fails_within n old.shelf.armed ≡ false
          → IfSome old.shelf.held (λ held. Finds sees (by_table (answer held) old (head_spot head)) (Ok x))
          → Works kind key hmac_key head inner inner_cost numbers result between new
          → Works kind key hmac_key head edit (λ table. calls_for (most table) + inner_cost table) numbers result old new
      behind n few is quiet finds works =
          let w : Works kind key hmac_key head inner inner_cost numbers result (with_shelf (after_calls n old.shelf) old) new =
          subst (λ (family : FamilyState). Works kind key hmac_key head inner inner_cost numbers result family new) is works in
          record {
            calls = n + w.calls;
            put = w.put;
            draws = w.draws;
            bound = both_calls most inner_cost n w.calls (table_of (head_spot head) old.heads) few w.bound;
            left = w.left ∙ after_used n w.calls w.draws w.put old;
            fault = w.fault ∙ sym (fails_more n w.calls old.shelf quiet);
            among = w.among;
            made = after_edited w.draws result old (after_calls n old.shelf) w.made;
            told =
                both old.shelf.held finds
                (subst (λ (o : Option (List (List ℕ))). IfSome o (λ held. IsToldWork kind key hmac_key head held (inner held) w.put w.draws result
                (with_shelf (after_calls n old.shelf) old) new)) (held_kept n old.shelf) w.told)
                (λ held seen told.
                after_told inner table held w.put w.draws result old new (after_calls n old.shelf) found
                (same held (by_found held seen)) (ap length (sizes_kept n old.shelf)) told);
          }
        where
          by_found : (held : List (List ℕ)) → by_table (answer held) old (head_spot head) ≡ Ok (sees x) → answer held table ≡ Ok (sees x)
          by_found held seen = subst (λ (o : Option Table). option_map_or (answer held) o (Err refusals.NoSnapshot) ≡ Ok (sees x)) found seen

  -- ---- without a call of the shelf

  halted_ended : (halt : Halt) (old : FamilyState) (held rest : List (List ℕ))
      → ((why : Refusal) → halt ≡ halts.Refused why → by_table (edit held) old (head_spot head) ≡ Err why)
      → WorkEnded kind key hmac_key head held (edit held) [] rest 0 (Err halt) old old
  halted_ended (halts.Refused why) old held rest fails = (inl refl, inr (inl (fails why refl)))
  halted_ended halts.ShelfFault old held rest fails = inl refl
  halted_ended halts.NoMemory old held rest fails = inl refl

  works_halted : {cost : Table → ℕ} (halt : Halt) (old : FamilyState) → IsOneHalt numbers halt → is_fault {X = Made} (Err halt) ≡ false
      → ((held : List (List ℕ)) (why : Refusal) → halt ≡ halts.Refused why → by_table (edit held) old (head_spot head) ≡ Err why)
      → Works kind key hmac_key head edit cost numbers (Err halt) old old
  works_halted halt old among quiet fails = record {
    calls = 0;
    put = [];
    draws = 0;
    bound = omega arith;
    left = walked_used 0 old old old.shelf refl refl;
    fault = quiet;
    among = among;
    made = tt;
    told =
        for_each old.shelf.held (λ held. record {
          rest = edit_puts key old.salts held (length old.shelf.sizes) (by_table (edit held) old (head_spot head));
          parts = refl;
          counted = no_puts (edit_draws (by_table (edit held) old (head_spot head)));
          ended = halted_ended halt old held (edit_puts key old.salts held (length old.shelf.sizes) (by_table (edit held) old (head_spot head)))
              (λ why is. fails held why is);
        });
  }

  -- memory ran out before anything was put
  pub works_none : {cost : Table → ℕ} (halt : Halt) (old : FamilyState) → halt ≡ halts.NoMemory → Works kind key hmac_key head edit cost numbers (Err halt) old old
  works_none {cost = cost} halt old is =
      subst (λ (h : Halt). Works kind key hmac_key head edit cost numbers (Err h) old old) (sym is)
      (works_halted halts.NoMemory old tt refl (λ held why same. absurd (cc)))

  -- the head can't be changed so
  pub works_refused : {cost : Table → ℕ} (why : Refusal) (old : FamilyState) → IsOneHalt numbers (halts.Refused why)
      → ((held : List (List ℕ)) → by_table (edit held) old (head_spot head) ≡ Err why)
      → Works kind key hmac_key head edit cost numbers (Err (halts.Refused why)) old old
  works_refused why old among fails =
      works_halted (halts.Refused why) old among refl
      (λ held other same. let e : why ≡ other = cc in subst (λ (w : Refusal). by_table (edit held) old (head_spot head) ≡ Err w) e (fails held))
