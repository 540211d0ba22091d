-- A change whose blocks were sealed, over plain variables.
use Rattle.std.proofs.Common.{◌≡◌, ℕ, ◌+◌, ◌≤◌, Bool, true, false, List, [], ◌∷◌, ◌++◌, length, refl, sym, ap, subst, ◌∙◌, inl, inr, arith, Option, Some, None, Result, Ok, Err}
use Rattle.std.specs.Prelude.{IfSome, IfOk, IfErr, IsOk, ◌==◌}
use Rattle.std.specs.List.{list_any}
use Rattle.std.specs.Option.{option_map, option_map_or}
use Rattle.std.proofs.lemmas.List.{append_cancel_left}
use Rattle.std.specs.Result.{result_map_both}
use Rattle.dataset_tree.specs.declared.refusal.Refusal.{Refusal}
use Rattle.dataset_tree.specs.declared.refusal.Refusal.TheVariants as refusals
use Rattle.block_crypt.specs.Blocks.{KeyValue}
use Rattle.salt_rotation.specs.SaltState.{SaltState}
use Rattle.salt_rotation.specs.declared.salts.TheConstants.{MAX_DRAWS}
use Rattle.shelf_store.specs.declared.shelf.TheConstants.{SHELF_BYTES}
use Rattle.shelf_store.specs.ShelfState.{ShelfState, after_calls}
use Rattle.indirect_macs.specs.declared.refs.MacError.{MacError}
use Rattle.indirect_macs.specs.declared.refs.MacError.TheVariants as mac_error
use Rattle.indirect_macs.specs.Calls.{fails_within}
use Rattle.indirect_macs.specs.Replaced.{with_blocks}
use Rattle.indirect_macs.proofs.Walking.{held_kept}
use Rattle.family_log.specs.declared.table.Table.{Table}
use Rattle.family_log.specs.declared.table.TableRow.{TableRow}
use Rattle.family_log.specs.declared.entry.HeadChange.{HeadChange}
use Rattle.family_log.specs.declared.entry.LengthAt.{LengthAt}
use Rattle.family_log.specs.Calls.{IsChangeOf}
use Rattle.family_log.specs.Log.{head_spot}
use Rattle.family_log.specs.Model.{FamilyState, table_of}
use Rattle.file_blocks.specs.declared.change.Wrote.{Wrote as Sealed}
use Rattle.file_blocks.specs.declared.object.Object.{Object}
use Rattle.file_blocks.specs.declared.write_error.WriteError.{WriteError}
use Rattle.file_blocks.specs.declared.write_error.WriteError.TheVariants as write_error
use Rattle.file_blocks.specs.Changes.{AreDraws, Change, ChangeEnded, Changed, HasDraws, Leaves, Leaving, after_draws, all_puts, calls_of, count_in, is_shelf_fault, last_number}
use Rattle.file_blocks.specs.Objects.{IsObject}
use Rattle.file_blocks.specs.Outcomes.{IsNoted, IsWrote}
use Rattle.file_dataset.specs.declared.edit.Draft.{Draft}
use Rattle.file_dataset.specs.declared.edit.Made.{Made}
use Rattle.file_dataset.specs.declared.halt.Halt.{Halt}
use Rattle.file_dataset.specs.declared.halt.Halt.TheVariants as halts
use Rattle.file_dataset.specs.declared.kind.Kind.{Kind}
use Rattle.file_dataset.specs.Calls.{by_table}
use Rattle.file_dataset.specs.ChangeCalls.{DrawsForAll, IsCause, IsEditOf, used, wrote_by}
use Rattle.file_dataset.specs.Changes.{Edit, change_by, edit_draws, edit_puts, if_read}
use Rattle.file_dataset.specs.ChangeSteps.{HasMade, IsDraft, IsMadeOf, IsToldWork, WorkEnded, Works, halt_at}
use Rattle.file_dataset.specs.Reads.{in_object}
use Rattle.file_dataset.specs.Steps.{IsOneHalt, is_fault}
use Rattle.file_dataset.proofs.CallCounts.{calls_more}

-- an edit that gives one object new blocks
abbrev pub edit_at : (object : ℕ) → (rows : List TableRow) → (other : Option LengthAt) → Change → Edit
edit_at object rows other change = record { object = object; change = change; rows = rows; other = other }

-- the refusals of a call that writes blocks: a place that fails, and no room
abbrev pub HasSealStops : (numbers : List ℕ) → Type 0
HasSealStops numbers = (list_any (λ number. number == 24) numbers ≡ true) × (list_any (λ number. number == 27) numbers ≡ true)

pub stop_among : (numbers : List ℕ) (object : ℕ) (stop : WriteError) → HasSealStops numbers → IsOneHalt numbers (halt_at object stop)
stop_among numbers object write_error.DrawsFull is = is.1
stop_among numbers object (write_error.Stopped (mac_error.MacFailed level place)) is = is.0
stop_among numbers object (write_error.Stopped mac_error.ShelfFault) is = tt
stop_among numbers object (write_error.Stopped mac_error.Full) is = is.1
stop_among numbers object (write_error.Stopped mac_error.NoMemory) is = tt

pub stop_fault : (X Y : Type 0) (object : ℕ) (stop : WriteError) → is_fault {X = X} (Err (halt_at object stop)) ≡ is_shelf_fault {X = Y} (Err stop)
stop_fault X Y object write_error.DrawsFull = refl
stop_fault X Y object (write_error.Stopped (mac_error.MacFailed level place)) = refl
stop_fault X Y object (write_error.Stopped mac_error.ShelfFault) = refl
stop_fault X Y object (write_error.Stopped mac_error.Full) = refl
stop_fault X Y object (write_error.Stopped mac_error.NoMemory) = refl

-- how many draws were made
drawn_all : (salts left : SaltState) (draws count : ℕ) → left ≡ after_draws draws salts → left ≡ after_draws count salts → draws ≡ count
drawn_all salts left draws count is all =
    let same : salts.made + draws ≡ salts.made + count = ap (λ (s : SaltState). s.made) (sym is ∙ all) in omega (arith, same)

nothing_put : (put : List (List ℕ)) → length put ≡ 0 → put ≡ []
nothing_put [] is = refl
nothing_put (p ∷ ps) is = absurd (omega (arith, is))

-- ---- what an edit of one object puts

module _ (object : ℕ) (rows : List TableRow) (other : Option LengthAt) where
  -- the edit of such a change
  abbrev pub edit_in : Result Change MacError → Result Edit Refusal
  edit_in change = if_read (edit_at object rows other) (in_object object change)

  draws_in : (change : Result Change MacError) → count_in change ≡ edit_draws (edit_in change)
  draws_in (Ok c) = refl
  draws_in (Err failed) = refl

  puts_of_edit : (key : KeyValue) (salts : SaltState) (held : List (List ℕ)) (base : ℕ) (change : Result Change MacError)
      → all_puts key salts held base change ≡ edit_puts key salts held base (edit_in change)
  puts_of_edit key salts held base (Ok c) = refl
  puts_of_edit key salts held base (Err failed) = refl

  edit_is_ok : (change : Result Change MacError) → IsOk change → IsOk (edit_in change)
  edit_is_ok (Ok c) is = refl
  edit_is_ok (Err failed) is = is

-- ---- a failure

-- of two accounts of what was put on a shelf that tells, both have the same blocks
same_put : (calls further : ℕ) (put other held : List (List ℕ)) (s t : ShelfState) → s.held ≡ Some held → t ≡ after_calls calls (with_blocks put s)
    → t ≡ after_calls further (with_blocks other s) → put ≡ other
same_put calls further put other held s t tells one two =
    let by_one = ap (λ (state : ShelfState). state.held) one ∙ held_kept calls (with_blocks put s) ∙ ap (option_map (λ before. before ++ put)) tells in
    let by_two = ap (λ (state : ShelfState). state.held) two ∙ held_kept further (with_blocks other s) ∙ ap (option_map (λ before. before ++ other)) tells in
    let same : Some (held ++ put) ≡ Some (held ++ other) = sym by_one ∙ by_two in
    append_cancel_left held put other (cc)

module _ (kind : Kind) (key : KeyValue) (hmac_key : List ℕ) (head : ℕ) (edit : (held : List (List ℕ)) → Table → Result Edit Refusal)
    (object : ℕ) (rows : List TableRow) (other : Option LengthAt) (change : (held : List (List ℕ)) → Result Change MacError)
    (table : Table) (old new : FamilyState) where
  abbrev IsThere : Type 0
  IsThere = table_of (head_spot head) old.heads ≡ Some table

  -- the edit is that of the change
  abbrev pub IsEditIn : Type 0
  IsEditIn = (held : List (List ℕ)) → edit held table ≡ edit_in object rows other (change held)

  abbrev TellsChange : (held : List (List ℕ)) → Result Sealed WriteError → Type 0
  TellsChange held sealed = Changed (λ wrote. wrote.object) key held (change held) sealed old.shelf new.shelf old.salts new.salts

  edit_there : (held : List (List ℕ)) → IsThere → IsEditIn → by_table (edit held) old (head_spot head) ≡ edit_in object rows other (change held)
  edit_there held there is = rw there (is held)

  stop_ended : (held : List (List ℕ)) (stop : WriteError) (count : ℕ) (answer : Result Edit Refusal) (put rest : List (List ℕ)) (draws : ℕ)
      → count ≡ edit_draws answer → answer ≡ edit_in object rows other (change held)
      → Leaves {X = Sealed} (Err stop) old.salts count (length put) draws
      → ChangeEnded {X = Sealed} (λ wrote. wrote.object) key old.salts held (length old.shelf.sizes) (change held) rest (Err stop) new.shelf
      → answer ≡ by_table (edit held) old (head_spot head)
      → WorkEnded kind key hmac_key head held (edit held) put rest draws (Err (halt_at object stop)) old new
  stop_ended held write_error.DrawsFull count answer put rest draws counts is leaves ended same =
      subst (λ (a : Result Edit Refusal). DrawsForAll old.salts a draws × IsCause old.salts a put rest draws new.shelf (refusals.Full MAX_DRAWS)) same (
        inl leaves.1,
        inr (inr (inl (
          refl,
          (
            subst IsOk (sym is) (edit_is_ok object rows other (change held) ended),
            rw (sym counts) leaves.2,
            nothing_put put leaves.0,
            leaves.1,
          ),
        ))),
      )
  stop_ended held (write_error.Stopped (mac_error.MacFailed level place)) count answer put rest draws counts is leaves ended same =
      subst (λ (a : Result Edit Refusal). DrawsForAll old.salts a draws × IsCause old.salts a put rest draws new.shelf (refusals.MacFailed object level place)) same
      (rw (sym counts) leaves.1, inr (inl (is ∙ ap (edit_in object rows other) ended)))
  stop_ended held (write_error.Stopped mac_error.ShelfFault) count answer put rest draws counts is leaves ended same =
      subst (λ (a : Result Edit Refusal). DrawsForAll old.salts a draws) same (rw (sym counts) leaves.1)
  stop_ended held (write_error.Stopped mac_error.Full) count answer put rest draws counts is leaves ended same =
      subst (λ (a : Result Edit Refusal). DrawsForAll old.salts a draws × IsCause old.salts a put rest draws new.shelf (refusals.Full SHELF_BYTES)) same (
        rw (sym counts) leaves.1,
        inr (inr (inr (
          refl,
          (
            subst IsOk (sym is) (edit_is_ok object rows other (change held) ended.0),
            ended.1,
            rw (sym counts) leaves.0,
          ),
        ))),
      )
  stop_ended held (write_error.Stopped mac_error.NoMemory) count answer put rest draws counts is leaves ended same =
      subst (λ (a : Result Edit Refusal). DrawsForAll old.salts a draws) same (rw (sym counts) leaves.1)

  -- ---- an answer

  -- the blocks were put, and the change was made of them
  made_ended : (held : List (List ℕ)) (wrote : Sealed) (draft : Draft) (made : Made) (c : Change) (put rest : List (List ℕ)) (draws : ℕ)
      → IsThere → IsEditIn → change held ≡ Ok c → IsDraft kind object rows other draft → IsMadeOf hmac_key head table draft wrote made
      → IsNoted key old.salts (length old.shelf.sizes) (Ok c) wrote
      → Leaves {X = Sealed} (Ok wrote) old.salts (length c.texts) (length put) draws
      → ChangeEnded {X = Sealed} (λ wrote. wrote.object) key old.salts held (length old.shelf.sizes) (Ok c) rest (Ok wrote) new.shelf
      → HasMade kind key hmac_key head held (edit held) rest made old
  made_ended held wrote draft made c put rest draws there is same of_draft of_made noted leaves ended = record {
    table = table;
    e = edit_at object rows other c;
    of_head = there;
    is = is held ∙ ap (edit_in object rows other) same;
    all = ended.0;
    enough = leaves.1;
    change =
        let new_table : made.change.table ≡ (change_by kind key hmac_key old.salts held (length old.shelf.sizes) head table (edit_at object rows other c)).table =
        of_made.0 ∙ rw (of_draft.1, of_draft.2, ended.1) refl in
        let new_entry : made.change.entry ≡ (change_by kind key hmac_key old.salts held (length old.shelf.sizes) head table (edit_at object rows other c)).entry =
        of_made.1 ∙ rw (of_draft.0, of_draft.1, of_draft.3, ended.1, noted.0, noted.1) refl in
        λ i. record { table = new_table i; entry = new_entry i };
  }

  ok_ended : (held : List (List ℕ)) (wrote : Sealed) (draft : Draft) (result : Result Made Halt) (found : Result Change MacError)
      (put rest : List (List ℕ)) (draws : ℕ)
      → IsThere → IsEditIn → change held ≡ found → IsDraft kind object rows other draft
      → IfOk result (IsMadeOf hmac_key head table draft wrote) → IfErr result (λ halt. halt ≡ halts.NoMemory)
      → IsNoted key old.salts (length old.shelf.sizes) found wrote
      → Leaves {X = Sealed} (Ok wrote) old.salts (count_in found) (length put) draws
      → ChangeEnded {X = Sealed} (λ wrote. wrote.object) key old.salts held (length old.shelf.sizes) found rest (Ok wrote) new.shelf
      → WorkEnded kind key hmac_key head held (edit held) put rest draws result old new
  ok_ended held wrote draft result (Err failed) put rest draws there is same of_draft made stop noted leaves ended = absurd noted
  ok_ended held wrote draft (Ok made) (Ok c) put rest draws there is same of_draft of_made stop noted leaves ended =
      made_ended held wrote draft made c put rest draws there is same of_draft of_made noted leaves ended
  ok_ended held wrote draft (Err halt) (Ok c) put rest draws there is same of_draft of_made stop noted leaves ended =
      let there_is : by_table (edit held) old (head_spot head) ≡ Ok (edit_at object rows other c) =
      edit_there held there is ∙ ap (edit_in object rows other) same in
      subst (λ (h : Halt). WorkEnded kind key hmac_key head held (edit held) put rest draws (Err h) old new) (sym stop)
      (subst (λ (a : Result Edit Refusal). DrawsForAll old.salts a draws) (sym there_is) (inr leaves.1))

  -- what ended_draft says of its answer
  pub record Drafted (draft : Draft) (sealed : Result Sealed WriteError) (result : Result Made Halt) : Type 0 where
    pub of_draft : IsDraft kind object rows other draft
    pub made : IfOk result (λ made. IfOk sealed (λ wrote. IsMadeOf hmac_key head table draft wrote made))
    pub failed : IfErr sealed (λ stop. result ≡ Err (halt_at draft.object stop))
    pub stop : IfOk sealed (λ _. IfErr result (λ halt. halt ≡ halts.NoMemory))

  each_made : (draft : Draft) (wrote : Sealed) (result : Result Made Halt)
      → IfOk result (λ made. IfOk {E = WriteError} (Ok wrote) (λ wrote. IsMadeOf hmac_key head table draft wrote made))
      → IfOk result (IsMadeOf hmac_key head table draft wrote)
  each_made draft wrote (Ok made) is = is
  each_made draft wrote (Err halt) is = tt

  halted : (draft : Draft) (stop : WriteError) (result : Result Made Halt) → Drafted draft (Err stop) result → result ≡ Err (halt_at object stop)
  halted draft stop result is = is.failed ∙ ap (λ (o : ℕ). let r : Result Made Halt = Err (halt_at o stop) in r) is.of_draft.1

  sealed_ended : (held : List (List ℕ)) (draft : Draft) (sealed : Result Sealed WriteError) (result : Result Made Halt) → (c : TellsChange held sealed)
      → IsThere → IsEditIn → Drafted draft sealed result → IfOk sealed (IsNoted key old.salts (length old.shelf.sizes) (change held))
      → WorkEnded kind key hmac_key head held (edit held) c.put c.rest c.draws result old new
  sealed_ended held draft (Ok wrote) result c there is drafted noted =
      ok_ended held wrote draft result (change held) c.put c.rest c.draws there is refl drafted.of_draft (each_made draft wrote result drafted.made) drafted.stop
      noted c.leaves c.ended
  sealed_ended held draft (Err stop) result c there is drafted noted =
      subst (λ (r : Result Made Halt). WorkEnded kind key hmac_key head held (edit held) c.put c.rest c.draws r old new) (sym (halted draft stop result drafted))
      (stop_ended held stop (count_in (change held)) (edit_in object rows other (change held)) c.put c.rest c.draws (draws_in object rows other (change held)) refl
      c.leaves c.ended (sym (edit_there held there is)))

  sealed_told : (held : List (List ℕ)) (draft : Draft) (sealed : Result Sealed WriteError) (result : Result Made Halt) → (c : TellsChange held sealed)
      → IsThere → IsEditIn → Drafted draft sealed result → IfOk sealed (IsNoted key old.salts (length old.shelf.sizes) (change held))
      → IsToldWork kind key hmac_key head held (edit held) c.put c.draws result old new
  sealed_told held draft sealed result c there is drafted noted = record {
    rest = c.rest;
    parts =
        c.parts ∙ puts_of_edit object rows other key old.salts held (length old.shelf.sizes) (change held)
        ∙ ap (edit_puts key old.salts held (length old.shelf.sizes)) (sym (edit_there held there is));
    counted =
        subst (λ (count : ℕ). AreDraws count (length c.put) c.draws)
        (draws_in object rows other (change held) ∙ ap edit_draws (sym (edit_there held there is))) c.counted;
    ended = sealed_ended held draft sealed result c there is drafted noted;
  }

  -- ---- on every shelf

  sealed_fault : (draft : Draft) (sealed : Result Sealed WriteError) (result : Result Made Halt) → Drafted draft sealed result
      → is_fault result ≡ is_shelf_fault sealed
  sealed_fault draft (Err stop) result drafted =
      ap (λ (r : Result Made Halt). is_fault r) (halted draft stop result drafted) ∙ stop_fault Made Sealed object stop
  sealed_fault draft (Ok wrote) (Ok made) drafted = refl
  sealed_fault draft (Ok wrote) (Err halt) drafted = ap (λ (h : Halt). is_fault {X = Made} (Err h)) drafted.stop

  sealed_among : (numbers : List ℕ) (draft : Draft) (sealed : Result Sealed WriteError) (result : Result Made Halt) → HasSealStops numbers
      → Drafted draft sealed result → IfErr result (IsOneHalt numbers)
  sealed_among numbers draft (Err stop) result listed drafted =
      subst (λ (r : Result Made Halt). IfErr r (IsOneHalt numbers)) (sym (halted draft stop result drafted)) (stop_among numbers object stop listed)
  sealed_among numbers draft (Ok wrote) (Ok made) listed drafted = tt
  sealed_among numbers draft (Ok wrote) (Err halt) listed drafted = subst (IsOneHalt numbers) (sym drafted.stop) tt

  -- what is made of sealed blocks is an edit of the head
  abbrev pub MakesEdits : (record_size : ℕ) → Draft → Type 0
  MakesEdits record_size draft =
      (wrote : Sealed) (made : Made) → IsMadeOf hmac_key head table draft wrote made → IsObject record_size wrote.object → IsEditOf hmac_key old head made.change

  sealed_made : (record_size new_length draws : ℕ) (draft : Draft) (sealed : Result Sealed WriteError) (result : Result Made Halt) → MakesEdits record_size draft
      → Drafted draft sealed result → IfOk sealed (IsWrote record_size new_length old.salts new.salts) → new.salts ≡ after_draws draws old.salts
      → IfOk result (λ made. IsEditOf hmac_key old head made.change × (made.wrote ≡ wrote_by old.salts draws))
  sealed_made record_size new_length draws draft sealed (Err halt) makes drafted wrote drawn = tt
  sealed_made record_size new_length draws draft (Err stop) (Ok made) makes drafted wrote drawn =
      let same : Ok made ≡ Err (halt_at object stop) = halted draft stop (Ok made) drafted in absurd (cc)
  sealed_made record_size new_length draws draft (Ok sealed) (Ok made) makes drafted wrote drawn =
      let count : draws ≡ length sealed.refs.items = drawn_all old.salts new.salts draws (length sealed.refs.items) drawn wrote.drawn in
      (makes sealed made drafted.made wrote.object, drafted.made.2 ∙ rw (count, wrote.number) refl)

  -- the whole
  pub works_sealed : {cost : Table → ℕ} (numbers : List ℕ) (most reads record_size new_length : ℕ) (draft : Draft) (sealed : Result Sealed WriteError) (result : Result Made Halt)
      → HasSealStops numbers → IsThere → IsEditIn → MakesEdits record_size draft → new ≡ record old { salts = new.salts; shelf = new.shelf }
      → reads + calls_of most ≤ cost table → Leaving most reads sealed old.shelf new.shelf old.salts new.salts → IfSome old.shelf.held (λ held. TellsChange held sealed)
      → IfOk sealed (λ wrote. IfSome old.shelf.held (λ held. IsNoted key old.salts (length old.shelf.sizes) (change held) wrote))
      → IfOk sealed (IsWrote record_size new_length old.salts new.salts) → Drafted draft sealed result
      → Works kind key hmac_key head edit cost numbers result old new
  works_sealed {cost = cost} numbers most reads record_size new_length draft sealed result listed there is makes left within leaving told noted wrote drafted =
      by_held old.shelf.held refl told noted
    where
      spent : (calls draws : ℕ) (put : List (List ℕ)) → new.shelf ≡ after_calls calls (with_blocks put old.shelf) → new.salts ≡ after_draws draws old.salts
          → new ≡ used calls put draws old
      spent calls draws put shelf salts = left ∙ (λ i. record old { salts = salts i; shelf = shelf i })

      few_calls : leaving.calls ≤ option_map_or cost (table_of (head_spot head) old.heads) 0
      few_calls = rw there (omega (arith, leaving.within, calls_more leaving.count most leaving.few, within))

      by_held : (o : Option (List (List ℕ))) → old.shelf.held ≡ o → IfSome o (λ held. TellsChange held sealed)
          → IfOk sealed (λ wrote. IfSome o (λ held. IsNoted key old.salts (length old.shelf.sizes) (change held) wrote))
          → Works kind key hmac_key head edit cost numbers result old new
      by_held None untold told noted = record {
        calls = leaving.calls;
        put = leaving.put;
        draws = leaving.draws;
        bound = few_calls;
        left = spent leaving.calls leaving.draws leaving.put leaving.after leaving.drawn;
        fault = sealed_fault draft sealed result drafted ∙ leaving.fault;
        among = sealed_among numbers draft sealed result listed drafted;
        made = sealed_made record_size new_length leaving.draws draft sealed result makes drafted wrote leaving.drawn;
        told = rw untold tt;
      }
      by_held (Some held) is_told c noted = record {
        calls = leaving.calls;
        put = c.put;
        draws = c.draws;
        bound = few_calls;
        left =
            let one : leaving.put ≡ c.put = same_put leaving.calls c.calls leaving.put c.put held old.shelf new.shelf is_told leaving.after c.after in
            spent leaving.calls c.draws c.put (leaving.after ∙ ap (λ (put : List (List ℕ)). after_calls leaving.calls (with_blocks put old.shelf)) one) c.drawn;
        fault = sealed_fault draft sealed result drafted ∙ leaving.fault;
        among = sealed_among numbers draft sealed result listed drafted;
        made = sealed_made record_size new_length c.draws draft sealed result makes drafted wrote c.drawn;
        told =
            subst (λ (o : Option (List (List ℕ))). IfSome o (λ held. IsToldWork kind key hmac_key head held (edit held) c.put c.draws result old new)) (sym is_told)
            (sealed_told held draft sealed result c there is drafted (each_noted sealed noted));
      }
        where
          each_noted : (sealed : Result Sealed WriteError)
              → IfOk sealed (λ wrote. IfSome (Some held) (λ held. IsNoted key old.salts (length old.shelf.sizes) (change held) wrote))
              → IfOk sealed (IsNoted key old.salts (length old.shelf.sizes) (change held))
          each_noted (Ok wrote) is = is
          each_noted (Err stop) is = tt
