-- A change of a head with its entry, over plain variables.
use Rattle.std.proofs.Common.{◌≡◌, ℕ, ◌+◌, ◌-◌, ◌==◌, ◌<◌, min, Bool, true, false, List, [], ◌∷◌, ◌++◌, length, map, refl, sym, ap, subst, ◌∙◌, inl, inr, arith, Option, Some, None, is_ok, is_err, is_none, nat_le, if◌then◌else◌, Result, Ok, Err, length-append, ap₂}
use Rattle.std.specs.Prelude.{IfSome, IfOk, IfErr, IsErr, IsErrAnd, ◌⊎◌, ◌↔◌}
use Rattle.std.specs.List.{list_any}
use Rattle.std.specs.Result.{result_map_both}
use Rattle.std.proofs.lemmas.Bool.{eqb-true}
use Rattle.std.proofs.lemmas.List.{length-map}
use Rattle.dataset_tree.specs.Refusal.{number_of}
use Rattle.dataset_tree.specs.declared.refusal.Refusal.{Refusal}
use Rattle.dataset_tree.specs.declared.refusal.Refusal.TheVariants as refusals
use Rattle.dataset_tree.specs.declared.refusal.Stop.{Stop}
use Rattle.dataset_tree.specs.declared.refusal.Stop.TheVariants as stops
use Rattle.block_crypt.specs.Blocks.{KeyValue}
use Rattle.shelf_store.specs.ShelfState.{ShelfState}
use Rattle.indirect_macs.specs.Calls.{fails_within}
use Rattle.indirect_macs.specs.Replaced.{with_blocks}
use Rattle.indirect_macs.proofs.Putting.{sizes_kept}
use Rattle.family_log.specs.declared.table.Table.{Table}
use Rattle.family_log.specs.declared.entry.HeadChange.{HeadChange}
use Rattle.family_log.specs.declared.entry.LogEntry.TheVariants as entries
use Rattle.family_log.specs.declared.entry.Spot.{Spot}
use Rattle.family_log.specs.Calls.{new_place, with_change, with_entry}
use Rattle.family_log.specs.Log.{head_spot}
use Rattle.family_log.specs.Model.{FamilyState, head_of, table_of}
use Rattle.file_blocks.specs.Changes.{AreDraws}
use Rattle.file_dataset.specs.declared.edit.Made.{Made}
use Rattle.file_dataset.specs.declared.halt.Halt.{Halt}
use Rattle.file_dataset.specs.declared.halt.Halt.TheVariants as halts
use Rattle.file_dataset.specs.declared.kind.Kind.{Kind}
use Rattle.file_dataset.specs.declared.limits.TheConstants.{MAX_PUTS}
use Rattle.file_dataset.specs.declared.wrote.Wrote.{Wrote}
use Rattle.file_dataset.specs.Calls.{IsRefusedBefore, IsRefusedBy, TellsFault, answered_at, by_table, noted_by}
use Rattle.file_dataset.specs.ChangeCalls.{DrawsForAll, EditEnded, Edits, HasEdited, IsCause, IsEditOf, IsOneOf, IsToldEdit, LeavesHead, refused_edit, tested_edit, used, with_refusal, wrote_by}
use Rattle.file_dataset.specs.Changes.{Edit, edit_draws, edit_puts}
use Rattle.file_dataset.specs.ChangeSteps.{IsEnded, IsToldWork, IsUnused, WorkEnded, Works, with_end}
use Rattle.file_dataset.specs.Steps.{IsHaltedBy, IsOneHalt, IsStopAt, is_fault, stop_of}
use Rattle.file_dataset.proofs.FormLemmas.{by_space}
use Rattle.file_dataset.proofs.NoteLemmas.{answered_there, for_each}
use Rattle.file_dataset.proofs.WorkLemmas.{no_puts, walked_used}

-- ---- refusals that are no failure of the shelf

-- the failure of the shelf is none of these
abbrev pub HasNoFault : (numbers : List ℕ) → Type 0
HasNoFault numbers = list_any (λ number. number == 25) numbers ≡ false

other_number : (numbers : List ℕ) (why : Refusal) → HasNoFault numbers → IsOneHalt numbers (halts.Refused why) → (number_of why == 25) ≡ false
other_number numbers why none among =
    by_space (number_of why == 25)
    (λ same.
    let e : number_of why ≡ 25 = eqb-true (number_of why) 25 same in
    let is : list_any (λ number. number == 25) numbers ≡ true = subst (λ (n : ℕ). list_any (λ number. number == n) numbers ≡ true) e among in
    absurd (cc))
    (λ other. other)

no_fault : (numbers : List ℕ) (why : Refusal) → HasNoFault numbers → IsOneHalt numbers (halts.Refused why) → why ≡ refusals.ShelfFault → ⊥
no_fault numbers why none among same =
    let other : (number_of why == 25) ≡ false = other_number numbers why none among in
    let is : (number_of refusals.ShelfFault == 25) ≡ false = subst (λ (w : Refusal). (number_of w == 25) ≡ false) same other in
    absurd (cc)

no_error : (place : Result ℕ Refusal) → is_ok place ≡ true → is_err place ≡ false
no_error (Ok at) is = refl
no_error (Err why) is = absurd (cc)

-- ---- what was used

used_draws : (calls draws : ℕ) (put : List (List ℕ)) (old : FamilyState) → (used calls put draws old).salts.made - old.salts.made ≡ draws
used_draws calls draws put old = omega arith

used_puts : (calls draws : ℕ) (put : List (List ℕ)) (old : FamilyState)
    → length (used calls put draws old).shelf.sizes - length old.shelf.sizes ≡ length put
used_puts calls draws put old =
    let sizes : length (used calls put draws old).shelf.sizes ≡ length (old.shelf.sizes ++ map length put) = ap length (sizes_kept calls (with_blocks put old.shelf)) in
    let parts : length (old.shelf.sizes ++ map length put) ≡ length old.shelf.sizes + length (map length put) = length-append old.shelf.sizes (map length put) in
    let puts : length (map length put) ≡ length put = length-map put length in
    omega (arith, sizes, parts, puts)

-- a stop that is passed on
passed_on : {X : Type 0} (P : Result X Stop → Type 0) (result : Result X Stop) (stop : Stop) → IsErr result × IsErrAnd result (λ e. e ≡ stop)
    → P (Err stop) → P result
passed_on P (Ok x) stop is holds = absurd (cc)
passed_on {X = X} P (Err e) stop is holds = subst (λ (s : Stop). P (Err s)) (sym is.1) holds

-- ---- the call

module _ (kind : Kind) (key : KeyValue) (hmac_key : List ℕ) (head : ℕ) (edit : (held : List (List ℕ)) → Table → Result Edit Refusal)
    (numbers : List ℕ) where
  edit_behind : (calls draws : ℕ) (put : List (List ℕ)) (old : FamilyState) (change : HeadChange) → IsEditOf hmac_key old head change
      → IsEditOf hmac_key (used calls put draws old) head change
  edit_behind calls draws put old change is = record {
    told = record { of_head = is.told.of_head; table = is.told.table; lengths = is.told.lengths };
    portable = is.portable;
  }

  -- what the answer leaves, where the entry stands in the log
  entered_left : (calls draws : ℕ) (put : List (List ℕ)) (old new : FamilyState) (mid : Result Made Halt) → is_ok (new_place old head) ≡ true
      → HasNoFault numbers → IfErr mid (IsOneHalt numbers)
      → IfOk mid (λ made. IsEditOf hmac_key old head made.change × (made.wrote ≡ wrote_by old.salts draws))
      → new ≡ with_end head (old.salts.made, length old.shelf.sizes) mid (used calls put draws old)
      → LeavesHead hmac_key head draws (length put) (result_map_both (λ made. made.wrote) stop_of mid) (used calls put draws old) new
  entered_left calls draws put old new (Ok made) place none among made_so is = (made.change, edit_behind calls draws put old made.change made_so.0, is)
  entered_left calls draws put old new (Err (halts.Refused why)) place none among made_so is =
      let room : is_err (new_place (used calls put draws old) head) ≡ false = no_error (new_place old head) place in
      let other : (number_of why == 25) ≡ false = other_number numbers why none among in
      rw (room, other) is
  entered_left calls draws put old new (Err halts.ShelfFault) place none among made_so is =
      let room : is_err (new_place (used calls put draws old) head) ≡ false = no_error (new_place old head) place in
      rw room (is ∙ ap₂ (λ (d p : ℕ). with_entry (entries.Refused (head_spot head) refusals.ShelfFault d (min p MAX_PUTS)) (used calls put draws old))
      (used_draws calls draws put old) (used_puts calls draws put old))
  entered_left calls draws put old new (Err halts.NoMemory) place none among made_so is = is

  entered_fault : (failed : Bool) (mid : Result Made Halt) → HasNoFault numbers → IfErr mid (IsOneHalt numbers) → is_fault mid ≡ failed
      → TellsFault failed (result_map_both (λ made. made.wrote) stop_of mid)
  entered_fault failed (Ok made) none among is = sym is
  entered_fault failed (Err (halts.Refused why)) none among is = (λ same. absurd (no_fault numbers why none among same), λ fails. absurd (cc))
  entered_fault failed (Err halts.ShelfFault) none among is = (λ same. sym is, λ fails. refl)
  entered_fault failed (Err halts.NoMemory) none among is = tt

  entered_among : (mid : Result Made Halt) → IfErr mid (IsOneHalt numbers) → IfErr (result_map_both (λ made. made.wrote) stop_of mid) (IsOneOf numbers)
  entered_among (Ok made) among = tt
  entered_among (Err (halts.Refused why)) among = inr among
  entered_among (Err halts.ShelfFault) among = inl refl
  entered_among (Err halts.NoMemory) among = tt

  entered_answer : (answer : ℕ → Wrote) (draws : ℕ) (old : FamilyState) (mid : Result Made Halt)
      → IfOk mid (λ made. IsEditOf hmac_key old head made.change × (made.wrote ≡ answer draws))
      → IfOk (result_map_both (λ made. made.wrote) stop_of mid) (λ x. x ≡ answer draws)
  entered_answer answer draws old (Ok made) is = is.1
  entered_answer answer draws old (Err halt) is = tt

  -- and where the shelf tells what it holds
  entered_told : (held : List (List ℕ)) (calls draws : ℕ) (put rest : List (List ℕ)) (old new : FamilyState) (mid : Result Made Halt)
      → new ≡ with_end head (old.salts.made, length old.shelf.sizes) mid (used calls put draws old)
      → by_table (edit held) old (head_spot head) ≡ answered_at (edit held) old (head_spot head)
      → WorkEnded kind key hmac_key head held (edit held) put rest draws mid old (used calls put draws old)
      → EditEnded kind key hmac_key head held (edit held) put rest draws (result_map_both (λ made. made.wrote) stop_of mid) old (used calls put draws old) new
  entered_told held calls draws put rest old new (Ok made) is same ended = record {
    table = ended.table;
    made = ended.e;
    of_head = ended.of_head;
    is = ended.is;
    all = ended.all;
    enough = ended.enough;
    left = is ∙ ap (λ (change : HeadChange). with_change head change (used calls put draws old)) ended.change;
  }
  entered_told held calls draws put rest old new (Err (halts.Refused why)) is same ended =
      subst (λ (a : Result Edit Refusal). DrawsForAll old.salts a draws × IsCause old.salts a put rest draws (used calls put draws old).shelf why) same ended
  entered_told held calls draws put rest old new (Err halts.ShelfFault) is same ended =
      (subst (λ (a : Result Edit Refusal). DrawsForAll old.salts a draws) same ended, inl refl)
  entered_told held calls draws put rest old new (Err halts.NoMemory) is same ended =
      subst (λ (a : Result Edit Refusal). DrawsForAll old.salts a draws) same ended

  -- the draws that were made were enough, or none
  all_drawn : (held : List (List ℕ)) (draws : ℕ) (put rest : List (List ℕ)) (old new : FamilyState) (mid : Result Made Halt)
      → WorkEnded kind key hmac_key head held (edit held) put rest draws mid old new → DrawsForAll old.salts (by_table (edit held) old (head_spot head)) draws
  all_drawn held draws put rest old new (Ok made) ended =
      let made_of : by_table (edit held) old (head_spot head) ≡ Ok ended.e = rw (ended.of_head, ended.is) refl in
      subst (λ (a : Result Edit Refusal). DrawsForAll old.salts a draws) (sym made_of) (inr ended.enough)
  all_drawn held draws put rest old new (Err (halts.Refused why)) ended = ended.0
  all_drawn held draws put rest old new (Err halts.ShelfFault) ended = ended
  all_drawn held draws put rest old new (Err halts.NoMemory) ended = ended

  told_edit : (held : List (List ℕ)) (calls draws : ℕ) (put : List (List ℕ)) (old new : FamilyState) (mid : Result Made Halt) (result : Result Wrote Stop)
      → is_ok (new_place old head) ≡ true → IsEnded head (old.salts.made, length old.shelf.sizes) mid result (used calls put draws old) new
      → IsToldWork kind key hmac_key head held (edit held) put draws mid old (used calls put draws old)
      → IsToldEdit kind key hmac_key head held (edit held) put draws result old (used calls put draws old) new
  told_edit held calls draws put old new mid result place entry told =
      let same : by_table (edit held) old (head_spot head) ≡ answered_at (edit held) old (head_spot head) = sym (answered_there (edit held) old (head_spot head) place) in
      record {
        rest = told.rest;
        parts = told.parts ∙ ap (edit_puts key old.salts held (length old.shelf.sizes)) same;
        counted = subst (λ (a : Result Edit Refusal). AreDraws (edit_draws a) (length put) draws) same told.counted;
        ended = by_entry same entry;
      }
    where
      by_entry : by_table (edit held) old (head_spot head) ≡ answered_at (edit held) old (head_spot head)
          → IsEnded head (old.salts.made, length old.shelf.sizes) mid result (used calls put draws old) new
          → EditEnded kind key hmac_key head held (edit held) put told.rest draws result old (used calls put draws old) new
      by_entry same (inl entered) =
          subst (λ (r : Result Wrote Stop). EditEnded kind key hmac_key head held (edit held) put told.rest draws r old (used calls put draws old) new)
          (sym entered.0) (entered_told held calls draws put told.rest old new mid entered.1 same told.ended)
      by_entry same (inr none) =
          subst (λ (r : Result Wrote Stop). EditEnded kind key hmac_key head held (edit held) put told.rest draws r old (used calls put draws old) new)
          (sym none.0) (subst (λ (a : Result Edit Refusal). DrawsForAll old.salts a draws) same
          (all_drawn held draws put told.rest old (used calls put draws old) mid told.ended))

  by_entry : (P : Result Wrote Stop → Type 0) (mid : Result Made Halt) (result : Result Wrote Stop) (before : ℕ × ℕ) (old new : FamilyState)
      → IsEnded head before mid result old new → P (result_map_both (λ made. made.wrote) stop_of mid) → P (Err stops.NoMemory) → P result
  by_entry P mid result before old new (inl entered) answered none = subst P (sym entered.0) answered
  by_entry P mid result before old new (inr memory) answered none = subst P (sym memory.0) none

  -- the work on a head, and its entry
  pub edits_ended : {cost : Table → ℕ} (mid : Result Made Halt) (result : Result Wrote Stop) (before : ℕ × ℕ) (old between new : FamilyState) → HasNoFault numbers
      → is_ok (new_place old head) ≡ true → before.0 ≡ old.salts.made → before.1 ≡ length old.shelf.sizes
      → Works kind key hmac_key head edit cost numbers mid old between → IsEnded head before mid result between new
      → Edits kind key hmac_key head edit cost numbers (wrote_by old.salts) result old new
  edits_ended mid result before old between new none place draws_before puts_before works ended =
      let entry : IsEnded head (old.salts.made, length old.shelf.sizes) mid result (used works.calls works.put works.draws old) new =
      subst (λ (family : FamilyState). IsEnded head (old.salts.made, length old.shelf.sizes) mid result family new) works.left
      (subst (λ (counts : ℕ × ℕ). IsEnded head counts mid result between new) (λ i. (draws_before i, puts_before i)) ended) in
      record {
        calls = works.calls;
        put = works.put;
        draws = works.draws;
        bound = works.bound;
        left = by_left entry;
        fault = by_entry (TellsFault (fails_within works.calls old.shelf.armed)) mid result _ _ new entry
            (entered_fault (fails_within works.calls old.shelf.armed) mid none works.among works.fault) tt;
        among = by_entry (λ (r : Result Wrote Stop). IfErr r (IsOneOf numbers)) mid result _ _ new entry (entered_among mid works.among) tt;
        answered = by_entry (λ (r : Result Wrote Stop). IfOk r (λ x. x ≡ wrote_by old.salts works.draws)) mid result _ _ new entry
            (entered_answer (wrote_by old.salts) works.draws old mid works.made) tt;
        told = by_held entry old.shelf.held works.told;
      }
    where
      by_left : IsEnded head (old.salts.made, length old.shelf.sizes) mid result (used works.calls works.put works.draws old) new
          → LeavesHead hmac_key head works.draws (length works.put) result (used works.calls works.put works.draws old) new
      by_left (inl entered) =
          subst (λ (r : Result Wrote Stop). LeavesHead hmac_key head works.draws (length works.put) r (used works.calls works.put works.draws old) new)
          (sym entered.0) (entered_left works.calls works.draws works.put old new mid place none works.among works.made entered.1)
      by_left (inr memory) =
          subst (λ (r : Result Wrote Stop). LeavesHead hmac_key head works.draws (length works.put) r (used works.calls works.put works.draws old) new)
          (sym memory.0) memory.1

      by_held : IsEnded head (old.salts.made, length old.shelf.sizes) mid result (used works.calls works.put works.draws old) new
          → (o : Option (List (List ℕ))) → IfSome o (λ held. IsToldWork kind key hmac_key head held (edit held) works.put works.draws mid old between)
          → IfSome o (λ held. IsToldEdit kind key hmac_key head held (edit held) works.put works.draws result old (used works.calls works.put works.draws old) new)
      by_held entry None told = tt
      by_held entry (Some held) told =
          told_edit held works.calls works.draws works.put old new mid result place entry
          (subst (λ (family : FamilyState). IsToldWork kind key hmac_key head held (edit held) works.put works.draws mid old family) works.left told)

  -- ---- a call that isn't begun

  edits_unready : {X : Type 0} {cost : Table → ℕ} (answer : ℕ → X) (stop : Stop) (old : FamilyState)
      → list_any (λ number. number == 27) numbers ≡ true → list_any (λ number. number == 34) numbers ≡ true
      → IsStopAt (new_place old head) stop → Edits {X = X} kind key hmac_key head edit cost numbers answer (Err stop) old old
  edits_unready {X = X} answer stop old full gone at = record {
    calls = 0;
    put = [];
    draws = 0;
    bound = omega arith;
    left = by_left stop at;
    fault = by_fault stop at;
    among = by_among stop at;
    answered = tt;
    told =
        for_each old.shelf.held (λ held. record {
          rest = edit_puts key old.salts held (length old.shelf.sizes) (answered_at (edit held) old (head_spot head));
          parts = refl;
          counted = no_puts (edit_draws (answered_at (edit held) old (head_spot head)));
          ended = by_ended held stop at;
        });
  }
    where
      nothing : old ≡ used 0 [] 0 old
      nothing = walked_used 0 old old old.shelf refl refl

      by_left : (stop : Stop) → IsStopAt (new_place old head) stop → LeavesHead {X = X} hmac_key head 0 0 (Err stop) (used 0 [] 0 old) old
      by_left (stops.Refused why) at =
          let no_room : is_err (new_place (used 0 [] 0 old) head) ≡ true = rw at refl in
          rw no_room nothing
      by_left stops.NoMemory at = nothing

      by_number : (P : Refusal → Type 0) (why : Refusal) → new_place old head ≡ Err why → P (refusals.NoHead head) → P (refusals.Full old.room) → P why
      by_number P why at no_head no_room = by_place (is_none (head_of head old.heads)) (nat_le old.room (length old.log)) at
        where
          by_place : (a b : Bool) → (let place : Result ℕ Refusal = (if a then Err (refusals.NoHead head) else (if b then Err (refusals.Full old.room) else Ok (length old.log))) in place ≡ Err why)
              → P why
          by_place true b is = let e : refusals.NoHead head ≡ why = cc in subst P e no_head
          by_place false true is = let e : refusals.Full old.room ≡ why = cc in subst P e no_room
          by_place false false is = absurd (cc)

      by_fault : (stop : Stop) → IsStopAt (new_place old head) stop → TellsFault {X = X} false (Err stop)
      by_fault (stops.Refused why) at =
          by_number (λ (w : Refusal). (w ≡ refusals.ShelfFault) ↔ (false ≡ true)) why at (λ same. absurd (cc), λ is. absurd (cc)) (λ same. absurd (cc), λ is. absurd (cc))
      by_fault stops.NoMemory at = tt

      by_among : (stop : Stop) → IsStopAt (new_place old head) stop → IsOneOf numbers stop
      by_among (stops.Refused why) at = by_number (λ (w : Refusal). IsOneOf numbers (stops.Refused w)) why at (inr gone) (inr full)
      by_among stops.NoMemory at = tt

      by_ended : (held : List (List ℕ)) (stop : Stop) → IsStopAt (new_place old head) stop
          → EditEnded {X = X} kind key hmac_key head held (edit held) [] (edit_puts key old.salts held (length old.shelf.sizes) (answered_at (edit held) old (head_spot head)))
          0 (Err stop) old (used 0 [] 0 old) old
      by_ended held (stops.Refused why) at =
          let fails : answered_at (edit held) old (head_spot head) ≡ Err why = rw at refl in
          (inl refl, inr (inl fails))
      by_ended held stops.NoMemory at = inl refl

  pub edits_passed : {X : Type 0} {cost : Table → ℕ} (answer : ℕ → X) (result : Result X Stop) (stop : Stop) (old : FamilyState)
      → list_any (λ number. number == 27) numbers ≡ true → list_any (λ number. number == 34) numbers ≡ true
      → IsErr result × IsErrAnd result (λ e. e ≡ stop) → IsStopAt (new_place old head) stop
      → Edits {X = X} kind key hmac_key head edit cost numbers answer result old old
  edits_passed {X = X} {cost = cost} answer result stop old full gone passes at =
      passed_on (λ (r : Result X Stop). Edits {X = X} kind key hmac_key head edit cost numbers answer r old old) result stop passes
      (edits_unready answer stop old full gone at)

  -- ---- a call that answers nothing

  pub edits_nothing : {cost : Table → ℕ} (answer : ℕ → Wrote) (wrote : Wrote) (old new : FamilyState) → Edits kind key hmac_key head edit cost numbers answer (Ok wrote) old new
      → Edits {X = Unit {0}} kind key hmac_key head edit cost numbers (λ draws. tt) (Ok tt) old new
  edits_nothing answer wrote old new is = record {
    calls = is.calls;
    put = is.put;
    draws = is.draws;
    bound = is.bound;
    left = is.left;
    fault = is.fault;
    among = tt;
    answered = refl;
    told = ok_told old.shelf.held is.told;
  }
    where
      ok_told : (o : Option (List (List ℕ)))
          → IfSome o (λ held. IsToldEdit kind key hmac_key head held (edit held) is.put is.draws (Ok wrote) old (used is.calls is.put is.draws old) new)
          → IfSome o (λ held. IsToldEdit {X = Unit {0}} kind key hmac_key head held (edit held) is.put is.draws (Ok tt) old (used is.calls is.put is.draws old) new)
      ok_told None told = tt
      ok_told (Some held) told = record { rest = told.rest; parts = told.parts; counted = told.counted; ended = told.ended }

  stop_left : (X Y : Type 0) (draws puts : ℕ) (stop : Stop) (spent new : FamilyState) → LeavesHead {X = X} hmac_key head draws puts (Err stop) spent new
      → LeavesHead {X = Y} hmac_key head draws puts (Err stop) spent new
  stop_left X Y draws puts (stops.Refused why) spent new is = is
  stop_left X Y draws puts stops.NoMemory spent new is = is

  stop_fault : (X Y : Type 0) (failed : Bool) (stop : Stop) → TellsFault {X = X} failed (Err stop) → TellsFault {X = Y} failed (Err stop)
  stop_fault X Y failed (stops.Refused why) is = is
  stop_fault X Y failed stops.NoMemory is = is

  stop_ended : (X Y : Type 0) (held put rest : List (List ℕ)) (draws : ℕ) (stop : Stop) (old spent new : FamilyState)
      → EditEnded {X = X} kind key hmac_key head held (edit held) put rest draws (Err stop) old spent new
      → EditEnded {X = Y} kind key hmac_key head held (edit held) put rest draws (Err stop) old spent new
  stop_ended X Y held put rest draws (stops.Refused why) old spent new is = is
  stop_ended X Y held put rest draws stops.NoMemory old spent new is = is

  pub edits_stopped : {cost : Table → ℕ} (answer : ℕ → Wrote) (stop : Stop) (old new : FamilyState) → Edits kind key hmac_key head edit cost numbers answer (Err stop) old new
      → Edits {X = Unit {0}} kind key hmac_key head edit cost numbers (λ draws. tt) (Err stop) old new
  edits_stopped answer stop old new is = record {
    calls = is.calls;
    put = is.put;
    draws = is.draws;
    bound = is.bound;
    left = stop_left Wrote (Unit {0}) is.draws (length is.put) stop (used is.calls is.put is.draws old) new is.left;
    fault = stop_fault Wrote (Unit {0}) (fails_within is.calls old.shelf.armed) stop is.fault;
    among = is.among;
    answered = tt;
    told = err_told old.shelf.held is.told;
  }
    where
      err_told : (o : Option (List (List ℕ)))
          → IfSome o (λ held. IsToldEdit {X = Wrote} kind key hmac_key head held (edit held) is.put is.draws (Err stop) old (used is.calls is.put is.draws old) new)
          → IfSome o (λ held. IsToldEdit {X = Unit {0}} kind key hmac_key head held (edit held) is.put is.draws (Err stop) old (used is.calls is.put is.draws old) new)
      err_told None told = tt
      err_told (Some held) told = record {
        rest = told.rest;
        parts = told.parts;
        counted = told.counted;
        ended = stop_ended Wrote (Unit {0}) held is.put told.rest is.draws stop old (used is.calls is.put is.draws old) new told.ended;
      }

-- the place of the entry of a head's own spot
pub place_at : (family : FamilyState) (head : ℕ) (spot : Spot) → spot ≡ head_spot head → is_ok (new_place family spot.head) ≡ true
    → is_ok (new_place family head) ≡ true
place_at family head spot same is = subst (λ (s : Spot). is_ok (new_place family s.head) ≡ true) same is

pub stop_at : (family : FamilyState) (head : ℕ) (spot : Spot) (stop : Stop) → spot ≡ head_spot head → IsStopAt (new_place family spot.head) stop
    → IsStopAt (new_place family head) stop
stop_at family head spot stop same is = subst (λ (s : Spot). IsStopAt (new_place family s.head) stop) same is

-- the spot that was copied is the head's
pub ended_at : (head : ℕ) (note : Spot) (before : ℕ × ℕ) (mid : Result Made Halt) (result : Result Wrote Stop) (between new : FamilyState) → note ≡ head_spot head
    → IsEnded note.head before mid result between new → IsEnded head before mid result between new
ended_at head note before mid result between new same is = subst (λ (spot : Spot). IsEnded spot.head before mid result between new) same is

-- ---- refused before a block is read

-- a call that isn't begun
pub refused_unready : (X : Type 0) (hmac_key : List ℕ) (end head : ℕ) (stop : Stop) (old : FamilyState) → IsStopAt (new_place old head) stop
    → IfErr (refused_edit hmac_key end head old) (IsRefusedBefore {X = X} (head_spot head) (Err stop) old old)
refused_unready X hmac_key end head (stops.Refused why) old at =
    let no_room : is_err (new_place old head) ≡ true = rw at refl in
    rw at (record { refused = refl; left = rw no_room refl })
refused_unready X hmac_key end head stops.NoMemory old at = by_refusal (refused_edit hmac_key end head old)
  where
    by_refusal : (r : Result (Unit {0}) Refusal) → IfErr r (IsRefusedBefore {X = X} (head_spot head) (Err stops.NoMemory) old old)
    by_refusal (Ok x) = tt
    by_refusal (Err why) = record { refused = tt; left = by_space (is_err (new_place old head)) (λ no_room. rw no_room refl) (λ room. rw room refl) }

-- a call that is refused with an entry
pub refused_ended : (hmac_key : List ℕ) (end head : ℕ) (mid : Result Made Halt) (result : Result Wrote Stop) (before : ℕ × ℕ) (old between new : FamilyState)
    → is_ok (new_place old head) ≡ true → IfErr (by_table (tested_edit hmac_key end) old (head_spot head)) (IsUnused mid old between)
    → IsEnded head before mid result between new
    → IfErr (refused_edit hmac_key end head old) (IsRefusedBefore (head_spot head) result old new)
refused_ended hmac_key end head mid result before old between new place tested ended =
    rw (answered_there (tested_edit hmac_key end) old (head_spot head) place) (by_refusal (by_table (tested_edit hmac_key end) old (head_spot head)) tested)
  where
    by_halt : (mid : Result Made Halt) (why : Refusal) → IsHaltedBy mid why → IsEnded head before mid result old new
        → IsRefusedBefore (head_spot head) result old new why
    by_halt (Ok made) why halted entry = absurd halted
    by_halt (Err (halts.Refused other)) why halted (inl entered) =
        let room : is_err (new_place old head) ≡ false = no_error (new_place old head) place in
        subst (λ (r : Result Wrote Stop). IsRefusedBefore (head_spot head) r old new why) (sym entered.0)
        (record { refused = halted; left = rw room entered.1 })
    by_halt (Err halts.ShelfFault) why halted entry = absurd halted
    by_halt (Err halts.NoMemory) why halted (inl entered) =
        subst (λ (r : Result Wrote Stop). IsRefusedBefore (head_spot head) r old new why) (sym entered.0) (record { refused = tt; left = unnoted entered.1 })
      where
        unnoted : new ≡ old → new ≡ noted_by {X = Wrote} (head_spot head) (Err stops.NoMemory) old
        unnoted is = by_space (is_err (new_place old head)) (λ no_room. rw no_room is) (λ room. rw room is)
    by_halt (Err halt) why halted (inr memory) =
        subst (λ (r : Result Wrote Stop). IsRefusedBefore (head_spot head) r old new why) (sym memory.0)
        (record { refused = tt; left = by_space (is_err (new_place old head)) (λ no_room. rw no_room memory.1) (λ room. rw room memory.1) })

    by_refusal : (r : Result (Unit {0}) Refusal) → IfErr r (IsUnused mid old between) → IfErr r (IsRefusedBefore (head_spot head) result old new)
    by_refusal (Ok x) tested = tt
    by_refusal (Err why) tested = by_halt mid why tested.halted (subst (λ (family : FamilyState). IsEnded head before mid result family new) tested.same ended)

-- a call that answers nothing
pub refused_nothing : (r : Result (Unit {0}) Refusal) (head : ℕ) (wrote : Wrote) (old new : FamilyState) → IfErr r (IsRefusedBefore {X = Wrote} (head_spot head) (Ok wrote) old new)
    → IfErr r (IsRefusedBefore {X = Unit {0}} (head_spot head) (Ok tt) old new)
refused_nothing (Ok x) head wrote old new is = tt
refused_nothing (Err why) head wrote old new is = absurd is.refused

pub refused_stopped : (r : Result (Unit {0}) Refusal) (head : ℕ) (stop : Stop) (old new : FamilyState) → IfErr r (IsRefusedBefore {X = Wrote} (head_spot head) (Err stop) old new)
    → IfErr r (IsRefusedBefore {X = Unit {0}} (head_spot head) (Err stop) old new)
refused_stopped (Ok x) head stop old new is = tt
refused_stopped (Err why) head (stops.Refused other) old new is = record { refused = is.refused; left = is.left }
refused_stopped (Err why) head stops.NoMemory old new is = record { refused = tt; left = is.left }
