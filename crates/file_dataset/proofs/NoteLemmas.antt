-- A reading of a family and its entry in the log, over plain variables.
use Rattle.std.proofs.Common.{◌≡◌, ℕ, Bool, true, false, List, refl, sym, ap, subst, ◌∙◌, inl, inr, arith, Option, Some, None, Result, Ok, Err}
use Rattle.std.specs.Prelude.{IfSome, IfErr, is_ok, is_err}
use Rattle.std.specs.Result.{result_map_both}
use Rattle.dataset_tree.specs.declared.refusal.Refusal.{Refusal}
use Rattle.dataset_tree.specs.declared.refusal.Refusal.TheVariants as refusals
use Rattle.dataset_tree.specs.declared.refusal.Stop.{Stop}
use Rattle.dataset_tree.specs.declared.refusal.Stop.TheVariants as stops
use Rattle.shelf_store.specs.ShelfState.{ShelfState, after_calls}
use Rattle.indirect_macs.specs.Calls.{fails_within}
use Rattle.family_log.specs.declared.table.Table.{Table}
use Rattle.family_log.specs.declared.entry.Spot.{Spot}
use Rattle.family_log.specs.Model.{FamilyState, table_of}
use Rattle.family_log.specs.Calls.{new_place}
use Rattle.file_dataset.specs.declared.halt.Halt.{Halt}
use Rattle.file_dataset.specs.declared.halt.Halt.TheVariants as halts
use Rattle.file_dataset.specs.Calls.{Answers, IsReadStop, IsRefusedBefore, IsRefusedBy, Reads, TellsFault, answered_at, by_table, is_of_reading, noted_by, refused_before, tested_portable, with_note}
use Rattle.file_dataset.specs.Steps.{Finds, IsHaltAt, IsHaltedBy, IsNoted, IsReadHalt, IsUnreadBy, Visits, Walked, is_fault, stop_of}
use Rattle.file_dataset.proofs.StepLemmas.{walked_halt}

pub for_each : (held : Option (List (List ℕ))) {P : List (List ℕ) → Type 0} → ((h : List (List ℕ)) → P h) → IfSome held P
for_each None each = tt
for_each (Some h) each = each h

-- ---- a reading at a spot

pub visited : {X Y : Type 0} (sees : X → Y) (answer : List (List ℕ) → Table → Result Y Refusal) (most : Table → ℕ)
    (hmac_key : List ℕ) (spot : Spot) (result : Result X Halt) (old new : FamilyState) (table : Table) (t : ShelfState)
    → table_of spot old.heads ≡ Some table → new ≡ record old { shelf = t } → Walked (most table) result old.shelf t
    → IfSome old.shelf.held (λ held. Finds sees (answer held table) result)
    → IfErr (tested_portable hmac_key table) (IsUnreadBy result old.shelf t)
    → Visits sees answer most hmac_key spot result old new
visited sees answer most hmac_key spot result old new table t found is walked told before =
    rw is (record { left = refl; walked = rw found walked; told = rw found told; before = rw found before })

unread : (X : Type 0) (r : Result (Unit {0}) Refusal) (s : ShelfState) → IfErr r (IsUnreadBy {X = X} (Err halts.NoMemory) s s)
unread X (Ok x) s = tt
unread X (Err why) s = record { halted = tt; same = refl }

pub unvisited : {X Y : Type 0} (sees : X → Y) (answer : List (List ℕ) → Table → Result Y Refusal) (most : Table → ℕ)
    (hmac_key : List ℕ) (spot : Spot) (halt : Halt) (old new : FamilyState) → new ≡ old
    → IsHaltAt (table_of spot old.heads) halt → Visits {X = X} sees answer most hmac_key spot (Err halt) old new
unvisited sees answer most hmac_key spot (halts.Refused why) old new is at =
    rw (is, at.1) (record {
      left = refl;
      walked = walked_halt _ refusals.NoSnapshot old.shelf refl;
      told = for_each old.shelf.held (λ held. rw at.0 refl);
      before = rw at.0 (record { halted = refl; same = refl });
    })
unvisited sees answer most hmac_key spot halts.ShelfFault old new is at = absurd at
unvisited {X = X} sees answer most hmac_key spot halts.NoMemory old new is at =
    rw is (record {
      left = refl;
      walked = record { calls = 0; bound = omega arith; after = refl; fault = refl; among = tt };
      told = for_each old.shelf.held (λ held. tt);
      before = unread X (by_table (tested_portable hmac_key) old spot) old.shelf;
    })

-- ---- the entry

pub other_note : {X Y : Type 0} (spot : Spot) (halt : Halt) (stop : Stop) (old new : FamilyState)
    → IsNoted {X = X} spot (Err halt) (Err stop) old new → IsNoted {X = Y} spot (Err halt) (Err stop) old new
other_note {X = X} {Y = Y} spot halt stop old new (inl noted) =
    let same : stop ≡ stop_of halt = is_same stop (stop_of halt) noted.0 in
    inl (ap (λ (s : Stop). let r : Result Y Stop = Err s in r) same, retyped stop noted.1)
  where
    is_same : (a b : Stop) → (let r : Result X Stop = Err a in r ≡ Err b) → a ≡ b
    is_same a b same = cc

    retyped : (stop : Stop) → new ≡ with_note {X = X} spot (Err stop) old → new ≡ with_note {X = Y} spot (Err stop) old
    retyped (stops.Refused why) is = is
    retyped stops.NoMemory is = is
other_note {X = X} {Y = Y} spot halt stop old new (inr none) =
    inr (ap (λ (s : Stop). let r : Result Y Stop = Err s in r) (is_same stop none.0), none.1)
  where
    is_same : (a : Stop) → (let r : Result X Stop = Err a in r ≡ Err stops.NoMemory) → a ≡ stops.NoMemory
    is_same a same = cc

not_err : (place : Result ℕ Refusal) → is_ok place ≡ true → is_err place ≡ false
not_err (Ok at) is = refl
not_err (Err why) is = absurd (cc)

pub answered_there : {X : Type 0} (answer : Table → Result X Refusal) (old : FamilyState) (spot : Spot)
    → is_ok (new_place old spot.head) ≡ true → answered_at answer old spot ≡ by_table answer old spot
answered_there {X = X} answer old spot is = by_place (new_place old spot.head) refl is
  where
    by_place : (place : Result ℕ Refusal) → new_place old spot.head ≡ place → is_ok place ≡ true
        → answered_at answer old spot ≡ by_table answer old spot
    by_place (Ok at) same is = rw same refl
    by_place (Err why) same is = absurd (cc)

-- a refusal of a reading isn't that by the shelf
not_fault : (why : Refusal) → is_of_reading why ≡ true → why ≡ refusals.ShelfFault → ⊥
not_fault why is same = let at : is_of_reading refusals.ShelfFault ≡ true = subst (λ (w : Refusal). is_of_reading w ≡ true) same is in absurd (cc)

tells : {X : Type 0} (failed : Bool) (mid : Result X Halt) → is_fault mid ≡ failed → IfErr mid IsReadHalt
    → TellsFault failed (result_map_both (λ x. x) stop_of mid)
tells failed (Ok x) fault among = sym fault
tells failed (Err (halts.Refused why)) fault among = (λ same. absurd (not_fault why among same), λ is. absurd (cc))
tells failed (Err halts.ShelfFault) fault among = (λ same. sym fault, λ is. refl)
tells failed (Err halts.NoMemory) fault among = tt

among_stops : {X : Type 0} (mid : Result X Halt) → IfErr mid IsReadHalt → IfErr (result_map_both (λ x. x) stop_of mid) IsReadStop
among_stops (Ok x) among = tt
among_stops (Err (halts.Refused why)) among = inr among
among_stops (Err halts.ShelfFault) among = inl refl
among_stops (Err halts.NoMemory) among = tt

answers : {X Y : Type 0} (sees : X → Y) (answer : Result Y Refusal) (mid : Result X Halt) → Finds sees answer mid
    → Answers sees answer (result_map_both (λ x. x) stop_of mid)
answers sees answer (Ok x) is = is
answers sees answer (Err (halts.Refused why)) is = inr is
answers sees answer (Err halts.ShelfFault) is = inl refl
answers sees answer (Err halts.NoMemory) is = tt

refuses : {X : Type 0} (mid : Result X Halt) (why : Refusal) → IsHaltedBy mid why → IsRefusedBy (result_map_both (λ x. x) stop_of mid) why
refuses (Ok x) why is = is
refuses (Err (halts.Refused other)) why is = is
refuses (Err halts.ShelfFault) why is = absurd is
refuses (Err halts.NoMemory) why is = tt

-- the family behind an entry
noted_is : {X : Type 0} (spot : Spot) (mid : Result X Halt) (result : Result X Stop) (between new : FamilyState)
    → is_ok (new_place between spot.head) ≡ true → IsNoted spot mid result between new → new ≡ noted_by spot result between
noted_is spot mid result between new place (inl noted) = rw (not_err (new_place between spot.head) place) noted.1
noted_is spot mid result between new place (inr none) = rw (not_err (new_place between spot.head) place, none.0) none.1

by_result : {X : Type 0} (P : Result X Stop → Type 0) (spot : Spot) (mid : Result X Halt) (result : Result X Stop) (between new : FamilyState)
    → IsNoted spot mid result between new → P (result_map_both (λ x. x) stop_of mid) → P (Err stops.NoMemory) → P result
by_result P spot mid result between new (inl noted) answered none = subst P (sym noted.0) answered
by_result P spot mid result between new (inr noted) answered none = subst P (sym noted.0) none

module _ {X Y : Type 0} (sees : X → Y) (answer : List (List ℕ) → Table → Result Y Refusal) (most : Table → ℕ) (hmac_key : List ℕ)
    (spot : Spot) (mid : Result X Halt) (result : Result X Stop) (old between new : FamilyState) where
  between_is : Visits sees answer most hmac_key spot mid old between → (t : ShelfState) → between.shelf ≡ t → between ≡ record old { shelf = t }
  between_is visits t same = visits.left ∙ ap (λ (shelf : ShelfState). let family : FamilyState = record old { shelf = shelf } in family) same

  there_still : is_ok (new_place old spot.head) ≡ true → Visits sees answer most hmac_key spot mid old between
      → is_ok (new_place between spot.head) ≡ true
  there_still place visits = rw visits.left place

  pub reads_left : is_ok (new_place old spot.head) ≡ true → Visits sees answer most hmac_key spot mid old between
      → IsNoted spot mid result between new → Reads most spot result old new
  reads_left place visits noted =
      let walked = visits.walked in
      let left : new ≡ noted_by spot result between = noted_is spot mid result between new (there_still place visits) noted in
      record {
        calls = walked.calls;
        bound = walked.bound;
        left = left ∙ ap (noted_by spot result) (between_is visits (after_calls walked.calls old.shelf) walked.after);
        fault = by_result (TellsFault (fails_within walked.calls old.shelf.armed)) spot mid result between new noted (tells _ mid walked.fault walked.among) tt;
        among = by_result (λ (r : Result X Stop). IfErr r IsReadStop) spot mid result between new noted (among_stops mid walked.among) tt;
      }

  pub reads_told : is_ok (new_place old spot.head) ≡ true → Visits sees answer most hmac_key spot mid old between
      → IsNoted spot mid result between new
      → IfSome old.shelf.held (λ held. Answers sees (answered_at (answer held) old spot) result)
  reads_told place visits noted = each_held old.shelf.held visits.told
    where
      each_held : (held : Option (List (List ℕ))) → IfSome held (λ held. Finds sees (by_table (answer held) old spot) mid)
          → IfSome held (λ held. Answers sees (answered_at (answer held) old spot) result)
      each_held None told = tt
      each_held (Some held) told =
          by_result (λ (r : Result X Stop). Answers sees (answered_at (answer held) old spot) r) spot mid result between new noted
          (rw (answered_there (answer held) old spot place) (answers sees (by_table (answer held) old spot) mid told)) tt

  pub reads_before : is_ok (new_place old spot.head) ≡ true → Visits sees answer most hmac_key spot mid old between
      → IsNoted spot mid result between new → IfErr (refused_before hmac_key old spot) (IsRefusedBefore spot result old new)
  reads_before place visits noted =
      rw (answered_there (tested_portable hmac_key) old spot place) (by_refusal (by_table (tested_portable hmac_key) old spot) visits.before)
    where
      by_refusal : (r : Result (Unit {0}) Refusal) → IfErr r (IsUnreadBy mid old.shelf between.shelf) → IfErr r (IsRefusedBefore spot result old new)
      by_refusal (Ok x) before = tt
      by_refusal (Err why) before =
          let left : new ≡ noted_by spot result between = noted_is spot mid result between new (there_still place visits) noted in
          record {
            refused = by_result (λ (r : Result X Stop). IsRefusedBy r why) spot mid result between new noted (refuses mid why before.halted) tt;
            left = left ∙ ap (noted_by spot result) (between_is visits old.shelf before.same);
          }

-- ---- the spot that was copied

pub spot_noted : {X : Type 0} (note spot : Spot) (mid : Result X Halt) (result : Result X Stop) (old new : FamilyState) → note ≡ spot
    → IsNoted note mid result old new → IsNoted spot mid result old new
spot_noted note spot mid result old new same noted = subst (λ (s : Spot). IsNoted s mid result old new) same noted
