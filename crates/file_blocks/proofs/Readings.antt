-- Calls that read, one after another, over plain variables.
use Rattle.std.proofs.Common.{◌≡◌, ℕ, ◌+◌, ◌≤◌, Bool, true, false, List, refl, sym, ap, subst, ◌∙◌, arith, Option, Result, Ok, Err, if◌then◌else◌}
use Rattle.std.specs.Prelude.{IfSome, IfErr}
use Rattle.shelf_store.specs.ShelfState.{ShelfState, after_calls}
use Rattle.indirect_macs.specs.declared.refs.MacError.{MacError}
use Rattle.indirect_macs.specs.declared.refs.MacError.TheVariants.{MacFailed, ShelfFault, Full, NoMemory}
use Rattle.indirect_macs.specs.Calls.{Answers, Gave, IsOver, fails_within}
use Rattle.indirect_macs.proofs.Walking.{after_more, fails_more, held_kept}
use Rattle.file_blocks.specs.Objects.{IsAtBlock, IsInRange, Reading}

pub reading_none : {X : Type 0} (n : ℕ) (Failed : MacError → Type 0) (x : X) (s : ShelfState) → Reading n Failed (Ok x) s s
reading_none n Failed x s = record { calls = 0; bound = omega arith; after = refl; fault = refl; failure = tt }

pub reading_more : {X Y : Type 0} (n m : ℕ) (F G : MacError → Type 0) (x : X) (result : Result Y MacError) (s t u : ShelfState)
    → Reading n F (Ok x) s t → Reading m G result t u → Reading (n + m) G result s u
reading_more n m F G x result s t u first rest =
    record {
      calls = first.calls + rest.calls;
      bound = omega (arith, first.bound, rest.bound);
      after = rest.after ∙ ap (after_calls rest.calls) first.after ∙ sym (after_more first.calls rest.calls s);
      fault =
          rest.fault ∙ ap (λ (state : ShelfState). fails_within rest.calls state.armed) first.after
          ∙ sym (fails_more first.calls rest.calls s (sym first.fault));
      failure = rest.failure;
    }

pub reading_to : {X : Type 0} (n m : ℕ) (F G : MacError → Type 0) (result : Result X MacError) (s t : ShelfState) → n ≤ m
    → ((stop : MacError) → F stop → G stop) → Reading n F result s t → Reading m G result s t
reading_to n m F G result s t wide to is =
    record { calls = is.calls; bound = omega (arith, wide, is.bound); after = is.after; fault = is.fault; failure = by_result result is.failure }
  where
    by_result : {X : Type 0} (r : Result X MacError) → IfErr r F → IfErr r G
    by_result (Ok x) f = tt
    by_result (Err stop) f = to stop f

-- another value of a call that went well, and another type of one that didn't
pub reading_ok : {X Y : Type 0} (n : ℕ) (F G : MacError → Type 0) (x : X) (y : Y) (s t : ShelfState) → Reading n F (Ok x) s t → Reading n G (Ok y) s t
reading_ok n F G x y s t is = record { calls = is.calls; bound = is.bound; after = is.after; fault = is.fault; failure = tt }

pub reading_err : {X Y : Type 0} (n : ℕ) (F : MacError → Type 0) (stop : MacError) (s t : ShelfState) → Reading {X = X} n F (Err stop) s t
    → Reading {X = Y} n F (Err stop) s t
reading_err n F (MacFailed level place) s t is = record { calls = is.calls; bound = is.bound; after = is.after; fault = is.fault; failure = is.failure }
reading_err n F ShelfFault s t is = record { calls = is.calls; bound = is.bound; after = is.after; fault = is.fault; failure = is.failure }
reading_err n F Full s t is = record { calls = is.calls; bound = is.bound; after = is.after; fault = is.fault; failure = is.failure }
reading_err n F NoMemory s t is = record { calls = is.calls; bound = is.bound; after = is.after; fault = is.fault; failure = is.failure }

-- want of memory after calls that went well
pub reading_full : {X Y : Type 0} (n levels first count : ℕ) (F : MacError → Type 0) (x : X) (s t : ShelfState) → Reading n F (Ok x) s t
    → Reading {X = Y} n (IsInRange levels first count) (Err NoMemory) s t
reading_full n levels first count F x s t is = record { calls = is.calls; bound = is.bound; after = is.after; fault = is.fault; failure = tt }

-- a walk's answer
pub reading_of : {X : Type 0} (levels most index : ℕ) (result : Result X MacError) (s t : ShelfState) → Answers levels most index result s t
    → Reading most (IsAtBlock levels index) result s t
reading_of levels most index result s t is =
    record { calls = is.calls; bound = is.bound; after = is.after; fault = is.fault; failure = at_block result is.failure }
  where
    at_block : {X : Type 0} (r : Result X MacError) → IfErr r (IsOver levels index) → IfErr r (IsAtBlock levels index)
    at_block (Ok x) over = tt
    at_block (Err (MacFailed level place)) over = (over.1, over.2)
    at_block (Err ShelfFault) over = tt
    at_block (Err Full) over = over
    at_block (Err NoMemory) over = over

-- a place at a block is one in a range with the block
pub at_in_range : (levels first count index : ℕ) → first ≤ index → index + 1 ≤ first + count → (stop : MacError) → IsAtBlock levels index stop
    → IsInRange levels first count stop
at_in_range levels first count index from to (MacFailed level place) at = (index, from, omega (arith, to), at.0, at.1)
at_in_range levels first count index from to ShelfFault at = tt
at_in_range levels first count index from to Full at = at
at_in_range levels first count index from to NoMemory at = tt

-- more levels
pub at_levels : (index levels : ℕ) (stop : MacError) → IsAtBlock 0 index stop → IsAtBlock levels index stop
at_levels index levels (MacFailed level place) at = (omega (arith, at.0), at.1)
at_levels index levels ShelfFault at = tt
at_levels index levels Full at = at
at_levels index levels NoMemory at = at

-- what is held stays
pub held_same : {X : Type 0} (n : ℕ) (F : MacError → Type 0) (result : Result X MacError) (s t : ShelfState) → Reading n F result s t → t.held ≡ s.held
held_same n F result s t is = ap (λ (state : ShelfState). state.held) is.after ∙ held_kept is.calls s

pub held_before : {X : Type 0} (n : ℕ) (F : MacError → Type 0) (result : Result X MacError) (s t : ShelfState) (P : List (List ℕ) → Type 0)
    → Reading n F result s t → IfSome t.held P → IfSome s.held P
held_before n F result s t P is told = subst (λ (held : Option (List (List ℕ))). IfSome held P) (held_same n F result s t is) told

-- what a walk that answers gives
pub gave_ok : {X : Type 0} (calls : ℕ) (answer : Result X MacError) (x : X) (s t : ShelfState) → Gave calls answer (Ok x) s t → answer ≡ Ok x
gave_ok calls answer x s t is = by_fault (fails_within calls s.armed) is.given
  where
    by_fault : (b : Bool) → Ok x ≡ (if b then Err ShelfFault else answer) → answer ≡ Ok x
    by_fault true same = absurd (cc)
    by_fault false same = sym same

pub gave_failed : {X : Type 0} (calls : ℕ) (answer : Result X MacError) (level place : ℕ) (s t : ShelfState)
    → Gave calls answer (Err (MacFailed level place)) s t → answer ≡ Err (MacFailed level place)
gave_failed calls answer level place s t is = by_fault (fails_within calls s.armed) is.given
  where
    by_fault : (b : Bool) → Err (MacFailed level place) ≡ (if b then Err ShelfFault else answer) → answer ≡ Err (MacFailed level place)
    by_fault true same = absurd (cc)
    by_fault false same = sym same
