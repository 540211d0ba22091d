-- Steps of a reading one after another, over plain variables.
use Rattle.std.proofs.Common.{◌≡◌, ℕ, ◌+◌, ◌*◌, ◌≤◌, true, false, List, refl, sym, ap, subst, ◌∙◌, arith, Option, Result, Ok, Err}
use Rattle.std.specs.Prelude.{IfSome, IfErr}
use Rattle.dataset_tree.specs.declared.refusal.Refusal.{Refusal}
use Rattle.shelf_store.specs.ShelfState.{ShelfState, after_calls}
use Rattle.indirect_macs.specs.declared.refs.MacError.{MacError}
use Rattle.indirect_macs.specs.declared.refs.MacError.TheVariants as mac_error
use Rattle.indirect_macs.specs.Calls.{fails_within}
use Rattle.indirect_macs.proofs.Walking.{after_more, fails_more, held_kept}
use Rattle.file_blocks.specs.Objects.{Gives, IsInRange, Reading}
use Rattle.file_dataset.specs.declared.halt.Halt.{Halt}
use Rattle.file_dataset.specs.declared.halt.Halt.TheVariants as halts
use Rattle.file_dataset.specs.Calls.{is_of_reading}
use Rattle.file_dataset.specs.Reads.{in_object, then_read}
use Rattle.file_dataset.specs.Steps.{Finds, IsReadHalt, Walked, halt_in, is_fault}

-- ---- calls of the shelf

pub walked_none : {X : Type 0} (n : ℕ) (x : X) (s : ShelfState) → Walked n (Ok x) s s
walked_none n x s = record { calls = 0; bound = omega arith; after = refl; fault = refl; among = tt }

pub walked_halt : {X : Type 0} (n : ℕ) (why : Refusal) (s : ShelfState) → is_of_reading why ≡ true
    → Walked {X = X} n (Err (halts.Refused why)) s s
walked_halt n why s is = record { calls = 0; bound = omega arith; after = refl; fault = refl; among = is }

pub walked_more : {X Y : Type 0} (n m : ℕ) (x : X) (result : Result Y Halt) (s t u : ShelfState) → Walked n (Ok x) s t
    → Walked m result t u → Walked (n + m) result s u
walked_more n m x result s t u first rest =
    record {
      calls = first.calls + rest.calls;
      bound = omega (arith, first.bound, rest.bound);
      after = rest.after ∙ ap (after_calls rest.calls) first.after ∙ sym (after_more first.calls rest.calls s);
      fault =
          rest.fault ∙ ap (λ (state : ShelfState). fails_within rest.calls state.armed) first.after
          ∙ sym (fails_more first.calls rest.calls s (sym first.fault));
      among = rest.among;
    }

pub walked_wide : {X : Type 0} (n m : ℕ) (result : Result X Halt) (s t : ShelfState) → n ≤ m → Walked n result s t
    → Walked m result s t
walked_wide n m result s t less is =
    record { calls = is.calls; bound = omega (arith, less, is.bound); after = is.after; fault = is.fault; among = is.among }

pub walked_ok : {X Y : Type 0} (n : ℕ) (x : X) (y : Y) (s t : ShelfState) → Walked n (Ok x) s t → Walked n (Ok y) s t
walked_ok n x y s t is = record { calls = is.calls; bound = is.bound; after = is.after; fault = is.fault; among = tt }

pub walked_err : {X Y : Type 0} (n : ℕ) (halt : Halt) (s t : ShelfState) → Walked {X = X} n (Err halt) s t
    → Walked {X = Y} n (Err halt) s t
walked_err n (halts.Refused why) s t is = record { calls = is.calls; bound = is.bound; after = is.after; fault = is.fault; among = is.among }
walked_err n halts.ShelfFault s t is = record { calls = is.calls; bound = is.bound; after = is.after; fault = is.fault; among = is.among }
walked_err n halts.NoMemory s t is = record { calls = is.calls; bound = is.bound; after = is.after; fault = is.fault; among = is.among }

-- a step without a call of the shelf, behind one that went well
pub walked_then : {X Y : Type 0} (n : ℕ) (x : X) (result : Result Y Halt) (s t : ShelfState) → Walked n (Ok x) s t
    → is_fault result ≡ false → IfErr result IsReadHalt → Walked n result s t
walked_then n x result s t is quiet among =
    record { calls = is.calls; bound = is.bound; after = is.after; fault = quiet ∙ is.fault; among = among }

pub walked_before : {X : Type 0} (n : ℕ) (result : Result X Halt) (s t : ShelfState) (P : List (List ℕ) → Type 0)
    → Walked n result s t → IfSome t.held P → IfSome s.held P
walked_before n result s t P is told =
    subst (λ (held : Option (List (List ℕ))). IfSome held P)
    (ap (λ (state : ShelfState). state.held) is.after ∙ held_kept is.calls s) told

-- ---- objects

pub object_ok : {X Y : Type 0} (most blocks : ℕ) (F : MacError → Type 0) (x : X) (y : Y) (s t : ShelfState) → most ≤ 6 * blocks
    → Reading most F (Ok x) s t → Walked blocks (Ok y) s t
object_ok most blocks F x y s t fits is =
    record { calls = is.calls; bound = omega (arith, fits, is.bound); after = is.after; fault = is.fault; among = tt }

pub object_err : {X Y : Type 0} (most blocks levels first count object : ℕ) (stop : MacError) (halt : Halt) (s t : ShelfState)
    → most ≤ 6 * blocks → halt ≡ halt_in object stop → Reading {X = X} most (IsInRange levels first count) (Err stop) s t
    → Walked {X = Y} blocks (Err halt) s t
object_err {X = X} {Y = Y} most blocks levels first count object stop halt s t fits same is =
    subst (λ (h : Halt). Walked {X = Y} blocks (Err h) s t) (sym same) (by_stop stop is)
  where
    by_stop : (stop : MacError) → Reading {X = X} most (IsInRange levels first count) (Err stop) s t
        → Walked {X = Y} blocks (Err (halt_in object stop)) s t
    by_stop (mac_error.MacFailed level place) is =
        record { calls = is.calls; bound = omega (arith, fits, is.bound); after = is.after; fault = is.fault; among = refl }
    by_stop mac_error.ShelfFault is =
        record { calls = is.calls; bound = omega (arith, fits, is.bound); after = is.after; fault = is.fault; among = tt }
    by_stop mac_error.Full is = absurd is.failure
    by_stop mac_error.NoMemory is =
        record { calls = is.calls; bound = omega (arith, fits, is.bound); after = is.after; fault = is.fault; among = tt }

pub object_finds : {X Y : Type 0} (f : X → Y) (object : ℕ) (answer : Result Y MacError) (x : X) → Gives f answer (Ok x)
    → Finds f (in_object object answer) (Ok x)
object_finds f object answer x is = rw is refl

pub object_fails : {X Y : Type 0} (f : X → Y) (object : ℕ) (answer : Result Y MacError) (stop : MacError) (halt : Halt)
    → halt ≡ halt_in object stop → Gives f answer (Err stop) → Finds f (in_object object answer) (Err halt)
object_fails f object answer (mac_error.MacFailed level place) halt same is = rw (same, is) refl
object_fails f object answer mac_error.ShelfFault halt same is = rw same tt
object_fails f object answer mac_error.Full halt same is = absurd is
object_fails f object answer mac_error.NoMemory halt same is = rw same tt

-- ---- answers

pub finds_then : {X Y Z W : Type 0} (f : X → Y) (g : Z → W) (answer : Result Y Refusal) (next : Y → Result W Refusal) (x : X)
    (result : Result Z Halt) → Finds f answer (Ok x) → Finds g (next (f x)) result → Finds g (then_read next answer) result
finds_then f g answer next x result is more = rw is more

pub finds_stop : {X Y Z W : Type 0} (f : X → Y) (g : Z → W) (answer : Result Y Refusal) (next : Y → Result W Refusal) (halt : Halt)
    → Finds f answer (Err halt) → Finds g (then_read next answer) (Err halt)
finds_stop f g answer next (halts.Refused why) is = rw is refl
finds_stop f g answer next halts.ShelfFault is = tt
finds_stop f g answer next halts.NoMemory is = tt
