-- What calls of a shelf leave, and what becomes of an answer where one of them fails.
use Rattle.std.specs.Prelude.{ℕ, zero, suc, ◌≤◌, ◌≡◌, Bool, true, false, ◌||◌, ⊤, if◌then◌else◌, Option, Result, Ok, Err, IfErr}
use Rattle.shelf_store.specs.ShelfState.{ShelfState, is_due, armed_after, after_calls}
use Rattle.indirect_macs.specs.declared.refs.MacError.{MacError}
use Rattle.indirect_macs.specs.declared.refs.MacError.TheVariants.{MacFailed, ShelfFault, Full, NoMemory}
use Rattle.indirect_macs.specs.Walk.{place_of}

-- one of the next calls, so many, is the armed one
abbrev pub fails_within : ℕ → Option ℕ → Bool
fails_within zero armed = false
fails_within (suc calls) armed = is_due armed || fails_within calls (armed_after armed)

-- an answer that takes so many calls, or a failure of the shelf where one of them is the armed one
abbrev pub answered : {X : Type 0} → ℕ → Result X MacError → Option ℕ → Result X MacError
answered calls answer armed = if fails_within calls armed then Err ShelfFault else answer

-- a call gave this answer unless the shelf failed, and made so many calls of the shelf
pub record Gave {X : Type 0} (calls : ℕ) (answer result : Result X MacError) (old new : ShelfState) : Type 0 where
  pub given : result ≡ answered calls answer old.armed
  pub after : new ≡ after_calls calls old

-- the answer is a failure of the shelf
abbrev pub is_fault : {X : Type 0} → Result X MacError → Bool
is_fault (Ok x) = false
is_fault (Err ShelfFault) = true
is_fault (Err Full) = false
is_fault (Err NoMemory) = false
is_fault (Err (MacFailed level place)) = false

-- a failure of the shelf, or a place over the block of one of so many levels
abbrev pub IsOver : (levels index : ℕ) → MacError → Type 0
IsOver levels index (MacFailed level place) = (1 ≤ level) × (level ≤ levels) × (place ≡ place_of level index)
IsOver levels index ShelfFault = ⊤
IsOver levels index Full = ⊥
IsOver levels index NoMemory = ⊥

-- what an answer says on every shelf: some calls of the shelf were made, at most so many, and the answer is a
-- failure of the shelf exactly where one of them was the armed one; else a failure names a place over the
-- block
pub record Answers {X : Type 0} (levels most index : ℕ) (result : Result X MacError)
    (old new : ShelfState) : Type 0 where
  pub calls : ℕ
  pub bound : calls ≤ most
  pub after : new ≡ after_calls calls old
  pub fault : is_fault result ≡ fails_within calls old.armed
  pub failure : IfErr result (IsOver levels index)
