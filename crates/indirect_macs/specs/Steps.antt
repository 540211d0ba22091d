-- What the steps of putting a run into a tree leave of a shelf.
use Rattle.std.specs.Prelude.{ℕ, ◌+◌, ◌-◌, ◌*◌, ◌<◌, ◌≤◌, ◌≡◌, Bool, List, [], ◌∷◌, ◌++◌, length, map, replicate, IfOk, Option, Some, None, Result, Ok, Err, IsOk, ⊤}
use Rattle.std.specs.List.{range_with_len}
use Rattle.shelf_store.specs.ShelfState.{ShelfState, after_calls}
use Rattle.indirect_macs.specs.declared.refs.BlockRef.{BlockRef}
use Rattle.indirect_macs.specs.declared.refs.NodeRef.{NodeRef}
use Rattle.indirect_macs.specs.declared.refs.MacError.{MacError}
use Rattle.indirect_macs.specs.declared.refs.MacError.TheVariants.{MacFailed, ShelfFault, Full, NoMemory}
use Rattle.indirect_macs.specs.Calls.{fails_within, is_fault}
use Rattle.indirect_macs.specs.Replaced.{with_blocks, IsTooMuch}
use Rattle.indirect_macs.specs.Runs.{Run, Old, Made, Node, ref_with, puts_with, count_at, first_at, old_of, entries_at, or_hole, walk_to}

-- some calls were made, at most so many, of which one was the armed one or not; nothing was put
pub record Reads (most : ℕ) (fault : Bool) (old new : ShelfState) : Type 0 where
  pub calls : ℕ
  pub bound : calls ≤ most
  pub after : new ≡ after_calls calls old
  pub faults : fault ≡ fails_within calls old.armed

-- a node failed
abbrev pub IsMacFailed : MacError → Type 0
IsMacFailed (MacFailed level place) = ⊤
IsMacFailed ShelfFault = ⊥
IsMacFailed Full = ⊥
IsMacFailed NoMemory = ⊥

-- the place at which a walk fails
abbrev pub failure_of : {X : Type 0} → Result X MacError → Option MacError
failure_of (Ok x) = None
failure_of (Err (MacFailed level place)) = Some (MacFailed level place)
failure_of (Err ShelfFault) = None
failure_of (Err Full) = None
failure_of (Err NoMemory) = None

-- a node that fails is where the walk to each of its children fails
abbrev pub spread : MacError → Result (List (Result (Option NodeRef) MacError)) MacError
spread (MacFailed level place) = Ok (replicate 32 (Err (MacFailed level place)))
spread ShelfFault = Err ShelfFault
spread Full = Err Full
spread NoMemory = Err NoMemory

-- no node failed, and the shelf isn't full
abbrev pub IsStop : MacError → Type 0
IsStop (MacFailed level place) = ⊥
IsStop ShelfFault = ⊤
IsStop Full = ⊥
IsStop NoMemory = ⊤

-- the elements stand for the places from one on
abbrev pub IsRange : {X : Type 0} → (ℕ → X) → (from count : ℕ) → List X → Type 0
IsRange f from count xs = xs ≡ map f (range_with_len from count)

-- what the old blocks of a touched node are, or that the walk to it fails
abbrev pub IsLeaf : (held : List (List ℕ)) → (record_size : ℕ) → Run → (index : ℕ)
    → Result (List (Option BlockRef)) MacError → Type 0
IsLeaf held record_size run index (Ok blocks) =
    (blocks ≡ entries_at (old_of held record_size run).block index) × IsOk (walk_to held record_size run (32 * index))
IsLeaf held record_size run index (Err (MacFailed level place)) =
    walk_to held record_size run (32 * index) ≡ Err (MacFailed level place)
IsLeaf held record_size run index (Err ShelfFault) = ⊤
IsLeaf held record_size run index (Err Full) = ⊥
IsLeaf held record_size run index (Err NoMemory) = ⊤

-- the same, where they are put behind others
abbrev pub IsLeafAdded : {X : Type 0} → (held : List (List ℕ)) → (record_size : ℕ) → Run → (index : ℕ)
    → Result X MacError → (before after : List (Option BlockRef)) → Type 0
IsLeafAdded held record_size run index (Ok x) before after =
    (after ≡ before ++ entries_at (old_of held record_size run).block index)
    × IsOk (walk_to held record_size run (32 * index))
IsLeafAdded held record_size run index (Err (MacFailed level place)) before after =
    walk_to held record_size run (32 * index) ≡ Err (MacFailed level place)
IsLeafAdded held record_size run index (Err ShelfFault) before after = ⊤
IsLeafAdded held record_size run index (Err Full) before after = ⊥
IsLeafAdded held record_size run index (Err NoMemory) before after = ⊤

-- the walks to so many nodes of level 1 pass
abbrev pub AllWalk : (held : List (List ℕ)) → (record_size : ℕ) → Run → (from count : ℕ) → Type 0
AllWalk held record_size run from count =
    (j : ℕ) → from ≤ j → j < from + count → IsOk (walk_to held record_size run (32 * j))

-- the first of them that fails
pub record FirstOf (held : List (List ℕ)) (record_size : ℕ) (run : Run) (from count : ℕ)
    (failed : MacError) : Type 0 where
  pub at : ℕ
  pub low : from ≤ at
  pub high : at < from + count
  pub fails : walk_to held record_size run (32 * at) ≡ Err failed
  pub before : (j : ℕ) → from ≤ j → j < at → IsOk (walk_to held record_size run (32 * j))

-- why their reading stops
abbrev pub StopsAt : (held : List (List ℕ)) → (record_size : ℕ) → Run → (from count : ℕ) → MacError → Type 0
StopsAt held record_size run from count (MacFailed level place) =
    FirstOf held record_size run from count (MacFailed level place)
StopsAt held record_size run from count ShelfFault = ⊤
StopsAt held record_size run from count Full = ⊥
StopsAt held record_size run from count NoMemory = ⊤

-- what an answer says of the blocks that weren't put
abbrev pub PutEnded : {X : Type 0} → (rest : List (List ℕ)) → Result X MacError → ShelfState → Type 0
PutEnded rest (Ok x) new = rest ≡ []
PutEnded rest (Err (MacFailed level place)) new = ⊥
PutEnded rest (Err ShelfFault) new = ⊤
PutEnded rest (Err Full) new = IsTooMuch rest new
PutEnded rest (Err NoMemory) new = ⊤

-- these blocks were put, or a front of them, behind calls that read
pub record Puts {X : Type 0} (reads : ℕ) (whole : List (List ℕ)) (result : Result X MacError)
    (old new : ShelfState) : Type 0 where
  pub calls : ℕ
  pub put : List (List ℕ)
  pub rest : List (List ℕ)
  pub parts : put ++ rest ≡ whole
  pub bound : calls ≤ reads + length whole
  pub after : new ≡ after_calls calls (with_blocks put old)
  pub fault : is_fault result ≡ fails_within calls old.armed
  pub ended : PutEnded rest result new

-- nothing failed so far, and these were put
abbrev pub HasPut : (reads : ℕ) → (whole : List (List ℕ)) → (old new : ShelfState) → Type 0
HasPut reads whole old new = Puts {X = Unit {0}} reads whole (Ok tt) old new

-- what is known of the old tree at a level: so many touched nodes, and the references in each
pub record Knows (run : Run) (old : Old) (level from : ℕ)
    (found below : List (Result (Option NodeRef) MacError)) : Type 0 where
  pub nodes : IsRange (old.node level) from (length found) (map or_hole found)
  pub children : IsRange (old.node (level - 1)) (32 * from) (32 * length found) (map or_hole below)

-- the new references of a level are these, and what was put up to them
abbrev pub LevelsPut : {X : Type 0} → (X → List (Option NodeRef)) → (X → Option NodeRef) → (reads : ℕ) → Made
    → Result X MacError → (old new : ShelfState) → Type 0
LevelsPut refs raised reads made result old new =
    IfOk result (λ x. (refs x ≡ made.refs) × (raised x ≡ made.raised)) × Puts reads made.puts result old new

-- what an answer says of the nodes that weren't put
abbrev pub LevelsEnded : {X : Type 0} → (X → List (Option NodeRef)) → (X → Option NodeRef)
    → (held : List (List ℕ)) → (record_size : ℕ) → Run → Made → (put rest : List (List ℕ)) → Result X MacError
    → ShelfState → Type 0
LevelsEnded refs raised held record_size run made put rest (Ok x) new =
    (rest ≡ []) × (refs x ≡ made.refs) × (raised x ≡ made.raised)
    × AllWalk held record_size run (first_at run 1) (count_at run 1)
LevelsEnded refs raised held record_size run made put rest (Err (MacFailed level place)) new =
    (put ≡ []) × FirstOf held record_size run (first_at run 1) (count_at run 1) (MacFailed level place)
LevelsEnded refs raised held record_size run made put rest (Err Full) new =
    IsTooMuch rest new × AllWalk held record_size run (first_at run 1) (count_at run 1)
LevelsEnded refs raised held record_size run made put rest (Err ShelfFault) new = ⊤
LevelsEnded refs raised held record_size run made put rest (Err NoMemory) new = ⊤

-- levels were read, and those of the new tree put, or a front of them; or the first walk that fails was found before
pub record LevelsRun {X : Type 0} (refs : X → List (Option NodeRef)) (raised : X → Option NodeRef)
    (held : List (List ℕ)) (record_size : ℕ) (run : Run) (reads : ℕ) (made : Made) (result : Result X MacError)
    (old new : ShelfState) : Type 0 where
  pub calls : ℕ
  pub put : List (List ℕ)
  pub rest : List (List ℕ)
  pub parts : put ++ rest ≡ made.puts
  pub bound : calls ≤ reads + length made.puts
  pub after : new ≡ after_calls calls (with_blocks put old)
  pub fault : is_fault result ≡ fails_within calls old.armed
  pub ended : LevelsEnded refs raised held record_size run made put rest result new

-- one more node of a level
abbrev pub added : (base : ℕ) → Node → Option NodeRef → Made → Made
added base node stays made = record {
  refs = made.refs ++ ref_with (base + length made.puts) node stays ∷ [];
  raised = made.raised;
  puts = puts_with node stays made.puts;
}
