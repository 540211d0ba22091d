-- What putting a run of references into a tree leaves of the shelf, and what it answers.
use Rattle.std.specs.Prelude.{ℕ, ◌+◌, ◌<◌, ◌≤◌, ◌≡◌, List, [], ◌∷◌, ◌++◌, length, map, sum, Result, Ok, Err, ⊤}
use Rattle.std.specs.Option.{option_map}
use Rattle.shelf_store.specs.declared.shelf.TheConstants.{SHELF_BYTES}
use Rattle.shelf_store.specs.ShelfState.{ShelfState, after_calls}
use Rattle.indirect_macs.specs.declared.refs.ObjTree.{ObjTree}
use Rattle.indirect_macs.specs.declared.refs.MacError.{MacError}
use Rattle.indirect_macs.specs.declared.refs.MacError.TheVariants.{MacFailed, ShelfFault, Full, NoMemory}
use Rattle.indirect_macs.specs.Calls.{fails_within, is_fault}
use Rattle.indirect_macs.specs.Runs.{Run, old_of, puts_of, tree_of, Passes, FirstFails, most_reads}

-- these blocks were put at the end
abbrev pub with_blocks : List (List ℕ) → ShelfState → ShelfState
with_blocks blocks s = record s {
  sizes = s.sizes ++ map length blocks;
  placed = option_map (λ before. before ++ blocks) s.placed;
  held = option_map (λ before. before ++ blocks) s.held;
}

-- of these blocks, the first doesn't fit behind those of the shelf
abbrev pub IsTooMuch : List (List ℕ) → ShelfState → Type 0
IsTooMuch [] s = ⊥
IsTooMuch (block ∷ rest) s = SHELF_BYTES < sum s.sizes + length block

-- what an answer says of what was put and of what was not: all where there is a new tree, and nothing where a
-- node failed
abbrev pub Ended : (held : List (List ℕ)) → (record_size : ℕ) → Run → (base : ℕ) → (put rest : List (List ℕ))
    → Result ObjTree MacError → ShelfState → Type 0
Ended held record_size run base put rest (Ok tree) new =
    (rest ≡ []) × (tree ≡ tree_of run (old_of held record_size run) base) × Passes held record_size run
Ended held record_size run base put rest (Err (MacFailed level place)) new =
    (put ≡ []) × FirstFails held record_size run (MacFailed level place)
Ended held record_size run base put rest (Err Full) new = IsTooMuch rest new × Passes held record_size run
Ended held record_size run base put rest (Err ShelfFault) new = ⊤
Ended held record_size run base put rest (Err NoMemory) new = ⊤

-- on every shelf: some calls were made, and some blocks put, at most so many; and the answer is a failure of
-- the shelf exactly where one of the calls was the armed one
pub record Changes {X : Type 0} (reads puts : ℕ) (result : Result X MacError) (old new : ShelfState) : Type 0 where
  pub calls : ℕ
  pub put : List (List ℕ)
  pub bound : calls ≤ reads + puts
  pub few : length put ≤ puts
  pub after : new ≡ after_calls calls (with_blocks put old)
  pub fault : is_fault result ≡ fails_within calls old.armed

-- and where the shelf tells what it holds: what was put is a front of the new nodes, in order
pub record Replaced (held : List (List ℕ)) (record_size : ℕ) (run : Run) (result : Result ObjTree MacError)
    (old new : ShelfState) : Type 0 where
  pub calls : ℕ
  pub put : List (List ℕ)
  pub rest : List (List ℕ)
  pub parts : put ++ rest ≡ puts_of run (old_of held record_size run) (length old.sizes)
  pub bound : calls ≤ most_reads run + length (put ++ rest)
  pub after : new ≡ after_calls calls (with_blocks put old)
  pub fault : is_fault result ≡ fails_within calls old.armed
  pub ended : Ended held record_size run (length old.sizes) put rest result new
