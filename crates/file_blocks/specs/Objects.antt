-- The bytes of an object: what each of its sealed blocks opens to, over the blocks that a shelf holds. A
-- record size is the number of bytes that each block of the object stands for; a block stores at most so many,
-- and what lies behind them is zeros. A block in a hole is zeros alone.
use Rattle.std.specs.Prelude.{ℕ, ◌+◌, ◌-◌, ◌*◌, ◌/◌, ◌<◌, ◌≤◌, ◌≡◌, ◌==◌, nat_lt, if◌then◌else◌, List, [], ◌∷◌, ◌++◌, length, take, drop, map, replicate, Option, Some, None, is_some, IfErr, Result, Ok, Err, ⊤}
use Rattle.std.specs.List.{count_by, flat_map, range_with_len, slice_get}
use Rattle.std.specs.Option.{option_and_then, option_map_or}
use Rattle.std.specs.Result.{result_map_both}
use Rattle.block_crypt.specs.Blocks.{KeyValue, opened_block}
use Rattle.shelf_store.specs.ShelfState.{ShelfState, after_calls}
use Rattle.indirect_macs.specs.declared.refs.BlockRef.{BlockRef}
use Rattle.indirect_macs.specs.declared.refs.ObjTree.{ObjTree}
use Rattle.indirect_macs.specs.declared.refs.MacError.{MacError}
use Rattle.indirect_macs.specs.declared.refs.MacError.TheVariants.{MacFailed, ShelfFault, Full, NoMemory}
use Rattle.indirect_macs.specs.Calls.{fails_within, is_fault}
use Rattle.indirect_macs.specs.Runs.{levels_for}
pub use Rattle.indirect_macs.specs.Runs.{blocks_for}
use Rattle.indirect_macs.specs.Walk.{goes_on, place_of, walk}
use Rattle.file_blocks.specs.declared.object.Object.{Object}

-- ---- objects

-- an object has at most 2 ^ 32 bytes, and a tree of the fewest levels with room for its blocks
pub record IsObject (record_size : ℕ) (object : Object) : Type 0 where
  pub bytes : object.length ≤ 4294967296
  pub levels : object.tree.levels ≡ levels_for (blocks_for record_size object.length)

-- ---- bytes

-- the bytes cut, or filled up with zeros, to so many
unfoldable pub filled : ℕ → List ℕ → List ℕ
filled n bytes = take n bytes ++ replicate (n - length bytes) 0

-- the bytes with a piece written over them from a start on; zeros up to the start where they were fewer
unfoldable pub spliced : (old : List ℕ) → (start : ℕ) → (piece : List ℕ) → List ℕ
spliced old start piece = filled start old ++ piece ++ drop (start + length piece) old

-- what a block stands for, of the bytes that it stores, or none in a hole
abbrev pub block_bytes : (record_size : ℕ) → Option (List ℕ) → List ℕ
block_bytes record_size stored = filled record_size (option_map_or (λ bytes. bytes) stored [])

-- ---- blocks

-- the held block that a reference names, opened; none where its address names no block of its size, or its
-- tag differs
unfoldable pub opened_ref : KeyValue → (held : List (List ℕ)) → BlockRef → Option (List ℕ)
opened_ref key held r =
    option_and_then
    (λ sealed. if length sealed == r.size then opened_block key r.salt r.iv sealed r.mac else None)
    (slice_get held r.addr)

-- what a block stores, where the walk to it found this reference or a hole, or that it fails
unfoldable pub text_of : KeyValue → (held : List (List ℕ)) → (index : ℕ) → Option BlockRef
    → Result (Option (List ℕ)) MacError
text_of key held index None = Ok None
text_of key held index (Some r) =
    option_map_or (λ text. Ok (Some text)) (opened_ref key held r) (Err (MacFailed 0 index))

-- the walk to a block of a tree
abbrev pub walk_in : (held : List (List ℕ)) → (record_size : ℕ) → ObjTree → (index : ℕ)
    → Result (Option BlockRef) MacError
walk_in held record_size tree index = walk held record_size index (tree.levels - 1) tree.top

-- what the block of an index stores, none in a hole, or the first place over it, from the top, that fails
unfoldable pub text_at : KeyValue → (held : List (List ℕ)) → (record_size : ℕ) → ObjTree → (index : ℕ)
    → Result (Option (List ℕ)) MacError
text_at key held record_size tree index =
    goes_on (λ found. text_of key held index found) (λ failed. Err failed) (walk_in held record_size tree index)

-- all of these, or the first that failed
abbrev pub collected : {X E : Type 0} → List (Result X E) → Result (List X) E
collected [] = Ok []
collected (Err e ∷ rest) = Err e
collected (Ok x ∷ rest) = result_map_both (λ xs. x ∷ xs) (λ e. e) (collected rest)

-- what so many blocks store, from this one on, or the failure of the first that fails
unfoldable pub texts_at : KeyValue → (held : List (List ℕ)) → (record_size : ℕ) → ObjTree → (first count : ℕ)
    → Result (List (Option (List ℕ))) MacError
texts_at key held record_size tree first count =
    collected (map (text_at key held record_size tree) (range_with_len first count))

-- ---- reads

-- the blocks that hold the bytes from one place up to another: the first of them, and how many
abbrev pub first_touched : (record_size from : ℕ) → ℕ
first_touched record_size from = from / record_size

unfoldable pub count_touched : (record_size from end : ℕ) → ℕ
count_touched record_size from end =
    if nat_lt from end then (end - 1) / record_size + 1 - from / record_size else 0

-- of the bytes of blocks one after another, of which the first begins before `from` or at it, those from `from`
-- up to `end`
abbrev pub part_of : (record_size from end : ℕ) → List (Option (List ℕ)) → List ℕ
part_of record_size from end texts =
    let start = record_size * first_touched record_size from in
    drop (from - start) (take (end - start) (flat_map (block_bytes record_size) texts))

-- the bytes of an object from one place up to another, or the failure of the first of their blocks that fails
unfoldable pub object_range : KeyValue → (held : List (List ℕ)) → (record_size : ℕ) → ObjTree → (from end : ℕ)
    → Result (List ℕ) MacError
object_range key held record_size tree from end =
    result_map_both (part_of record_size from end) (λ failed. failed)
    (texts_at key held record_size tree (first_touched record_size from) (count_touched record_size from end))

-- how many of the first blocks, so many, are no holes, where all pass, or the failure of the first that fails
unfoldable pub tested_blocks : KeyValue → (held : List (List ℕ)) → (record_size : ℕ) → ObjTree → (blocks : ℕ)
    → Result ℕ MacError
tested_blocks key held record_size tree blocks =
    result_map_both (count_by is_some) (λ failed. failed) (texts_at key held record_size tree 0 blocks)

-- ---- what a call answers and leaves

-- the answer is this one, seen so, unless the shelf failed or memory ran out
abbrev pub Gives : {X Y : Type 0} → (X → Y) → Result Y MacError → Result X MacError → Type 0
Gives sees answer (Ok x) = answer ≡ Ok (sees x)
Gives sees answer (Err (MacFailed level place)) = answer ≡ Err (MacFailed level place)
Gives sees answer (Err ShelfFault) = ⊤
Gives sees answer (Err Full) = ⊥
Gives sees answer (Err NoMemory) = ⊤

-- a failure of the shelf, or a place over a block of a tree of so many levels; level 0 is the block's own
abbrev pub IsAtBlock : (levels index : ℕ) → MacError → Type 0
IsAtBlock levels index (MacFailed level place) = (level ≤ levels) × (place ≡ place_of level index)
IsAtBlock levels index ShelfFault = ⊤
IsAtBlock levels index Full = ⊥
IsAtBlock levels index NoMemory = ⊥

-- a failure of the shelf, want of memory, or a place over one of so many blocks from this one on
abbrev pub IsInRange : (levels first count : ℕ) → MacError → Type 0
IsInRange levels first count (MacFailed level place) =
    (index : ℕ) × (first ≤ index) × (index < first + count) × (level ≤ levels) × (place ≡ place_of level index)
IsInRange levels first count ShelfFault = ⊤
IsInRange levels first count Full = ⊥
IsInRange levels first count NoMemory = ⊤

-- on every shelf: some calls of it were made, at most so many; the answer is a failure of the shelf exactly
-- where one of them was the armed one; and another failure is one of these
pub record Reading {X : Type 0} (most : ℕ) (Failed : MacError → Type 0) (result : Result X MacError)
    (old new : ShelfState) : Type 0 where
  pub calls : ℕ
  pub bound : calls ≤ most
  pub after : new ≡ after_calls calls old
  pub fault : is_fault result ≡ fails_within calls old.armed
  pub failure : IfErr result Failed
