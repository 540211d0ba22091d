-- The walk from the top of a tree to one block, over the blocks that a shelf holds. A place is a level and an
-- index in it: the node of level k and index j covers the blocks from j * 32 ^ k on, and its own MAC and
-- address stand in the node above it.
use Rattle.std.specs.Prelude.{ℕ, zero, suc, ◌+◌, ◌-◌, ◌/◌, ◌%◌, ◌^◌, ◌==◌, ◌&&◌, Bool, if◌then◌else◌, List, length, map, replicate, Option, Some, None, Result, Ok, Err}
use Rattle.std.specs.List.{slice_get, slice_index_or}
use Rattle.std.specs.Option.{option_eq, option_and_then, option_map_or}
use Rattle.indirect_macs.specs.declared.refs.BlockRef.{BlockRef}
use Rattle.indirect_macs.specs.declared.refs.NodeRef.{NodeRef}
use Rattle.indirect_macs.specs.declared.refs.MacError.{MacError}
use Rattle.indirect_macs.specs.declared.refs.MacError.TheVariants.{MacFailed}
use Rattle.indirect_macs.specs.Entries.{block_at, node_at}
use Rattle.indirect_macs.specs.Nodes.{node_len, node_passes, entry_at, blocks_of}

-- the index of the place of this level that covers a block
abbrev pub place_of : (level index : ℕ) → ℕ
place_of level index = index / 32 ^ level

-- which entry of the node of this level over a block leads to it
abbrev pub slot_of : (level index : ℕ) → ℕ
slot_of level index = place_of (level - 1) index % 32

-- of the blocks with these sizes one has this address, and the size of a node of this level
unfoldable pub names_node : (sizes : List ℕ) → (level address : ℕ) → Bool
names_node sizes level address = option_eq ◌==◌ (slice_get sizes address) (Some (node_len level))

-- the held node of a reference, none where it fails its test: its address names no block of a node's size, or
-- that block is no node of such entries with the reference's MAC
unfoldable pub passed : (held : List (List ℕ)) → (record_size level : ℕ) → NodeRef → Option (List ℕ)
passed held record_size level node =
    option_and_then
    (λ bytes. if length bytes == node_len level
    && node_passes level record_size bytes node.mac then Some bytes else None)
    (slice_get held node.addr)

-- where the test of the place of this level over a block fails
abbrev pub fails_at : (level index : ℕ) → MacError
fails_at level index = MacFailed level (place_of level index)

-- whether the test passes, or where it fails
abbrev pub tested : (held : List (List ℕ)) → (record_size index level : ℕ) → NodeRef → Result (Unit {0}) MacError
tested held record_size index level node =
    option_map_or (λ _. Ok tt) (passed held record_size level node) (Err (fails_at level index))

-- how many calls the reading of a node makes
abbrev pub reads_of : (sizes : List ℕ) → (level : ℕ) → NodeRef → ℕ
reads_of sizes level node = if names_node sizes level node.addr then 1 else 0

-- by cases on a node's answer
abbrev pub goes_on : {X Y : Type 0} → (X → Y) → (MacError → Y) → Result X MacError → Y
goes_on f g (Ok next) = f next
goes_on f g (Err failed) = g failed

-- the reference to the block, as the node of level 1 over it has it
unfoldable pub next_block : (held : List (List ℕ)) → (record_size index : ℕ) → NodeRef
    → Result (Option BlockRef) MacError
next_block held record_size index node =
    option_map_or (λ bytes. Ok (block_at (entry_at 1 bytes (slot_of 1 index)))) (passed held record_size 1 node)
    (Err (fails_at 1 index))

-- the reference to the node of the level below over the block, as the node of this level over it has it
unfoldable pub next_node : (held : List (List ℕ)) → (record_size index level : ℕ) → NodeRef
    → Result (Option NodeRef) MacError
next_node held record_size index level node =
    option_map_or (λ bytes. Ok (node_at (entry_at level bytes (slot_of level index))))
    (passed held record_size level node) (Err (fails_at level index))

-- the reference to a block, or none where it is in a hole, or the first place on the way that fails. The walk
-- goes on from a reference to a node that has `below` levels of nodes below its own
unfoldable pub walk : (held : List (List ℕ)) → (record_size index below : ℕ) → Option NodeRef
    → Result (Option BlockRef) MacError
walk held record_size index below None = Ok None
walk held record_size index zero (Some node) = next_block held record_size index node
walk held record_size index (suc below) (Some node) =
    goes_on (λ next. walk held record_size index below next) (λ failed. Err failed)
    (next_node held record_size index (below + 2) node)

-- how many nodes the walk reads: those that pass, and the first that fails where its address names a block of
-- a node's size
unfoldable pub reads : (held : List (List ℕ)) → (record_size index below : ℕ) → Option NodeRef → ℕ
reads held record_size index below None = 0
reads held record_size index zero (Some node) = reads_of (map length held) 1 node
reads held record_size index (suc below) (Some node) =
    if names_node (map length held) (below + 2) node.addr
    then suc (goes_on (λ next. reads held record_size index below next) (λ _. 0)
    (next_node held record_size index (below + 2) node))
    else 0

-- the references to the 32 blocks under the node of level 1 over a block, as that node has them
unfoldable pub group_in : (held : List (List ℕ)) → (record_size index : ℕ) → NodeRef
    → Result (List (Option BlockRef)) MacError
group_in held record_size index node =
    option_map_or (λ bytes. Ok (blocks_of bytes)) (passed held record_size 1 node) (Err (fails_at 1 index))

-- the walk to that node, which gives all of them; they are holes where the node is in one
unfoldable pub group_walk : (held : List (List ℕ)) → (record_size index below : ℕ) → Option NodeRef
    → Result (List (Option BlockRef)) MacError
group_walk held record_size index below None = Ok (replicate 32 None)
group_walk held record_size index zero (Some node) = group_in held record_size index node
group_walk held record_size index (suc below) (Some node) =
    goes_on (λ next. group_walk held record_size index below next) (λ failed. Err failed)
    (next_node held record_size index (below + 2) node)

-- what it gives of one of these blocks
abbrev pub in_group : (index : ℕ) → Result (List (Option BlockRef)) MacError → Result (Option BlockRef) MacError
in_group index group = goes_on (λ refs. Ok (slice_index_or refs (index % 32) None)) (λ failed. Err failed) group
