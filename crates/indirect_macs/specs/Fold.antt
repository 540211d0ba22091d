-- The MAC of the top of the tree over a list of blocks, from their references alone.
use Rattle.std.specs.Prelude.{ℕ, zero, suc, ◌+◌, ◌-◌, ◌*◌, max, nat_le, if◌then◌else◌, List, ◌++◌, length, take, drop, replicate, map, Option, Some, None, is_none}
use Rattle.std.specs.Int.{div_ceil}
use Rattle.std.specs.List.{list_all, flat_map, range_with_len, slice_index_or}
use Rattle.indirect_macs.specs.declared.refs.BlockRef.{BlockRef}
use Rattle.indirect_macs.specs.Entries.{block_under_mac, node_under_mac}
use Rattle.indirect_macs.specs.Nodes.{mac_of}

-- a group of 32 entries, of which the last have to be holes where fewer are left
abbrev pub filled_up : {A : Type 0} → List (Option A) → List (Option A)
filled_up group = group ++ replicate (32 - length group) None

-- the MAC of a node of these entries, none where all are holes
unfoldable pub group_mac : {A : Type 0} → (level : ℕ) → (Option A → List ℕ) → List (Option A) → Option (List ℕ)
group_mac level under_mac group =
    if list_all is_none group then None else Some (mac_of level (flat_map under_mac (filled_up group)))

-- a list is cut into groups of 32; an empty one is one group
abbrev pub group_count : ℕ → ℕ
group_count n = max 1 (div_ceil n 32)

abbrev pub group_at : {A : Type 0} → List A → ℕ → List A
group_at entries j = take 32 (drop (32 * j) entries)

-- the MACs of the nodes of a level, from left to right
unfoldable pub group_macs : {A : Type 0} → (level : ℕ) → (Option A → List ℕ) → List (Option A) → List (Option (List ℕ))
group_macs level under_mac entries =
    map (λ j. group_mac level under_mac (group_at entries j)) (range_with_len 0 (group_count (length entries)))

-- the MACs of the nodes of a level are folded until one is left. There are fewer further levels than nodes,
-- which bounds the recursion
unfoldable pub folded : (more level : ℕ) → List (Option (List ℕ)) → Option (List ℕ)
folded zero level macs = slice_index_or macs 0 None
folded (suc more) level macs =
    if nat_le (length macs) 1 then slice_index_or macs 0 None
    else folded more (level + 1) (group_macs (level + 1) node_under_mac macs)

-- the MAC of the top, none where it is a hole
unfoldable pub fold_mac : List (Option BlockRef) → Option (List ℕ)
fold_mac refs = let macs = group_macs 1 block_under_mac refs in folded (length macs) 1 macs
