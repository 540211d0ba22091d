-- Trees in which a run of references is put in: the new references of each block, the nodes that change for
-- them, and what of these is put on a shelf. The nodes over the run are made anew from level 1 up, and in
-- each level from left to right. A node is put where its entries change, or where the old tree has no such
-- node.
use Rattle.std.specs.Prelude.{ℕ, zero, suc, ◌+◌, ◌-◌, ◌*◌, ◌/◌, ◌%◌, ◌^◌, ◌<◌, ◌≤◌, ◌≡◌, ◌==◌, ◌&&◌, ◌||◌, Bool, true, false, nat_le, nat_lt, if◌then◌else◌, List, [], ◌∷◌, ◌++◌, length, map, replicate, slice_index_or, Option, Some, None, is_none, is_some, Result, Ok, Err, IsOk}
use Rattle.std.specs.Int.{div_ceil}
use Rattle.std.specs.List.{list_all, flat_map}
use Rattle.std.specs.Cmp.Lexicographic.{pointwise}
use Rattle.std.specs.Option.{option_eq, option_map, option_map_or}
use Rattle.std.specs.Str.{bytes_eq}
use Rattle.indirect_macs.specs.declared.refs.BlockRef.{BlockRef}
use Rattle.indirect_macs.specs.declared.refs.NodeRef.{NodeRef}
use Rattle.indirect_macs.specs.declared.refs.ObjTree.{ObjTree}
use Rattle.indirect_macs.specs.declared.refs.MacError.{MacError}
use Rattle.indirect_macs.specs.declared.refs.MacError.TheVariants.{MacFailed}
use Rattle.indirect_macs.specs.Entries.{block_under_mac, node_under_mac, node_at}
use Rattle.indirect_macs.specs.Nodes.{slots, block_node, ref_node, mac_of, entry_at}
use Rattle.indirect_macs.specs.Walk.{passed, goes_on, walk}

-- a tree of so many levels is to have so many blocks, and from one of them on these references
pub record Run : Type 0 where
  pub levels : ℕ
  pub top : Option NodeRef
  pub blocks : ℕ
  pub from : ℕ
  pub refs : List (Option BlockRef)

-- how many blocks an object of this length has
abbrev pub blocks_for : (record_size bytes : ℕ) → ℕ
blocks_for record_size bytes = div_ceil bytes record_size

-- the least number of levels of at least 1 with room for so many blocks, which are at most 32 ^ 5
abbrev pub levels_for : ℕ → ℕ
levels_for blocks =
    if nat_le blocks (32 ^ 1) then 1
    else (if nat_le blocks (32 ^ 2) then 2
    else (if nat_le blocks (32 ^ 3) then 3 else (if nat_le blocks (32 ^ 4) then 4 else 5)))

-- ---- what is touched

-- the first and the last touched block: those of the run, and of an empty one the last block that stays
abbrev pub first_block : Run → ℕ
first_block run = if nat_lt 0 (length run.refs) then run.from else run.blocks - 1

abbrev pub last_block : Run → ℕ
last_block run = if nat_lt 0 (length run.refs) then run.from + length run.refs - 1 else run.blocks - 1

-- the touched nodes of a level are those over these blocks
unfoldable pub first_at : Run → (level : ℕ) → ℕ
first_at run level = first_block run / 32 ^ level

unfoldable pub last_at : Run → (level : ℕ) → ℕ
last_at run level = last_block run / 32 ^ level

unfoldable pub count_at : Run → (level : ℕ) → ℕ
count_at run level = last_at run level - first_at run level + 1

-- the touched nodes of level 1; a tree of no blocks has none
pub record IsTouched (run : Run) (j : ℕ) : Type 0 where
  pub blocks : 0 < run.blocks
  pub low : first_at run 1 ≤ j
  pub high : j ≤ last_at run 1

-- ---- the old tree

-- the references of an old tree: to the nodes, by level and index, and to the blocks. None in a hole, and
-- beyond the tree
pub record Old : Type 0 where
  pub node : (level index : ℕ) → Option NodeRef
  pub block : (index : ℕ) → Option BlockRef

-- what the node of a level above has of its child, where it passes
unfoldable pub child_of : (held : List (List ℕ)) → (record_size level index : ℕ) → Option NodeRef
    → Result (Option NodeRef) MacError
child_of held record_size level index None = Ok None
child_of held record_size level index (Some node) =
    option_map_or (λ bytes. Ok (node_at (entry_at level bytes (index % 32))))
    (passed held record_size level node) (Err (MacFailed level (index / 32)))

-- the walk to a place so many levels below the top: the reference there, none in a hole or beyond the tree,
-- or the first place above it that fails
unfoldable pub found_below : (held : List (List ℕ)) → (record_size levels : ℕ) → (top : Option NodeRef)
    → (depth index : ℕ) → Result (Option NodeRef) MacError
found_below held record_size levels top zero index = Ok (if index == 0 then top else None)
found_below held record_size levels top (suc depth) index =
    goes_on (λ above. child_of held record_size (levels - depth) index above) (λ failed. Err failed)
    (found_below held record_size levels top depth (index / 32))

-- the walk to a place of the old tree
unfoldable pub found_at : (held : List (List ℕ)) → (record_size : ℕ) → Run → (level index : ℕ)
    → Result (Option NodeRef) MacError
found_at held record_size run level index =
    if nat_lt run.levels level then Ok None
    else found_below held record_size run.levels run.top (run.levels - level) index

-- the walk to a block of the old tree
unfoldable pub walk_to : (held : List (List ℕ)) → (record_size : ℕ) → Run → (index : ℕ)
    → Result (Option BlockRef) MacError
walk_to held record_size run index =
    if nat_lt index (32 ^ run.levels) then walk held record_size index (run.levels - 1) run.top else Ok None

abbrev pub or_hole : {X : Type 0} → Result (Option X) MacError → Option X
or_hole (Ok found) = found
or_hole (Err failed) = None

-- the references of the old tree as the shelf holds it
unfoldable pub old_of : (held : List (List ℕ)) → (record_size : ℕ) → Run → Old
old_of held record_size run = record {
  node = λ level index. or_hole (found_at held record_size run level index);
  block = λ index. or_hole (walk_to held record_size run index);
}

-- ---- the new references

-- the new reference to a block: that of the run, and outside of it the old one
unfoldable pub target : Run → Old → (index : ℕ) → Option BlockRef
target run old index =
    if nat_le run.blocks index then None
    else (if nat_le run.from index && nat_lt index (run.from + length run.refs) then slice_index_or run.refs
    (index - run.from) None else old.block index)

-- what was made up to a node: the new references of the touched nodes of its level, from the first on; the
-- reference to the node over all of the old tree, where a level above the old top isn't touched there; and
-- the nodes that are put
pub record Made : Type 0 where
  pub refs : List (Option NodeRef)
  pub raised : Option NodeRef
  pub puts : List (List ℕ)

-- the new reference to a node of this level, of which this was made: a touched one's, and else the old one
unfoldable pub new_ref : Run → Old → (level : ℕ) → Made → (index : ℕ) → Option NodeRef
new_ref run old level made index =
    if nat_le (first_at run level) index
    && nat_le index (last_at run level) then slice_index_or made.refs (index - first_at run level) None
    else (if nat_le run.blocks (index * 32 ^ level) then None
    else (if nat_lt run.levels level then (if index == 0 then made.raised else None) else old.node level index))

-- a node's entries, where the references of the level below are these
abbrev pub entries_at : {A : Type 0} → (ℕ → A) → (index : ℕ) → List A
entries_at refs index = map (λ slot. refs (32 * index + slot)) slots

-- ---- the nodes

abbrev pub same_block : BlockRef → BlockRef → Bool
same_block a b =
    a.size == b.size && a.addr == b.addr && bytes_eq a.salt b.salt && bytes_eq a.iv b.iv && bytes_eq a.mac b.mac

abbrev pub same_node : NodeRef → NodeRef → Bool
same_node a b = a.addr == b.addr && bytes_eq a.mac b.mac

-- a node of these entries: whether all are holes, its bytes and its MAC
pub record Node : Type 0 where
  pub holes : Bool
  pub bytes : List ℕ
  pub mac : List ℕ

unfoldable pub leaf_of : List (Option BlockRef) → Node
leaf_of entries = record {
  holes = list_all is_none entries;
  bytes = block_node entries;
  mac = mac_of 1 (flat_map block_under_mac entries);
}

unfoldable pub inner_of : (level : ℕ) → List (Option NodeRef) → Node
inner_of level entries = record {
  holes = list_all is_none entries;
  bytes = ref_node entries;
  mac = mac_of level (flat_map node_under_mac (map (option_map (λ r. r.mac)) entries));
}

-- the new node of a level and index, over what was made of the level below
unfoldable pub new_node : Run → Old → (level : ℕ) → Made → (index : ℕ) → Node
new_node run old level below index =
    if level == 1 then leaf_of (entries_at (target run old) index)
    else inner_of level (entries_at (new_ref run old (level - 1) below) index)

-- the old node there, if its entries are the same
unfoldable pub kept : Run → Old → (level : ℕ) → Made → (index : ℕ) → Option NodeRef
kept run old level below index =
    if (if level == 1 then pointwise (option_eq same_block) (entries_at old.block index)
    (entries_at (target run old) index)
    else pointwise (option_eq same_node) (entries_at (old.node (level - 1)) index)
    (entries_at (new_ref run old (level - 1) below) index))
    then old.node level index else None

-- a node is put behind what was put, unless all its entries are holes or the old one is kept
abbrev pub is_put : Node → Option NodeRef → Bool
is_put node old = if node.holes || is_some old then false else true

abbrev pub puts_with : Node → Option NodeRef → List (List ℕ) → List (List ℕ)
puts_with node old puts = if is_put node old then puts ++ node.bytes ∷ [] else puts

-- its reference, where so many blocks are on the shelf before
abbrev pub ref_with : (before : ℕ) → Node → Option NodeRef → Option NodeRef
ref_with before node old =
    if is_put node old then Some (record { addr = before; mac = node.mac }) else (if node.holes then None else old)

-- ---- the levels

-- a level above the old top whose first node isn't touched: that node has the old tree below its first entry
unfoldable pub begun : Run → (base level : ℕ) → (below : Made) → Made
begun run base level below =
    if nat_lt run.levels level && nat_lt 0 (first_at run level)
    then (let node = inner_of level (below.raised ∷ replicate 31 None) in record {
      refs = [];
      raised = ref_with (base + length below.puts) node None;
      puts = puts_with node None below.puts;
    })
    else record below { refs = [] }

-- so many of the touched nodes of a level, from the first on, where `base` blocks were on the shelf before all
unfoldable pub nodes_made : Run → Old → (base level : ℕ) → (below : Made) → (count : ℕ) → Made
nodes_made run old base level below zero = begun run base level below
nodes_made run old base level below (suc n) =
    let made = nodes_made run old base level below n in
    let index = first_at run level + n in
    let node = new_node run old level below index in
    let stays = kept run old level below index in
    record {
      refs = made.refs ++ ref_with (base + length made.puts) node stays ∷ [];
      raised = made.raised;
      puts = puts_with node stays made.puts;
    }

-- the touched nodes of the lowest levels, so many
unfoldable pub levels_made : Run → Old → (base : ℕ) → (levels : ℕ) → Made
levels_made run old base zero = record { refs = []; raised = run.top; puts = [] }
levels_made run old base (suc level) =
    nodes_made run old base (suc level) (levels_made run old base level) (count_at run (suc level))

-- ---- the whole

-- what is put, in order
unfoldable pub puts_of : Run → Old → (base : ℕ) → List (List ℕ)
puts_of run old base = if run.blocks == 0 then [] else (levels_made run old base (levels_for run.blocks)).puts

-- the new tree
unfoldable pub tree_of : Run → Old → (base : ℕ) → ObjTree
tree_of run old base = record {
  levels = levels_for run.blocks;
  top = if run.blocks == 0 then None else slice_index_or (levels_made run old base (levels_for run.blocks)).refs 0 None;
}

-- each walk to a touched node passes
pub record Passes (held : List (List ℕ)) (record_size : ℕ) (run : Run) : Type 0 where
  pub each : (j : ℕ) → IsTouched run j → IsOk (walk_to held record_size run (32 * j))

-- of the walks to the touched nodes, from left to right, this is the first that fails, and where
pub record FirstFails (held : List (List ℕ)) (record_size : ℕ) (run : Run) (failed : MacError) : Type 0 where
  pub at : ℕ
  pub touched : IsTouched run at
  pub fails : walk_to held record_size run (32 * at) ≡ Err failed
  pub before : (j : ℕ) → IsTouched run j → j < at → IsOk (walk_to held record_size run (32 * j))

-- ---- bounds

-- how many touched nodes the lowest levels have
abbrev pub touched_below : Run → (levels : ℕ) → ℕ
touched_below run zero = 0
touched_below run (suc level) = count_at run (suc level) + touched_below run level

-- and how many nodes above the old top that aren't touched
abbrev pub raised_below : Run → (levels : ℕ) → ℕ
raised_below run zero = 0
raised_below run (suc level) =
    (if nat_lt run.levels (suc level) && nat_lt 0 (first_at run (suc level)) then 1 else 0) + raised_below run level

abbrev pub most_reads : Run → ℕ
most_reads run = touched_below run run.levels

abbrev pub most_puts : Run → ℕ
most_puts run = touched_below run (levels_for run.blocks) + raised_below run (levels_for run.blocks)
