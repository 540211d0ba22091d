-- The places over a block, from the top of its tree down: what stands in the nodes as a shelf holds them,
-- whether or not they pass their tests.
use Rattle.std.specs.Prelude.{ℕ, zero, suc, ◌+◌, List, Option, None}
use Rattle.std.specs.List.{slice_get}
use Rattle.std.specs.Option.{option_map, option_and_then}
use Rattle.indirect_macs.specs.declared.refs.BlockRef.{BlockRef}
use Rattle.indirect_macs.specs.declared.refs.NodeRef.{NodeRef}
use Rattle.indirect_macs.specs.Entries.{block_at, node_at}
use Rattle.indirect_macs.specs.Nodes.{entry_at}
use Rattle.indirect_macs.specs.Walk.{slot_of}

-- a node that is no hole: its level, and its reference in the node above, or at the top in the tree
pub record Place : Type 0 where
  pub level : ℕ
  pub node : NodeRef

-- what the held node of this level has of the node below it, over the block
unfoldable pub next_ref : (held : List (List ℕ)) → (index level : ℕ) → Option NodeRef → Option NodeRef
next_ref held index level above =
    option_and_then (λ node. option_and_then (λ bytes. node_at (entry_at level bytes (slot_of level index)))
    (slice_get held node.addr)) above

-- the place so many levels below the top, whose own level has `below` levels of nodes below it; none in a
-- hole, and none below level 1
unfoldable pub place_at : (held : List (List ℕ)) → (index below : ℕ) → Option NodeRef → (depth : ℕ) → Option Place
place_at held index below top zero = option_map (λ node. record { level = below + 1; node = node }) top
place_at held index zero top (suc depth) = None
place_at held index (suc below) top (suc depth) = place_at held index below (next_ref held index (below + 2) top) depth

-- what the held node of level 1 has of the block
unfoldable pub block_in : (held : List (List ℕ)) → (index : ℕ) → Option Place → Option BlockRef
block_in held index lowest =
    option_and_then (λ place. option_and_then (λ bytes. block_at (entry_at 1 bytes (slot_of 1 index)))
    (slice_get held place.node.addr)) lowest
