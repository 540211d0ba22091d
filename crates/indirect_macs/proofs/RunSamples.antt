-- Two runs by hand.
use Rattle.std.proofs.Common.{◌≡◌, [], ◌∷◌, replicate, refl, Some, None}
use Rattle.std.specs.List.{flat_map}
use Rattle.indirect_macs.specs.declared.refs.BlockRef.{BlockRef}
use Rattle.indirect_macs.specs.declared.refs.NodeRef.{NodeRef}
use Rattle.indirect_macs.specs.Entries.{block_under_mac}
use Rattle.indirect_macs.specs.Nodes.{slots, block_node, ref_node, mac_of}
use Rattle.indirect_macs.specs.Walk.{walk}
use Rattle.indirect_macs.specs.Runs.{first_at, last_at, count_at, found_at, found_below, child_of, walk_to, old_of, target, new_ref, leaf_of, inner_of, new_node, kept, begun, nodes_made, levels_made, puts_of}

pub first_block_put : (r : BlockRef) → puts_of (record { levels = 1; top = None; blocks = 1; from = 0; refs = Some r ∷ [] }) (old_of [] 512 (record { levels = 1; top = None; blocks = 1; from = 0; refs = Some r ∷ [] })) 7
    ≡ block_node (Some r ∷ replicate 31 None) ∷ []
unfolding puts_of levels_made nodes_made begun count_at first_at last_at new_node leaf_of kept target old_of walk_to walk slots found_at found_below
first_block_put r = refl

pub grown_by_one : (r : BlockRef) → let top : NodeRef = record { addr = 3; mac = replicate 16 9 } in
    puts_of (record { levels = 1; top = Some top; blocks = 33; from = 32; refs = Some r ∷ [] }) (old_of [] 512 (record { levels = 1; top = Some top; blocks = 33; from = 32; refs = Some r ∷ [] })) 7
    ≡ block_node (Some r ∷ replicate 31 None)
    ∷ ref_node (Some top ∷ Some (record { addr = 7; mac = mac_of 1 (flat_map block_under_mac (Some r ∷ replicate 31 None)) }) ∷ replicate 30 None) ∷ []
unfolding puts_of levels_made nodes_made begun count_at first_at last_at new_node new_ref leaf_of inner_of kept target old_of walk_to walk slots found_at found_below child_of
grown_by_one r = refl
