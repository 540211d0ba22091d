-- The places over a block that a read tests, and their order.
use Rattle.std.specs.Prelude.{ℕ, zero, suc, ◌-◌, ◌*◌, ◌^◌, ◌<◌, ◌≡◌, ◌⊎◌, List, Option, Some, None, IsSome}
use Rattle.block_crypt.specs.Blocks.{KeyValue}
use Rattle.indirect_macs.specs.declared.refs.BlockRef.{BlockRef}
use Rattle.indirect_macs.specs.declared.refs.ObjTree.{ObjTree}
use Rattle.indirect_macs.specs.Places.{Place, block_in, place_at}
use Rattle.indirect_macs.specs.Walk.{passed}
use Rattle.file_blocks.specs.Objects.{opened_ref}

-- the node so many levels below the top of a tree, over a block; none in a hole
abbrev pub node_over : (held : List (List ℕ)) → ObjTree → (index depth : ℕ) → Option Place
node_over held tree index depth = place_at held index (tree.levels - 1) tree.top depth

-- the reference to the block, as the node of level 1 over it has it
abbrev pub ref_over : (held : List (List ℕ)) → ObjTree → (index : ℕ) → Option BlockRef
ref_over held tree index = block_in held index (node_over held tree index (tree.levels - 1))

-- the nodes over a block, those less than so many levels below the top, pass
abbrev pub PassAbove : (held : List (List ℕ)) → (record_size : ℕ) → ObjTree → (index depth : ℕ) → Type 0
PassAbove held record_size tree index depth =
    (above : ℕ) (other : Place) → above < depth → node_over held tree index above ≡ Some other
    → IsSome (passed held record_size other.level other.node)

-- all nodes over a block pass
abbrev pub PassAll : (held : List (List ℕ)) → (record_size : ℕ) → ObjTree → (index : ℕ) → Type 0
PassAll held record_size tree index =
    (depth : ℕ) (other : Place) → node_over held tree index depth ≡ Some other
    → IsSome (passed held record_size other.level other.node)

-- the place of this level over a block is no hole, all places above it over the block pass, and it fails
abbrev pub FailsFirst : KeyValue → (held : List (List ℕ)) → (record_size : ℕ) → ObjTree → (index level : ℕ) → Type 0
FailsFirst key held record_size tree index zero =
    (r : BlockRef) × (ref_over held tree index ≡ Some r) × (opened_ref key held r ≡ None)
    × PassAll held record_size tree index
FailsFirst key held record_size tree index (suc level) =
    (depth : ℕ) × (place : Place) × (node_over held tree index depth ≡ Some place) × (place.level ≡ suc level)
    × (passed held record_size place.level place.node ≡ None) × PassAbove held record_size tree index depth

-- of two places, by level and index, the one with the lesser first block comes before the other, and of two
-- equal ones the higher level
abbrev pub IsBefore : (level place other_level other : ℕ) → Type 0
IsBefore level place other_level other =
    (place * 32 ^ level < other * 32 ^ other_level)
    ⊎ ((place * 32 ^ level ≡ other * 32 ^ other_level) × (other_level < level))
