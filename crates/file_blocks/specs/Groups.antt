-- Groups of 32 blocks, those under one node of level 1. A read keeps the references to the blocks of one of them.
use Rattle.std.specs.Prelude.{ℕ, ◌/◌, ◌%◌, ◌≡◌, List, Option, None, IfSome, Ok}
use Rattle.std.specs.List.{slice_index_or}
use Rattle.indirect_macs.specs.declared.refs.BlockRef.{BlockRef}
use Rattle.indirect_macs.specs.declared.refs.ObjTree.{ObjTree}
use Rattle.file_blocks.specs.declared.group.Group.{Group}
use Rattle.file_blocks.specs.Objects.{walk_in}

-- the reference to the block of an index, of those of its group
abbrev pub ref_of : (refs : List (Option BlockRef)) → (index : ℕ) → Option BlockRef
ref_of refs index = slice_index_or refs (index % 32) None

-- the walk to each block of the group of this number gives its reference
abbrev pub LeadsToGroup : (held : List (List ℕ)) → (record_size : ℕ) → ObjTree → (number : ℕ)
    → (refs : List (Option BlockRef)) → Type 0
LeadsToGroup held record_size tree number refs =
    (index : ℕ) → index / 32 ≡ number → walk_in held record_size tree index ≡ Ok (ref_of refs index)

-- what is kept of a group, if any, is so on a shelf that tells
abbrev pub IsKnown : (held : Option (List (List ℕ))) → (record_size : ℕ) → ObjTree → Group → Type 0
IsKnown held record_size tree group =
    IfSome group.number (λ number. IfSome held (λ blocks. LeadsToGroup blocks record_size tree number group.refs))
