-- What a tree leads to, and trees in which no node without references is stored.
use Rattle.std.specs.Prelude.{ℕ, ◌+◌, ◌-◌, ◌^◌, ◌<◌, ◌≤◌, ◌≡◌, ◌⊎◌, ◌==◌, ◌&&◌, Bool, false, nat_le, nat_lt, if◌then◌else◌, List, ◌++◌, length, map, slice_index, Option, Some, None, IfSome, All, Result, Ok}
use Rattle.std.specs.List.{list_all, range_with_len, slice_get, slice_index_or}
use Rattle.indirect_macs.specs.declared.refs.BlockRef.{BlockRef}
use Rattle.indirect_macs.specs.declared.refs.NodeRef.{NodeRef}
use Rattle.indirect_macs.specs.declared.refs.ObjTree.{ObjTree}
use Rattle.indirect_macs.specs.declared.refs.MacError.{MacError}
use Rattle.indirect_macs.specs.Entries.{IsBlockRef, IsNodeRef}
use Rattle.indirect_macs.specs.Nodes.{entry_at, slots}
use Rattle.indirect_macs.specs.Walk.{walk}
use Rattle.indirect_macs.specs.Places.{Place, place_at}
use Rattle.indirect_macs.specs.Runs.{Run, old_of, puts_of, tree_of, levels_for, last_block}

-- each is a byte
abbrev pub AreBytes : List ℕ → Type 0
AreBytes bytes = (i : ℕ) → slice_index bytes i < 256

-- the fields of a reference to a block are bytes
pub record HasBytes (r : BlockRef) : Type 0 where
  pub salt : AreBytes r.salt
  pub iv : AreBytes r.iv
  pub mac : AreBytes r.mac

-- each held block is of bytes
abbrev pub HoldsBytes : List (List ℕ) → Type 0
HoldsBytes held = (address : ℕ) (block : List ℕ) → slice_get held address ≡ Some block → AreBytes block

-- the walk to each block of the tree passes, and gives the reference at its place of the list, or a hole
-- behind the list
abbrev pub LeadsTo : (held : List (List ℕ)) → (record_size below : ℕ) → Option NodeRef → List (Option BlockRef) → Type 0
LeadsTo held record_size below top refs =
    (index : ℕ) → index < 32 ^ (below + 1) → walk held record_size index below top ≡ Ok (slice_index_or refs index None)

-- a node whose 32 entries are holes
unfoldable pub is_empty_node : (level : ℕ) → (node : List ℕ) → Bool
is_empty_node level node = list_all (λ slot. slice_index (entry_at level node slot) 0 == 0) slots

-- none of the tree's nodes is such a one
abbrev pub HasNoEmptyNodes : (held : List (List ℕ)) → (below : ℕ) → Option NodeRef → Type 0
HasNoEmptyNodes held below top =
    (index depth : ℕ) (place : Place) (node : List ℕ) → index < 32 ^ (below + 1)
    → place_at held index below top depth ≡ Some place
    → slice_get held place.node.addr ≡ Some node → is_empty_node place.level node ≡ false

-- a run of references that fit, into a tree as a shelf holds it, whose new addresses fit too
pub record IsRunOn (held : List (List ℕ)) (record_size : ℕ) (run : Run) : Type 0 where
  pub levels : 1 ≤ run.levels
  pub within : run.from + length run.refs ≤ run.blocks
  pub few : run.blocks ≤ 8388608
  pub refs : All (λ entry. IfSome entry (IsBlockRef record_size)) run.refs
  pub top : IfSome run.top IsNodeRef
  pub bytes : HoldsBytes held
  pub room : length held + length (puts_of run (old_of held record_size run) (length held)) ≤ 2 ^ 64

-- what the shelf holds once the run is put into the tree, and the new tree
abbrev pub held_after : (held : List (List ℕ)) → (record_size : ℕ) → Run → List (List ℕ)
held_after held record_size run = held ++ puts_of run (old_of held record_size run) (length held)

abbrev pub tree_after : (held : List (List ℕ)) → (record_size : ℕ) → Run → ObjTree
tree_after held record_size run = tree_of run (old_of held record_size run) (length held)

-- the walk to a block of the new tree
abbrev pub walk_after : (held : List (List ℕ)) → (record_size : ℕ) → Run → (index : ℕ)
    → Result (Option BlockRef) MacError
walk_after held record_size run index =
    let tree = tree_after held record_size run in walk (held_after held record_size run) record_size index
    (tree.levels - 1) tree.top

-- the tree that the run is put into
abbrev pub tree_before : Run → ObjTree
tree_before run = record { levels = run.levels; top = run.top }

-- a tree of these references in its one spelling: of the fewest levels with room for them, where every walk
-- leads to its reference, or to a hole behind them, and no node is without references
pub record IsTree (held : List (List ℕ)) (record_size : ℕ) (tree : ObjTree)
    (refs : List (Option BlockRef)) : Type 0 where
  pub levels : tree.levels ≡ levels_for (length refs)
  pub room : length refs ≤ 32 ^ tree.levels
  pub leads : LeadsTo held record_size (tree.levels - 1) tree.top refs
  pub filled : HasNoEmptyNodes held (tree.levels - 1) tree.top

-- the references with those of the run in their places, cut or filled up with holes to its number of blocks
unfoldable pub with_run : Run → List (Option BlockRef) → List (Option BlockRef)
with_run run refs =
    map
    (λ index. if nat_le run.from index
    && nat_lt index (run.from + length run.refs) then slice_index_or run.refs (index - run.from) None
    else slice_index_or refs index None)
    (range_with_len 0 run.blocks)

-- no old reference stays behind the new number of blocks: the run touches the last block, or there is none
abbrev pub LosesAll : Run → List (Option BlockRef) → Type 0
LosesAll run refs = (last_block run ≡ run.blocks - 1) ⊎ (length refs ≤ run.blocks)
