-- The first place that fails, of those that a range of blocks needs.
use Rattle.std.specs.Prelude.{ℕ, ◌+◌, ◌<◌, ◌≤◌, ◌≡◌, ◌⊎◌, List}
use Rattle.block_crypt.specs.Blocks.{KeyValue}
use Rattle.indirect_macs.specs.declared.refs.ObjTree.{ObjTree}
use Rattle.indirect_macs.specs.Walk.{place_of}
use Rattle.file_blocks.specs.Places.{FailsFirst, IsBefore}

-- the place of a level and an index covers one of so many blocks from the first on, all places above it pass, it
-- fails, and no such place comes before it: none with a lesser first block, nor one of a higher level with the same
pub record IsFirstFailing (key : KeyValue) (held : List (List ℕ)) (record_size : ℕ) (tree : ObjTree)
    (first count level place : ℕ) : Type 0 where
  pub index : ℕ
  pub low : first ≤ index
  pub high : index < first + count
  pub covers : place ≡ place_of level index
  pub fails : FailsFirst key held record_size tree index level
  pub least : (other below : ℕ) → first ≤ other → other < first + count
      → FailsFirst key held record_size tree other below
      → IsBefore level place below (place_of below other) ⊎ ((level ≡ below) × (place ≡ place_of below other))
