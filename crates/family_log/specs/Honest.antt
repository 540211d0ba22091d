-- When a family stands on an honest shelf.
use Rattle.std.specs.Prelude.{ℕ, ◌≡◌, true, List, [], ◌∷◌, ◌++◌, Option, Some, None, Result, Ok, IfSome}
use Rattle.std.specs.Option.{option_map, option_map_or}
use Rattle.shelf_store.specs.ShelfState.{ShelfState}
use Rattle.indirect_macs.specs.declared.refs.BlockRef.{BlockRef}
use Rattle.indirect_macs.specs.declared.refs.MacError.{MacError}
use Rattle.indirect_macs.specs.Runs.{walk_to}
use Rattle.indirect_macs.specs.RunFields.{run_for}
use Rattle.indirect_macs.specs.Trees.{HoldsBytes}
use Rattle.family_log.specs.declared.table.Table.{Table}
use Rattle.family_log.specs.declared.table.TableRow.{TableRow}
use Rattle.family_log.specs.declared.entry.HeadChange.{HeadChange}
use Rattle.family_log.specs.declared.entry.Spot.{Spot}
use Rattle.family_log.specs.declared.entry.LogEntry.{LogEntry}
use Rattle.family_log.specs.Tables.{row_of}
use Rattle.family_log.specs.Log.{head_spot, is_past, last_ref, last_length}
use Rattle.family_log.specs.Model.{FamilyState, table_of}

-- where the tree of an object leads at a place, over the blocks of a shelf; past the tree's last place there are
-- holes. The walk to a place is that of a run into the tree, of which it knows nothing but the tree
abbrev pub row_leads : (blocks : List (List ℕ)) → (record_size index : ℕ) → TableRow → Result (Option BlockRef) MacError
row_leads blocks record_size index row = walk_to blocks record_size (run_for row.tree 0 0 []) index

-- where the trees of a table lead; an object that isn't there has holes alone
abbrev pub leads : (blocks : List (List ℕ)) → Table → (object index : ℕ) → Result (Option BlockRef) MacError
leads blocks table object index = option_map_or (row_leads blocks table.block index) (row_of object table) (Ok None)

-- the trees of a table have only nodes that pass, and lead at every place to what the log gives, address included;
-- the log gives no reference at or behind an object's end
pub record TellsTheLog (blocks : List (List ℕ)) (log : List LogEntry) (spot : Spot) (table : Table) : Type 0 where
  pub refs : (object index : ℕ) → leads blocks table object index ≡ Ok (last_ref table.block log spot object index)
  pub ends : (object index : ℕ) → is_past table.block index (last_length log spot object) ≡ true
      → last_ref table.block log spot object index ≡ None

-- the shelf tells its blocks, of bytes, and holds them as they were put, and each head and snapshot has what the
-- log tells
pub record IsHonest (family : FamilyState) : Type 0 where
  pub blocks : List (List ℕ)
  pub placed : family.shelf.placed ≡ Some blocks
  pub held : family.shelf.held ≡ Some blocks
  pub bytes : HoldsBytes blocks
  pub spots : (spot : Spot) → IfSome (table_of spot family.heads) (λ table. TellsTheLog blocks family.log spot table)

-- the trees of a head's new table lead, over the blocks that the shelf holds, to what the log gives with its entry,
-- which gives no reference at or behind an object's end
abbrev pub LeadsAsLogged : FamilyState → (head : ℕ) → HeadChange → Type 0
LeadsAsLogged family head change =
    IfSome family.shelf.held
    (λ blocks. TellsTheLog blocks (family.log ++ change.entry ∷ []) (head_spot head) change.table)

-- blocks were put on the shelf, these, and it tells and holds them behind those before
abbrev pub HasGrown : (more : List (List ℕ)) → (old new : ShelfState) → Type 0
HasGrown more old new =
    (new.placed ≡ option_map (λ blocks. blocks ++ more) old.placed)
    × (new.held ≡ option_map (λ blocks. blocks ++ more) old.held)
