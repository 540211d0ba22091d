-- Families on a shelf that only grows.
use Rattle.std.proofs.Common.{◌≡◌, ℕ, zero, suc, ◌-◌, ◌<◌, ◌≤◌, ◌^◌, Bool, true, false, List, [], ◌∷◌, ◌++◌, Option, Some, None, Ok, IfSome, refl, ap, sym, ◌∙◌, arith}
use Rattle.std.specs.Prelude.{nat_lt}
use Rattle.std.specs.Option.{option_map, option_map_or}
use Rattle.std.proofs.lemmas.Bool.Decides.{nat_tests}
use Rattle.shelf_store.specs.ShelfState.{ShelfState}
use Rattle.indirect_macs.specs.declared.refs.BlockRef.{BlockRef}
use Rattle.indirect_macs.specs.Walk.{walk}
use Rattle.indirect_macs.specs.Runs.{Run, walk_to}
use Rattle.indirect_macs.specs.Trees.{HoldsBytes, tree_before}
use Rattle.indirect_macs.proofs.Growth.{walk-grown}
use Rattle.family_log.specs.declared.table.Table.{Table}
use Rattle.family_log.specs.declared.table.TableRow.{TableRow}
use Rattle.family_log.specs.declared.entry.Spot.{Spot}
use Rattle.family_log.specs.declared.entry.LogEntry.{LogEntry}
use Rattle.family_log.specs.Tables.{row_of}
use Rattle.family_log.specs.Log.{last_ref}
use Rattle.family_log.specs.Model.{FamilyState, table_of}
use Rattle.family_log.specs.Honest.{HasGrown, IsHonest, TellsTheLog, row_leads}

by_space : {P : Type 0} (b : Bool) → (b ≡ true → P) → (b ≡ false → P) → P
by_space true yes_case no_case = yes_case refl
by_space false yes_case no_case = no_case refl

-- within a row's tree, and past it
pub row_leads-within : (blocks : List (List ℕ)) (record_size index : ℕ) (row : TableRow) → index < 32 ^ row.tree.levels
    → row_leads blocks record_size index row ≡ walk blocks record_size index (row.tree.levels - 1) row.tree.top
unfolding walk_to
row_leads-within blocks record_size index row below =
    let within : nat_lt index (32 ^ row.tree.levels) ≡ true = grind (arith, nat_tests) in rw within refl

pub row_leads-past : (blocks : List (List ℕ)) (record_size index : ℕ) (row : TableRow) → 32 ^ row.tree.levels ≤ index
    → row_leads blocks record_size index row ≡ Ok None
unfolding walk_to
row_leads-past blocks record_size index row above =
    let past : nat_lt index (32 ^ row.tree.levels) ≡ false = grind (arith, nat_tests) in rw past refl

pub row_leads-run : (blocks : List (List ℕ)) (record_size index : ℕ) (row : TableRow) (run : Run) → row.tree ≡ tree_before run
    → row_leads blocks record_size index row ≡ walk_to blocks record_size run index
unfolding walk_to
row_leads-run blocks record_size index row run is = rw is refl

below_of : (a b : ℕ) → nat_lt a b ≡ true → a < b
below_of a b test = grind (arith, nat_tests)

above_of : (a b : ℕ) → nat_lt a b ≡ false → b ≤ a
above_of a b test = grind (arith, nat_tests)

row_leads-grown : (blocks more : List (List ℕ)) (record_size index : ℕ) (row : TableRow) (found : Option BlockRef)
    → row_leads blocks record_size index row ≡ Ok found → row_leads (blocks ++ more) record_size index row ≡ Ok found
row_leads-grown blocks more record_size index row found is =
    by_space (nat_lt index (32 ^ row.tree.levels))
    (λ within. let below = below_of index (32 ^ row.tree.levels) within in
    row_leads-within (blocks ++ more) record_size index row below
    ∙ walk-grown blocks more record_size index (row.tree.levels - 1) row.tree.top found
    (sym (row_leads-within blocks record_size index row below) ∙ is))
    (λ past. let above = above_of index (32 ^ row.tree.levels) past in
    row_leads-past (blocks ++ more) record_size index row above ∙ sym (row_leads-past blocks record_size index row above) ∙ is)

leads_still : (blocks more : List (List ℕ)) (record_size index : ℕ) (row : Option TableRow) (found : Option BlockRef)
    → option_map_or (row_leads blocks record_size index) row (Ok None) ≡ Ok found
    → option_map_or (row_leads (blocks ++ more) record_size index) row (Ok None) ≡ Ok found
leads_still blocks more record_size index None found is = is
leads_still blocks more record_size index (Some row) found is = row_leads-grown blocks more record_size index row found is

pub tells-grown : (blocks more : List (List ℕ)) (log : List LogEntry) (spot : Spot) (table : Table)
    → TellsTheLog blocks log spot table → TellsTheLog (blocks ++ more) log spot table
tells-grown blocks more log spot table tells = record {
  refs = λ object index. leads_still blocks more table.block index (row_of object table) (last_ref table.block log spot object index)
      (tells.refs object index);
  ends = tells.ends;
}

some_grown : (blocks more : List (List ℕ)) (log : List LogEntry) (spot : Spot) (found : Option Table)
    → IfSome found (λ table. TellsTheLog blocks log spot table) → IfSome found (λ table. TellsTheLog (blocks ++ more) log spot table)
some_grown blocks more log spot None tells = tt
some_grown blocks more log spot (Some table) tells = tells-grown blocks more log spot table tells

holds-append : (blocks more : List (List ℕ)) → HoldsBytes blocks → HoldsBytes more → HoldsBytes (blocks ++ more)
holds-append [] more left right address block is = right address block is
holds-append (first ∷ blocks) more left right zero block is = left zero block is
holds-append (first ∷ blocks) more left right (suc address) block is =
    holds-append blocks more (λ k b there. left (suc k) b there) right address block is

pub honest-grown : (family : FamilyState) (more : List (List ℕ)) (shelf : ShelfState) → IsHonest family → HasGrown more family.shelf shelf
    → HoldsBytes more → IsHonest (record family { shelf = shelf })
honest-grown family more shelf honest grown bytes = record {
  blocks = honest.blocks ++ more;
  placed = grown.0 ∙ ap (option_map (λ blocks. blocks ++ more)) honest.placed;
  held = grown.1 ∙ ap (option_map (λ blocks. blocks ++ more)) honest.held;
  bytes = holds-append honest.blocks more honest.bytes bytes;
  spots = λ spot. some_grown honest.blocks more family.log spot (table_of spot family.heads) (honest.spots spot);
}
