-- The MAC of each node of a tree without empty nodes is the fold of the blocks that it leads to.
use Rattle.std.proofs.Common.{◌≡◌, ℕ, zero, suc, ◌+◌, ◌-◌, ◌*◌, ◌/◌, ◌%◌, ◌^◌, ◌<◌, ◌≤◌, Bool, true, false, ◌&&◌, ◌==◌, List, length, map, get_or, slice_index, refl, sym, ap, subst, ◌∙◌, arith, Option, Some, None, is_none, Result, Ok, Err, if◌then◌else◌}
use Rattle.std.specs.List.{list_all, flat_map, range_with_len, slice_get}
use Rattle.std.specs.Option.{option_map, option_and_then, option_map_or}
use Rattle.std.specs.Str.{bytes_eq}
use Rattle.std.proofs.lemmas.Bool.{eqb-true, ne_eqb}
use Rattle.std.proofs.lemmas.List.Folds.{list_all-map, flat_map-map}
use Rattle.std.proofs.lemmas.List.FromFn.{fill_by_all, length-map-range_with_len, get_or-map-range_with_len}
use Rattle.std.proofs.Math.Path.{fun_ext}
use Rattle.std.proofs.lemmas.Slice.Eq.{bytes_eq-Decides}
use Rattle.std.proofs.Math.Nat.{pow-suc, div-div-eq-div-mul, mul-div_cancel}
use Rattle.std.proofs.lemmas.Nat.{div-mul-add, mod-mul-add, mod_below, div-add-mod'}
use Rattle.indirect_macs.specs.declared.refs.BlockRef.{BlockRef}
use Rattle.indirect_macs.specs.declared.refs.NodeRef.{NodeRef}
use Rattle.indirect_macs.specs.declared.refs.MacError.{MacError}
use Rattle.indirect_macs.specs.Entries.{block_at, node_at, block_under_mac, node_under_mac, is_entry, without_address}
use Rattle.indirect_macs.specs.Nodes.{slots, node_len, entry_at, node_mac, has_entries, node_passes, mac_of, blocks_of}
use Rattle.indirect_macs.specs.Walk.{place_of, slot_of, passed, walk, next_block, next_node, fails_at, goes_on}
use Rattle.indirect_macs.specs.Places.{Place, place_at, next_ref}
use Rattle.indirect_macs.specs.Fold.{group_mac, fold_mac}
use Rattle.indirect_macs.specs.Trees.{HoldsBytes, LeadsTo, HasNoEmptyNodes, is_empty_node}
use Rattle.indirect_macs.proofs.Spelling.{same_pieces, and_both, each_passed, bytes_of_part, part_of, block_entry-at, node_entry-at, block_without_address, node_without_address, entries_alike, macs_alike}
use Rattle.indirect_macs.proofs.FirstPlace.{passed_held, no_place}
use Rattle.indirect_macs.proofs.FoldOfTree.{under, raised, mac_at, filled_whole, group_mac_holes, fold_is_top, power_least}

-- ---- a node that passes

pub record Passes (held : List (List ℕ)) (record_size level : ℕ) (node : NodeRef) (bytes : List ℕ) : Type 0 where
  pub there : slice_get held node.addr ≡ Some bytes
  pub whole : length bytes ≡ node_len level
  pub entries : has_entries level record_size bytes ≡ true
  pub mac : node_mac level bytes ≡ node.mac

test_true : (found : Option (List ℕ)) (test : List ℕ → Bool) (bytes : List ℕ)
    → option_and_then (λ bytes. if test bytes then Some bytes else None) found ≡ Some bytes → test bytes ≡ true
test_true None test bytes is = absurd (cc)
test_true (Some block) test bytes is = by_test (test block) refl is
  where
    by_test : (t : Bool) → test block ≡ t → (if t then Some block else None) ≡ Some bytes → test bytes ≡ true
    by_test true passes same = let e : block ≡ bytes = cc in subst (λ (b : List ℕ). test b ≡ true) e passes
    by_test false fails same = absurd (cc)

pub same_bytes : (xs ys : List ℕ) → bytes_eq xs ys ≡ true → xs ≡ ys
same_bytes xs ys is = grind (arith, is, bytes_eq-Decides xs ys)

pub passes_from : (held : List (List ℕ)) (record_size level : ℕ) (node : NodeRef) (bytes : List ℕ)
    → passed held record_size level node ≡ Some bytes → Passes held record_size level node bytes
unfolding passed
passes_from held record_size level node bytes is =
    let test = test_true (slice_get held node.addr) (λ block. length block == node_len level && node_passes level record_size block node.mac) bytes is in
    let parts = and_both (length bytes == node_len level) (node_passes level record_size bytes node.mac) test in
    let both = and_both (has_entries level record_size bytes) (bytes_eq (node_mac level bytes) node.mac) parts.1 in
    record {
      there = passed_held held record_size level node bytes is;
      whole = eqb-true (length bytes) (node_len level) parts.0;
      entries = both.0;
      mac = same_bytes (node_mac level bytes) node.mac both.1;
    }

-- what a node that was walked through has
pub ok_passed : {X : Type 0} (f : List ℕ → X) (found : Option (List ℕ)) (failed : MacError) (x : X)
    → option_map_or (λ bytes. Ok (f bytes)) found (Err failed) ≡ Ok x → (bytes : List ℕ) × (found ≡ Some bytes) × (f bytes ≡ x)
ok_passed f None failed x is = absurd (cc)
ok_passed f (Some bytes) failed x is = (bytes, refl, cc)

pub goes_ok : {X Y : Type 0} (on : X → Result Y MacError) (next : Result X MacError) (y : Y)
    → goes_on on (λ failed. Err failed) next ≡ Ok y → (x : X) × (next ≡ Ok x) × (on x ≡ Ok y)
goes_ok on (Ok x) y is = (x, refl, is)
goes_ok on (Err failed) y is = absurd (cc)

-- ---- places by index

pub child_place : (level index : ℕ) → place_of level index / 32 ≡ place_of (level + 1) index
child_place level index =
    let next : level + 1 ≡ suc level = omega arith in
    div-div-eq-div-mul index (32 ^ level) 32 ∙ ap (λ (p : ℕ). index / p) (sym (pow-suc 32 level) ∙ ap (λ (k : ℕ). 32 ^ k) (sym next))

-- the entry of a node that leads to a place of the level below
pub slot_above : (below index j s : ℕ) → s < 32 → place_of (below + 1) index ≡ 32 * j + s → slot_of (below + 2) index ≡ s
slot_above below index j s within place =
    let level : below + 2 - 1 ≡ below + 1 = omega arith in
    let turned : 32 * j + s ≡ j * 32 + s = omega arith in
    ap (λ (l : ℕ). place_of l index % 32) level ∙ ap (λ (p : ℕ). p % 32) (place ∙ turned) ∙ mod-mul-add j 32 s within

pub place_above : (below index j s : ℕ) → s < 32 → place_of (below + 1) index ≡ 32 * j + s → place_of (suc below + 1) index ≡ j
place_above below index j s within place =
    let turned : 32 * j + s ≡ j * 32 + s = omega arith in
    let level : below + 1 + 1 ≡ suc below + 1 = omega arith in
    ap (λ (l : ℕ). place_of l index) (sym level) ∙ sym (child_place (below + 1) index) ∙ ap (λ (p : ℕ). p / 32) (place ∙ turned) ∙ div-mul-add j 32 s within

-- a block under each place
pub first_under : (level j : ℕ) → place_of level (j * 32 ^ level) ≡ j
first_under level j = mul-div_cancel j (omega (arith, power_least level))

pub lowest_slot : (j s : ℕ) → s < 32 → slot_of 1 (32 * j + s) ≡ s
lowest_slot j s within =
    let turned : 32 * j + s ≡ j * 32 + s = omega arith in
    let none : (32 * j + s) / 1 ≡ 32 * j + s = omega arith in
    ap (λ (p : ℕ). p % 32) (none ∙ turned) ∙ mod-mul-add j 32 s within

pub lowest_place : (j s : ℕ) → s < 32 → place_of 1 (32 * j + s) ≡ j
lowest_place j s within =
    let turned : 32 * j + s ≡ j * 32 + s = omega arith in
    ap (λ (p : ℕ). p / 32) turned ∙ div-mul-add j 32 s within

-- what is under the first place
pub first_place : (level index : ℕ) → place_of level index ≡ 0 → index < 32 ^ level
first_place level index at =
    let split : index / 32 ^ level * 32 ^ level + index % 32 ^ level ≡ index = div-add-mod' index (32 ^ level) in
    let small : index % 32 ^ level < 32 ^ level = mod_below index (32 ^ level) (omega (arith, power_least level)) in
    let zero_times : 0 * 32 ^ level ≡ 0 = omega arith in
    let none : index / 32 ^ level * 32 ^ level ≡ 0 = ap (λ (q : ℕ). q * 32 ^ level) at ∙ zero_times in
    omega (arith, split, small, none)

-- ---- the MAC of a node by its entries

pub block_none : (e : List ℕ) → is_none (block_at e) ≡ (slice_index e 0 == 0)
unfolding block_at
block_none e = by_first (slice_index e 0 == 0) _
  where
    by_first : (b : Bool) (r : BlockRef) → is_none (if b then None else Some r) ≡ b
    by_first true r = refl
    by_first false r = refl

pub node_none : (e : List ℕ) → is_none (node_at e) ≡ (slice_index e 0 == 0)
unfolding node_at
node_none e = by_first (slice_index e 0 == 0) _
  where
    by_first : (b : Bool) (r : NodeRef) → is_none (if b then None else Some r) ≡ b
    by_first true r = refl
    by_first false r = refl

pub map_same : {X : Type 0} (f g : ℕ → X) (n : ℕ) → ((k : ℕ) → k < n → f k ≡ g k) → map f (range_with_len 0 n) ≡ map g (range_with_len 0 n)
map_same f g n same =
    fill_by_all g (map f (range_with_len 0 n)) n (f 0) (length-map-range_with_len f 0 n) (λ k within.
    get_or-map-range_with_len f 0 n k k (f 0) within (omega arith) ∙ same k within)

pub under_same : {X : Type 0} (f : ℕ → Option X) (g : ℕ → Option X) (j : ℕ) → ((s : ℕ) → s < 32 → f (32 * j + s) ≡ g s)
    → under f j ≡ map g slots
unfolding under slots
under_same f g j same = map_same (λ s. f (32 * j + s)) g 32 same

pub length-slots : {X : Type 0} (f : ℕ → X) → length (map f slots) ≡ 32
unfolding slots
length-slots f = length-map-range_with_len f 0 32

group_some : {X : Type 0} (level : ℕ) (g : Option X → List ℕ) (f : ℕ → Option X) → list_all is_none (map f slots) ≡ false
    → group_mac level g (map f slots) ≡ Some (mac_of level (flat_map (λ s. g (f s)) slots))
unfolding group_mac
group_some level g f filled =
    rw (filled, filled_whole (map f slots) (length-slots f), flat_map-map g f slots) refl

pub block_holes : (bytes : List ℕ) → list_all is_none (blocks_of bytes) ≡ is_empty_node 1 bytes
unfolding is_empty_node
block_holes bytes =
    list_all-map is_none (λ slot. block_at (entry_at 1 bytes slot)) slots
    ∙ ap (λ (t : ℕ → Bool). list_all t slots) (fun_ext (λ s. block_none (entry_at 1 bytes s)))

mac_holes : (o : Option NodeRef) → is_none (option_map (λ r. r.mac) o) ≡ is_none o
mac_holes None = refl
mac_holes (Some r) = refl

-- the MACs of the nodes below one above level 1
pub macs_of : (level : ℕ) → List ℕ → ℕ → Option (List ℕ)
macs_of level bytes s = option_map (λ r. r.mac) (node_at (entry_at level bytes s))

ref_holes : (level : ℕ) (bytes : List ℕ) → list_all is_none (map (macs_of level bytes) slots) ≡ is_empty_node level bytes
unfolding is_empty_node macs_of
ref_holes level bytes =
    list_all-map is_none (macs_of level bytes) slots
    ∙ ap (λ (t : ℕ → Bool). list_all t slots) (fun_ext (λ s. mac_holes (node_at (entry_at level bytes s)) ∙ node_none (entry_at level bytes s)))

block_pieces : (record_size : ℕ) (bytes : List ℕ) → length bytes ≡ 1568 → ((i : ℕ) → slice_index bytes i < 256) → has_entries 1 record_size bytes ≡ true
    → flat_map (λ s. block_under_mac (block_at (entry_at 1 bytes s))) slots ≡ flat_map (λ s. without_address 1 (entry_at 1 bytes s)) slots
unfolding slots has_entries
block_pieces record_size bytes whole fair entries =
    same_pieces (λ s. block_under_mac (block_at (entry_at 1 bytes s))) (λ s. without_address 1 (entry_at 1 bytes s)) 32 (λ s within.
    sym (block_without_address (block_at (entry_at 1 bytes s)))
    ∙ ap (without_address 1) (block_entry-at record_size (entry_at 1 bytes s) (part_of 49 s bytes whole within)
    (bytes_of_part (49 * s) 49 bytes fair) (each_passed (λ s. is_entry 1 record_size (entry_at 1 bytes s)) 32 s within entries)))

ref_pieces : (record_size : ℕ) (bytes : List ℕ) → length bytes ≡ 800 → ((i : ℕ) → slice_index bytes i < 256) → has_entries 2 record_size bytes ≡ true
    → flat_map (λ s. node_under_mac (macs_of 2 bytes s)) slots ≡ flat_map (λ s. without_address 2 (entry_at 2 bytes s)) slots
unfolding slots has_entries macs_of
ref_pieces record_size bytes whole fair entries =
    same_pieces (λ s. node_under_mac (macs_of 2 bytes s)) (λ s. without_address 2 (entry_at 2 bytes s)) 32 (λ s within.
    sym (node_without_address (node_at (entry_at 2 bytes s)))
    ∙ ap (without_address 2) (node_entry-at record_size (entry_at 2 bytes s) (part_of 25 s bytes whole within)
    (bytes_of_part (25 * s) 25 bytes fair) (each_passed (λ s. is_entry 2 record_size (entry_at 2 bytes s)) 32 s within entries)))

block_group : (held : List (List ℕ)) (record_size : ℕ) (node : NodeRef) (bytes : List ℕ) → HoldsBytes held → Passes held record_size 1 node bytes
    → is_empty_node 1 bytes ≡ false → group_mac 1 block_under_mac (blocks_of bytes) ≡ Some node.mac
unfolding node_mac
block_group held record_size node bytes fair passes filled =
    group_some 1 block_under_mac (λ slot. block_at (entry_at 1 bytes slot)) (block_holes bytes ∙ filled)
    ∙ ap (λ (covered : List ℕ). Some (mac_of 1 covered)) (block_pieces record_size bytes passes.whole (fair node.addr bytes passes.there) passes.entries)
    ∙ ap Some passes.mac

pub above_one : (below : ℕ) → (below + 2 == 1) ≡ false
above_one below = ne_eqb (below + 2) 1 (λ e. omega (arith, e))

pub entries_above : (below : ℕ) (bytes : List ℕ) (s : ℕ) → entry_at (below + 2) bytes s ≡ entry_at 2 bytes s
entries_above below bytes s = rw (above_one below) refl

ref_group : (held : List (List ℕ)) (record_size below : ℕ) (node : NodeRef) (bytes : List ℕ) → HoldsBytes held → Passes held record_size (below + 2) node bytes
    → is_empty_node (below + 2) bytes ≡ false → group_mac (below + 2) node_under_mac (map (macs_of (below + 2) bytes) slots) ≡ Some node.mac
unfolding macs_of
ref_group held record_size below node bytes fair passes filled =
    let whole : length bytes ≡ 800 = passes.whole ∙ rw (above_one below) refl in
    let entries : has_entries 2 record_size bytes ≡ true = sym (entries_alike (below + 2) record_size bytes (omega arith)) ∙ passes.entries in
    let alike : flat_map (λ s. node_under_mac (macs_of (below + 2) bytes s)) slots ≡ flat_map (λ s. node_under_mac (macs_of 2 bytes s)) slots =
    ap (λ (f : ℕ → List ℕ). flat_map f slots) (fun_ext (λ s. ap (λ (e : List ℕ). node_under_mac (option_map (λ r. r.mac) (node_at e))) (entries_above below bytes s))) in
    group_some (below + 2) node_under_mac (macs_of (below + 2) bytes) (ref_holes (below + 2) bytes ∙ filled)
    ∙ ap (λ (covered : List ℕ). Some (mac_of (below + 2) covered)) (alike ∙ ref_pieces record_size bytes whole (fair node.addr bytes passes.there) entries)
    ∙ ap Some (sym (macs_alike (below + 2) bytes (omega arith)) ∙ passes.mac)

-- ---- the walk through a node that passes

pub walk_through : (held : List (List ℕ)) (record_size index below : ℕ) (node : NodeRef) (bytes : List ℕ) → passed held record_size (below + 2) node ≡ Some bytes
    → walk held record_size index (suc below) (Some node) ≡ walk held record_size index below (node_at (entry_at (below + 2) bytes (slot_of (below + 2) index)))
unfolding walk next_node
walk_through held record_size index below node bytes passes = rw passes refl

pub walk_last : (held : List (List ℕ)) (record_size index : ℕ) (node : NodeRef) (bytes : List ℕ) → passed held record_size 1 node ≡ Some bytes
    → walk held record_size index zero (Some node) ≡ Ok (block_at (entry_at 1 bytes (slot_of 1 index)))
unfolding walk next_block
walk_last held record_size index node bytes passes = rw passes refl

pub place_through : (held : List (List ℕ)) (index below depth : ℕ) (node : NodeRef) (bytes : List ℕ) → slice_get held node.addr ≡ Some bytes
    → place_at held index (suc below) (Some node) (suc depth) ≡ place_at held index below (node_at (entry_at (below + 2) bytes (slot_of (below + 2) index))) depth
unfolding place_at next_ref
place_through held index below depth node bytes there = rw there refl

pub walk_none : (held : List (List ℕ)) (record_size index below : ℕ) → walk held record_size index below None ≡ Ok None
unfolding walk
walk_none held record_size index zero = refl
walk_none held record_size index (suc below) = refl

pub walked_top : (held : List (List ℕ)) (record_size index below : ℕ) (node : NodeRef) (found : Option BlockRef)
    → walk held record_size index below (Some node) ≡ Ok found → (bytes : List ℕ) × (passed held record_size (below + 1) node ≡ Some bytes)
unfolding walk next_block next_node
walked_top held record_size index zero node found is =
    let got = ok_passed (λ bytes. block_at (entry_at 1 bytes (slot_of 1 index))) (passed held record_size 1 node) (fails_at 1 index) found is in
    (got.0, got.1)
walked_top held record_size index (suc below) node found is =
    let went = goes_ok (λ next. walk held record_size index below next) (next_node held record_size index (below + 2) node) found is in
    let got = ok_passed (λ bytes. node_at (entry_at (below + 2) bytes (slot_of (below + 2) index))) (passed held record_size (below + 2) node) (fails_at (below + 2) index) went.0 went.1 in
    let level : below + 2 ≡ suc below + 1 = omega arith in
    (got.0, ap (λ (l : ℕ). passed held record_size l node) (sym level) ∙ got.1)

-- ---- the whole tree

-- the tree under a place leads to the blocks under it, and has no empty node
pub record Covers (held : List (List ℕ)) (record_size : ℕ) (f : ℕ → Option BlockRef) (below j : ℕ) (top : Option NodeRef) : Type 0 where
  pub leads : (index : ℕ) → place_of (below + 1) index ≡ j → walk held record_size index below top ≡ Ok (f index)
  pub filled : (index depth : ℕ) (place : Place) (bytes : List ℕ) → place_of (below + 1) index ≡ j → place_at held index below top depth ≡ Some place
      → slice_get held place.node.addr ≡ Some bytes → is_empty_node place.level bytes ≡ false

pub ok_same : {X : Type 0} (x y : X) → (let found : Result X MacError = Ok x in found) ≡ Ok y → x ≡ y
ok_same x y is = cc

pub covers_none : (held : List (List ℕ)) (record_size : ℕ) (f : ℕ → Option BlockRef) (below j s : ℕ) → s < 32 → Covers held record_size f (suc below) j None
    → Covers held record_size f below (32 * j + s) None
covers_none held record_size f below j s within covers =
    record {
      leads = λ index place. walk_none held record_size index below
          ∙ sym (walk_none held record_size index (suc below)) ∙ covers.leads index (place_above below index j s within place);
      filled = λ index depth place bytes at is there. let none = no_place held index below depth in absurd (cc);
    }

pub covers_child : (held : List (List ℕ)) (record_size : ℕ) (f : ℕ → Option BlockRef) (below j s : ℕ) (node : NodeRef) (bytes : List ℕ) → s < 32
    → passed held record_size (below + 2) node ≡ Some bytes → Covers held record_size f (suc below) j (Some node)
    → Covers held record_size f below (32 * j + s) (node_at (entry_at (below + 2) bytes s))
covers_child held record_size f below j s node bytes within passes covers =
    record {
      leads = λ index place.
          ap (λ (slot : ℕ). walk held record_size index below (node_at (entry_at (below + 2) bytes slot))) (sym (slot_above below index j s within place))
          ∙ sym (walk_through held record_size index below node bytes passes) ∙ covers.leads index (place_above below index j s within place);
      filled = λ index depth place node_bytes at is there.
          covers.filled index (suc depth) place node_bytes (place_above below index j s within at)
          (place_through held index below depth node bytes (passed_held held record_size (below + 2) node bytes passes)
          ∙ ap (λ (slot : ℕ). place_at held index below (node_at (entry_at (below + 2) bytes slot)) depth) (slot_above below index j s within at) ∙ is) there;
    }

pub top_filled : (held : List (List ℕ)) (record_size : ℕ) (f : ℕ → Option BlockRef) (below j : ℕ) (node : NodeRef) (bytes : List ℕ)
    → Covers held record_size f below j (Some node) → slice_get held node.addr ≡ Some bytes → is_empty_node (below + 1) bytes ≡ false
unfolding place_at
top_filled held record_size f zero j node bytes covers there =
    covers.filled (j * 32 ^ 1) zero (record { level = 1; node = node }) bytes (first_under 1 j) refl there
top_filled held record_size f (suc below) j node bytes covers there =
    covers.filled (j * 32 ^ (suc below + 1)) zero (record { level = suc below + 1; node = node }) bytes (first_under (suc below + 1) j) refl there

pub covers_mac : (held : List (List ℕ)) (record_size : ℕ) (f : ℕ → Option BlockRef) (below j : ℕ) (top : Option NodeRef) → HoldsBytes held
    → Covers held record_size f below j top → mac_at below f j ≡ option_map (λ node. node.mac) top
unfolding mac_at raised macs_of
covers_mac held record_size f zero j None fair covers =
    group_mac_holes 1 block_under_mac f j (λ s within.
    sym (ok_same None (f (32 * j + s)) (sym (walk_none held record_size (32 * j + s) zero) ∙ covers.leads (32 * j + s) (lowest_place j s within))))
covers_mac held record_size f zero j (Some node) fair covers =
    let top = walked_top held record_size (j * 32 ^ 1) zero node (f (j * 32 ^ 1)) (covers.leads (j * 32 ^ 1) (first_under 1 j)) in
    let bytes : List ℕ = top.0 in
    let same = under_same f (λ s. block_at (entry_at 1 bytes s)) j (λ s within.
    sym (ok_same (block_at (entry_at 1 bytes s)) (f (32 * j + s))
    (ap (λ (slot : ℕ). let found : Result (Option BlockRef) MacError = Ok (block_at (entry_at 1 bytes slot)) in found) (sym (lowest_slot j s within))
    ∙ sym (walk_last held record_size (32 * j + s) node bytes top.1) ∙ covers.leads (32 * j + s) (lowest_place j s within)))) in
    let passes = passes_from held record_size 1 node bytes top.1 in
    ap (group_mac 1 block_under_mac) same
    ∙ block_group held record_size node bytes fair passes (top_filled held record_size f zero j node bytes covers passes.there)
covers_mac held record_size f (suc below) j None fair covers =
    group_mac_holes (1 + below + 1) node_under_mac (mac_at below f) j (λ s within.
    covers_mac held record_size f below (32 * j + s) None fair (covers_none held record_size f below j s within covers))
covers_mac held record_size f (suc below) j (Some node) fair covers =
    let index : ℕ = j * 32 ^ (suc below + 1) in
    let top = walked_top held record_size index (suc below) node (f index) (covers.leads index (first_under (suc below + 1) j)) in
    let bytes : List ℕ = top.0 in
    let level : suc below + 1 ≡ below + 2 = omega arith in
    let raised_level : 1 + below + 1 ≡ below + 2 = omega arith in
    let passes_here : passed held record_size (below + 2) node ≡ Some bytes = ap (λ (l : ℕ). passed held record_size l node) (sym level) ∙ top.1 in
    let same = under_same (mac_at below f) (macs_of (below + 2) bytes) j (λ s within.
    covers_mac held record_size f below (32 * j + s) (node_at (entry_at (below + 2) bytes s)) fair
    (covers_child held record_size f below j s node bytes within passes_here covers)) in
    let passes = passes_from held record_size (below + 2) node bytes passes_here in
    let filled = subst (λ (l : ℕ). is_empty_node l bytes ≡ false) level (top_filled held record_size f (suc below) j node bytes covers passes.there) in
    ap (λ (l : ℕ). group_mac l node_under_mac (under (mac_at below f) j)) raised_level
    ∙ ap (group_mac (below + 2) node_under_mac) same
    ∙ ref_group held record_size below node bytes fair passes filled

pub top_is_fold : (held : List (List ℕ)) (record_size below : ℕ) (top : Option NodeRef) (refs : List (Option BlockRef))
    → HoldsBytes held → length refs ≤ 32 ^ (below + 1) → ((lower : ℕ) → below ≡ suc lower → 32 ^ below < length refs)
    → LeadsTo held record_size below top refs → HasNoEmptyNodes held below top
    → option_map (λ node. node.mac) top ≡ fold_mac refs
top_is_fold held record_size below top refs fair few least leads filled =
    sym (fold_is_top below refs few least ∙ covers_mac held record_size (λ i. get_or refs i None) below 0 top fair (record {
      leads = λ index at. leads index (first_place (below + 1) index at);
      filled = λ index depth place bytes at. filled index depth place bytes (first_place (below + 1) index at);
    }))
