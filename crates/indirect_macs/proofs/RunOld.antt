-- The old tree below a run: its touched nodes pass, and its references fit.
use Rattle.std.proofs.Common.{◌≡◌, ℕ, zero, suc, ◌+◌, ◌-◌, ◌*◌, ◌/◌, ◌%◌, ◌^◌, ◌<◌, ◌≤◌, Bool, true, false, ◌==◌, nat_lt, List, length, take, drop, slice_index, refl, sym, ap, subst, ◌∙◌, inl, inr, arith, length-take-le, length-drop, Option, Some, None, Result, Ok, Err, IsOk, if◌then◌else◌}
use Rattle.std.specs.Prelude.{IfSome}
use Rattle.std.specs.List.{list_all}
use Rattle.std.specs.Option.{option_map_or}
use Rattle.std.proofs.lemmas.Bool.{cases_lt, ne_eqb}
use Rattle.std.proofs.lemmas.List.Folds.{list_all_at}
use Rattle.std.proofs.Math.Nat.{pow-suc, div-div-eq-div-mul, mul-div_cancel, div-mul-le_self, mul-le-mul_right}
use Rattle.std.proofs.lemmas.Nat.{div-mul-add, mod-mul-add, le-div}
use Rattle.byte_fields.specs.LittleEndian.{little_endian_value}
use Rattle.byte_fields.proofs.FieldLaws.{little_endian_value-lt}
use Rattle.indirect_macs.specs.declared.refs.BlockRef.{BlockRef}
use Rattle.indirect_macs.specs.declared.refs.NodeRef.{NodeRef}
use Rattle.indirect_macs.specs.declared.refs.MacError.{MacError}
use Rattle.indirect_macs.specs.declared.refs.MacError.TheVariants.{MacFailed}
use Rattle.indirect_macs.specs.Entries.{block_at, node_at, is_entry, is_size, IsBlockRef, IsNodeRef}
use Rattle.indirect_macs.specs.Nodes.{slots, entry_at, has_entries}
use Rattle.indirect_macs.specs.Walk.{place_of, slot_of, passed, walk, goes_on, next_block, fails_at}
use Rattle.indirect_macs.specs.Trees.{HoldsBytes}
use Rattle.indirect_macs.specs.Runs.{Run, first_block, last_block, first_at, last_at, IsTouched, child_of, found_below, found_at, walk_to, or_hole, old_of, Passes}
use Rattle.indirect_macs.proofs.Spelling.{and_both, each_passed, bytes_of_part, part_of}
use Rattle.indirect_macs.proofs.FoldOfTree.{power_least}
use Rattle.indirect_macs.proofs.TreeFold.{passes_from, walked_top, walk_last, goes_ok, lowest_slot, lowest_place}
use Rattle.indirect_macs.proofs.RunFound.{walk_by_place, found_within, found_child, found_above}

-- ---- touched places

-- each level divides by 32
pub shift : (low index : ℕ) → index / 32 ^ (low + 1) ≡ index / 32 / 32 ^ low
shift low index =
    let next : low + 1 ≡ suc low = omega arith in
    let turned : 32 ^ low * 32 ≡ 32 * 32 ^ low = omega arith in
    ap (λ (k : ℕ). index / 32 ^ k) next ∙ ap (λ (p : ℕ). index / p) (pow-suc 32 low ∙ turned) ∙ sym (div-div-eq-div-mul index 32 (32 ^ low))

-- a touched place of level 1 under each touched place
pub record TouchedUnder (run : Run) (low j : ℕ) : Type 0 where
  pub at : ℕ
  pub touched : IsTouched run at
  pub place : place_of (low + 1) (32 * at) ≡ j

pub in_order : (run : Run) → first_block run ≤ last_block run
in_order run =
    elim (cases_lt 0 (length run.refs)) [
      | inl some ↦
          let is : nat_lt 0 (length run.refs) ≡ true = grind (arith, some) in
          rw is (omega (arith, some))
      | inr none ↦
          let is : nat_lt 0 (length run.refs) ≡ false = grind (arith, none) in
          rw is (omega arith)
    ]

place_under : (low i : ℕ) → place_of (low + 1) (32 * i) ≡ i / 32 ^ low
place_under low i =
    let whole : 32 * i / 32 ≡ i = omega arith in
    shift low (32 * i) ∙ ap (λ (v : ℕ). v / 32 ^ low) whole

pub touched_under : (run : Run) (low j : ℕ) → 0 < run.blocks → first_at run (low + 1) ≤ j → j ≤ last_at run (low + 1) → TouchedUnder run low j
unfolding first_at last_at
touched_under run low j some from to =
    elim (cases_lt (first_block run / 32 ^ (low + 1)) j) [
      | inl after ↦
          let positive : 0 < 32 ^ low = omega (arith, power_least low) in
          let low_side : first_block run / 32 < j * 32 ^ low =
          elim (cases_lt (first_block run / 32) (j * 32 ^ low)) [
            | inl less ↦ less
            | inr more ↦ absurd (omega (arith, le-div j (first_block run / 32) (32 ^ low) positive more, shift low (first_block run), after))
          ] in
          let down : last_block run / 32 / 32 ^ low * 32 ^ low ≤ last_block run / 32 = div-mul-le_self (last_block run / 32) (32 ^ low) in
          let up : j * 32 ^ low ≤ last_block run / 32 / 32 ^ low * 32 ^ low = mul-le-mul_right (32 ^ low) (rw (sym (shift low (last_block run))) to) in
          record {
            at = j * 32 ^ low;
            touched = record { blocks = some; low = omega (arith, low_side); high = omega (arith, down, up) };
            place = place_under low (j * 32 ^ low) ∙ mul-div_cancel j positive;
          }
      | inr first ↦
          let same : first_block run / 32 ^ (low + 1) ≡ j = omega (arith, first, from) in
          record {
            at = first_block run / 32;
            touched = record { blocks = some; low = omega arith; high = omega (arith, in_order run) };
            place = place_under low (first_block run / 32) ∙ sym (shift low (first_block run)) ∙ same;
          }
    ]

-- ---- touched nodes pass

ok_value : {X : Type 0} (r : Result X MacError) → IsOk r → (x : X) × (r ≡ Ok x)
ok_value (Ok x) is = (x, refl)
ok_value (Err failed) is = absurd (cc)

-- what is found at a place, and that it passes where it is a node
pub record Found (held : List (List ℕ)) (record_size : ℕ) (run : Run) (low j : ℕ) : Type 0 where
  pub node : Option NodeRef
  pub found : found_at held record_size run (low + 1) j ≡ Ok node
  pub passes : (is : NodeRef) → node ≡ Some is → (bytes : List ℕ) × (passed held record_size (low + 1) is ≡ Some bytes)

pub found_on : (held : List (List ℕ)) (record_size : ℕ) (run : Run) (low index : ℕ) (found : Option BlockRef) → low + 1 ≤ run.levels
    → walk_to held record_size run index ≡ Ok found → Found held record_size run low (place_of (low + 1) index)
found_on held record_size run low index found enough is =
    let went = goes_ok (λ next. walk held record_size index low next) (found_at held record_size run (low + 1) (place_of (low + 1) index)) found
    (sym (walk_by_place held record_size run low index enough) ∙ is) in
    record {
      node = went.0;
      found = went.1;
      passes = λ node same. walked_top held record_size index low node found (subst (λ (r : Option NodeRef). walk held record_size index low r ≡ Ok found) same went.2);
    }

pub touched_found : (held : List (List ℕ)) (record_size : ℕ) (run : Run) (low j : ℕ) → low + 1 ≤ run.levels → 0 < run.blocks → Passes held record_size run
    → first_at run (low + 1) ≤ j → j ≤ last_at run (low + 1) → Found held record_size run low j
touched_found held record_size run low j enough some all from to =
    let under = touched_under run low j some from to in
    let ok = ok_value (walk_to held record_size run (32 * under.at)) (all.each under.at under.touched) in
    subst (Found held record_size run low) under.place (found_on held record_size run low (32 * under.at) ok.0 enough ok.1)

-- ---- what an old node leads to

pub old_children : (held : List (List ℕ)) (record_size : ℕ) (run : Run) (below j s : ℕ) (node : NodeRef) (bytes : List ℕ) → s < 32 → below + 2 ≤ run.levels
    → found_at held record_size run (below + 2) j ≡ Ok (Some node) → passed held record_size (below + 2) node ≡ Some bytes
    → found_at held record_size run (below + 1) (32 * j + s) ≡ Ok (node_at (entry_at (below + 2) bytes s))
unfolding child_of
old_children held record_size run below j s node bytes within enough found passes =
    let level : below + 1 + 1 ≡ below + 2 = omega arith in
    let turned : 32 * j + s ≡ j * 32 + s = omega arith in
    let parent : (32 * j + s) / 32 ≡ j = ap (λ (v : ℕ). v / 32) turned ∙ div-mul-add j 32 s within in
    let slot : (32 * j + s) % 32 ≡ s = ap (λ (v : ℕ). v % 32) turned ∙ mod-mul-add j 32 s within in
    found_child held record_size run (below + 1) (32 * j + s) (omega (arith, enough))
    ∙ ap (λ (l : ℕ). goes_on (λ above. child_of held record_size l (32 * j + s) above) (λ failed. Err failed) (found_at held record_size run l ((32 * j + s) / 32))) level
    ∙ ap (λ (p : ℕ). goes_on (λ above. child_of held record_size (below + 2) (32 * j + s) above) (λ failed. Err failed) (found_at held record_size run (below + 2) p)) parent
    ∙ rw (found, passes, slot) refl

pub old_blocks : (held : List (List ℕ)) (record_size : ℕ) (run : Run) (j s : ℕ) (node : NodeRef) (bytes : List ℕ) → s < 32 → 1 ≤ run.levels
    → found_at held record_size run 1 j ≡ Ok (Some node) → passed held record_size 1 node ≡ Some bytes
    → walk_to held record_size run (32 * j + s) ≡ Ok (block_at (entry_at 1 bytes s))
old_blocks held record_size run j s node bytes within enough found passes =
    walk_by_place held record_size run 0 (32 * j + s) enough
    ∙ ap (λ (p : ℕ). goes_on (λ next. walk held record_size (32 * j + s) 0 next) (λ failed. Err failed) (found_at held record_size run 1 p)) (lowest_place j s within)
    ∙ ap (λ (r : Result (Option NodeRef) MacError). goes_on (λ next. walk held record_size (32 * j + s) 0 next) (λ failed. Err failed) r) found
    ∙ walk_last held record_size (32 * j + s) node bytes passes
    ∙ ap (λ (slot : ℕ). let is : Result (Option BlockRef) MacError = Ok (block_at (entry_at 1 bytes slot)) in is) (lowest_slot j s within)

-- ---- the old references fit

tagged_node : (e : List ℕ) → length e ≡ 25 → ((i : ℕ) → slice_index e i < 256) → IfSome (node_at e) IsNodeRef
unfolding node_at
tagged_node e whole fair = by_tag (slice_index e 0 == 0)
  where
    by_tag : (b : Bool) → IfSome (if b then None else Some (record { addr = little_endian_value (take 8 (drop 1 e)); mac = take 16 (drop 9 e) })) IsNodeRef
    by_tag true = tt
    by_tag false =
        let size : length (take 8 (drop 1 e)) ≡ 8 = length-take-le 8 (drop 1 e) (omega (arith, whole, length-drop 1 e)) in
        record {
          addr_fits = rw size at (little_endian_value-lt (take 8 (drop 1 e)) (bytes_of_part 1 8 e fair));
          mac = length-take-le 16 (drop 9 e) (omega (arith, whole, length-drop 9 e));
        }

tagged_block : (record_size : ℕ) (e : List ℕ) → length e ≡ 49 → ((i : ℕ) → slice_index e i < 256) → is_entry 1 record_size e ≡ true
    → IfSome (block_at e) (IsBlockRef record_size)
unfolding block_at is_entry
tagged_block record_size e whole fair entry = by_tag (slice_index e 0 == 0) refl
  where
    sized : (slice_index e 0 == 0) ≡ false → is_size record_size (little_endian_value (take 4 (drop 1 e))) ≡ true
    sized tag =
        let zeros : list_all (λ byte. byte == 0) e ≡ false = list_all_at (λ byte. byte == 0) e 0 0 (omega (arith, whole)) tag in
        (and_both (slice_index e 0 == 1) (is_size record_size (little_endian_value (take 4 (drop 1 e)))) (rw zeros at entry)).1

    by_tag : (b : Bool) → (slice_index e 0 == 0) ≡ b
        → IfSome (if b then None else Some (record {
          size = little_endian_value (take 4 (drop 1 e));
          addr = little_endian_value (take 8 (drop 5 e));
          salt = take 8 (drop 13 e);
          iv = take 12 (drop 21 e);
          mac = take 16 (drop 33 e);
        })) (IsBlockRef record_size)
    by_tag true is = tt
    by_tag false is =
        let four : length (take 4 (drop 1 e)) ≡ 4 = length-take-le 4 (drop 1 e) (omega (arith, whole, length-drop 1 e)) in
        let eight : length (take 8 (drop 5 e)) ≡ 8 = length-take-le 8 (drop 5 e) (omega (arith, whole, length-drop 5 e)) in
        record {
          size = sized is;
          size_fits = rw four at (little_endian_value-lt (take 4 (drop 1 e)) (bytes_of_part 1 4 e fair));
          addr_fits = rw eight at (little_endian_value-lt (take 8 (drop 5 e)) (bytes_of_part 5 8 e fair));
          salt = length-take-le 8 (drop 13 e) (omega (arith, whole, length-drop 13 e));
          iv = length-take-le 12 (drop 21 e) (omega (arith, whole, length-drop 21 e));
          mac = length-take-le 16 (drop 33 e) (omega (arith, whole, length-drop 33 e));
        }

node_entry_fits : (held : List (List ℕ)) (record_size level s : ℕ) (node : NodeRef) (bytes : List ℕ) → HoldsBytes held → 2 ≤ level → s < 32
    → passed held record_size level node ≡ Some bytes → IfSome (node_at (entry_at level bytes s)) IsNodeRef
node_entry_fits held record_size level s node bytes fair above within is =
    let whole_level : level ≡ level - 2 + 2 = omega (arith, above) in
    let passes = passes_from held record_size level node bytes is in
    let other : (level == 1) ≡ false = ne_eqb level 1 (λ e. omega (arith, e, above)) in
    let whole : length bytes ≡ 800 = passes.whole ∙ rw other refl in
    let entry : entry_at level bytes s ≡ take 25 (drop (25 * s) bytes) = rw other refl in
    rw entry (tagged_node (take 25 (drop (25 * s) bytes)) (part_of 25 s bytes whole within) (bytes_of_part (25 * s) 25 bytes (fair node.addr bytes passes.there)))

block_entry_fits : (held : List (List ℕ)) (record_size s : ℕ) (node : NodeRef) (bytes : List ℕ) → HoldsBytes held → s < 32
    → passed held record_size 1 node ≡ Some bytes → IfSome (block_at (entry_at 1 bytes s)) (IsBlockRef record_size)
unfolding has_entries slots
block_entry_fits held record_size s node bytes fair within is =
    let passes = passes_from held record_size 1 node bytes is in
    tagged_block record_size (take 49 (drop (49 * s) bytes)) (part_of 49 s bytes passes.whole within) (bytes_of_part (49 * s) 49 bytes (fair node.addr bytes passes.there))
    (each_passed (λ s. is_entry 1 record_size (entry_at 1 bytes s)) 32 s within passes.entries)

-- each old reference is a hole, the top, or an entry of a node that passes
child_any : (held : List (List ℕ)) (record_size level index : ℕ) (P : Option NodeRef → Type 0) (above : Result (Option NodeRef) MacError) → P None
    → ((s : ℕ) (node : NodeRef) (bytes : List ℕ) → s < 32 → passed held record_size level node ≡ Some bytes → P (node_at (entry_at level bytes s)))
    → P (or_hole (goes_on (λ r. child_of held record_size level index r) (λ failed. Err failed) above))
unfolding child_of
child_any held record_size level index P (Err failed) none each = none
child_any held record_size level index P (Ok None) none each = none
child_any held record_size level index P (Ok (Some node)) none each = by_passed (passed held record_size level node) refl
  where
    by_passed : (p : Option (List ℕ)) → passed held record_size level node ≡ p
        → P (or_hole (option_map_or (λ bytes. Ok (node_at (entry_at level bytes (index % 32)))) p (Err (MacFailed level (index / 32)))))
    by_passed None is = none
    by_passed (Some bytes) is = each (index % 32) node bytes (omega arith) is

found_any : (held : List (List ℕ)) (record_size levels : ℕ) (top : Option NodeRef) (depth index : ℕ) (P : Option NodeRef → Type 0) → P None → P top → depth < levels
    → ((level s : ℕ) (node : NodeRef) (bytes : List ℕ) → 2 ≤ level → s < 32 → passed held record_size level node ≡ Some bytes → P (node_at (entry_at level bytes s)))
    → P (or_hole (found_below held record_size levels top depth index))
unfolding found_below
found_any held record_size levels top zero index P none whole low each = by_first (index == 0)
  where
    by_first : (b : Bool) → P (if b then top else None)
    by_first true = whole
    by_first false = none
found_any held record_size levels top (suc depth) index P none whole low each =
    child_any held record_size (levels - depth) index P (found_below held record_size levels top depth (index / 32)) none
    (λ s node bytes within is. each (levels - depth) s node bytes (omega (arith, low)) within is)

pub old_node_any : (held : List (List ℕ)) (record_size : ℕ) (run : Run) (level index : ℕ) (P : Option NodeRef → Type 0) → P None → P run.top → 1 ≤ level
    → ((level s : ℕ) (node : NodeRef) (bytes : List ℕ) → 2 ≤ level → s < 32 → passed held record_size level node ≡ Some bytes → P (node_at (entry_at level bytes s)))
    → P ((old_of held record_size run).node level index)
unfolding old_of
old_node_any held record_size run level index P none whole some each =
    elim (cases_lt run.levels level) [
      | inl high ↦ rw (found_above held record_size run level index high) none
      | inr low ↦
          rw (found_within held record_size run level index low)
          (found_any held record_size run.levels run.top (run.levels - level) index P none whole (omega (arith, some, low)) each)
    ]

pub old_node_fits : (held : List (List ℕ)) (record_size : ℕ) (run : Run) (level index : ℕ) → HoldsBytes held → IfSome run.top IsNodeRef → 1 ≤ level
    → IfSome ((old_of held record_size run).node level index) IsNodeRef
old_node_fits held record_size run level index fair fits some =
    old_node_any held record_size run level index (λ o. IfSome o IsNodeRef) tt fits some
    (λ l s node bytes high within is. node_entry_fits held record_size l s node bytes fair high within is)

last_any : (held : List (List ℕ)) (record_size index : ℕ) (P : Option BlockRef → Type 0) (above : Result (Option NodeRef) MacError) → P None
    → ((s : ℕ) (node : NodeRef) (bytes : List ℕ) → s < 32 → passed held record_size 1 node ≡ Some bytes → P (block_at (entry_at 1 bytes s)))
    → P (or_hole (goes_on (λ next. walk held record_size index 0 next) (λ failed. Err failed) above))
unfolding walk next_block
last_any held record_size index P (Err failed) none each = none
last_any held record_size index P (Ok None) none each = none
last_any held record_size index P (Ok (Some node)) none each = by_passed (passed held record_size 1 node) refl
  where
    by_passed : (p : Option (List ℕ)) → passed held record_size 1 node ≡ p
        → P (or_hole (option_map_or (λ bytes. Ok (block_at (entry_at 1 bytes (slot_of 1 index)))) p (Err (fails_at 1 index))))
    by_passed None is = none
    by_passed (Some bytes) is = each (slot_of 1 index) node bytes (omega arith) is

pub old_block_any : (held : List (List ℕ)) (record_size : ℕ) (run : Run) (index : ℕ) (P : Option BlockRef → Type 0) → P None → 1 ≤ run.levels
    → ((s : ℕ) (node : NodeRef) (bytes : List ℕ) → s < 32 → passed held record_size 1 node ≡ Some bytes → P (block_at (entry_at 1 bytes s)))
    → P ((old_of held record_size run).block index)
unfolding old_of
old_block_any held record_size run index P none some each =
    rw (walk_by_place held record_size run 0 index some)
    (last_any held record_size index P (found_at held record_size run 1 (place_of 1 index)) none each)

pub old_block_fits : (held : List (List ℕ)) (record_size : ℕ) (run : Run) (index : ℕ) → HoldsBytes held → 1 ≤ run.levels
    → IfSome ((old_of held record_size run).block index) (IsBlockRef record_size)
old_block_fits held record_size run index fair some =
    old_block_any held record_size run index (λ o. IfSome o (IsBlockRef record_size)) tt some
    (λ s node bytes within is. block_entry_fits held record_size s node bytes fair within is)
