-- A run that changes no reference puts nothing.
use Rattle.std.proofs.Common.{◌≡◌, ℕ, zero, suc, ◌+◌, ◌-◌, ◌*◌, ◌/◌, ◌%◌, ◌^◌, ◌<◌, ◌≤◌, Bool, true, false, ◌==◌, nat_lt, List, [], ◌∷◌, ◌++◌, length, map, get_or, refl, sym, ap, subst, ◌∙◌, inl, inr, arith, Option, Some, None, is_none, Result, Ok, Err, if◌then◌else◌}
use Rattle.std.specs.List.{list_all, range_with_len}
use Rattle.std.specs.Option.{option_eq}
use Rattle.std.specs.Cmp.Lexicographic.{pointwise}
use Rattle.std.proofs.lemmas.Bool.{cases_lt, ne_eqb, eq-eqb}
use Rattle.std.proofs.lemmas.List.{get_or_past}
use Rattle.std.proofs.lemmas.List.Folds.{list_all-map}
use Rattle.std.proofs.Math.Path.{fun_ext}
use Rattle.std.proofs.Math.Nat.{div-mul-le_self}
use Rattle.indirect_macs.specs.declared.refs.BlockRef.{BlockRef}
use Rattle.indirect_macs.specs.declared.refs.NodeRef.{NodeRef}
use Rattle.indirect_macs.specs.declared.refs.MacError.{MacError}
use Rattle.indirect_macs.specs.Entries.{block_at, node_at}
use Rattle.indirect_macs.specs.Nodes.{slots, entry_at}
use Rattle.indirect_macs.specs.Walk.{place_of, passed, walk, goes_on}
use Rattle.indirect_macs.specs.Trees.{IsTree, tree_before, with_run, is_empty_node}
use Rattle.indirect_macs.specs.Runs.{Run, Old, Made, Node, first_at, count_at, levels_for, found_at, or_hole, old_of, target, new_ref, entries_at, same_block, same_node, leaf_of, inner_of, new_node, kept, is_put, ref_with, begun, nodes_made, levels_made, puts_of}
use Rattle.indirect_macs.proofs.Spelling.{each_passes, passes_at}
use Rattle.indirect_macs.proofs.FirstPlace.{passed_held}
use Rattle.indirect_macs.proofs.TreeFold.{child_place, walk_none, walk_through, walk_last, walked_top, slot_above, place_above, first_under, goes_ok, ok_same, block_holes, entries_above, lowest_slot, lowest_place}
use Rattle.indirect_macs.proofs.RunFound.{walk_by_place}
use Rattle.indirect_macs.proofs.RunMade.{nodes_ref}
use Rattle.indirect_macs.proofs.RunNodes.{bytes_same, inner_holes}
use Rattle.indirect_macs.proofs.RunEntries.{new_ref_cases, slot_entry, new_inner, levels_some}
use Rattle.indirect_macs.proofs.RunFilled.{Filled, found_filled, filled_child, node_filled}
use Rattle.indirect_macs.proofs.RunTrees.{tree_known, new_blocks, filled_of, length-with_run}

-- ---- what is compared with itself is the same

block_itself : (a : BlockRef) → same_block a a ≡ true
block_itself a =
    rw (eq-eqb a.size a.size refl, eq-eqb a.addr a.addr refl, bytes_same a.salt a.salt refl, bytes_same a.iv a.iv refl, bytes_same a.mac a.mac refl) refl

node_itself : (a : NodeRef) → same_node a a ≡ true
node_itself a = rw (eq-eqb a.addr a.addr refl, bytes_same a.mac a.mac refl) refl

option_itself : {X : Type 0} (test : X → X → Bool) → ((x : X) → test x x ≡ true) → (o : Option X) → option_eq test o o ≡ true
option_itself test itself None = refl
option_itself test itself (Some x) = itself x

list_itself : {X : Type 0} (test : X → X → Bool) → ((x : X) → test x x ≡ true) → (xs : List X) → pointwise test xs xs ≡ true
list_itself test itself [] = refl
list_itself test itself (x ∷ xs) = rw (itself x) (list_itself test itself xs)

-- a node that is a hole where the old one is
no_change : (before : ℕ) (node : Node) (o : Option NodeRef) → (node.holes ≡ true → o ≡ None) → (o ≡ None → node.holes ≡ true)
    → (is_put node o ≡ false) × (ref_with before node o ≡ o)
no_change before node o none holes = by_holes node.holes refl o refl
  where
    by_holes : (h : Bool) → node.holes ≡ h → (p : Option NodeRef) → o ≡ p → (is_put node o ≡ false) × (ref_with before node o ≡ o)
    by_holes true is p same = let hole = none is in rw (is, hole) (refl, refl)
    by_holes false is None same = let all = holes same in absurd (cc)
    by_holes false is (Some r) same = rw (is, same) (refl, refl)

-- ---- a node over holes alone isn't there

all_none : {X : Type 0} (g : ℕ → Option X) → ((s : ℕ) → s < 32 → g s ≡ None) → list_all is_none (map g slots) ≡ true
unfolding slots
all_none g holes =
    list_all-map is_none g (range_with_len 0 32) ∙ each_passes (λ s. is_none (g s)) 32 (λ s within. ap is_none (holes s within))

pub hollow : (held : List (List ℕ)) (record_size low j : ℕ) (top : Option NodeRef) → Filled held low j top
    → ((index : ℕ) → place_of (low + 1) index ≡ j → walk held record_size index low top ≡ Ok None) → top ≡ None
hollow held record_size low j None filled holes = refl
hollow held record_size zero j (Some node) filled holes =
    let top = walked_top held record_size (j * 32 ^ 1) zero node None (holes (j * 32 ^ 1) (first_under 1 j)) in
    let some = node_filled held zero j node top.0 filled (passed_held held record_size 1 node top.0 top.1) in
    let none = all_none (λ s. block_at (entry_at 1 top.0 s)) (λ s within.
    ok_same (block_at (entry_at 1 top.0 s)) None
    (ap (λ (slot : ℕ). let found : Result (Option BlockRef) MacError = Ok (block_at (entry_at 1 top.0 slot)) in found) (sym (lowest_slot j s within))
    ∙ sym (walk_last held record_size (32 * j + s) node top.0 top.1) ∙ holes (32 * j + s) (lowest_place j s within))) in
    let also : is_empty_node 1 top.0 ≡ true = sym (block_holes top.0) ∙ none in
    absurd (cc)
hollow held record_size (suc low) j (Some node) filled holes =
    let index : ℕ = j * 32 ^ (suc low + 1) in
    let top = walked_top held record_size index (suc low) node None (holes index (first_under (suc low + 1) j)) in
    let level : suc low + 1 ≡ low + 2 = omega arith in
    let passes : passed held record_size (low + 2) node ≡ Some top.0 = ap (λ (l : ℕ). passed held record_size l node) (sym level) ∙ top.1 in
    let some : is_empty_node (low + 2) top.0 ≡ false = subst (λ (l : ℕ). is_empty_node l top.0 ≡ false) level
    (node_filled held (suc low) j node top.0 filled (passed_held held record_size (low + 2) node top.0 passes)) in
    let none = all_none (λ s. node_at (entry_at 2 top.0 s)) (λ s within.
    ap node_at (sym (entries_above low top.0 s))
    ∙ hollow held record_size low (32 * j + s) (node_at (entry_at (low + 2) top.0 s)) (filled_child held record_size low j s node top.0 within passes filled)
    (λ i at. ap (λ (slot : ℕ). walk held record_size i low (node_at (entry_at (low + 2) top.0 slot))) (sym (slot_above low i j s within at))
    ∙ sym (walk_through held record_size i low node top.0 passes) ∙ holes i (place_above low i j s within at))) in
    let also : is_empty_node (low + 2) top.0 ≡ true = sym (inner_holes low top.0) ∙ none in
    absurd (cc)

none_entry : {X : Type 0} (entries : List (Option X)) (s : ℕ) → list_all is_none entries ≡ true → get_or entries s None ≡ None
none_entry {X = X} entries s holes =
    elim (cases_lt s (length entries)) [
      | inl within ↦ is_hole (get_or entries s None) (passes_at is_none entries None s within holes)
      | inr past ↦ get_or_past entries s None past
    ]
  where
    is_hole : (o : Option X) → is_none o ≡ true → o ≡ None
    is_hole None none = refl
    is_hole (Some x) none = absurd (cc)

-- ---- a run into a tree

module _ (held : List (List ℕ)) (record_size : ℕ) (run : Run) (refs : List (Option BlockRef)) (levels : 1 ≤ run.levels) (is : IsTree held record_size (tree_before run) refs)
    (same : (index : ℕ) → get_or (with_run run refs) index None ≡ get_or refs index None) where
  abbrev old : Old
  old = old_of held record_size run

  abbrev made : ℕ → Made
  made level = levels_made run old (length held) level

  abbrev found : ℕ → Result (Option BlockRef) MacError
  found index = Ok (get_or refs index None)

  target_same : (index : ℕ) → target run old index ≡ old.block index
  unfolding old_of
  target_same index =
      new_blocks held record_size run refs index levels is ∙ same index ∙ sym (ap or_hole (tree_known held record_size run refs index levels is))

  old_block : (index : ℕ) → old.block index ≡ get_or refs index None
  unfolding old_of
  old_block index = ap or_hole (tree_known held record_size run refs index levels is)

  beyond : (index : ℕ) → run.blocks ≤ index → get_or refs index None ≡ None
  beyond index past = sym (same index) ∙ get_or_past (with_run run refs) index None (omega (arith, past, length-with_run run refs))

  -- the old nodes
  old_filled : (low j : ℕ) → low + 1 ≤ run.levels → Filled held low j (old.node (low + 1) j)
  unfolding old_of
  old_filled low j within =
      found_filled held record_size run (run.levels - (low + 1)) low j (omega (arith, within)) (filled_of held (run.levels - 1) run.top is.filled)

  old_found : (low index : ℕ) → low + 1 ≤ run.levels → found_at held record_size run (low + 1) (place_of (low + 1) index) ≡ Ok (old.node (low + 1) (place_of (low + 1) index))
  unfolding old_of
  old_found low index within =
      let went = goes_ok (λ next. walk held record_size index low next) (found_at held record_size run (low + 1) (place_of (low + 1) index)) (get_or refs index None)
      (sym (walk_by_place held record_size run low index within) ∙ tree_known held record_size run refs index levels is) in
      went.1 ∙ ap (λ (r : Result (Option NodeRef) MacError). let there : Result (Option NodeRef) MacError = Ok (or_hole r) in there) (sym went.1)

  old_walk : (low index : ℕ) → low + 1 ≤ run.levels → walk held record_size index low (old.node (low + 1) (place_of (low + 1) index)) ≡ found index
  old_walk low index within =
      ap (λ (r : Result (Option NodeRef) MacError). goes_on (λ next. walk held record_size index low next) (λ failed. Err failed) r) (sym (old_found low index within))
      ∙ sym (walk_by_place held record_size run low index within) ∙ tree_known held record_size run refs index levels is

  old_hollow : (low j : ℕ) → low + 1 ≤ run.levels → ((index : ℕ) → place_of (low + 1) index ≡ j → get_or refs index None ≡ None) → old.node (low + 1) j ≡ None
  old_hollow low j within none =
      hollow held record_size low j (old.node (low + 1) j) (old_filled low j within) (λ index at.
      ap (λ (p : ℕ). walk held record_size index low (old.node (low + 1) p)) (sym at) ∙ old_walk low index within
      ∙ ap (λ (o : Option BlockRef). let r : Result (Option BlockRef) MacError = Ok o in r) (none index at))

  old_none : (low index : ℕ) → low + 1 ≤ run.levels → old.node (low + 1) (place_of (low + 1) index) ≡ None → get_or refs index None ≡ None
  old_none low index within none =
      ok_same (get_or refs index None) None
      (sym (old_walk low index within) ∙ ap (walk held record_size index low) none ∙ walk_none held record_size index low)

  -- ---- the nodes of one level stay

  leaf_stays : (below : Made) (j : ℕ) → kept run old 1 below j ≡ old.node 1 j
  unfolding kept
  leaf_stays below j =
      let entries : entries_at old.block j ≡ entries_at (target run old) j = ap (λ (f : ℕ → Option BlockRef). entries_at f j) (sym (fun_ext target_same)) in
      let alike : pointwise (option_eq same_block) (entries_at old.block j) (entries_at (target run old) j) ≡ true =
      ap (pointwise (option_eq same_block) (entries_at old.block j)) (sym entries)
      ∙ list_itself (option_eq same_block) (option_itself same_block block_itself) (entries_at old.block j) in
      rw alike refl

  leaf_holes : (below : Made) (j : ℕ) → (new_node run old 1 below j).holes ≡ true → old.node 1 j ≡ None
  unfolding new_node leaf_of
  leaf_holes below j holes =
      old_hollow zero j levels (λ index at.
      let s : ℕ = index % 32 in
      let parts : 32 * j + s ≡ index = omega (arith, at) in
      sym (old_block index) ∙ sym (target_same index)
      ∙ ap (target run old) (sym parts) ∙ sym (slot_entry (target run old) j s None (omega arith)) ∙ none_entry (entries_at (target run old) j) s holes)

  leaf_full : (below : Made) (j : ℕ) → old.node 1 j ≡ None → (new_node run old 1 below j).holes ≡ true
  unfolding new_node leaf_of
  leaf_full below j none =
      all_none (λ s. target run old (32 * j + s)) (λ s within.
      target_same (32 * j + s) ∙ old_block (32 * j + s)
      ∙ old_none zero (32 * j + s) levels (ap (old.node 1) (lowest_place j s within) ∙ none))

  inner_stays : (low j : ℕ) → ((index : ℕ) → new_ref run old (low + 1) (made (low + 1)) index ≡ old.node (low + 1) index)
      → kept run old (low + 2) (made (low + 1)) j ≡ old.node (low + 2) j
  unfolding kept
  inner_stays low j below =
      let other : (low + 2 == 1) ≡ false = ne_eqb (low + 2) 1 (λ e. omega (arith, e)) in
      let level : low + 2 - 1 ≡ low + 1 = omega arith in
      let entries = ap (λ (f : ℕ → Option NodeRef). pointwise (option_eq same_node) (entries_at (old.node (low + 1)) j) (entries_at f j)) (fun_ext below) in
      let alike : pointwise (option_eq same_node) (entries_at (old.node (low + 1)) j) (entries_at (new_ref run old (low + 1) (made (low + 1))) j) ≡ true =
      entries ∙ list_itself (option_eq same_node) (option_itself same_node node_itself) (entries_at (old.node (low + 1)) j) in
      rw (other, level, alike) refl

  inner_is_hole : (low j : ℕ) → low + 2 ≤ run.levels → ((index : ℕ) → new_ref run old (low + 1) (made (low + 1)) index ≡ old.node (low + 1) index)
      → (new_node run old (low + 2) (made (low + 1)) j).holes ≡ true → old.node (low + 2) j ≡ None
  unfolding inner_of
  inner_is_hole low j within below holes =
      let refs_below : ℕ → Option NodeRef = new_ref run old (low + 1) (made (low + 1)) in
      let all : list_all is_none (entries_at refs_below j) ≡ true = sym (ap (λ (n : Node). n.holes) (new_inner run old low (made (low + 1)) j)) ∙ holes in
      let up : low + 1 + 1 ≡ low + 2 = omega arith in
      subst (λ (l : ℕ). old.node l j ≡ None) up
      (old_hollow (low + 1) j (omega (arith, within)) (λ index at.
      let s : ℕ = place_of (low + 1) index % 32 in
      let parent : place_of (low + 1) index / 32 ≡ j = child_place (low + 1) index ∙ at in
      let parts : place_of (low + 1) index ≡ 32 * j + s = omega (arith, parent) in
      old_none low index (omega (arith, within))
      (ap (old.node (low + 1)) parts ∙ sym (below (32 * j + s)) ∙ sym (slot_entry refs_below j s None (omega arith)) ∙ none_entry (entries_at refs_below j) s all)))

  inner_is_full : (low j : ℕ) → low + 2 ≤ run.levels → ((index : ℕ) → new_ref run old (low + 1) (made (low + 1)) index ≡ old.node (low + 1) index)
      → old.node (low + 2) j ≡ None → (new_node run old (low + 2) (made (low + 1)) j).holes ≡ true
  unfolding inner_of
  inner_is_full low j within below none =
      let refs_below : ℕ → Option NodeRef = new_ref run old (low + 1) (made (low + 1)) in
      let up : low + 1 + 1 ≡ low + 2 = omega arith in
      ap (λ (n : Node). n.holes) (new_inner run old low (made (low + 1)) j)
      ∙ all_none (λ s. refs_below (32 * j + s)) (λ s slot.
      below (32 * j + s) ∙ old_hollow low (32 * j + s) (omega (arith, within)) (λ index at.
      old_none (low + 1) index (omega (arith, within))
      (ap (λ (l : ℕ). old.node l (place_of l index)) up
      ∙ ap (old.node (low + 2)) (ap (λ (l : ℕ). place_of l index) (omega arith) ∙ place_above low index j s slot at) ∙ none)))

  -- ---- the levels stay

  record Stays (level : ℕ) (m : Made) (j : ℕ) : Type 0 where
    pub node : kept run old level m j ≡ old.node level j
    pub hole : (new_node run old level m j).holes ≡ true → old.node level j ≡ None
    pub full : old.node level j ≡ None → (new_node run old level m j).holes ≡ true

  record Same (level : ℕ) : Type 0 where
    pub puts : (made level).puts ≡ []
    pub each : (index : ℕ) → new_ref run old level (made level) index ≡ old.node level index

  not_put : (level before : ℕ) (m : Made) (j : ℕ) → Stays level m j
      → (is_put (new_node run old level m j) (kept run old level m j) ≡ false) × (ref_with before (new_node run old level m j) (kept run old level m j) ≡ old.node level j)
  not_put level before m j stays =
      let none = no_change before (new_node run old level m j) (old.node level j) stays.hole stays.full in
      subst (λ (o : Option NodeRef). (is_put (new_node run old level m j) o ≡ false) × (ref_with before (new_node run old level m j) o ≡ old.node level j)) (sym stays.node) none

  no_puts : (level n : ℕ) (m : Made) → level ≤ run.levels → m.puts ≡ [] → ((j : ℕ) → Stays level m j) → (nodes_made run old (length held) level m n).puts ≡ []
  unfolding nodes_made begun
  no_puts level zero m low none stays =
      let below : nat_lt run.levels level ≡ false = grind (arith, low) in
      rw below none
  no_puts level (suc n) m low none stays =
      let j : ℕ = first_at run level + n in
      let still : is_put (new_node run old level m j) (kept run old level m j) ≡ false = (not_put level 0 m j (stays j)).0 in
      ap (λ (b : Bool). if b then (nodes_made run old (length held) level m n).puts ++ (new_node run old level m j).bytes ∷ [] else (nodes_made run old (length held) level m n).puts) still
      ∙ no_puts level n m low none stays

  level_stays : (low : ℕ) → suc low ≤ levels_for run.blocks → suc low ≤ run.levels → (made low).puts ≡ [] → ((j : ℕ) → Stays (suc low) (made low) j) → Same (suc low)
  unfolding levels_made count_at
  level_stays low most within none stays =
      let m : Made = made low in
      let level : suc low ≡ low + 1 = omega arith in
      record {
        puts = no_puts (suc low) (count_at run (suc low)) m within none stays;
        each = λ index. new_ref_cases (λ r. r ≡ old.node (suc low) index) run old (suc low) index (made (suc low))
            (λ from to.
            let i : ℕ = index - first_at run (suc low) in
            let at : first_at run (suc low) + i ≡ index = omega (arith, from) in
            nodes_ref run old (length held) (suc low) m i (count_at run (suc low)) (omega (arith, from, to))
            ∙ (not_put (suc low) (length held + length (nodes_made run old (length held) (suc low) m i).puts) m (first_at run (suc low) + i) (stays (first_at run (suc low) + i))).1
            ∙ ap (old.node (suc low)) at)
            (λ out past.
            sym (subst (λ (l : ℕ). old.node l index ≡ None) (sym level)
            (old_hollow low index (omega (arith, within)) (λ i at. beyond i
            (let down : place_of (low + 1) i * 32 ^ (low + 1) ≤ i = div-mul-le_self i (32 ^ (low + 1)) in
            let start : place_of (low + 1) i * 32 ^ (low + 1) ≡ index * 32 ^ (suc low) = ap (λ (p : ℕ). p * 32 ^ (low + 1)) at ∙ ap (λ (l : ℕ). index * 32 ^ l) (sym level) in
            omega (arith, down, start, past))))))
            (λ out inside above first. absurd (omega (arith, above, within))) (λ out above later. absurd (omega (arith, above, within))) (λ out inside low_level. refl);
      }

  leaf_each : (low : ℕ) → low ≡ 0 → (j : ℕ) → Stays (suc low) (made low) j
  leaf_each low first j =
      let level : suc low ≡ 1 = omega (arith, first) in
      subst (λ (l : ℕ). Stays l (made low) j) (sym level) (record { node = leaf_stays (made low) j; hole = leaf_holes (made low) j; full = leaf_full (made low) j })

  inner_each : (low : ℕ) → suc (suc low) ≤ run.levels → Same (suc low) → (j : ℕ) → Stays (suc (suc low)) (made (suc low)) j
  inner_each low within below j =
      let at : suc low ≡ low + 1 = omega arith in
      let level : suc (suc low) ≡ low + 2 = omega arith in
      let each = subst (λ (l : ℕ). (index : ℕ) → new_ref run old l (made l) index ≡ old.node l index) at below.each in
      let high : low + 2 ≤ run.levels = omega (arith, within) in
      let stays : Stays (low + 2) (made (low + 1)) j = record { node = inner_stays low j each; hole = inner_is_hole low j high each; full = inner_is_full low j high each } in
      subst (λ (l : ℕ). Stays l (made (suc low)) j) (sym level) (subst (λ (l : ℕ). Stays (low + 2) (made l) j) (sym at) stays)

  nothing_below : (made 0).puts ≡ []
  unfolding levels_made
  nothing_below = refl

  all_same : (low : ℕ) → suc low ≤ levels_for run.blocks → levels_for run.blocks ≤ run.levels → Same (suc low)
  all_same zero most few = level_stays zero most (omega (arith, most, few)) nothing_below (leaf_each zero refl)
  all_same (suc low) most few =
      let below = all_same low (omega (arith, most)) few in
      level_stays (suc low) most (omega (arith, most, few)) below.puts (inner_each low (omega (arith, most, few)) below)

  pub nothing_put : levels_for run.blocks ≤ run.levels → puts_of run old (length held) ≡ []
  unfolding puts_of
  nothing_put few = by_none (run.blocks == 0)
    where
      top : (made (levels_for run.blocks)).puts ≡ []
      top =
          let level : levels_for run.blocks ≡ suc (levels_for run.blocks - 1) = omega (arith, levels_some run.blocks) in
          subst (λ (l : ℕ). (made l).puts ≡ []) (sym level) (all_same (levels_for run.blocks - 1) (omega (arith, level)) few).puts

      by_none : (b : Bool) → (if b then [] else (made (levels_for run.blocks)).puts) ≡ []
      by_none true = refl
      by_none false = top
