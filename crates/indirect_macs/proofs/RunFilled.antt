-- The new tree has no empty node where the old one has none.
use Rattle.std.proofs.Common.{◌≡◌, ℕ, zero, suc, ◌+◌, ◌-◌, ◌*◌, ◌/◌, ◌%◌, ◌^◌, ◌<◌, ◌≤◌, Bool, true, false, ◌==◌, nat_lt, List, ◌∷◌, ◌++◌, length, replicate, get_or, refl, sym, ap, subst, ◌∙◌, inl, inr, arith, Option, Some, None, Result, Ok, Err, if◌then◌else◌}
use Rattle.std.specs.List.{slice_get}
use Rattle.std.specs.Option.{option_map_or}
use Rattle.std.proofs.lemmas.Bool.{cases_lt, eqb-true}
use Rattle.std.proofs.lemmas.List.{get_or-replicate}
use Rattle.indirect_macs.specs.declared.refs.BlockRef.{BlockRef}
use Rattle.indirect_macs.specs.declared.refs.NodeRef.{NodeRef}
use Rattle.indirect_macs.specs.declared.refs.MacError.{MacError}
use Rattle.indirect_macs.specs.declared.refs.MacError.TheVariants.{MacFailed}
use Rattle.indirect_macs.specs.Entries.{block_at, node_at}
use Rattle.indirect_macs.specs.Nodes.{entry_at}
use Rattle.indirect_macs.specs.Walk.{place_of, slot_of, passed, walk, goes_on}
use Rattle.indirect_macs.specs.Places.{Place, place_at}
use Rattle.indirect_macs.specs.Trees.{IsRunOn, is_empty_node}
use Rattle.indirect_macs.specs.Runs.{Run, Old, Made, first_block, first_at, last_at, levels_for, child_of, found_at, walk_to, or_hole, old_of, new_ref, levels_made, Passes}
use Rattle.indirect_macs.proofs.Growth.{passed-grown}
use Rattle.indirect_macs.proofs.FirstPlace.{passed_held, no_place}
use Rattle.indirect_macs.proofs.TreeFold.{child_place, walk_through, walked_top, place_through, slot_above, place_above, first_under, goes_ok}
use Rattle.indirect_macs.proofs.RunFound.{walk_by_place, found_child, found_top}
use Rattle.indirect_macs.proofs.RunMade.{raised_stays}
use Rattle.indirect_macs.proofs.RunNodes.{Entries}
use Rattle.indirect_macs.proofs.RunEntries.{new_ref_cases, touched_leaf, touched_inner, raised_entries}
use Rattle.indirect_macs.proofs.RunLeads.{Outside, from_parts}

-- no node under a place is empty
unfoldable pub Filled : (held : List (List ℕ)) → (below j : ℕ) → Option NodeRef → Type 0
Filled held below j top =
    (index depth : ℕ) (place : Place) (node : List ℕ) → place_of (below + 1) index ≡ j → place_at held index below top depth ≡ Some place
    → slice_get held place.node.addr ≡ Some node → is_empty_node place.level node ≡ false

pub filled_none : (held : List (List ℕ)) (below j : ℕ) → Filled held below j None
unfolding Filled
filled_none held below j index depth place node at is there =
    let none = no_place held index below depth in
    absurd (cc)

same_some : {X : Type 0} (o : Option X) (x y : X) → o ≡ Some x → o ≡ Some y → x ≡ y
same_some o x y is also = cc

filled_leaf : (held : List (List ℕ)) (record_size j : ℕ) (e : ℕ → Option BlockRef) (r : Option NodeRef) → Entries block_at held record_size 1 e r → Filled held zero j r
unfolding Filled Entries place_at
filled_leaf held record_size j e None holes index depth place bytes at is there = filled_none held zero j index depth place bytes at is there
filled_leaf held record_size j e (Some node) has index zero place bytes at is there =
    let here : record { level = 1; node = node } ≡ place = cc in
    let found : slice_get held node.addr ≡ Some bytes = subst (λ (p : Place). slice_get held p.node.addr ≡ Some bytes) (sym here) there in
    let same : has.bytes ≡ bytes = same_some (slice_get held node.addr) has.bytes bytes (passed_held held record_size 1 node has.bytes has.passes) found in
    subst (λ (p : Place). is_empty_node p.level bytes ≡ false) here (subst (λ (b : List ℕ). is_empty_node 1 b ≡ false) same has.filled)
filled_leaf held record_size j e (Some node) has index (suc depth) place bytes at is there = absurd (cc)

filled_inner : (held : List (List ℕ)) (record_size low j : ℕ) (e : ℕ → Option NodeRef) (r : Option NodeRef) → Entries node_at held record_size (low + 2) e r
    → ((s : ℕ) → s < 32 → Filled held low (32 * j + s) (e s)) → Filled held (suc low) j r
unfolding Filled Entries place_at
filled_inner held record_size low j e None holes each index depth place bytes at is there = filled_none held (suc low) j index depth place bytes at is there
filled_inner held record_size low j e (Some node) has each index zero place bytes at is there =
    let here : record { level = suc low + 1; node = node } ≡ place = cc in
    let level : low + 2 ≡ suc low + 1 = omega arith in
    let found : slice_get held node.addr ≡ Some bytes = subst (λ (p : Place). slice_get held p.node.addr ≡ Some bytes) (sym here) there in
    let same : has.bytes ≡ bytes = same_some (slice_get held node.addr) has.bytes bytes (passed_held held record_size (low + 2) node has.bytes has.passes) found in
    subst (λ (p : Place). is_empty_node p.level bytes ≡ false) here
    (subst (λ (l : ℕ). is_empty_node l bytes ≡ false) level (subst (λ (b : List ℕ). is_empty_node (low + 2) b ≡ false) same has.filled))
filled_inner held record_size low j e (Some node) has each index (suc depth) place bytes at is there =
    let up : suc low + 1 ≡ low + 2 = omega arith in
    let j_is : place_of (low + 2) index ≡ j = ap (λ (l : ℕ). place_of l index) (sym up) ∙ at in
    let slot : ℕ = slot_of (low + 2) index in
    let under : place_of (low + 1) index ≡ 32 * j + slot = sym (from_parts low index) ∙ ap (λ (p : ℕ). 32 * p + slot) j_is in
    each slot (omega arith) index depth place bytes under
    (ap (λ (r : Option NodeRef). place_at held index low r depth) (sym (has.entries slot (omega arith)))
    ∙ sym (place_through held index low depth node has.bytes (passed_held held record_size (low + 2) node has.bytes has.passes)) ∙ is) there

pub filled_child : (held : List (List ℕ)) (record_size low j s : ℕ) (node : NodeRef) (bytes : List ℕ) → s < 32 → passed held record_size (low + 2) node ≡ Some bytes
    → Filled held (suc low) j (Some node) → Filled held low (32 * j + s) (node_at (entry_at (low + 2) bytes s))
unfolding Filled
filled_child held record_size low j s node bytes within passes filled index depth place node_bytes at is there =
    filled index (suc depth) place node_bytes (place_above low index j s within at)
    (place_through held index low depth node bytes (passed_held held record_size (low + 2) node bytes passes)
    ∙ ap (λ (slot : ℕ). place_at held index low (node_at (entry_at (low + 2) bytes slot)) depth) (slot_above low index j s within at) ∙ is) there

pub node_filled : (held : List (List ℕ)) (below j : ℕ) (node : NodeRef) (bytes : List ℕ) → Filled held below j (Some node) → slice_get held node.addr ≡ Some bytes
    → is_empty_node (below + 1) bytes ≡ false
unfolding place_at Filled
node_filled held zero j node bytes filled there =
    filled (j * 32 ^ 1) zero (record { level = 1; node = node }) bytes (first_under 1 j) refl there
node_filled held (suc below) j node bytes filled there =
    filled (j * 32 ^ (suc below + 1)) zero (record { level = suc below + 1; node = node }) bytes (first_under (suc below + 1) j) refl there

-- the walks under a place pass
unfoldable pub Walks : (held : List (List ℕ)) → (record_size below j : ℕ) → Option NodeRef → Type 0
Walks held record_size below j top = (index : ℕ) → place_of (below + 1) index ≡ j → (x : Option BlockRef) × (walk held record_size index below top ≡ Ok x)

walks_child : (held : List (List ℕ)) (record_size low j s : ℕ) (node : NodeRef) (bytes : List ℕ) → s < 32 → passed held record_size (low + 2) node ≡ Some bytes
    → Walks held record_size (suc low) j (Some node) → Walks held record_size low (32 * j + s) (node_at (entry_at (low + 2) bytes s))
unfolding Walks
walks_child held record_size low j s node bytes within passes walks index at =
    let found = walks index (place_above low index j s within at) in (
      found.0,
      ap (λ (slot : ℕ). walk held record_size index low (node_at (entry_at (low + 2) bytes slot))) (sym (slot_above low index j s within at))
          ∙ sym (walk_through held record_size index low node bytes passes) ∙ found.1,
    )

-- a longer shelf keeps this
pub filled_grown : (held more : List (List ℕ)) (record_size below j : ℕ) (top : Option NodeRef) → Walks held record_size below j top → Filled held below j top
    → Filled (held ++ more) below j top
unfolding Walks Entries
filled_grown held more record_size below j None walks filled = filled_none (held ++ more) below j
filled_grown held more record_size zero j (Some node) walks filled =
    let found = walks (j * 32 ^ 1) (first_under 1 j) in
    let top = walked_top held record_size (j * 32 ^ 1) zero node found.0 found.1 in
    let there = passed_held held record_size 1 node top.0 top.1 in
    filled_leaf (held ++ more) record_size j (λ s. block_at (entry_at 1 top.0 s)) (Some node) (record {
      bytes = top.0;
      passes = passed-grown held more record_size 1 node top.0 top.1;
      entries = λ s within. refl;
      filled = node_filled held zero j node top.0 filled there;
    })
filled_grown held more record_size (suc low) j (Some node) walks filled =
    let found = walks (j * 32 ^ (suc low + 1)) (first_under (suc low + 1) j) in
    let top = walked_top held record_size (j * 32 ^ (suc low + 1)) (suc low) node found.0 found.1 in
    let level : suc low + 1 ≡ low + 2 = omega arith in
    let passes : passed held record_size (low + 2) node ≡ Some top.0 = ap (λ (l : ℕ). passed held record_size l node) (sym level) ∙ top.1 in
    let there = passed_held held record_size (low + 2) node top.0 passes in
    filled_inner (held ++ more) record_size low j (λ s. node_at (entry_at (low + 2) top.0 s)) (Some node) (record {
      bytes = top.0;
      passes = passed-grown held more record_size (low + 2) node top.0 passes;
      entries = λ s within. refl;
      filled = subst (λ (l : ℕ). is_empty_node l top.0 ≡ false) level (node_filled held (suc low) j node top.0 filled there);
    })
    (λ s within. filled_grown held more record_size low (32 * j + s) (node_at (entry_at (low + 2) top.0 s))
    (walks_child held record_size low j s node top.0 within passes walks) (filled_child held record_size low j s node top.0 within passes filled))

-- ---- the places of the old tree

filled_below : (held : List (List ℕ)) (record_size low i : ℕ) (above : Result (Option NodeRef) MacError) → Filled held (suc low) (i / 32) (or_hole above)
    → Filled held low i (or_hole (goes_on (λ r. child_of held record_size (low + 2) i r) (λ failed. Err failed) above))
unfolding child_of
filled_below held record_size low i (Err failed) filled = filled_none held low i
filled_below held record_size low i (Ok None) filled = filled_none held low i
filled_below held record_size low i (Ok (Some node)) filled = by_passed (passed held record_size (low + 2) node) refl
  where
    by_passed : (p : Option (List ℕ)) → passed held record_size (low + 2) node ≡ p
        → Filled held low i (or_hole (option_map_or (λ bytes. Ok (node_at (entry_at (low + 2) bytes (i % 32)))) p (Err (MacFailed (low + 2) (i / 32)))))
    by_passed None is = filled_none held low i
    by_passed (Some bytes) is =
        let parts : 32 * (i / 32) + i % 32 ≡ i = omega arith in
        subst (λ (k : ℕ). Filled held low k (node_at (entry_at (low + 2) bytes (i % 32)))) parts
        (filled_child held record_size low (i / 32) (i % 32) node bytes (omega arith) is filled)

pub found_filled : (held : List (List ℕ)) (record_size : ℕ) (run : Run) (depth low i : ℕ) → low + 1 + depth ≡ run.levels → Filled held (run.levels - 1) 0 run.top
    → Filled held low i (or_hole (found_at held record_size run (low + 1) i))
found_filled held record_size run zero low i is filled =
    let level : low + 1 ≡ run.levels = omega (arith, is) in
    let lowest : run.levels - 1 ≡ low = omega (arith, level) in
    subst (λ (l : ℕ). Filled held low i (or_hole (found_at held record_size run l i))) (sym level)
    (subst (λ (r : Result (Option NodeRef) MacError). Filled held low i (or_hole r)) (sym (found_top held record_size run i))
    (by_first (subst (λ (b : ℕ). Filled held b 0 run.top) lowest filled) (i == 0) refl))
  where
    by_first : Filled held low 0 run.top → (b : Bool) → (i == 0) ≡ b → Filled held low i (if b then run.top else None)
    by_first top true is = subst (λ (k : ℕ). Filled held low k run.top) (sym (eqb-true i 0 is)) top
    by_first top false is = filled_none held low i
found_filled held record_size run (suc depth) low i is filled =
    let up : low + 1 + 1 ≡ low + 2 = omega arith in
    let next : suc low + 1 ≡ low + 2 = omega arith in
    let above = found_filled held record_size run depth (suc low) (i / 32) (omega (arith, is)) filled in
    let here = subst (λ (l : ℕ). Filled held (suc low) (i / 32) (or_hole (found_at held record_size run l (i / 32)))) next above in
    let child = filled_below held record_size low i (found_at held record_size run (low + 2) (i / 32)) here in
    let back = subst (λ (l : ℕ). Filled held low i (or_hole (goes_on (λ r. child_of held record_size l i r) (λ failed. Err failed) (found_at held record_size run l (i / 32))))) (sym up) child in
    subst (λ (r : Result (Option NodeRef) MacError). Filled held low i (or_hole r)) (sym (found_child held record_size run (low + 1) i (omega (arith, is)))) back

-- ---- the new tree

module _ (held : List (List ℕ)) (record_size : ℕ) (run : Run) (ready : IsRunOn held record_size run) (some : 0 < run.blocks) (passes : Passes held record_size run)
    (known : (index : ℕ) → (x : Option BlockRef) × (walk_to held record_size run index ≡ Ok x)) (filled : Filled held (run.levels - 1) 0 run.top) where
  abbrev old : Old
  old = old_of held record_size run

  abbrev made : ℕ → Made
  made level = levels_made run old (length held) level

  abbrev after : List (List ℕ)
  after = held ++ (made (levels_for run.blocks)).puts

  -- an old node that isn't touched
  old_filled : (low j : ℕ) → low + 1 ≤ run.levels → Filled after low j (old.node (low + 1) j)
  unfolding old_of Walks
  old_filled low j within =
      filled_grown held (made (levels_for run.blocks)).puts record_size low j (or_hole (found_at held record_size run (low + 1) j))
      (λ index at.
      let went = goes_ok (λ next. walk held record_size index low next) (found_at held record_size run (low + 1) (place_of (low + 1) index)) (known index).0
      (sym (walk_by_place held record_size run low index within) ∙ (known index).1) in (
        (known index).0,
        ap (λ (r : Result (Option NodeRef) MacError). walk held record_size index low (or_hole r))
            (ap (found_at held record_size run (low + 1)) (sym at) ∙ went.1) ∙ went.2,
      ))
      (found_filled held record_size run (run.levels - (low + 1)) low j (omega (arith, within)) filled)

  top_stays : (low : ℕ) → run.levels ≡ low + 1 → Filled after low 0 (made (low + 1)).raised
  unfolding old_of
  top_stays low level =
      let top : old.node (low + 1) 0 ≡ run.top = ap (λ (l : ℕ). or_hole (found_at held record_size run l 0)) (sym level) ∙ ap or_hole (found_top held record_size run 0) in
      subst (Filled after low 0) (sym (raised_stays run old (length held) (low + 1) (omega (arith, level))))
      (subst (Filled after low 0) top (old_filled low 0 (omega (arith, level))))

  raised_step_filled : (low : ℕ) → low + 2 ≤ levels_for run.blocks → run.levels < low + 2 → 0 < first_at run (low + 2)
      → ((run.levels < low + 1 → 0 < first_at run (low + 1)) → Filled after low 0 (made (low + 1)).raised) → Filled after (suc low) 0 (made (low + 2)).raised
  unfolding first_at
  raised_step_filled low most above first below =
      let high : nat_lt run.levels (low + 2) ≡ true = grind (arith, above) in
      let later : nat_lt 0 (first_at run (low + 2)) ≡ true = grind (arith, first) in
      let up : low + 1 + 1 ≡ low + 2 = omega arith in
      let lower : first_block run / 32 ^ (low + 1) / 32 ≡ first_block run / 32 ^ (low + 2) = child_place (low + 1) (first_block run) ∙ ap (λ (l : ℕ). place_of l (first_block run)) up in
      let positive : 0 < first_at run (low + 1) = omega (arith, lower, first) in
      filled_inner after record_size low 0 _ (made (low + 2)).raised (raised_entries held record_size run ready some low most (rw (high, later) refl))
      (λ s within. by_slot (below (λ over. positive)) s within)
    where
      by_slot : Filled after low 0 (made (low + 1)).raised → (s : ℕ) → s < 32
          → Filled after low (32 * 0 + s) (get_or ((made (low + 1)).raised ∷ replicate 31 None) s None)
      by_slot first zero within = first
      by_slot first (suc k) within =
          subst (Filled after low (32 * 0 + suc k)) (sym (get_or-replicate 31 k None None (omega (arith, within)))) (filled_none after low (32 * 0 + suc k))

  raised_filled : (low : ℕ) → low + 1 ≤ levels_for run.blocks → run.levels ≤ low + 1 → (run.levels < low + 1 → 0 < first_at run (low + 1))
      → Filled after low 0 (made (low + 1)).raised
  raised_filled zero most high first = top_stays zero (omega (arith, high, ready.levels))
  raised_filled (suc low) most high first =
      let level : suc low + 1 ≡ low + 2 = omega arith in
      elim (cases_lt run.levels (suc low + 1)) [
        | inr same ↦ top_stays (suc low) (omega (arith, same, high))
        | inl above ↦
            subst (λ (l : ℕ). Filled after (suc low) 0 (made l).raised) (sym level)
            (raised_step_filled low (omega (arith, most)) (omega (arith, above)) (subst (λ (l : ℕ). 0 < first_at run l) level (first above))
            (λ positive. raised_filled low (omega (arith, most)) (omega (arith, above)) positive))
      ]

  untouched_filled : (low j : ℕ) → low + 1 ≤ levels_for run.blocks → Outside run (low + 1) j → Filled after low j (new_ref run old (low + 1) (made (low + 1)) j)
  untouched_filled low j most out =
      new_ref_cases (Filled after low j) run old (low + 1) j (made (low + 1))
      (λ from to. elim out [
        | inl less ↦ absurd (omega (arith, less, from))
        | inr more ↦ absurd (omega (arith, more, to))
      ])
      (λ _ past. filled_none after low j)
      (λ _ inside above first.
      subst (λ (k : ℕ). Filled after low k (made (low + 1)).raised) (sym first) (raised_filled low most (omega (arith, above)) (λ _. starts first)))
      (λ _ above later. filled_none after low j)
      (λ _ inside within. old_filled low j within)
    where
      starts : j ≡ 0 → 0 < first_at run (low + 1)
      starts first = elim out [
        | inl less ↦ omega (arith, less)
        | inr more ↦ absurd (omega (arith, more, first))
      ]

  pub new_filled : (low j : ℕ) → low + 1 ≤ levels_for run.blocks → Filled after low j (new_ref run old (low + 1) (made (low + 1)) j)
  new_filled zero j most =
      elim (cases_lt j (first_at run 1)) [
        | inl before ↦ untouched_filled zero j most (inl before)
        | inr from ↦
            elim (cases_lt (last_at run 1) j) [
              | inl after_last ↦ untouched_filled zero j most (inr after_last)
              | inr to ↦ filled_leaf after record_size j _ (new_ref run old 1 (made 1) j) (touched_leaf held record_size run ready some passes j from to)
            ]
      ]
  new_filled (suc low) j most =
      let level : suc low + 1 ≡ low + 2 = omega arith in
      elim (cases_lt j (first_at run (suc low + 1))) [
        | inl before ↦ untouched_filled (suc low) j most (inl before)
        | inr from ↦
            elim (cases_lt (last_at run (suc low + 1)) j) [
              | inl after_last ↦ untouched_filled (suc low) j most (inr after_last)
              | inr to ↦
                  subst (λ (l : ℕ). Filled after (suc low) j (new_ref run old l (made l) j)) (sym level)
                  (filled_inner after record_size low j _ (new_ref run old (low + 2) (made (low + 2)) j)
                  (touched_inner held record_size run ready some passes low j (omega (arith, most))
                  (subst (λ (l : ℕ). first_at run l ≤ j) level from) (subst (λ (l : ℕ). j ≤ last_at run l) level to))
                  (λ s within. new_filled low (32 * j + s) (omega (arith, most))))
            ]
      ]
