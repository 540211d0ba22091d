-- Where the new tree leads.
use Rattle.std.proofs.Common.{◌≡◌, ℕ, zero, suc, ◌+◌, ◌-◌, ◌*◌, ◌/◌, ◌%◌, ◌^◌, ◌<◌, ◌≤◌, Bool, true, false, ◌&&◌, ◌==◌, nat_lt, nat_le, List, ◌∷◌, ◌++◌, length, replicate, get_or, refl, sym, ap, subst, ◌∙◌, ◌⊎◌, inl, inr, arith, Option, Some, None, Result, Ok}
use Rattle.std.proofs.lemmas.Bool.{cases_lt, ne_eqb}
use Rattle.std.proofs.lemmas.List.{get_or-replicate}
use Rattle.std.proofs.lemmas.Nat.{le-div, div_below}
use Rattle.std.proofs.Math.Nat.{pow-suc, div-mul-le_self, div-eq_of_lt, mul-le-mul_right}
use Rattle.indirect_macs.specs.declared.refs.BlockRef.{BlockRef}
use Rattle.indirect_macs.specs.declared.refs.NodeRef.{NodeRef}
use Rattle.indirect_macs.specs.declared.refs.MacError.{MacError}
use Rattle.indirect_macs.specs.Entries.{block_at, node_at}
use Rattle.indirect_macs.specs.Walk.{place_of, slot_of, walk}
use Rattle.indirect_macs.specs.Trees.{IsRunOn, held_after, tree_after, walk_after}
use Rattle.indirect_macs.specs.Runs.{Run, Old, Made, first_block, last_block, first_at, last_at, levels_for, found_at, walk_to, or_hole, old_of, target, new_ref, levels_made, puts_of, tree_of, Passes}
use Rattle.indirect_macs.proofs.Growth.{walk-grown}
use Rattle.indirect_macs.proofs.FoldOfTree.{power_least, power_mono}
use Rattle.indirect_macs.proofs.TreeFold.{child_place, walk_none, walk_through, walk_last, first_place, goes_ok, ok_same}
use Rattle.indirect_macs.proofs.RunFound.{walk_by_place}
use Rattle.indirect_macs.proofs.RunMade.{raised_stays}
use Rattle.indirect_macs.proofs.RunNodes.{Entries}
use Rattle.indirect_macs.proofs.RunOld.{in_order}
use Rattle.indirect_macs.proofs.RunEntries.{puts_are, new_ref_cases, new_ref_touched, touched_leaf, touched_inner, raised_entries, levels_some}

-- ---- the walk through entries

pub through_inner : (held : List (List ℕ)) (record_size index low : ℕ) (e : ℕ → Option NodeRef) (r : Option NodeRef) (x : Option BlockRef)
    → Entries node_at held record_size (low + 2) e r → walk held record_size index low (e (slot_of (low + 2) index)) ≡ Ok x
    → walk held record_size index (suc low) r ≡ Ok x
unfolding Entries
through_inner held record_size index low e None x holes is =
    walk_none held record_size index (suc low) ∙ sym (walk_none held record_size index low)
    ∙ ap (walk held record_size index low) (sym (holes (slot_of (low + 2) index) (omega arith))) ∙ is
through_inner held record_size index low e (Some node) x has is =
    walk_through held record_size index low node has.bytes has.passes
    ∙ ap (walk held record_size index low) (has.entries (slot_of (low + 2) index) (omega arith)) ∙ is

through_leaf : (held : List (List ℕ)) (record_size index : ℕ) (e : ℕ → Option BlockRef) (r : Option NodeRef)
    → Entries block_at held record_size 1 e r → walk held record_size index zero r ≡ Ok (e (slot_of 1 index))
unfolding Entries
through_leaf held record_size index e None holes =
    walk_none held record_size index zero
    ∙ ap (λ (o : Option BlockRef). let found : Result (Option BlockRef) MacError = Ok o in found) (sym (holes (slot_of 1 index) (omega arith)))
through_leaf held record_size index e (Some node) has =
    walk_last held record_size index node has.bytes has.passes
    ∙ ap (λ (o : Option BlockRef). let found : Result (Option BlockRef) MacError = Ok o in found) (has.entries (slot_of 1 index) (omega arith))

-- ---- places

div_mono : (a b n : ℕ) → 0 < n → a ≤ b → a / n ≤ b / n
div_mono a b n positive order = le-div (a / n) b n positive (omega (arith, order, div-mul-le_self a n))

pub from_parts : (low index : ℕ) → 32 * place_of (low + 2) index + slot_of (low + 2) index ≡ place_of (low + 1) index
from_parts low index =
    let level : low + 2 - 1 ≡ low + 1 = omega arith in
    let up : low + 1 + 1 ≡ low + 2 = omega arith in
    let slot : slot_of (low + 2) index ≡ place_of (low + 1) index % 32 = ap (λ (l : ℕ). place_of l index % 32) level in
    let place : place_of (low + 2) index ≡ place_of (low + 1) index / 32 = ap (λ (l : ℕ). place_of l index) (sym up) ∙ sym (child_place (low + 1) index) in
    rw (slot, place) (omega arith)

lowest_parts : (index : ℕ) → 32 * place_of 1 index + slot_of 1 index ≡ index
lowest_parts index = omega arith

-- a place outside of the run
abbrev pub Outside : Run → (level j : ℕ) → Type 0
Outside run level j = (j < first_at run level) ⊎ (last_at run level < j)

abbrev pub in_run : Run → ℕ → Bool
in_run run index = nat_le run.from index && nat_lt index (run.from + length run.refs)

pub not_in_run : (run : Run) (level index : ℕ) → Outside run level (place_of level index) → in_run run index ≡ false
unfolding first_at last_at
not_in_run run level index out =
    elim (cases_lt index run.from) [
      | inl before ↦ let no : nat_le run.from index ≡ false = grind (arith, before) in rw no refl
      | inr from ↦
          elim (cases_lt index (run.from + length run.refs)) [
            | inr after ↦
                let yes : nat_le run.from index ≡ true = grind (arith, from) in
                let no : nat_lt index (run.from + length run.refs) ≡ false = grind (arith, after) in
                rw (yes, no) refl
            | inl to ↦
                let full : nat_lt 0 (length run.refs) ≡ true = grind (arith, from, to) in
                let first : first_block run ≡ run.from = rw full refl in
                let last : last_block run ≡ run.from + length run.refs - 1 = rw full refl in
                let positive : 0 < 32 ^ level = omega (arith, power_least level) in
                let low = div_mono (first_block run) index (32 ^ level) positive (omega (arith, first, from)) in
                let high = div_mono index (last_block run) (32 ^ level) positive (omega (arith, last, to)) in
                elim out [
                  | inl less ↦ absurd (omega (arith, less, low))
                  | inr more ↦ absurd (omega (arith, more, high))
                ]
          ]
    ]

target_outside : (run : Run) (old : Old) (index : ℕ) → in_run run index ≡ false → index < run.blocks → target run old index ≡ old.block index
unfolding target
target_outside run old index out within =
    let below : nat_le run.blocks index ≡ false = grind (arith, within) in
    rw (below, out) refl

target_beyond : (run : Run) (old : Old) (index : ℕ) → run.blocks ≤ index → target run old index ≡ None
unfolding target
target_beyond run old index past =
    let beyond : nat_le run.blocks index ≡ true = grind (arith, past) in
    rw beyond refl

pub walk_beyond : (held : List (List ℕ)) (record_size : ℕ) (run : Run) (index : ℕ) → 32 ^ run.levels ≤ index → walk_to held record_size run index ≡ Ok None
unfolding walk_to
walk_beyond held record_size run index past =
    let outside : nat_lt index (32 ^ run.levels) ≡ false = grind (arith, past) in
    rw outside refl

pub walk_inside : (held : List (List ℕ)) (record_size : ℕ) (run : Run) (index : ℕ) → index < 32 ^ run.levels
    → walk_to held record_size run index ≡ walk held record_size index (run.levels - 1) run.top
unfolding walk_to
walk_inside held record_size run index small =
    let inside : nat_lt index (32 ^ run.levels) ≡ true = grind (arith, small) in
    rw inside refl

-- a place behind the blocks, of which the last one is touched
abbrev pub IsBehind : Run → (index : ℕ) → Type 0
IsBehind run index = (run.blocks ≤ index) × (last_block run ≡ run.blocks - 1)

-- a block whose new reference is known: one of the run, or one to which the old tree leads, or one that is cut off
abbrev pub IsKnown : (held : List (List ℕ)) → (record_size : ℕ) → Run → (index : ℕ) → Type 0
IsKnown held record_size run index =
    (in_run run index ≡ true) ⊎ ((x : Option BlockRef) × (walk_to held record_size run index ≡ Ok x)) ⊎ IsBehind run index

-- the block doesn't stay behind the blocks: the last block is touched, or the old tree leads to none there
abbrev pub IsCut : (held : List (List ℕ)) → (record_size : ℕ) → Run → (index : ℕ) → Type 0
IsCut held record_size run index =
    (index < run.blocks) ⊎ (last_block run ≡ run.blocks - 1) ⊎ (walk_to held record_size run index ≡ Ok None)

old_known : (held : List (List ℕ)) (record_size : ℕ) (run : Run) (index : ℕ) → in_run run index ≡ false → IsKnown held record_size run index
    → ((x : Option BlockRef) × (walk_to held record_size run index ≡ Ok x)) ⊎ IsBehind run index
old_known held record_size run index out (inl inside) = absurd (cc)
old_known held record_size run index out (inr known) = known

-- an untouched node behind the last block, which is touched, is over none of the blocks
over_none : (run : Run) (level index : ℕ) → Outside run level (place_of level index) → IsBehind run index → place_of level index * 32 ^ level < run.blocks → ⊥
unfolding first_at last_at
over_none run level index out (past, last) inside =
    let positive : 0 < 32 ^ level = omega (arith, power_least level) in
    let low = le-div (place_of level index) (run.blocks - 1) (32 ^ level) positive (omega (arith, inside)) in
    let high = div_mono (run.blocks - 1) index (32 ^ level) positive (omega (arith, past)) in
    let at : last_block run / 32 ^ level ≡ place_of level index = ap (λ (b : ℕ). b / 32 ^ level) last ∙ omega (arith, low, high) in
    let first = div_mono (first_block run) (last_block run) (32 ^ level) positive (in_order run) in
    elim out [
      | inl less ↦ omega (arith, less, at, first)
      | inr more ↦ omega (arith, more, at)
    ]

module _ (held : List (List ℕ)) (record_size : ℕ) (run : Run) (ready : IsRunOn held record_size run) (some : 0 < run.blocks) where
  abbrev old : Old
  old = old_of held record_size run

  abbrev made : ℕ → Made
  made level = levels_made run old (length held) level

  abbrev final : List (List ℕ)
  final = (made (levels_for run.blocks)).puts

  abbrev leads : (index low : ℕ) → Option NodeRef → Option BlockRef → Type 0
  leads index low r x = walk (held ++ final) record_size index low r ≡ Ok x

  -- the old block is the new one, outside of the run
  pub old_stays : (level index : ℕ) (x : Option BlockRef) → Outside run level (place_of level index) → place_of level index * 32 ^ level < run.blocks
      → walk_to held record_size run index ≡ Ok x → IsCut held record_size run index → x ≡ target run old index
  unfolding old_of first_at last_at
  old_stays level index x out inside is cut =
      elim (cases_lt index run.blocks) [
        | inl within ↦ sym (target_outside run old index (not_in_run run level index out) within ∙ ap or_hole is)
        | inr past ↦ none cut past ∙ sym (target_beyond run old index past)
      ]
    where
      none : IsCut held record_size run index → run.blocks ≤ index → x ≡ None
      none (inl within) past = absurd (omega (arith, within, past))
      none (inr (inl last)) past = absurd (over_none run level index out (past, last) inside)
      none (inr (inr nothing)) past = ok_same x None (sym is ∙ nothing)

  -- the node over all of the old tree
  raised_top : (low index : ℕ) (x : Option BlockRef) → run.levels ≡ low + 1 → index < 32 ^ (low + 1) → walk_to held record_size run index ≡ Ok x
      → leads index low (made (low + 1)).raised x
  raised_top low index x level small is =
      let lowest : run.levels - 1 ≡ low = omega (arith, level) in
      let old_walk : walk held record_size index low run.top ≡ Ok x =
      ap (λ (b : ℕ). walk held record_size index b run.top) (sym lowest)
      ∙ sym (walk_inside held record_size run index (subst (λ (l : ℕ). index < 32 ^ l) (sym level) small)) ∙ is in
      ap (walk (held ++ final) record_size index low) (raised_stays run old (length held) (low + 1) (omega (arith, level)))
      ∙ walk-grown held final record_size index low run.top x old_walk

  hole_after : (low slot : ℕ) (o : Option NodeRef) → slot < 32 → 1 ≤ slot → get_or (o ∷ replicate 31 None) slot None ≡ None
  hole_after low zero o within later = absurd (omega (arith, later))
  hole_after low (suc k) o within later = get_or-replicate 31 k None None (omega (arith, within))

  raised_step : (low index : ℕ) (x : Option BlockRef) → low + 2 ≤ levels_for run.blocks → run.levels < low + 2 → 0 < first_at run (low + 2)
      → index < 32 ^ (low + 2) → walk_to held record_size run index ≡ Ok x
      → ((run.levels < low + 1 → 0 < first_at run (low + 1)) → index < 32 ^ (low + 1) → leads index low (made (low + 1)).raised x)
      → leads index (suc low) (made (low + 2)).raised x
  unfolding first_at
  raised_step low index x most above first small is below =
      let high : nat_lt run.levels (low + 2) ≡ true = grind (arith, above) in
      let later : nat_lt 0 (first_at run (low + 2)) ≡ true = grind (arith, first) in
      let has = raised_entries held record_size run ready some low most (rw (high, later) refl) in
      let up : low + 1 + 1 ≡ low + 2 = omega arith in
      let level : low + 2 - 1 ≡ low + 1 = omega arith in
      let next : low + 2 ≡ suc (low + 1) = omega arith in
      let power : 32 ^ (low + 2) ≡ 32 ^ (low + 1) * 32 = ap (λ (k : ℕ). 32 ^ k) next ∙ pow-suc 32 (low + 1) in
      let slot : slot_of (low + 2) index ≡ place_of (low + 1) index % 32 = ap (λ (l : ℕ). place_of l index % 32) level in
      let few : place_of (low + 1) index < 32 = div_below index (32 ^ (low + 1)) 32 (omega (arith, power_least (low + 1))) (omega (arith, small, power)) in
      let at : slot_of (low + 2) index ≡ place_of (low + 1) index = slot ∙ omega (arith, few) in
      let lower : first_block run / 32 ^ (low + 1) / 32 ≡ first_block run / 32 ^ (low + 2) = child_place (low + 1) (first_block run) ∙ ap (λ (l : ℕ). place_of l (first_block run)) up in
      let positive : 0 < first_at run (low + 1) = omega (arith, lower, first) in
      through_inner (held ++ final) record_size index low _ (made (low + 2)).raised x has
      (ap (λ (s : ℕ). walk (held ++ final) record_size index low (get_or ((made (low + 1)).raised ∷ replicate 31 None) s None)) at
      ∙ elim (cases_lt 0 (place_of (low + 1) index)) [
        | inr zero_place ↦
            let none : place_of (low + 1) index ≡ 0 = omega (arith, zero_place) in
            ap (λ (s : ℕ). walk (held ++ final) record_size index low (get_or ((made (low + 1)).raised ∷ replicate 31 None) s None)) none
            ∙ below (λ over. positive) (first_place (low + 1) index none)
        | inl later_place ↦
            let wide : 32 ^ run.levels ≤ 32 ^ (low + 1) = power_mono run.levels (low + 1) (omega (arith, above)) in
            let beyond : 32 ^ (low + 1) ≤ index = omega (arith, later_place, div-mul-le_self index (32 ^ (low + 1)), mul-le-mul_right (32 ^ (low + 1)) later_place) in
            ap (walk (held ++ final) record_size index low) (hole_after low (place_of (low + 1) index) (made (low + 1)).raised few later_place)
            ∙ walk_none (held ++ final) record_size index low ∙ sym (walk_beyond held record_size run index (omega (arith, wide, beyond))) ∙ is
      ])

  raised_leads : (low index : ℕ) (x : Option BlockRef) → low + 1 ≤ levels_for run.blocks → run.levels ≤ low + 1 → (run.levels < low + 1 → 0 < first_at run (low + 1))
      → index < 32 ^ (low + 1) → walk_to held record_size run index ≡ Ok x → leads index low (made (low + 1)).raised x
  raised_leads zero index x most high first small is = raised_top zero index x (omega (arith, high, ready.levels)) small is
  raised_leads (suc low) index x most high first small is =
      let level : suc low + 1 ≡ low + 2 = omega arith in
      elim (cases_lt run.levels (suc low + 1)) [
        | inr same ↦ raised_top (suc low) index x (omega (arith, same, high)) small is
        | inl above ↦
            subst (λ (l : ℕ). leads index (suc low) (made l).raised x) (sym level)
            (raised_step low index x (omega (arith, most)) (omega (arith, above)) (subst (λ (l : ℕ). 0 < first_at run l) level (first above))
            (subst (λ (l : ℕ). index < 32 ^ l) level small) is
            (λ positive within. raised_leads low index x (omega (arith, most)) (omega (arith, above)) positive within is))
      ]

  -- a node that isn't touched
  untouched_leads : (low index : ℕ) (x : Option BlockRef) → low + 1 ≤ levels_for run.blocks → Outside run (low + 1) (place_of (low + 1) index)
      → walk_to held record_size run index ≡ Ok x → IsCut held record_size run index
      → leads index low (new_ref run old (low + 1) (made (low + 1)) (place_of (low + 1) index)) (target run old index)
  unfolding old_of
  untouched_leads low index x most out is cut =
      let there : place_of (low + 1) index * 32 ^ (low + 1) ≤ index = div-mul-le_self index (32 ^ (low + 1)) in
      let as_found : Option BlockRef → Result (Option BlockRef) MacError = λ o. Ok o in
      new_ref_cases (λ r. leads index low r (target run old index)) run old (low + 1) (place_of (low + 1) index) (made (low + 1))
      (λ from to. elim out [
        | inl less ↦ absurd (omega (arith, less, from))
        | inr more ↦ absurd (omega (arith, more, to))
      ])
      (λ _ past. walk_none (held ++ final) record_size index low ∙ ap as_found (sym (target_beyond run old index (omega (arith, past, there)))))
      (λ _ inside above first.
      raised_leads low index x most (omega (arith, above)) (λ _. starts first) (first_place (low + 1) index first) is
      ∙ ap as_found (old_stays (low + 1) index x out inside is cut))
      (λ _ above later. walk_none (held ++ final) record_size index low ∙ ap as_found (sym (nothing above later)))
      (λ _ inside within.
      let went = goes_ok (λ next. walk held record_size index low next) (found_at held record_size run (low + 1) (place_of (low + 1) index)) x
      (sym (walk_by_place held record_size run low index within) ∙ is) in
      ap (λ (r : Result (Option NodeRef) MacError). walk (held ++ final) record_size index low (or_hole r)) went.1
      ∙ walk-grown held final record_size index low went.0 x went.2 ∙ ap as_found (old_stays (low + 1) index x out inside is cut))
    where
      starts : place_of (low + 1) index ≡ 0 → 0 < first_at run (low + 1)
      starts first = elim out [
        | inl less ↦ omega (arith, less)
        | inr more ↦ absurd (omega (arith, more, first))
      ]

      nothing : run.levels < low + 1 → 1 ≤ place_of (low + 1) index → target run old index ≡ None
      nothing above later =
          let wide : 32 ^ run.levels ≤ 32 ^ (low + 1) = power_mono run.levels (low + 1) (omega (arith, above)) in
          let beyond : 32 ^ (low + 1) ≤ index = omega (arith, later, div-mul-le_self index (32 ^ (low + 1)), mul-le-mul_right (32 ^ (low + 1)) later) in
          elim (cases_lt index run.blocks) [
            | inl within ↦
                target_outside run old index (not_in_run run (low + 1) index out) within
                ∙ ap or_hole (walk_beyond held record_size run index (omega (arith, wide, beyond)))
            | inr past ↦ target_beyond run old index past
          ]

  untouched_behind : (low index : ℕ) → Outside run (low + 1) (place_of (low + 1) index) → IsBehind run index
      → leads index low (new_ref run old (low + 1) (made (low + 1)) (place_of (low + 1) index)) (target run old index)
  untouched_behind low index out behind =
      let as_found : Option BlockRef → Result (Option BlockRef) MacError = λ o. Ok o in
      let hole : leads index low None (target run old index) =
      walk_none (held ++ final) record_size index low ∙ ap as_found (sym (target_beyond run old index behind.0)) in
      new_ref_cases (λ r. leads index low r (target run old index)) run old (low + 1) (place_of (low + 1) index) (made (low + 1))
      (λ from to. elim out [
        | inl less ↦ absurd (omega (arith, less, from))
        | inr more ↦ absurd (omega (arith, more, to))
      ])
      (λ _ past. hole) (λ _ inside above first. absurd (over_none run (low + 1) index out behind inside)) (λ _ above later. hole)
      (λ _ inside within. absurd (over_none run (low + 1) index out behind inside))

  untouched_known : (low index : ℕ) → low + 1 ≤ levels_for run.blocks → Outside run (low + 1) (place_of (low + 1) index) → IsKnown held record_size run index
      → IsCut held record_size run index
      → leads index low (new_ref run old (low + 1) (made (low + 1)) (place_of (low + 1) index)) (target run old index)
  untouched_known low index most out known cut =
      elim (old_known held record_size run index (not_in_run run (low + 1) index out) known) [
        | inl found ↦ untouched_leads low index found.0 most out found.1 cut
        | inr behind ↦ untouched_behind low index out behind
      ]

  leaf_leads : Passes held record_size run → (index : ℕ) → first_at run 1 ≤ place_of 1 index → place_of 1 index ≤ last_at run 1
      → leads index zero (new_ref run old 1 (made 1) (place_of 1 index)) (target run old index)
  leaf_leads passes index from to =
      through_leaf (held ++ final) record_size index _ (new_ref run old 1 (made 1) (place_of 1 index)) (touched_leaf held record_size run ready some passes (place_of 1 index) from to)
      ∙ ap (λ (i : ℕ). let found : Result (Option BlockRef) MacError = Ok (target run old i) in found) (lowest_parts index)

  inner_leads : Passes held record_size run → (low index : ℕ) → low + 2 ≤ levels_for run.blocks
      → first_at run (low + 2) ≤ place_of (low + 2) index → place_of (low + 2) index ≤ last_at run (low + 2)
      → leads index low (new_ref run old (low + 1) (made (low + 1)) (place_of (low + 1) index)) (target run old index)
      → leads index (suc low) (new_ref run old (low + 2) (made (low + 2)) (place_of (low + 2) index)) (target run old index)
  inner_leads passes low index most from to below =
      through_inner (held ++ final) record_size index low _ (new_ref run old (low + 2) (made (low + 2)) (place_of (low + 2) index)) (target run old index)
      (touched_inner held record_size run ready some passes low (place_of (low + 2) index) most from to)
      (ap (λ (child : ℕ). walk (held ++ final) record_size index low (new_ref run old (low + 1) (made (low + 1)) child)) (from_parts low index) ∙ below)

  -- each node of the new tree leads to the new blocks under it
  pub new_leads : Passes held record_size run → (low index : ℕ) → low + 1 ≤ levels_for run.blocks → IsKnown held record_size run index → IsCut held record_size run index
      → leads index low (new_ref run old (low + 1) (made (low + 1)) (place_of (low + 1) index)) (target run old index)
  new_leads passes zero index most known cut =
      elim (cases_lt (place_of 1 index) (first_at run 1)) [
        | inl before ↦ untouched_known zero index most (inl before) known cut
        | inr from ↦
            elim (cases_lt (last_at run 1) (place_of 1 index)) [
              | inl after ↦ untouched_known zero index most (inr after) known cut
              | inr to ↦ leaf_leads passes index from to
            ]
      ]
  new_leads passes (suc low) index most known cut =
      let level : suc low + 1 ≡ low + 2 = omega arith in
      elim (cases_lt (place_of (suc low + 1) index) (first_at run (suc low + 1))) [
        | inl before ↦ untouched_known (suc low) index most (inl before) known cut
        | inr from ↦
            elim (cases_lt (last_at run (suc low + 1)) (place_of (suc low + 1) index)) [
              | inl after ↦ untouched_known (suc low) index most (inr after) known cut
              | inr to ↦
                  subst (λ (l : ℕ). leads index (suc low) (new_ref run old l (made l) (place_of l index)) (target run old index)) (sym level)
                  (inner_leads passes low index (omega (arith, most))
                  (subst (λ (l : ℕ). first_at run l ≤ place_of l index) level from) (subst (λ (l : ℕ). place_of l index ≤ last_at run l) level to)
                  (new_leads passes low index (omega (arith, most)) known cut))
            ]
      ]

-- ---- the top

pub levels_room : (blocks : ℕ) → blocks ≤ 8388608 → blocks ≤ 32 ^ levels_for blocks
levels_room blocks few =
    elim (cases_lt 32 blocks) [
      | inr one ↦ let is : nat_le blocks 32 ≡ true = grind (arith, one) in rw is (omega (arith, one))
      | inl over ↦
          let no : nat_le blocks 32 ≡ false = grind (arith, over) in
          elim (cases_lt 1024 blocks) [
            | inr two ↦ let is : nat_le blocks 1024 ≡ true = grind (arith, two) in rw (no, is) (omega (arith, two))
            | inl over_two ↦
                let no_two : nat_le blocks 1024 ≡ false = grind (arith, over_two) in
                elim (cases_lt 32768 blocks) [
                  | inr three ↦ let is : nat_le blocks 32768 ≡ true = grind (arith, three) in rw (no, no_two, is) (omega (arith, three))
                  | inl over_three ↦
                      let no_three : nat_le blocks 32768 ≡ false = grind (arith, over_three) in
                      elim (cases_lt 1048576 blocks) [
                        | inr four ↦ let is : nat_le blocks 1048576 ≡ true = grind (arith, four) in rw (no, no_two, no_three, is) (omega (arith, four))
                        | inl over_four ↦
                            let no_four : nat_le blocks 1048576 ≡ false = grind (arith, over_four) in
                            rw (no, no_two, no_three, no_four) (omega (arith, few))
                      ]
                ]
          ]
    ]

-- the touched blocks are blocks
pub first_within : (run : Run) → run.from + length run.refs ≤ run.blocks → 0 < run.blocks → first_block run < run.blocks
first_within run within some =
    elim (cases_lt 0 (length run.refs)) [
      | inl full ↦
          let is : nat_lt 0 (length run.refs) ≡ true = grind (arith, full) in
          rw is (omega (arith, full, within))
      | inr none ↦
          let is : nat_lt 0 (length run.refs) ≡ false = grind (arith, none) in
          rw is (omega (arith, some))
    ]

pub top_is_new : (held : List (List ℕ)) (record_size : ℕ) (run : Run) → IsRunOn held record_size run → 0 < run.blocks
    → (tree_of run (old_of held record_size run) (length held)).top
    ≡ new_ref run (old_of held record_size run) (levels_for run.blocks) (levels_made run (old_of held record_size run) (length held) (levels_for run.blocks)) 0
unfolding tree_of first_at last_at
top_is_new held record_size run ready some =
    let other : (run.blocks == 0) ≡ false = ne_eqb run.blocks 0 (λ e. omega (arith, e, some)) in
    let first : first_at run (levels_for run.blocks) ≡ 0 =
    div-eq_of_lt (omega (arith, first_within run ready.within some, levels_room run.blocks ready.few)) in
    let same : 0 - first_at run (levels_for run.blocks) ≡ 0 = omega arith in
    rw other (sym (new_ref_touched run (old_of held record_size run) (levels_for run.blocks) 0 (levels_made run (old_of held record_size run) (length held) (levels_for run.blocks))
    (omega (arith, first)) (omega arith)
    ∙ ap (λ (i : ℕ). get_or (levels_made run (old_of held record_size run) (length held) (levels_for run.blocks)).refs i None) same))

-- where the new tree leads
pub tree_leads : (held : List (List ℕ)) (record_size : ℕ) (run : Run) (index : ℕ) → IsRunOn held record_size run → Passes held record_size run → 0 < run.blocks
    → index < 32 ^ levels_for run.blocks → IsKnown held record_size run index → IsCut held record_size run index
    → walk (held ++ puts_of run (old_of held record_size run) (length held)) record_size index (levels_for run.blocks - 1)
    (tree_of run (old_of held record_size run) (length held)).top ≡ Ok (target run (old_of held record_size run) index)
tree_leads held record_size run index ready passes some small known cut =
    let levels : levels_for run.blocks - 1 + 1 ≡ levels_for run.blocks = omega (arith, levels_some run.blocks) in
    let found = new_leads held record_size run ready some passes (levels_for run.blocks - 1) index (omega (arith, levels)) known cut in
    let first : place_of (levels_for run.blocks) index ≡ 0 = div-eq_of_lt small in
    let there = subst (λ (l : ℕ). walk (held ++ (levels_made run (old_of held record_size run) (length held) (levels_for run.blocks)).puts) record_size index (levels_for run.blocks - 1)
    (new_ref run (old_of held record_size run) l (levels_made run (old_of held record_size run) (length held) l) (place_of l index)) ≡ Ok (target run (old_of held record_size run) index)) levels found in
    rw (puts_are held record_size run ready some, top_is_new held record_size run ready some, ← first) there

-- ---- the laws

small_enough : (run : Run) (index : ℕ) → run.blocks ≤ 8388608 → index < run.blocks → index < 32 ^ levels_for run.blocks
small_enough run index few within = omega (arith, levels_room run.blocks few, within)

pub leads_within : (held : List (List ℕ)) (record_size : ℕ) (run : Run) (index : ℕ) → IsRunOn held record_size run → Passes held record_size run
    → run.from ≤ index → index < run.from + length run.refs
    → walk_after held record_size run index ≡ Ok (get_or run.refs (index - run.from) None)
unfolding target tree_of
leads_within held record_size run index ready passes from to =
    let low : nat_le run.from index ≡ true = grind (arith, from) in
    let high : nat_lt index (run.from + length run.refs) ≡ true = grind (arith, to) in
    let within : index < run.blocks = omega (arith, to, ready.within) in
    let inside : nat_le run.blocks index ≡ false = grind (arith, within) in
    let found = tree_leads held record_size run index ready passes (omega (arith, within)) (small_enough run index ready.few within) (inl (rw (low, high) refl)) (inl within) in
    rw (inside, low, high) at found

pub leads_elsewhere : (held : List (List ℕ)) (record_size : ℕ) (run : Run) (index : ℕ) (found : Option BlockRef) → IsRunOn held record_size run → Passes held record_size run
    → in_run run index ≡ false → index < run.blocks → walk_to held record_size run index ≡ Ok found → walk_after held record_size run index ≡ Ok found
unfolding old_of tree_of
leads_elsewhere held record_size run index found ready passes out within is =
    tree_leads held record_size run index ready passes (omega (arith, within)) (small_enough run index ready.few within) (inr (inl (found, is))) (inl within)
    ∙ ap (λ (o : Option BlockRef). let r : Result (Option BlockRef) MacError = Ok o in r) (target_outside run (old_of held record_size run) index out within ∙ ap or_hole is)

pub leads_before : (held : List (List ℕ)) (record_size : ℕ) (run : Run) (index : ℕ) (found : Option BlockRef) → IsRunOn held record_size run → Passes held record_size run
    → index < run.from → walk_to held record_size run index ≡ Ok found → walk_after held record_size run index ≡ Ok found
leads_before held record_size run index found ready passes before is =
    let no : nat_le run.from index ≡ false = grind (arith, before) in
    leads_elsewhere held record_size run index found ready passes (rw no refl) (omega (arith, before, ready.within)) is

pub leads_behind : (held : List (List ℕ)) (record_size : ℕ) (run : Run) (index : ℕ) (found : Option BlockRef) → IsRunOn held record_size run → Passes held record_size run
    → run.from + length run.refs ≤ index → index < run.blocks → walk_to held record_size run index ≡ Ok found → walk_after held record_size run index ≡ Ok found
leads_behind held record_size run index found ready passes behind within is =
    let low : nat_le run.from index ≡ true = grind (arith, behind) in
    let no : nat_lt index (run.from + length run.refs) ≡ false = grind (arith, behind) in
    leads_elsewhere held record_size run index found ready passes (rw (low, no) refl) within is

pub leads_past : (held : List (List ℕ)) (record_size : ℕ) (run : Run) (index : ℕ) → IsRunOn held record_size run → Passes held record_size run
    → run.blocks ≤ index → index < 32 ^ (tree_after held record_size run).levels
    → (last_block run ≡ run.blocks - 1) ⊎ (walk_to held record_size run index ≡ Ok None) → walk_after held record_size run index ≡ Ok None
unfolding tree_of
leads_past held record_size run index ready passes past small why =
    elim (cases_lt 0 run.blocks) [
      | inl some ↦
          tree_leads held record_size run index ready passes some small (known why) (inr why)
          ∙ ap (λ (o : Option BlockRef). let r : Result (Option BlockRef) MacError = Ok o in r) (target_beyond run (old_of held record_size run) index past)
      | inr none ↦
          let zero_blocks : run.blocks ≡ 0 = omega (arith, none) in
          let is : (run.blocks == 0) ≡ true = rw zero_blocks refl in
          rw is (walk_none (held_after held record_size run) record_size index (levels_for run.blocks - 1))
    ]
  where
    known : (last_block run ≡ run.blocks - 1) ⊎ (walk_to held record_size run index ≡ Ok None) → IsKnown held record_size run index
    known (inl last) = inr (inr (past, last))
    known (inr nothing) = inr (inl (None, nothing))
