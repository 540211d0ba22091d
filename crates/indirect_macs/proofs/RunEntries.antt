-- The entries of each touched node of the new tree.
use Rattle.std.proofs.Common.{◌≡◌, ℕ, zero, suc, ◌+◌, ◌-◌, ◌*◌, ◌^◌, ◌<◌, ◌≤◌, Bool, true, false, ◌&&◌, ◌==◌, nat_lt, nat_le, List, [], ◌∷◌, ◌++◌, length, replicate, get_or, refl, sym, ap, subst, ◌∙◌, ◌⊎◌, inl, inr, arith, Option, Some, None, is_none, Result, Ok, if◌then◌else◌}
use Rattle.std.specs.Prelude.{All, IfSome}
use Rattle.std.specs.List.{list_all}
use Rattle.std.specs.Option.{option_eq}
use Rattle.std.specs.Str.{bytes_eq}
use Rattle.std.specs.Cmp.Lexicographic.{pointwise}
use Rattle.std.proofs.lemmas.Bool.{cases_lt, ne_eqb, eqb-true}
use Rattle.std.proofs.lemmas.List.{get_or-replicate}
use Rattle.std.proofs.lemmas.List.FromFn.{get_or-map-range_with_len}
use Rattle.indirect_macs.specs.declared.refs.BlockRef.{BlockRef}
use Rattle.indirect_macs.specs.declared.refs.NodeRef.{NodeRef}
use Rattle.indirect_macs.specs.declared.refs.MacError.{MacError}
use Rattle.indirect_macs.specs.Entries.{block_at, node_at, IsBlockRef, IsNodeRef}
use Rattle.indirect_macs.specs.Nodes.{slots, entry_at, blocks_of, refs_of}
use Rattle.indirect_macs.specs.Walk.{passed}
use Rattle.indirect_macs.specs.Trees.{IsRunOn}
use Rattle.indirect_macs.specs.Runs.{Run, Old, Made, Node, first_at, last_at, count_at, levels_for, found_at, or_hole, old_of, target, new_ref, entries_at, same_block, same_node, leaf_of, inner_of, new_node, kept, levels_made, puts_of, Passes}
use Rattle.indirect_macs.proofs.Spelling.{and_both}
use Rattle.indirect_macs.proofs.Growth.{passed-grown}
use Rattle.indirect_macs.proofs.TreeFold.{map_same, entries_above, length-slots, block_holes, same_bytes}
use Rattle.indirect_macs.proofs.RunFound.{found_above}
use Rattle.indirect_macs.proofs.RunMade.{IsMade, node_is_made, raised_is_made, raised_same, raised_stays}
use Rattle.indirect_macs.proofs.RunNodes.{HasEntries, Entries, leaf_entries, inner_entries, inner_holes, inner_slot, leaf_slot, made_fits, length-mac_of}
use Rattle.indirect_macs.proofs.RunOld.{touched_found, old_children, old_blocks, old_node_fits, old_block_fits}

-- ---- tests of entries are equations

pointwise_same : {X : Type 0} (test : X → X → Bool) (xs ys : List X) → ((x y : X) → test x y ≡ true → x ≡ y) → pointwise test xs ys ≡ true → xs ≡ ys
pointwise_same test [] [] sound is = refl
pointwise_same test [] (y ∷ ys) sound is = absurd (cc)
pointwise_same test (x ∷ xs) [] sound is = absurd (cc)
pointwise_same {X = X} test (x ∷ xs) (y ∷ ys) sound is =
    let parts = and_both (test x y) (pointwise test xs ys) is in
    rw (sound x y parts.0) (ap (λ (rest : List X). y ∷ rest) (pointwise_same test xs ys sound parts.1))

option_same : {X : Type 0} (test : X → X → Bool) → ((x y : X) → test x y ≡ true → x ≡ y) → (a b : Option X) → option_eq test a b ≡ true → a ≡ b
option_same test sound None None is = refl
option_same test sound None (Some y) is = absurd (cc)
option_same test sound (Some x) None is = absurd (cc)
option_same test sound (Some x) (Some y) is = ap Some (sound x y is)

same_node_is : (a b : NodeRef) → same_node a b ≡ true → a ≡ b
same_node_is a b is =
    let parts = and_both (a.addr == b.addr) _ is in
    let addr = eqb-true a.addr b.addr parts.0 in
    let mac = same_bytes a.mac b.mac parts.1 in
    λ i. record { addr = addr i; mac = mac i }

same_block_is : (a b : BlockRef) → same_block a b ≡ true → a ≡ b
same_block_is a b is =
    let one = and_both _ (bytes_eq a.mac b.mac) is in
    let two = and_both _ (bytes_eq a.iv b.iv) one.0 in
    let three = and_both _ (bytes_eq a.salt b.salt) two.0 in
    let four = and_both (a.size == b.size) (a.addr == b.addr) three.0 in
    let size = eqb-true a.size b.size four.0 in
    let addr = eqb-true a.addr b.addr four.1 in
    let salt = same_bytes a.salt b.salt three.1 in
    let iv = same_bytes a.iv b.iv two.1 in
    let mac = same_bytes a.mac b.mac one.1 in
    λ i. record { size = size i; addr = addr i; salt = salt i; iv = iv i; mac = mac i }

-- ---- 32 entries

pub slot_entry : {A : Type 0} (refs : ℕ → A) (j s : ℕ) (d : A) → s < 32 → get_or (entries_at refs j) s d ≡ refs (32 * j + s)
unfolding slots
slot_entry refs j s d within = get_or-map-range_with_len (λ slot. refs (32 * j + slot)) 0 32 s s d within (omega arith)

length-entries : {A : Type 0} (refs : ℕ → A) (j : ℕ) → length (entries_at refs j) ≡ 32
length-entries refs j = length-slots (λ slot. refs (32 * j + slot))

pub all_entries : {A : Type 0} (P : A → Type 0) (refs : ℕ → A) (j : ℕ) → ((index : ℕ) → P (refs index)) → All P (entries_at refs j)
all_entries P refs j each =
    λ k d within. subst P (sym (slot_entry refs j k d (omega (arith, within, length-entries refs j)))) (each (32 * j + k))

entries_same : {X : Type 0} (at : List ℕ → Option X) (held : List (List ℕ)) (record_size level : ℕ) (e f : ℕ → Option X) (r : Option NodeRef)
    → ((s : ℕ) → s < 32 → e s ≡ f s) → Entries at held record_size level e r → Entries at held record_size level f r
unfolding Entries
entries_same at held record_size level e f None same has = λ s within. sym (same s within) ∙ has s within
entries_same at held record_size level e f (Some node) same has =
    record { bytes = has.bytes; passes = has.passes; entries = λ s within. has.entries s within ∙ same s within; filled = has.filled }

-- ---- the kept node

if_some : (b : Bool) (o : Option NodeRef) (node : NodeRef) → (if b then o else None) ≡ Some node → (b ≡ true) × (o ≡ Some node)
if_some true o node is = (refl, is)
if_some false o node is = absurd (cc)

kept_leaf : (run : Run) (old : Old) (below : Made) (j : ℕ) (node : NodeRef) → kept run old 1 below j ≡ Some node
    → (entries_at old.block j ≡ entries_at (target run old) j) × (old.node 1 j ≡ Some node)
unfolding kept
kept_leaf run old below j node is =
    let parts = if_some (pointwise (option_eq same_block) (entries_at old.block j) (entries_at (target run old) j)) (old.node 1 j) node is in
    (pointwise_same (option_eq same_block) (entries_at old.block j) (entries_at (target run old) j) (option_same same_block same_block_is) parts.0, parts.1)

kept_inner : (run : Run) (old : Old) (low : ℕ) (below : Made) (j : ℕ) (node : NodeRef) → kept run old (low + 2) below j ≡ Some node
    → (entries_at (old.node (low + 1)) j ≡ entries_at (new_ref run old (low + 1) below) j) × (old.node (low + 2) j ≡ Some node)
unfolding kept
kept_inner run old low below j node is =
    let other : (low + 2 == 1) ≡ false = ne_eqb (low + 2) 1 (λ e. omega (arith, e)) in
    let level : low + 2 - 1 ≡ low + 1 = omega arith in
    let parts = if_some (pointwise (option_eq same_node) (entries_at (old.node (low + 1)) j) (entries_at (new_ref run old (low + 1) below) j)) (old.node (low + 2) j) node
    (rw (other, level) at is) in
    (pointwise_same (option_eq same_node) (entries_at (old.node (low + 1)) j) (entries_at (new_ref run old (low + 1) below) j) (option_same same_node same_node_is) parts.0, parts.1)

new_leaf : (run : Run) (old : Old) (below : Made) (j : ℕ) → new_node run old 1 below j ≡ leaf_of (entries_at (target run old) j)
unfolding new_node
new_leaf run old below j = refl

pub new_inner : (run : Run) (old : Old) (low : ℕ) (below : Made) (j : ℕ) → new_node run old (low + 2) below j ≡ inner_of (low + 2) (entries_at (new_ref run old (low + 1) below) j)
unfolding new_node
new_inner run old low below j =
    let other : (low + 2 == 1) ≡ false = ne_eqb (low + 2) 1 (λ e. omega (arith, e)) in
    let level : low + 2 - 1 ≡ low + 1 = omega arith in
    rw (other, level) refl

mac_length : (run : Run) (old : Old) (level : ℕ) (below : Made) (j : ℕ) → length (new_node run old level below j).mac ≡ 16
unfolding new_node leaf_of inner_of
mac_length run old level below j = by_level (level == 1)
  where
    by_level : (b : Bool) → length (if b then leaf_of (entries_at (target run old) j) else inner_of level (entries_at (new_ref run old (level - 1) below) j)).mac ≡ 16
    by_level true = length-mac_of 1 _
    by_level false = length-mac_of level _

kept_fits : (run : Run) (old : Old) (level : ℕ) (below : Made) (j : ℕ) → IfSome (old.node level j) IsNodeRef → IfSome (kept run old level below j) IsNodeRef
unfolding kept
kept_fits run old level below j fits = by_same (if level == 1 then pointwise (option_eq same_block) (entries_at old.block j) (entries_at (target run old) j)
    else pointwise (option_eq same_node) (entries_at (old.node (level - 1)) j) (entries_at (new_ref run old (level - 1) below) j))
  where
    by_same : (b : Bool) → IfSome (if b then old.node level j else None) IsNodeRef
    by_same true = fits
    by_same false = tt

-- ---- the cases of a new reference

pub new_ref_cases : (P : Option NodeRef → Type 0) (run : Run) (old : Old) (level index : ℕ) (made : Made)
    → (first_at run level ≤ index → index ≤ last_at run level → P (get_or made.refs (index - first_at run level) None))
    → ((index < first_at run level) ⊎ (last_at run level < index) → run.blocks ≤ index * 32 ^ level → P None)
    → ((index < first_at run level) ⊎ (last_at run level < index) → index * 32 ^ level < run.blocks → run.levels < level → index ≡ 0 → P made.raised)
    → ((index < first_at run level) ⊎ (last_at run level < index) → run.levels < level → 1 ≤ index → P None)
    → ((index < first_at run level) ⊎ (last_at run level < index) → index * 32 ^ level < run.blocks → level ≤ run.levels → P (old.node level index))
    → P (new_ref run old level made index)
unfolding new_ref
new_ref_cases P run old level index made touched beyond first later within =
    elim (cases_lt index (first_at run level)) [
      | inl before ↦
          let no : nat_le (first_at run level) index ≡ false = grind (arith, before) in
          rw no (outside (inl before))
      | inr from ↦
          let yes : nat_le (first_at run level) index ≡ true = grind (arith, from) in
          elim (cases_lt (last_at run level) index) [
            | inl after ↦
                let no : nat_le index (last_at run level) ≡ false = grind (arith, after) in
                rw (yes, no) (outside (inr after))
            | inr to ↦
                let also : nat_le index (last_at run level) ≡ true = grind (arith, to) in
                rw (yes, also) (touched from to)
          ]
    ]
  where
    by_index : (out : (index < first_at run level) ⊎ (last_at run level < index)) → index * 32 ^ level < run.blocks → run.levels < level
        → (b : Bool) → (index == 0) ≡ b → P (if b then made.raised else None)
    by_index out inside above true is = first out inside above (eqb-true index 0 is)
    by_index out inside above false is = later out above (grind (arith, is))

    outside : (index < first_at run level) ⊎ (last_at run level < index)
        → P (if nat_le run.blocks (index * 32 ^ level) then None else (if nat_lt run.levels level then (if index == 0 then made.raised else None) else old.node level index))
    outside out =
        elim (cases_lt (index * 32 ^ level) run.blocks) [
          | inr past ↦
              let is : nat_le run.blocks (index * 32 ^ level) ≡ true = grind (arith, past) in
              rw is (beyond out past)
          | inl inside ↦
              let is : nat_le run.blocks (index * 32 ^ level) ≡ false = grind (arith, inside) in
              elim (cases_lt run.levels level) [
                | inl above ↦
                    let high : nat_lt run.levels level ≡ true = grind (arith, above) in
                    rw (is, high) (by_index out inside above (index == 0) refl)
                | inr low ↦
                    let high : nat_lt run.levels level ≡ false = grind (arith, low) in
                    rw (is, high) (within out inside low)
              ]
        ]

pub new_ref_touched : (run : Run) (old : Old) (level index : ℕ) (made : Made) → first_at run level ≤ index → index ≤ last_at run level
    → new_ref run old level made index ≡ get_or made.refs (index - first_at run level) None
unfolding new_ref
new_ref_touched run old level index made from to =
    let low : nat_le (first_at run level) index ≡ true = grind (arith, from) in
    let high : nat_le index (last_at run level) ≡ true = grind (arith, to) in
    rw (low, high) refl

pub levels_some : (blocks : ℕ) → 1 ≤ levels_for blocks
levels_some blocks = grind arith

one_and_holes : (o : Option NodeRef) → IfSome o IsNodeRef → All (λ entry. IfSome entry IsNodeRef) (o ∷ replicate 31 None)
one_and_holes o fits zero d within = fits
one_and_holes o fits (suc k) d within =
    subst (λ (entry : Option NodeRef). IfSome entry IsNodeRef) (sym (get_or-replicate 31 k None d (omega (arith, within)))) tt

-- ---- a run into a tree

module _ (held : List (List ℕ)) (record_size : ℕ) (run : Run) (ready : IsRunOn held record_size run) (some : 0 < run.blocks) where
  abbrev old : Old
  old = old_of held record_size run

  abbrev made : ℕ → Made
  made level = levels_made run old (length held) level

  abbrev final : List (List ℕ)
  final = (made (levels_for run.blocks)).puts

  pub puts_are : puts_of run old (length held) ≡ final
  unfolding puts_of
  puts_are =
      let other : (run.blocks == 0) ≡ false = ne_eqb run.blocks 0 (λ e. omega (arith, e, some)) in
      rw other refl

  room : length held + length final ≤ 2 ^ 64
  room = subst (λ (puts : List (List ℕ)). length held + length puts ≤ 2 ^ 64) puts_are ready.room

  -- a touched node
  touched_made : (low level j : ℕ) → level ≡ suc low → level ≤ levels_for run.blocks → first_at run level ≤ j → j ≤ last_at run level
      → IsMade (length held) final (new_node run old level (made low) j) (kept run old level (made low) j) (get_or (made level).refs (j - first_at run level) None)
  unfolding count_at
  touched_made low level j is most from to =
      let at : first_at run level + (j - first_at run level) ≡ j = omega (arith, from) in
      let enough : suc low ≤ levels_for run.blocks = omega (arith, is, most) in
      let first : first_at run (suc low) ≡ first_at run level = ap (first_at run) (sym is) in
      let last : last_at run (suc low) ≡ last_at run level = ap (last_at run) (sym is) in
      let node = node_is_made run old (length held) low (levels_for run.blocks) (j - first_at run level) enough (omega (arith, from, to, first, last)) in
      let there = subst (λ (l : ℕ). IsMade (length held) final (new_node run old l (made low) (first_at run l + (j - first_at run level)))
      (kept run old l (made low) (first_at run l + (j - first_at run level))) (get_or (made l).refs (j - first_at run level) None)) (sym is) node in
      subst (λ (index : ℕ). IsMade (length held) final (new_node run old level (made low) index) (kept run old level (made low) index) (get_or (made level).refs (j - first_at run level) None)) at there

  touched_fits : (low level j : ℕ) → level ≡ suc low → level ≤ levels_for run.blocks → first_at run level ≤ j → j ≤ last_at run level
      → IfSome (get_or (made level).refs (j - first_at run level) None) IsNodeRef
  touched_fits low level j is most from to =
      made_fits (length held) final (new_node run old level (made low) j) (kept run old level (made low) j) (get_or (made level).refs (j - first_at run level) None)
      (touched_made low level j is most from to) (mac_length run old level (made low) j)
      (kept_fits run old level (made low) j (old_node_fits held record_size run level j ready.bytes ready.top (omega (arith, is)))) room

  raised_fits : (level : ℕ) → level ≤ levels_for run.blocks → IfSome (made level).raised IsNodeRef
  unfolding inner_of
  raised_fits zero most = rw (raised_stays run old (length held) zero (omega arith)) ready.top
  raised_fits (suc level) most = by_high (raised_fits level (omega (arith, most))) (nat_lt run.levels (suc level) && nat_lt 0 (first_at run (suc level))) refl
    where
      by_high : IfSome (made level).raised IsNodeRef → (high : Bool) → (nat_lt run.levels (suc level) && nat_lt 0 (first_at run (suc level))) ≡ high → IfSome (made (suc level)).raised IsNodeRef
      by_high below true is =
          made_fits (length held) final (inner_of (suc level) ((made level).raised ∷ replicate 31 None)) None (made (suc level)).raised
          (raised_is_made run old (length held) level (levels_for run.blocks) most is) (length-mac_of (suc level) _) tt room
      by_high below false is = rw (raised_same run old (length held) level is) below

  ref_fits : (low level index : ℕ) → level ≡ suc low → level ≤ levels_for run.blocks → IfSome (new_ref run old level (made level) index) IsNodeRef
  ref_fits low level index is most =
      new_ref_cases (λ r. IfSome r IsNodeRef) run old level index (made level)
      (λ from to. touched_fits low level index is most from to)
      (λ out past. tt) (λ out inside above first. raised_fits level most) (λ out above later. tt)
      (λ out inside within. old_node_fits held record_size run level index ready.bytes ready.top (omega (arith, is)))

  target_fits : (index : ℕ) → IfSome (target run old index) (IsBlockRef record_size)
  unfolding target
  target_fits index = by_past (nat_le run.blocks index) (nat_le run.from index && nat_lt index (run.from + length run.refs)) refl
    where
      in_run : (nat_le run.from index && nat_lt index (run.from + length run.refs)) ≡ true → IfSome (get_or run.refs (index - run.from) None) (IsBlockRef record_size)
      in_run is =
          let parts = and_both (nat_le run.from index) (nat_lt index (run.from + length run.refs)) is in
          let from : run.from ≤ index = grind (arith, parts.0) in
          let to : index < run.from + length run.refs = grind (arith, parts.1) in
          ready.refs (index - run.from) None (omega (arith, from, to))

      by_past : (past inside : Bool) → (nat_le run.from index && nat_lt index (run.from + length run.refs)) ≡ inside
          → IfSome (if past then None else (if inside then get_or run.refs (index - run.from) None else old.block index)) (IsBlockRef record_size)
      by_past true inside is = tt
      by_past false true is = in_run is
      by_past false false is = old_block_fits held record_size run index ready.bytes ready.levels

  -- ---- the touched nodes

  leaf_old : Passes held record_size run → (j : ℕ) (node : NodeRef) → kept run old 1 (made 0) j ≡ Some node → first_at run 1 ≤ j → j ≤ last_at run 1
      → list_all is_none (entries_at (target run old) j) ≡ false
      → HasEntries block_at (held ++ final) record_size 1 (λ s. get_or (entries_at (target run old) j) s None) node
  unfolding old_of slots
  leaf_old passes j node is from to filled =
      let parts = kept_leaf run old (made 0) j node is in
      let found = touched_found held record_size run 0 j ready.levels some passes from to in
      let same : found.node ≡ Some node = sym (ap or_hole found.found) ∙ parts.1 in
      let here = found.passes node same in
      let bytes : List ℕ = here.0 in
      let there : found_at held record_size run 1 j ≡ Ok (Some node) = found.found ∙ ap (λ (o : Option NodeRef). let r : Result (Option NodeRef) MacError = Ok o in r) same in
      let refs : blocks_of bytes ≡ entries_at (target run old) j =
      map_same (λ slot. block_at (entry_at 1 bytes slot)) (λ slot. old.block (32 * j + slot)) 32 (λ s within.
      sym (ap or_hole (old_blocks held record_size run j s node bytes within ready.levels there here.1))) ∙ parts.0 in
      record {
        bytes = bytes;
        passes = passed-grown held final record_size 1 node bytes here.1;
        entries = λ s within. leaf_slot bytes s within ∙ ap (λ (l : List (Option BlockRef)). get_or l s None) refs;
        filled = sym (block_holes bytes) ∙ ap (list_all is_none) refs ∙ filled;
      }

  inner_old : Passes held record_size run → (low j : ℕ) (node : NodeRef) → kept run old (low + 2) (made (low + 1)) j ≡ Some node
      → first_at run (low + 2) ≤ j → j ≤ last_at run (low + 2)
      → list_all is_none (entries_at (new_ref run old (low + 1) (made (low + 1))) j) ≡ false
      → HasEntries node_at (held ++ final) record_size (low + 2) (λ s. get_or (entries_at (new_ref run old (low + 1) (made (low + 1))) j) s None) node
  unfolding old_of slots
  inner_old passes low j node is from to filled =
      let parts = kept_inner run old low (made (low + 1)) j node is in
      elim (cases_lt run.levels (low + 2)) [
        | inl above ↦
            let none : None ≡ Some node = sym (ap or_hole (found_above held record_size run (low + 2) j above)) ∙ parts.1 in
            absurd (cc)
        | inr within ↦
            let level : low + 1 + 1 ≡ low + 2 = omega arith in
            let found = touched_found held record_size run (low + 1) j (omega (arith, within)) some passes
            (subst (λ (l : ℕ). first_at run l ≤ j) (sym level) from) (subst (λ (l : ℕ). j ≤ last_at run l) (sym level) to) in
            let at : found_at held record_size run (low + 2) j ≡ Ok found.node = ap (λ (l : ℕ). found_at held record_size run l j) (sym level) ∙ found.found in
            let same : found.node ≡ Some node = sym (ap or_hole at) ∙ parts.1 in
            let here = found.passes node same in
            let bytes : List ℕ = here.0 in
            let passed_here : passed held record_size (low + 2) node ≡ Some bytes = ap (λ (l : ℕ). passed held record_size l node) (sym level) ∙ here.1 in
            let there : found_at held record_size run (low + 2) j ≡ Ok (Some node) = at ∙ ap (λ (o : Option NodeRef). let r : Result (Option NodeRef) MacError = Ok o in r) same in
            let refs : refs_of bytes ≡ entries_at (new_ref run old (low + 1) (made (low + 1))) j =
            map_same (λ slot. node_at (entry_at 2 bytes slot)) (λ slot. old.node (low + 1) (32 * j + slot)) 32 (λ s slot.
            ap node_at (sym (entries_above low bytes s))
            ∙ sym (ap or_hole (old_children held record_size run low j s node bytes slot within there passed_here))) ∙ parts.0 in
            record {
              bytes = bytes;
              passes = passed-grown held final record_size (low + 2) node bytes passed_here;
              entries = λ s slot. ap node_at (entries_above low bytes s) ∙ inner_slot bytes s slot ∙ ap (λ (l : List (Option NodeRef)). get_or l s None) refs;
              filled = sym (inner_holes low bytes) ∙ ap (list_all is_none) refs ∙ filled;
            }
      ]

  pub touched_leaf : Passes held record_size run → (j : ℕ) → first_at run 1 ≤ j → j ≤ last_at run 1
      → Entries block_at (held ++ final) record_size 1 (λ s. target run old (32 * j + s)) (new_ref run old 1 (made 1) j)
  touched_leaf passes j from to =
      let level : 1 ≤ levels_for run.blocks = levels_some run.blocks in
      let node = touched_made 0 1 j refl level from to in
      let leaf = subst (λ (n : Node). IsMade (length held) final n (kept run old 1 (made 0) j) (get_or (made 1).refs (j - first_at run 1) None)) (new_leaf run old (made 0) j) node in
      let here = leaf_entries held final record_size (entries_at (target run old) j) (kept run old 1 (made 0) j) (get_or (made 1).refs (j - first_at run 1) None)
      (length-entries (target run old) j) (all_entries (λ o. IfSome o (IsBlockRef record_size)) (target run old) j target_fits) leaf
      (λ node same filled. leaf_old passes j node same from to filled) in
      subst (Entries block_at (held ++ final) record_size 1 (λ s. target run old (32 * j + s))) (sym (new_ref_touched run old 1 j (made 1) from to))
      (entries_same block_at (held ++ final) record_size 1 _ (λ s. target run old (32 * j + s)) (get_or (made 1).refs (j - first_at run 1) None)
      (λ s within. slot_entry (target run old) j s None within) here)

  pub touched_inner : Passes held record_size run → (low j : ℕ) → low + 2 ≤ levels_for run.blocks → first_at run (low + 2) ≤ j → j ≤ last_at run (low + 2)
      → Entries node_at (held ++ final) record_size (low + 2) (λ s. new_ref run old (low + 1) (made (low + 1)) (32 * j + s)) (new_ref run old (low + 2) (made (low + 2)) j)
  touched_inner passes low j most from to =
      let refs : ℕ → Option NodeRef = new_ref run old (low + 1) (made (low + 1)) in
      let node = touched_made (low + 1) (low + 2) j (omega arith) most from to in
      let inner = subst (λ (n : Node). IsMade (length held) final n (kept run old (low + 2) (made (low + 1)) j) (get_or (made (low + 2)).refs (j - first_at run (low + 2)) None))
      (new_inner run old low (made (low + 1)) j) node in
      let here = inner_entries held final record_size low (entries_at refs j) (kept run old (low + 2) (made (low + 1)) j) (get_or (made (low + 2)).refs (j - first_at run (low + 2)) None)
      (length-entries refs j) (all_entries (λ o. IfSome o IsNodeRef) refs j (λ index. ref_fits low (low + 1) index (omega arith) (omega (arith, most)))) inner
      (λ node same filled. inner_old passes low j node same from to filled) in
      subst (Entries node_at (held ++ final) record_size (low + 2) (λ s. refs (32 * j + s))) (sym (new_ref_touched run old (low + 2) j (made (low + 2)) from to))
      (entries_same node_at (held ++ final) record_size (low + 2) _ (λ s. refs (32 * j + s)) (get_or (made (low + 2)).refs (j - first_at run (low + 2)) None)
      (λ s within. slot_entry refs j s None within) here)

  -- the node over all of the old tree
  pub raised_entries : (low : ℕ) → low + 2 ≤ levels_for run.blocks → (nat_lt run.levels (low + 2) && nat_lt 0 (first_at run (low + 2))) ≡ true
      → Entries node_at (held ++ final) record_size (low + 2) (λ s. get_or ((made (low + 1)).raised ∷ replicate 31 None) s None) (made (low + 2)).raised
  raised_entries low most high =
      let level : suc (low + 1) ≡ low + 2 = omega arith in
      let node = raised_is_made run old (length held) (low + 1) (levels_for run.blocks) (omega (arith, most))
      (subst (λ (l : ℕ). (nat_lt run.levels l && nat_lt 0 (first_at run l)) ≡ true) (sym level) high) in
      let here = subst (λ (l : ℕ). IsMade (length held) final (inner_of l ((made (low + 1)).raised ∷ replicate 31 None)) None (made l).raised) level node in
      inner_entries held final record_size low ((made (low + 1)).raised ∷ replicate 31 None) None (made (low + 2)).raised refl
      (one_and_holes (made (low + 1)).raised (raised_fits (low + 1) (omega (arith, most)))) here (λ node same filled. absurd (cc))
