-- Trees in their one spelling.
use Rattle.std.proofs.Common.{◌≡◌, ℕ, suc, ◌+◌, ◌-◌, ◌*◌, ◌^◌, ◌<◌, ◌≤◌, true, false, ◌&&◌, ◌==◌, nat_lt, nat_le, List, [], ◌++◌, length, map, replicate, get_or, refl, sym, ap, subst, ◌∙◌, inl, inr, arith, Option, None, Result, Ok, IsOk, if◌then◌else◌}
use Rattle.std.specs.List.{range_with_len}
use Rattle.std.specs.Option.{option_map}
use Rattle.std.proofs.lemmas.Bool.{cases_lt}
use Rattle.std.proofs.lemmas.List.{get_or_past, length-replicate}
use Rattle.std.proofs.lemmas.List.FromFn.{length-map-range_with_len, get_or-map-range_with_len}
use Rattle.std.proofs.Math.Nat.{div-eq_of_lt}
use Rattle.indirect_macs.specs.declared.refs.BlockRef.{BlockRef}
use Rattle.indirect_macs.specs.declared.refs.NodeRef.{NodeRef}
use Rattle.indirect_macs.specs.declared.refs.ObjTree.{ObjTree}
use Rattle.indirect_macs.specs.declared.refs.MacError.{MacError}
use Rattle.indirect_macs.specs.Fold.{fold_mac}
use Rattle.indirect_macs.specs.Trees.{HoldsBytes, HasNoEmptyNodes, IsRunOn, IsTree, LosesAll, tree_before, tree_after, held_after, with_run}
use Rattle.indirect_macs.specs.Runs.{Run, Old, levels_for, walk_to, old_of, target, new_ref, levels_made, tree_of, Passes}
use Rattle.indirect_macs.proofs.Growth.{walk-grown}
use Rattle.indirect_macs.proofs.FoldOfTree.{padded}
use Rattle.indirect_macs.proofs.TreeFold.{walk_none, first_place, top_is_fold}
use Rattle.indirect_macs.proofs.RunEntries.{levels_some, puts_are}
use Rattle.indirect_macs.proofs.RunLeads.{levels_room, walk_inside, walk_beyond, tree_leads, top_is_new, IsCut}
use Rattle.indirect_macs.proofs.RunFilled.{Filled, Walks, filled_none, filled_grown, new_filled}

-- ---- a tree's nodes, under its first place

pub filled_of : (held : List (List ℕ)) (below : ℕ) (top : Option NodeRef) → HasNoEmptyNodes held below top → Filled held below 0 top
unfolding Filled
filled_of held below top filled index depth place node at is there = filled index depth place node (first_place (below + 1) index at) is there

filled_from : (held : List (List ℕ)) (below : ℕ) (top : Option NodeRef) → Filled held below 0 top → HasNoEmptyNodes held below top
unfolding Filled
filled_from held below top filled index depth place node small is there = filled index depth place node (div-eq_of_lt small) is there

least_levels : (blocks lower : ℕ) → levels_for blocks - 1 ≡ suc lower → 32 ^ (levels_for blocks - 1) < blocks
least_levels blocks lower =
    elim (cases_lt 32 blocks) [
      | inr one ↦ let is : nat_le blocks 32 ≡ true = grind (arith, one) in rw is (λ e. absurd (omega (arith, e)))
      | inl over ↦
          let no : nat_le blocks 32 ≡ false = grind (arith, over) in
          elim (cases_lt 1024 blocks) [
            | inr two ↦ let is : nat_le blocks 1024 ≡ true = grind (arith, two) in rw (no, is) (λ e. omega (arith, over))
            | inl over_two ↦
                let no_two : nat_le blocks 1024 ≡ false = grind (arith, over_two) in
                elim (cases_lt 32768 blocks) [
                  | inr three ↦ let is : nat_le blocks 32768 ≡ true = grind (arith, three) in rw (no, no_two, is) (λ e. omega (arith, over_two))
                  | inl over_three ↦
                      let no_three : nat_le blocks 32768 ≡ false = grind (arith, over_three) in
                      elim (cases_lt 1048576 blocks) [
                        | inr four ↦ let is : nat_le blocks 1048576 ≡ true = grind (arith, four) in rw (no, no_two, no_three, is) (λ e. omega (arith, over_three))
                        | inl over_four ↦
                            let no_four : nat_le blocks 1048576 ≡ false = grind (arith, over_four) in
                            rw (no, no_two, no_three, no_four) (λ e. omega (arith, over_four))
                      ]
                ]
          ]
    ]

levels_least : (tree_levels : ℕ) → 1 ≤ tree_levels → tree_levels - 1 + 1 ≡ tree_levels
levels_least levels some = omega (arith, some)

-- ---- a tree and a longer shelf

pub tree_grown : (held more : List (List ℕ)) (record_size : ℕ) (tree : ObjTree) (refs : List (Option BlockRef)) → IsTree held record_size tree refs
    → IsTree (held ++ more) record_size tree refs
unfolding Walks
tree_grown held more record_size tree refs is =
    record {
      levels = is.levels;
      room = is.room;
      leads = λ index small. walk-grown held more record_size index (tree.levels - 1) tree.top (get_or refs index None) (is.leads index small);
      filled = filled_from (held ++ more) (tree.levels - 1) tree.top
          (filled_grown held more record_size (tree.levels - 1) 0 tree.top
          (λ index at. (get_or refs index None, is.leads index (first_place (tree.levels - 1 + 1) index at)))
          (filled_of held (tree.levels - 1) tree.top is.filled));
    }

-- a tree of holes
pub hole_tree : (held : List (List ℕ)) (record_size blocks : ℕ) → blocks ≤ 8388608
    → IsTree held record_size (record { levels = levels_for blocks; top = None }) (replicate blocks None)
hole_tree held record_size blocks few =
    record {
      levels = ap levels_for (sym (length-replicate {A = Option BlockRef} blocks None));
      room = omega (arith, length-replicate {A = Option BlockRef} blocks None, levels_room blocks few);
      leads = λ index small. walk_none held record_size index (levels_for blocks - 1)
          ∙ ap (λ (o : Option BlockRef). let r : Result (Option BlockRef) MacError = Ok o in r) (sym (padded [] blocks index None));
      filled = filled_from held (levels_for blocks - 1) None (filled_none held (levels_for blocks - 1) 0);
    }

-- ---- a run into a tree

pub tree_known : (held : List (List ℕ)) (record_size : ℕ) (run : Run) (refs : List (Option BlockRef)) (index : ℕ) → 1 ≤ run.levels
    → IsTree held record_size (tree_before run) refs → walk_to held record_size run index ≡ Ok (get_or refs index None)
tree_known held record_size run refs index some is =
    elim (cases_lt index (32 ^ run.levels)) [
      | inl small ↦
          let levels : run.levels - 1 + 1 ≡ run.levels = levels_least run.levels some in
          walk_inside held record_size run index small ∙ is.leads index (subst (λ (l : ℕ). index < 32 ^ l) (sym levels) small)
      | inr past ↦
          walk_beyond held record_size run index past
          ∙ ap (λ (o : Option BlockRef). let r : Result (Option BlockRef) MacError = Ok o in r) (sym (get_or_past refs index None (omega (arith, past, is.room))))
    ]

pub tree_passes : (held : List (List ℕ)) (record_size : ℕ) (run : Run) (refs : List (Option BlockRef)) → 1 ≤ run.levels
    → IsTree held record_size (tree_before run) refs → Passes held record_size run
tree_passes held record_size run refs some is =
    record { each = λ j touched. subst (λ (r : Result (Option BlockRef) MacError). IsOk r) (sym (tree_known held record_size run refs (32 * j) some is)) refl }

pub new_blocks : (held : List (List ℕ)) (record_size : ℕ) (run : Run) (refs : List (Option BlockRef)) (index : ℕ) → 1 ≤ run.levels
    → IsTree held record_size (tree_before run) refs → target run (old_of held record_size run) index ≡ get_or (with_run run refs) index None
unfolding target with_run old_of
new_blocks held record_size run refs index some is =
    let F : ℕ → Option BlockRef = λ i. if nat_le run.from i && nat_lt i (run.from + length run.refs) then get_or run.refs (i - run.from) None else get_or refs i None in
    elim (cases_lt index run.blocks) [
      | inl within ↦
          let inside : nat_le run.blocks index ≡ false = grind (arith, within) in
          rw (inside, tree_known held record_size run refs index some is)
          (sym (get_or-map-range_with_len F 0 run.blocks index index None within (omega arith)))
      | inr past ↦
          let beyond : nat_le run.blocks index ≡ true = grind (arith, past) in
          rw beyond (sym (get_or_past (map F (range_with_len 0 run.blocks)) index None (omega (arith, past, length-map-range_with_len F 0 run.blocks))))
    ]

pub length-with_run : (run : Run) (refs : List (Option BlockRef)) → length (with_run run refs) ≡ run.blocks
unfolding with_run
length-with_run run refs = length-map-range_with_len _ 0 run.blocks

cut_all : (held : List (List ℕ)) (record_size : ℕ) (run : Run) (refs : List (Option BlockRef)) (index : ℕ) → 1 ≤ run.levels
    → IsTree held record_size (tree_before run) refs → LosesAll run refs → IsCut held record_size run index
cut_all held record_size run refs index some is (inl last) = inr (inl last)
cut_all held record_size run refs index some is (inr within) =
    elim (cases_lt index run.blocks) [
      | inl inside ↦ inl inside
      | inr past ↦
          inr (inr (tree_known held record_size run refs index some is
          ∙ ap (λ (o : Option BlockRef). let r : Result (Option BlockRef) MacError = Ok o in r) (get_or_past refs index None (omega (arith, past, within)))))
    ]

-- the tree with blocks
some_tree : (held : List (List ℕ)) (record_size : ℕ) (run : Run) (refs : List (Option BlockRef)) → IsRunOn held record_size run → 0 < run.blocks
    → IsTree held record_size (tree_before run) refs → LosesAll run refs
    → IsTree (held_after held record_size run) record_size (record { levels = levels_for run.blocks; top = (tree_after held record_size run).top }) (with_run run refs)
some_tree held record_size run refs ready some is all =
    let levels : levels_for run.blocks - 1 + 1 ≡ levels_for run.blocks = levels_least (levels_for run.blocks) (levels_some run.blocks) in
    let passes = tree_passes held record_size run refs ready.levels is in
    let old : Old = old_of held record_size run in
    let nodes = new_filled held record_size run ready some passes (λ index. (get_or refs index None, tree_known held record_size run refs index ready.levels is))
    (filled_of held (run.levels - 1) run.top is.filled) (levels_for run.blocks - 1) 0 (omega (arith, levels)) in
    let top = subst (λ (l : ℕ). Filled (held ++ (levels_made run old (length held) (levels_for run.blocks)).puts) (levels_for run.blocks - 1) 0
    (new_ref run old l (levels_made run old (length held) l) 0)) levels nodes in
    let put = subst (λ (puts : List (List ℕ)). Filled (held ++ puts) (levels_for run.blocks - 1) 0
    (new_ref run old (levels_for run.blocks) (levels_made run old (length held) (levels_for run.blocks)) 0)) (sym (puts_are held record_size run ready some)) top in
    let there = subst (Filled (held_after held record_size run) (levels_for run.blocks - 1) 0) (sym (top_is_new held record_size run ready some)) put in
    record {
      levels = ap levels_for (sym (length-with_run run refs));
      room = omega (arith, length-with_run run refs, levels_room run.blocks ready.few);
      leads = λ index small.
          tree_leads held record_size run index ready passes some (subst (λ (l : ℕ). index < 32 ^ l) levels small)
          (inr (inl (get_or refs index None, tree_known held record_size run refs index ready.levels is))) (cut_all held record_size run refs index ready.levels is all)
          ∙ ap (λ (o : Option BlockRef). let r : Result (Option BlockRef) MacError = Ok o in r) (new_blocks held record_size run refs index ready.levels is);
      filled = filled_from (held_after held record_size run) (levels_for run.blocks - 1) (tree_after held record_size run).top there;
    }

-- and without
no_blocks : (run : Run) (refs : List (Option BlockRef)) → run.blocks ≡ 0 → with_run run refs ≡ replicate run.blocks None
unfolding with_run
no_blocks run refs none = rw none refl

no_tree : (held : List (List ℕ)) (record_size : ℕ) (run : Run) (refs : List (Option BlockRef)) → run.blocks ≡ 0
    → IsTree (held_after held record_size run) record_size (record { levels = levels_for run.blocks; top = (tree_after held record_size run).top }) (with_run run refs)
unfolding tree_of
no_tree held record_size run refs none =
    let bool : (run.blocks == 0) ≡ true = rw none refl in
    let top : (tree_after held record_size run).top ≡ None = rw bool refl in
    let same : with_run run refs ≡ replicate run.blocks None = no_blocks run refs none in
    subst (λ (r : Option NodeRef). IsTree (held_after held record_size run) record_size (record { levels = levels_for run.blocks; top = r }) (with_run run refs)) (sym top)
    (subst (IsTree (held_after held record_size run) record_size (record { levels = levels_for run.blocks; top = None })) (sym same)
    (hole_tree (held_after held record_size run) record_size run.blocks (omega (arith, none))))

pub run_tree : (held : List (List ℕ)) (record_size : ℕ) (run : Run) (refs : List (Option BlockRef)) → IsRunOn held record_size run
    → IsTree held record_size (tree_before run) refs → LosesAll run refs
    → IsTree (held_after held record_size run) record_size (tree_after held record_size run) (with_run run refs)
unfolding tree_of
run_tree held record_size run refs ready is all =
    elim (cases_lt 0 run.blocks) [
      | inl some ↦ some_tree held record_size run refs ready some is all
      | inr none ↦ no_tree held record_size run refs (omega (arith, none))
    ]

-- ---- the fold

pub tree_fold : (held : List (List ℕ)) (record_size : ℕ) (tree : ObjTree) (refs : List (Option BlockRef)) → HoldsBytes held
    → IsTree held record_size tree refs → option_map (λ node. node.mac) tree.top ≡ fold_mac refs
tree_fold held record_size tree refs fair is =
    let some : 1 ≤ tree.levels = omega (arith, is.levels, levels_some (length refs)) in
    let levels : tree.levels - 1 + 1 ≡ tree.levels = levels_least tree.levels some in
    top_is_fold held record_size (tree.levels - 1) tree.top refs fair (subst (λ (l : ℕ). length refs ≤ 32 ^ l) (sym levels) is.room)
    (λ lower below.
    subst (λ (l : ℕ). 32 ^ (l - 1) < length refs) (sym is.levels) (least_levels (length refs) lower (ap (λ (l : ℕ). l - 1) (sym is.levels) ∙ below)))
    is.leads is.filled
