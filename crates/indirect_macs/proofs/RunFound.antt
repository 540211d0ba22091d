-- The walk to a block goes through each place over it.
use Rattle.std.proofs.Common.{◌≡◌, ℕ, zero, suc, ◌+◌, ◌-◌, ◌*◌, ◌/◌, ◌%◌, ◌^◌, ◌<◌, ◌≤◌, true, false, ◌==◌, nat_lt, List, pow-add, refl, sym, ap, ◌∙◌, inl, inr, arith, Option, Some, None, Result, Ok, Err, if◌then◌else◌}
use Rattle.std.specs.Option.{option_map_or}
use Rattle.std.proofs.lemmas.Bool.{cases_lt, ne_eqb}
use Rattle.std.proofs.Math.Nat.{pow-suc, div-eq_of_lt}
use Rattle.std.proofs.lemmas.Nat.{le-div}
use Rattle.indirect_macs.specs.declared.refs.BlockRef.{BlockRef}
use Rattle.indirect_macs.specs.declared.refs.NodeRef.{NodeRef}
use Rattle.indirect_macs.specs.declared.refs.MacError.{MacError}
use Rattle.indirect_macs.specs.declared.refs.MacError.TheVariants.{MacFailed}
use Rattle.indirect_macs.specs.Entries.{node_at}
use Rattle.indirect_macs.specs.Nodes.{entry_at}
use Rattle.indirect_macs.specs.Walk.{place_of, slot_of, passed, walk, next_node, goes_on}
use Rattle.indirect_macs.specs.Runs.{Run, child_of, found_below, found_at, walk_to}
use Rattle.indirect_macs.proofs.FoldOfTree.{power_least}
use Rattle.indirect_macs.proofs.TreeFold.{child_place, walk_none}

pub goes_assoc : {X Y Z : Type 0} (f : Y → Result Z MacError) (g : X → Result Y MacError) (x : Result X MacError)
    → goes_on f (λ failed. Err failed) (goes_on g (λ failed. Err failed) x) ≡ goes_on (λ v. goes_on f (λ failed. Err failed) (g v)) (λ failed. Err failed) x
goes_assoc f g (Ok v) = refl
goes_assoc f g (Err failed) = refl

-- one step of the walk
step_to : (held : List (List ℕ)) (record_size index below : ℕ) (r : Option NodeRef)
    → walk held record_size index (suc below) r
    ≡ goes_on (λ next. walk held record_size index below next) (λ failed. Err failed) (child_of held record_size (below + 2) (place_of (below + 1) index) r)
unfolding walk child_of next_node
step_to held record_size index below None = sym (walk_none held record_size index below)
step_to held record_size index below (Some node) =
    let level : below + 2 - 1 ≡ below + 1 = omega arith in
    let slot : slot_of (below + 2) index ≡ place_of (below + 1) index % 32 = ap (λ (l : ℕ). place_of l index % 32) level in
    let next : below + 1 + 1 ≡ below + 2 = omega arith in
    let place : place_of (below + 2) index ≡ place_of (below + 1) index / 32 = ap (λ (l : ℕ). place_of l index) (sym next) ∙ sym (child_place (below + 1) index) in
    ap (λ (s : ℕ). goes_on (λ next. walk held record_size index below next) (λ failed. Err failed)
    (option_map_or (λ bytes. Ok (node_at (entry_at (below + 2) bytes s))) (passed held record_size (below + 2) node) (Err (MacFailed (below + 2) (place_of (below + 2) index))))) slot
    ∙ ap (λ (p : ℕ). goes_on (λ next. walk held record_size index below next) (λ failed. Err failed)
    (option_map_or (λ bytes. Ok (node_at (entry_at (below + 2) bytes (place_of (below + 1) index % 32)))) (passed held record_size (below + 2) node) (Err (MacFailed (below + 2) p)))) place

-- the walk goes on from what is found at a place
by_place : (held : List (List ℕ)) (record_size index low depth below levels : ℕ) (top : Option NodeRef) → below ≡ low + depth → levels ≡ low + depth + 1
    → index < 32 ^ levels
    → walk held record_size index below top
    ≡ goes_on (λ next. walk held record_size index low next) (λ failed. Err failed) (found_below held record_size levels top depth (place_of (low + 1) index))
unfolding found_below
by_place held record_size index low zero below levels top is whole small =
    let same : below ≡ low = omega (arith, is) in
    let all : levels ≡ low + 1 = omega (arith, whole) in
    let first : place_of (low + 1) index ≡ 0 = div-eq_of_lt (rw all at small) in
    rw (same, first) refl
by_place held record_size index low (suc depth) below levels top is whole small =
    let above : levels - depth ≡ low + 2 = omega (arith, whole) in
    let next : low + 1 + 1 ≡ suc low + 1 = omega arith in
    let parent : place_of (low + 1) index / 32 ≡ place_of (suc low + 1) index = child_place (low + 1) index ∙ ap (λ (l : ℕ). place_of l index) next in
    by_place held record_size index (suc low) depth below levels top (omega (arith, is)) (omega (arith, whole)) small
    ∙ ap (λ (f : Option NodeRef → Result (Option BlockRef) MacError). goes_on f (λ failed. Err failed) (found_below held record_size levels top depth (place_of (suc low + 1) index)))
    (λ i r. step_to held record_size index low r i)
    ∙ sym (goes_assoc (λ next. walk held record_size index low next) (λ r. child_of held record_size (low + 2) (place_of (low + 1) index) r)
    (found_below held record_size levels top depth (place_of (suc low + 1) index)))
    ∙ ap (λ (l : ℕ). goes_on (λ next. walk held record_size index low next) (λ failed. Err failed)
    (goes_on (λ r. child_of held record_size l (place_of (low + 1) index) r) (λ failed. Err failed) (found_below held record_size levels top depth (place_of (suc low + 1) index)))) (sym above)
    ∙ ap (λ (p : ℕ). goes_on (λ next. walk held record_size index low next) (λ failed. Err failed)
    (goes_on (λ r. child_of held record_size (levels - depth) (place_of (low + 1) index) r) (λ failed. Err failed) (found_below held record_size levels top depth p))) (sym parent)

-- beyond the tree nothing is found
found_beyond : (held : List (List ℕ)) (record_size levels depth index : ℕ) (top : Option NodeRef) → 32 ^ depth ≤ index
    → found_below held record_size levels top depth index ≡ Ok None
unfolding found_below child_of
found_beyond held record_size levels zero index top past =
    let other : (index == 0) ≡ false = ne_eqb index 0 (λ e. omega (arith, e, past)) in
    rw other refl
found_beyond held record_size levels (suc depth) index top past =
    let above : 32 ^ depth ≤ index / 32 = le-div (32 ^ depth) index 32 (omega arith) (omega (arith, past, pow-suc 32 depth)) in
    rw (found_beyond held record_size levels depth (index / 32) top above) refl

pub found_within : (held : List (List ℕ)) (record_size : ℕ) (run : Run) (level index : ℕ) → level ≤ run.levels
    → found_at held record_size run level index ≡ found_below held record_size run.levels run.top (run.levels - level) index
unfolding found_at
found_within held record_size run level index low =
    let other : nat_lt run.levels level ≡ false = grind (arith, low) in
    rw other refl

pub found_above : (held : List (List ℕ)) (record_size : ℕ) (run : Run) (level index : ℕ) → run.levels < level
    → found_at held record_size run level index ≡ Ok None
unfolding found_at
found_above held record_size run level index high =
    let is : nat_lt run.levels level ≡ true = grind (arith, high) in
    rw is refl

pub found_top : (held : List (List ℕ)) (record_size : ℕ) (run : Run) (index : ℕ)
    → found_at held record_size run run.levels index ≡ Ok (if index == 0 then run.top else None)
unfolding found_below
found_top held record_size run index =
    let none : run.levels - run.levels ≡ zero = omega arith in
    found_within held record_size run run.levels index (omega arith)
    ∙ ap (λ (d : ℕ). found_below held record_size run.levels run.top d index) none

pub found_child : (held : List (List ℕ)) (record_size : ℕ) (run : Run) (level index : ℕ) → level + 1 ≤ run.levels
    → found_at held record_size run level index
    ≡ goes_on (λ above. child_of held record_size (level + 1) index above) (λ failed. Err failed) (found_at held record_size run (level + 1) (index / 32))
unfolding found_below
found_child held record_size run level index low =
    let depth : run.levels - level ≡ suc (run.levels - (level + 1)) = omega (arith, low) in
    let own : run.levels - (run.levels - (level + 1)) ≡ level + 1 = omega (arith, low) in
    found_within held record_size run level index (omega (arith, low))
    ∙ ap (λ (d : ℕ). found_below held record_size run.levels run.top d index) depth
    ∙ ap (λ (l : ℕ). goes_on (λ above. child_of held record_size l index above) (λ failed. Err failed)
    (found_below held record_size run.levels run.top (run.levels - (level + 1)) (index / 32))) own
    ∙ ap (λ (found : Result (Option NodeRef) MacError). goes_on (λ above. child_of held record_size (level + 1) index above) (λ failed. Err failed) found)
    (sym (found_within held record_size run (level + 1) (index / 32) low))

-- the walk to a block of the old tree, from the place of a level over it
pub walk_by_place : (held : List (List ℕ)) (record_size : ℕ) (run : Run) (low index : ℕ) → low + 1 ≤ run.levels
    → walk_to held record_size run index
    ≡ goes_on (λ next. walk held record_size index low next) (λ failed. Err failed) (found_at held record_size run (low + 1) (place_of (low + 1) index))
unfolding walk_to
walk_by_place held record_size run low index enough =
    elim (cases_lt index (32 ^ run.levels)) [
      | inl small ↦
          let inside : nat_lt index (32 ^ run.levels) ≡ true = grind (arith, small) in
          let depth : ℕ = run.levels - (low + 1) in
          rw (inside, found_within held record_size run (low + 1) (place_of (low + 1) index) enough)
          (by_place held record_size index low depth (run.levels - 1) run.levels run.top (omega (arith, enough)) (omega (arith, enough)) small)
      | inr past ↦
          let outside : nat_lt index (32 ^ run.levels) ≡ false = grind (arith, past) in
          let split : run.levels - (low + 1) + (low + 1) ≡ run.levels = omega (arith, enough) in
          let power : 32 ^ (run.levels - (low + 1)) * 32 ^ (low + 1) ≡ 32 ^ run.levels =
          sym (pow-add 32 (run.levels - (low + 1)) (low + 1)) ∙ ap (λ (k : ℕ). 32 ^ k) split in
          let beyond : 32 ^ (run.levels - (low + 1)) ≤ place_of (low + 1) index =
          le-div (32 ^ (run.levels - (low + 1))) index (32 ^ (low + 1)) (omega (arith, power_least (low + 1))) (omega (arith, power, past)) in
          rw (
            outside,
            found_within held record_size run (low + 1) (place_of (low + 1) index) enough,
            found_beyond held record_size run.levels (run.levels - (low + 1)) (place_of (low + 1) index) run.top beyond,
          )
          (sym (walk_none held record_size index low))
    ]
