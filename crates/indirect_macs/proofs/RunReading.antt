-- What the reading of a touched node gives of the old tree, over plain variables.
use Rattle.std.proofs.Common.{◌≡◌, ℕ, zero, suc, ◌+◌, ◌-◌, ◌*◌, ◌/◌, ◌%◌, ◌^◌, ◌<◌, ◌≤◌, Bool, true, false, ◌==◌, List, ◌∷◌, ◌++◌, length, map, replicate, get_or, refl, sym, ap, subst, ◌∙◌, inl, inr, arith, Option, Some, None, Result, Ok, Err, if◌then◌else◌}
use Rattle.std.specs.Prelude.{IfSome, IfOk, IfErr, ⊤}
use Rattle.std.specs.Option.{option_map_or}
use Rattle.std.proofs.lemmas.Bool.{cases_lt, ne_eqb}
use Rattle.std.proofs.lemmas.List.{length-replicate}
use Rattle.std.proofs.lemmas.List.FromFn.{fill_by_all}
use Rattle.shelf_store.specs.ShelfState.{ShelfState, after_calls}
use Rattle.indirect_macs.specs.declared.refs.BlockRef.{BlockRef}
use Rattle.indirect_macs.specs.declared.refs.NodeRef.{NodeRef}
use Rattle.indirect_macs.specs.declared.refs.MacError.{MacError}
use Rattle.indirect_macs.specs.declared.refs.MacError.TheVariants.{MacFailed, ShelfFault, Full, NoMemory}
use Rattle.indirect_macs.specs.Entries.{node_at, block_at}
use Rattle.indirect_macs.specs.Nodes.{slots, entry_at}
use Rattle.indirect_macs.specs.Walk.{passed, goes_on, walk, next_block, fails_at, tested}
use Rattle.indirect_macs.specs.Calls.{Gave, Answers, IsOver, fails_within, is_fault}
use Rattle.indirect_macs.specs.Runs.{Run, first_at, old_of, child_of, found_below, found_at, walk_to, entries_at, or_hole}
use Rattle.indirect_macs.specs.Steps.{Reads, IsRange, IsLeaf, StopsAt, IsLeafAdded, IsStop, spread, AllWalk, IsMacFailed, failure_of}
use Rattle.indirect_macs.proofs.Walking.{after_more, fails_more, held_kept}
use Rattle.indirect_macs.proofs.Reading.{both}
use Rattle.indirect_macs.proofs.Spans.{more_entries, one_of_range}
use Rattle.indirect_macs.proofs.TreeFold.{map_same, lowest_slot, lowest_place, walk_last, walk_none}
use Rattle.indirect_macs.proofs.RunFound.{found_child, found_within, found_above, found_top, walk_by_place}

-- ---- calls that read, one after another

pub reads_none : (most : ℕ) (s : ShelfState) → Reads most false s s
reads_none most s = record { calls = 0; bound = omega arith; after = refl; faults = refl }

pub reads_more : (n m : ℕ) (fault : Bool) (s t u : ShelfState) → Reads n false s t → Reads m fault t u → Reads (n + m) fault s u
reads_more n m fault s t u first rest =
    record {
      calls = first.calls + rest.calls;
      bound = omega (arith, first.bound, rest.bound);
      after = rest.after ∙ ap (after_calls rest.calls) first.after ∙ sym (after_more first.calls rest.calls s);
      faults =
          rest.faults ∙ ap (λ (state : ShelfState). fails_within rest.calls state.armed) first.after
          ∙ sym (fails_more first.calls rest.calls s (sym first.faults));
    }

pub reads_wider : (n m : ℕ) (fault : Bool) (s t : ShelfState) → n ≤ m → Reads n fault s t → Reads m fault s t
reads_wider n m fault s t wide first = record { calls = first.calls; bound = omega (arith, wide, first.bound); after = first.after; faults = first.faults }

-- ---- the entries of one node

pub for_each_held : (held : Option (List (List ℕ))) {P : List (List ℕ) → Type 0} → ((h : List (List ℕ)) → P h) → IfSome held P
for_each_held None each = tt
for_each_held (Some h) each = each h

pub if_ok : {X E : Type 0} {P Q : X → Type 0} (r : Result X E) → ((x : X) → P x → Q x) → IfOk r P → IfOk r Q
if_ok (Ok x) f p = f x p
if_ok (Err e) f p = p

get_or-same : {X : Type 0} (n : ℕ) (x : X) (k : ℕ) → k < n → get_or (replicate n x) k x ≡ x
get_or-same zero x k within = absurd (omega (arith, within))
get_or-same (suc n) x zero within = refl
get_or-same (suc n) x (suc k) within = get_or-same n x k (omega (arith, within))

same_all : {X : Type 0} (x : X) (g : ℕ → X) → ((s : ℕ) → s < 32 → x ≡ g s) → replicate 32 x ≡ map g slots
unfolding slots
same_all x g each =
    fill_by_all g (replicate 32 x) 32 x (length-replicate 32 x) (λ k within. get_or-same 32 x k within ∙ each k within)

pub child_read : (held : List (List ℕ)) (record_size level index : ℕ) (node : NodeRef) (bytes : List ℕ) → passed held record_size level node ≡ Some bytes
    → map (λ slot. Ok (node_at (entry_at level bytes slot))) slots ≡ entries_at (λ i. child_of held record_size level i (Some node)) index
unfolding slots child_of
child_read held record_size level index node bytes passes =
    map_same (λ slot. Ok (node_at (entry_at level bytes slot))) (λ slot. child_of held record_size level (32 * index + slot) (Some node)) 32 (λ s within.
    let slot : (32 * index + s) % 32 ≡ s = omega (arith, within) in
    rw (passes, slot) refl)

tested_failed : (fails : Bool) (found : Option (List ℕ)) (at stop : MacError) → IsMacFailed stop
    → (let given : Result (Unit {0}) MacError = Err stop in given ≡ (if fails then Err ShelfFault else option_map_or (λ _. Ok tt) found (Err at)))
    → (found ≡ None) × (stop ≡ at)
tested_failed true found at stop failed same = absurd (let e : stop ≡ ShelfFault = cc in subst IsMacFailed e failed)
tested_failed false None at stop failed same = (refl, cc)
tested_failed false (Some bytes) at stop failed same = absurd (cc)

pub child_failed : (held : List (List ℕ)) (record_size level index place calls : ℕ) (node : NodeRef) (stop : MacError) (s t : ShelfState) → IsMacFailed stop
    → place / 32 ^ level ≡ index → Gave {X = Unit {0}} calls (tested held record_size place level node) (Err stop) s t
    → (let each : Result (Option NodeRef) MacError = Err stop in replicate 32 each) ≡ entries_at (λ i. child_of held record_size level i (Some node)) index
unfolding child_of
child_failed held record_size level index place calls node stop s t failed over gave =
    let is = tested_failed (fails_within calls s.armed) (passed held record_size level node) (fails_at level place) stop failed gave.given in
    let each : Result (Option NodeRef) MacError = Err stop in
    same_all each (λ slot. child_of held record_size level (32 * index + slot) (Some node)) (λ k within.
    let slot : (32 * index + k) / 32 ≡ index = omega (arith, within) in
    rw (is.0, slot) (ap (λ (e : MacError). Err e) (is.1 ∙ ap (MacFailed level) over)))

pub spread_reads : {X : Type 0} (levels place : ℕ) (stop : MacError) (s t : ShelfState) → Answers {X = X} levels 1 place (Err stop) s t → Reads 1 (is_fault (spread stop)) s t
spread_reads levels place (MacFailed level at) s t is = record { calls = is.calls; bound = is.bound; after = is.after; faults = is.fault }
spread_reads levels place ShelfFault s t is = record { calls = is.calls; bound = is.bound; after = is.after; faults = is.fault }
spread_reads levels place Full s t is = record { calls = is.calls; bound = is.bound; after = is.after; faults = is.fault }
spread_reads levels place NoMemory s t is = record { calls = is.calls; bound = is.bound; after = is.after; faults = is.fault }

pub spread_stops : {X : Type 0} (levels place : ℕ) (stop : MacError) (s t : ShelfState) → Answers {X = X} levels 1 place (Err stop) s t → IfErr (spread stop) IsStop
spread_stops levels place (MacFailed level at) s t is = tt
spread_stops levels place ShelfFault s t is = tt
spread_stops levels place Full s t is = absurd is.failure
spread_stops levels place NoMemory s t is = tt

pub spread_told : (held : List (List ℕ)) (record_size level index place calls : ℕ) (node : NodeRef) (stop : MacError) (s t : ShelfState)
    → place / 32 ^ level ≡ index → Gave {X = Unit {0}} calls (tested held record_size place level node) (Err stop) s t
    → IfOk (spread stop) (λ found. found ≡ entries_at (λ i. child_of held record_size level i (Some node)) index)
spread_told held record_size level index place calls node (MacFailed l at) s t over gave = child_failed held record_size level index place calls node (MacFailed l at) s t tt over gave
spread_told held record_size level index place calls node ShelfFault s t over gave = tt
spread_told held record_size level index place calls node Full s t over gave = tt
spread_told held record_size level index place calls node NoMemory s t over gave = tt

-- ---- from a node to its children

pub below_found : (held : List (List ℕ)) (record_size : ℕ) (run : Run) (level index : ℕ) (found : Result (Option NodeRef) MacError) → 1 ≤ level → level ≤ run.levels
    → found ≡ found_at held record_size run level index
    → entries_at (λ i. goes_on (λ above. child_of held record_size level i above) (λ failed. Err failed) found) index ≡ entries_at (found_at held record_size run (level - 1)) index
unfolding slots
below_found held record_size run level index found above low is =
    map_same (λ slot. goes_on (λ above. child_of held record_size level (32 * index + slot) above) (λ failed. Err failed) found)
    (λ slot. found_at held record_size run (level - 1) (32 * index + slot)) 32 (λ s within.
    let parent : (32 * index + s) / 32 ≡ index = omega (arith, within) in
    let own : level - 1 + 1 ≡ level = omega (arith, above) in
    sym (found_child held record_size run (level - 1) (32 * index + s) (omega (arith, above, low))
    ∙ ap (λ (l : ℕ). goes_on (λ r. child_of held record_size l (32 * index + s) r) (λ failed. Err failed) (found_at held record_size run l ((32 * index + s) / 32))) own
    ∙ ap (λ (p : ℕ). goes_on (λ r. child_of held record_size level (32 * index + s) r) (λ failed. Err failed) (found_at held record_size run level p)) parent
    ∙ ap (λ (f : Result (Option NodeRef) MacError). goes_on (λ r. child_of held record_size level (32 * index + s) r) (λ failed. Err failed) f) (sym is)))

pub below_some : (held : List (List ℕ)) (record_size : ℕ) (run : Run) (level index : ℕ) (node : NodeRef) (xs : List (Result (Option NodeRef) MacError)) → 1 ≤ level → level ≤ run.levels
    → Ok (Some node) ≡ found_at held record_size run level index → xs ≡ entries_at (λ i. child_of held record_size level i (Some node)) index
    → xs ≡ entries_at (found_at held record_size run (level - 1)) index
below_some held record_size run level index node xs above low is same = same ∙ below_found held record_size run level index (Ok (Some node)) above low is

pub below_none : (held : List (List ℕ)) (record_size : ℕ) (run : Run) (level index : ℕ) → 1 ≤ level → level ≤ run.levels
    → Ok None ≡ found_at held record_size run level index
    → (let none : Result (Option NodeRef) MacError = Ok None in replicate 32 none) ≡ entries_at (found_at held record_size run (level - 1)) index
unfolding child_of
below_none held record_size run level index above low is =
    let none : Result (Option NodeRef) MacError = Ok None in
    same_all none (λ slot. goes_on (λ r. child_of held record_size level (32 * index + slot) r) (λ failed. Err failed) none) (λ k within. refl)
    ∙ below_found held record_size run level index none above low is

pub below_failed : (held : List (List ℕ)) (record_size : ℕ) (run : Run) (level index : ℕ) (stop : MacError) → 1 ≤ level → level ≤ run.levels
    → Err stop ≡ found_at held record_size run level index
    → (let each : Result (Option NodeRef) MacError = Err stop in replicate 32 each) ≡ entries_at (found_at held record_size run (level - 1)) index
below_failed held record_size run level index stop above low is =
    let each : Result (Option NodeRef) MacError = Err stop in
    same_all each (λ slot. goes_on (λ r. child_of held record_size level (32 * index + slot) r) (λ failed. Err failed) each) (λ k within. refl)
    ∙ below_found held record_size run level index each above low is

-- ---- above the old top

filled_first : {X : Type 0} (x none : X) (g : ℕ → X) → x ≡ g 0 → ((s : ℕ) → 0 < s → s < 32 → none ≡ g s) → x ∷ replicate 31 none ≡ map g slots
unfolding slots
filled_first x none g first each =
    fill_by_all g (x ∷ replicate 31 none) 32 none refl (λ k within. at k within)
  where
    at : (k : ℕ) → k < 32 → get_or (x ∷ replicate 31 none) k none ≡ g k
    at zero within = first
    at (suc k) within = get_or-same 31 none k (omega (arith, within)) ∙ each (suc k) (omega arith) within

pub above_first : (held : List (List ℕ)) (record_size : ℕ) (run : Run) (level index : ℕ) → level ≡ run.levels + 1 → index ≡ 0
    → (let none : Result (Option NodeRef) MacError = Ok None in Ok run.top ∷ replicate 31 none) ≡ entries_at (found_at held record_size run (level - 1)) index
above_first held record_size run level index is first =
    let none : Result (Option NodeRef) MacError = Ok None in
    let own : level - 1 ≡ run.levels = omega (arith, is) in
    filled_first (Ok run.top) none (λ slot. found_at held record_size run (level - 1) (32 * index + slot))
    (let place : 32 * index + 0 ≡ 0 = omega (arith, first) in sym (rw (own, place) (found_top held record_size run 0)))
    (λ s some within.
    let other : (32 * index + s == 0) ≡ false = ne_eqb (32 * index + s) 0 (λ e. omega (arith, e, some)) in
    sym (rw own (found_top held record_size run (32 * index + s) ∙ rw other refl)))

pub above_none : (held : List (List ℕ)) (record_size : ℕ) (run : Run) (level index : ℕ) → run.levels < level → (level ≡ run.levels + 1 → 0 < index)
    → (let none : Result (Option NodeRef) MacError = Ok None in replicate 32 none) ≡ entries_at (found_at held record_size run (level - 1)) index
above_none held record_size run level index high other =
    let none : Result (Option NodeRef) MacError = Ok None in
    same_all none (λ slot. found_at held record_size run (level - 1) (32 * index + slot)) (λ k within.
    elim (cases_lt run.levels (level - 1)) [
      | inl past ↦ sym (found_above held record_size run (level - 1) (32 * index + k) past)
      | inr not ↦
          let own : level - 1 ≡ run.levels = omega (arith, high, not) in
          let some : 0 < index = other (omega (arith, high, not)) in
          let place : (32 * index + k == 0) ≡ false = ne_eqb (32 * index + k) 0 (λ e. omega (arith, e, some)) in
          sym (rw own (found_top held record_size run (32 * index + k) ∙ rw place refl))
    ])

-- ---- the old blocks of a node of level 1

pub leaf_walk : (held : List (List ℕ)) (record_size : ℕ) (run : Run) (index s : ℕ) → 1 ≤ run.levels → s < 32
    → walk_to held record_size run (32 * index + s) ≡ goes_on (λ next. walk held record_size (32 * index + s) 0 next) (λ failed. Err failed) (found_at held record_size run 1 index)
leaf_walk held record_size run index s above within =
    walk_by_place held record_size run 0 (32 * index + s) above
    ∙ ap (λ (p : ℕ). goes_on (λ next. walk held record_size (32 * index + s) 0 next) (λ failed. Err failed) (found_at held record_size run 1 p)) (lowest_place index s within)

leaf_first : (held : List (List ℕ)) (record_size : ℕ) (run : Run) (index : ℕ) → 1 ≤ run.levels
    → walk_to held record_size run (32 * index) ≡ goes_on (λ next. walk held record_size (32 * index) 0 next) (λ failed. Err failed) (found_at held record_size run 1 index)
leaf_first held record_size run index above =
    let place : 32 * index + 0 ≡ 32 * index = omega arith in
    rw place at (leaf_walk held record_size run index 0 above (omega arith))

pub leaf_none : (held : List (List ℕ)) (record_size : ℕ) (run : Run) (index : ℕ) → 1 ≤ run.levels → found_at held record_size run 1 index ≡ Ok None
    → IsLeaf held record_size run index (Ok (let none : Option BlockRef = None in replicate 32 none))
unfolding old_of
leaf_none held record_size run index above is =
    let none : Option BlockRef = None in (
      same_all none (λ slot. or_hole (walk_to held record_size run (32 * index + slot))) (λ k within.
          sym (rw (leaf_walk held record_size run index k above within, is, walk_none held record_size (32 * index + k) 0) refl)),
      rw (leaf_first held record_size run index above, is, walk_none held record_size (32 * index) 0) refl,
    )

pub leaf_read : (held : List (List ℕ)) (record_size : ℕ) (run : Run) (index : ℕ) (node : NodeRef) (bytes : List ℕ) → 1 ≤ run.levels → found_at held record_size run 1 index ≡ Ok (Some node)
    → passed held record_size 1 node ≡ Some bytes → IsLeaf held record_size run index (Ok (map (λ slot. block_at (entry_at 1 bytes slot)) slots))
unfolding old_of slots
leaf_read held record_size run index node bytes above is passes = (
  map_same (λ slot. block_at (entry_at 1 bytes slot)) (λ slot. or_hole (walk_to held record_size run (32 * index + slot))) 32 (λ k within.
      sym (rw (leaf_walk held record_size run index k above within, is, walk_last held record_size (32 * index + k) node bytes passes, lowest_slot index k within) refl)),
  rw (leaf_first held record_size run index above, is, walk_last held record_size (32 * index) node bytes passes) refl,
)

pub leaf_failed : (held : List (List ℕ)) (record_size : ℕ) (run : Run) (index : ℕ) (stop : MacError) → 1 ≤ run.levels → IsMacFailed stop → found_at held record_size run 1 index ≡ Err stop
    → IsLeaf held record_size run index (Err stop)
leaf_failed held record_size run index (MacFailed level place) above failed is = leaf_first held record_size run index above ∙ rw is refl
leaf_failed held record_size run index ShelfFault above failed is = absurd failed
leaf_failed held record_size run index Full above failed is = absurd failed
leaf_failed held record_size run index NoMemory above failed is = absurd failed

-- what is found fails at a node alone
abbrev IsFound : {X : Type 0} → Result X MacError → Type 0
IsFound (Ok x) = ⊤
IsFound (Err stop) = IsMacFailed stop

found_is : (held : List (List ℕ)) (record_size levels : ℕ) (top : Option NodeRef) (depth index : ℕ) → IsFound (found_below held record_size levels top depth index)
unfolding found_below child_of
found_is held record_size levels top zero index = tt
found_is held record_size levels top (suc depth) index = by_found (found_below held record_size levels top depth (index / 32)) (found_is held record_size levels top depth (index / 32))
  where
    by_bytes : (f : List ℕ → Option NodeRef) (level place : ℕ) (bytes : Option (List ℕ)) → IsFound (option_map_or (λ b. Ok (f b)) bytes (Err (MacFailed level place)))
    by_bytes f level place None = tt
    by_bytes f level place (Some bytes) = tt

    by_found : (found : Result (Option NodeRef) MacError) → IsFound found
        → IsFound (goes_on (λ above. child_of held record_size (levels - depth) index above) (λ failed. Err failed) found)
    by_found (Ok None) is = tt
    by_found (Ok (Some node)) is = by_bytes (λ bytes. node_at (entry_at (levels - depth) bytes (index % 32))) (levels - depth) (index / 32) (passed held record_size (levels - depth) node)
    by_found (Err stop) is = is

pub found_at_is : (held : List (List ℕ)) (record_size : ℕ) (run : Run) (level index : ℕ) → IsFound (found_at held record_size run level index)
unfolding found_at
found_at_is held record_size run level index =
    elim (cases_lt run.levels level) [
      | inl high ↦ rw (found_above held record_size run level index high) at_ok
      | inr low ↦ rw (found_within held record_size run level index low) (found_is held record_size run.levels run.top (run.levels - level) index)
    ]
  where
    at_ok : ⊤
    at_ok = tt

failure_some : {X : Type 0} (found : Result X MacError) (stop : MacError) → failure_of found ≡ Some stop → found ≡ Err stop
failure_some (Ok x) stop is = absurd (cc)
failure_some (Err (MacFailed level place)) stop is = cc
failure_some (Err ShelfFault) stop is = absurd (cc)
failure_some (Err Full) stop is = absurd (cc)
failure_some (Err NoMemory) stop is = absurd (cc)

failure_none : (found : Result (Option NodeRef) MacError) → IsFound found → failure_of found ≡ None → found ≡ Ok (or_hole found)
failure_none (Ok x) is none = refl
failure_none (Err (MacFailed level place)) is none = absurd (cc)
failure_none (Err ShelfFault) is none = absurd is
failure_none (Err Full) is none = absurd is
failure_none (Err NoMemory) is none = absurd is

pub found_failure : (held : List (List ℕ)) (record_size : ℕ) (run : Run) (level index : ℕ) (found : Result (Option NodeRef) MacError) (stop : MacError)
    → found ≡ found_at held record_size run level index → failure_of found ≡ Some stop → found_at held record_size run level index ≡ Err stop
found_failure held record_size run level index found stop is failed = sym is ∙ failure_some found stop failed

pub found_ok : (held : List (List ℕ)) (record_size : ℕ) (run : Run) (level index : ℕ) (found : Result (Option NodeRef) MacError) (next : Option NodeRef)
    → found ≡ found_at held record_size run level index → failure_of found ≡ None → or_hole found ≡ next → found_at held record_size run level index ≡ Ok next
found_ok held record_size run level index found next is none same =
    sym is ∙ failure_none found (subst IsFound (sym is) (found_at_is held record_size run level index)) none ∙ ap (λ (n : Option NodeRef). Ok n) same

-- a read that fails
abbrev pub IsOver1 : MacError → Type 0
IsOver1 Full = ⊥
IsOver1 (MacFailed level place) = ⊤
IsOver1 ShelfFault = ⊤
IsOver1 NoMemory = ⊤

pub leaf_stops : (held : List (List ℕ)) (record_size : ℕ) (run : Run) (index place calls : ℕ) (node : NodeRef) (stop : MacError) (s t : ShelfState) → 1 ≤ run.levels
    → found_at held record_size run 1 index ≡ Ok (Some node) → place ≡ 32 * index → IsOver1 stop → Gave {X = Unit {0}} calls (tested held record_size place 1 node) (Err stop) s t
    → IsLeaf held record_size run index (Err stop)
unfolding walk next_block
leaf_stops held record_size run index place calls node (MacFailed level at) s t above is over fine gave =
    let failed = tested_failed (fails_within calls s.armed) (passed held record_size 1 node) (fails_at 1 place) (MacFailed level at) tt gave.given in
    leaf_first held record_size run index above ∙ rw (is, failed.0) (rw (← over) (ap (λ (e : MacError). Err e) (sym failed.1)))
leaf_stops held record_size run index place calls node ShelfFault s t above is over fine gave = tt
leaf_stops held record_size run index place calls node Full s t above is over fine gave = absurd fine
leaf_stops held record_size run index place calls node NoMemory s t above is over fine gave = tt

pub over_one : (levels place : ℕ) (stop : MacError) → IsOver levels place stop → IsOver1 stop
over_one levels place (MacFailed level at) over = tt
over_one levels place ShelfFault over = tt
over_one levels place Full over = over
over_one levels place NoMemory over = tt

-- ---- the loops

pub record AreChildren (block : ℕ) (run : Run) (level i : ℕ) (old children : List (Result (Option NodeRef) MacError)) (start new : ShelfState) : Type 0 where
  pub reads : Reads i false start new
  pub hole : run.levels < level → new ≡ start
  pub size : length children ≡ 32 * i
  pub told : IfSome start.held (λ held. IsRange (found_at held block run level) (first_at run level) (length old) old
      → IsRange (found_at held block run (level - 1)) (32 * first_at run level) (32 * i) children)

pub record AreBlocks (block : ℕ) (run : Run) (i : ℕ) (old : List (Result (Option NodeRef) MacError)) (blocks : List (Option BlockRef)) (start new : ShelfState) : Type 0 where
  pub reads : Reads i false start new
  pub size : length blocks ≡ 32 * i
  pub told : IfSome start.held (λ held. IsRange (found_at held block run 1) (first_at run 1) (length old) old
      → IsRange (old_of held block run).block (32 * first_at run 1) (32 * i) blocks × AllWalk held block run (first_at run 1) i)

pub held_same : (n : ℕ) (fault : Bool) (s t : ShelfState) → Reads n fault s t → t.held ≡ s.held
held_same n fault s t reads = ap (λ (state : ShelfState). state.held) reads.after ∙ held_kept reads.calls s

-- one more node
pub children_more : (block : ℕ) (run : Run) (level i index : ℕ) (old children after : List (Result (Option NodeRef) MacError)) (found : Result (Option NodeRef) MacError) (s t u : ShelfState)
    → AreChildren block run level i old children s t → index ≡ first_at run level + i → i < length old → found ≡ get_or old i (Ok None)
    → Reads 1 false t u → (run.levels < level → u ≡ t) → length after ≡ length children + 32
    → IfSome t.held (λ held. found ≡ found_at held block run level index → after ≡ children ++ entries_at (found_at held block run (level - 1)) index)
    → AreChildren block run level (i + 1) old after s u
children_more block run level i index old children after found s t u so place within is reads hole size told =
    let told_s : IfSome s.held (λ held. found ≡ found_at held block run level index → after ≡ children ++ entries_at (found_at held block run (level - 1)) index) =
    rw (held_same i false s t so.reads) at told in
    record {
      reads = reads_more i 1 false s t u so.reads reads;
      hole = λ high. hole high ∙ so.hole high;
      size = omega (arith, size, so.size);
      told = both s.held so.told told_s (λ held before this range.
          let own : found ≡ found_at held block run level index =
          is ∙ one_of_range (found_at held block run level) (first_at run level) (length old) i old (Ok None) within range ∙ ap (found_at held block run level) (sym place) in
          rw (this own, place) (more_entries (found_at held block run (level - 1)) (first_at run level) i children
          (entries_at (found_at held block run (level - 1)) (first_at run level + i)) (before range) refl));
    }

pub blocks_more : {X : Type 0} (block : ℕ) (run : Run) (i index : ℕ) (old : List (Result (Option NodeRef) MacError)) (blocks after : List (Option BlockRef)) (found : Result (Option NodeRef) MacError) (x : X) (s t u : ShelfState)
    → AreBlocks block run i old blocks s t → index ≡ first_at run 1 + i → i < length old → found ≡ get_or old i (Ok None)
    → Reads 1 false t u → length after ≡ length blocks + 32
    → IfSome t.held (λ held. found ≡ found_at held block run 1 index → IsLeafAdded {X = X} held block run index (Ok x) blocks after)
    → AreBlocks block run (i + 1) old after s u
blocks_more block run i index old blocks after found x s t u so place within is reads size told =
    let told_s : IfSome s.held (λ held. found ≡ found_at held block run 1 index → IsLeafAdded {X = _} held block run index (Ok x) blocks after) =
    rw (held_same i false s t so.reads) at told in
    record {
      reads = reads_more i 1 false s t u so.reads reads;
      size = omega (arith, size, so.size);
      told = both s.held so.told told_s (λ held before this range.
          let own : found ≡ found_at held block run 1 index =
          is ∙ one_of_range (found_at held block run 1) (first_at run 1) (length old) i old (Ok None) within range ∙ ap (found_at held block run 1) (sym place) in
          let leaf = this own in (
            rw (leaf.0, place) (more_entries (old_of held block run).block (first_at run 1) i blocks
                (entries_at (old_of held block run).block (first_at run 1 + i)) (before range).0 refl),
            λ j low high. elim (cases_lt j (first_at run 1 + i)) [
              | inl less ↦ (before range).1 j low less
              | inr last ↦
                  let same : j ≡ index = omega (arith, place, high, last) in
                  rw same leaf.1
            ],
          ));
    }

-- a node that ends the reading
pub blocks_stop : (X : Type 0) (block : ℕ) (run : Run) (i index : ℕ) (old : List (Result (Option NodeRef) MacError)) (blocks after : List (Option BlockRef)) (found : Result (Option NodeRef) MacError) (stop : MacError) (s t : ShelfState)
    → AreBlocks block run i old blocks s t → index ≡ first_at run 1 + i → i < length old → found ≡ get_or old i (Ok None)
    → IfSome t.held (λ held. found ≡ found_at held block run 1 index → IsLeafAdded {X = X} held block run index (Err stop) blocks after)
    → IfSome s.held (λ held. IsRange (found_at held block run 1) (first_at run 1) (length old) old → StopsAt held block run (first_at run 1) (length old) stop)
blocks_stop X block run i index old blocks after found stop s t so place within is told =
    let told_s : IfSome s.held (λ held. found ≡ found_at held block run 1 index → IsLeafAdded {X = X} held block run index (Err stop) blocks after) =
    rw (held_same i false s t so.reads) at told in
    both s.held so.told told_s (λ held before this range.
    let own : found ≡ found_at held block run 1 index =
    is ∙ one_of_range (found_at held block run 1) (first_at run 1) (length old) i old (Ok None) within range ∙ ap (found_at held block run 1) (sym place) in
    by_stop held stop (this own) (before range).1)
  where
    by_stop : (held : List (List ℕ)) (e : MacError) → IsLeafAdded {X = X} held block run index (Err e) blocks after → AllWalk held block run (first_at run 1) i
        → StopsAt held block run (first_at run 1) (length old) e
    by_stop held (MacFailed level at) fails before =
        record {
          at = index;
          low = omega (arith, place);
          high = omega (arith, place, within);
          fails = fails;
          before = λ j low less. before j low (omega (arith, place, less));
        }
    by_stop held ShelfFault fails before = tt
    by_stop held Full fails before = fails
    by_stop held NoMemory fails before = tt
