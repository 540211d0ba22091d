-- The levels of a run one after another, over plain variables.
use Rattle.std.proofs.Common.{◌≡◌, ℕ, zero, suc, ◌+◌, ◌-◌, ◌*◌, ◌/◌, ◌^◌, ◌<◌, ◌≤◌, Bool, true, false, ◌==◌, ◌&&◌, nat_lt, nat_le, get_or, List, [], ◌∷◌, ◌++◌, length, map, refl, sym, ap, subst, ◌∙◌, inl, inr, arith, Option, Some, None, Result, Ok, Err, if◌then◌else◌}
use Rattle.std.specs.Prelude.{IfOk, IfSome, min}
use Rattle.std.specs.List.{range_with_len}
use Rattle.std.specs.Option.{option_map}
use Rattle.std.proofs.lemmas.Bool.{cases_lt, ne_eqb, eq-eqb}
use Rattle.std.proofs.lemmas.List.{append-nil, append_assoc, map-append, length-append}
use Rattle.shelf_store.specs.ShelfState.{ShelfState, counted, after_calls}
use Rattle.indirect_macs.specs.declared.refs.BlockRef.{BlockRef}
use Rattle.indirect_macs.specs.declared.refs.NodeRef.{NodeRef}
use Rattle.indirect_macs.specs.declared.refs.MacError.{MacError}
use Rattle.indirect_macs.specs.declared.refs.MacError.TheVariants.{MacFailed, ShelfFault, Full, NoMemory}
use Rattle.indirect_macs.specs.Calls.{fails_within, is_fault}
use Rattle.indirect_macs.specs.Replaced.{Changes, Ended, Replaced, with_blocks}
use Rattle.indirect_macs.specs.Runs.{Run, Old, Made, FirstFails, Passes, old_of, or_hole, found_at, first_at, last_at, count_at, first_block, last_block, puts_of, tree_of, levels_for, levels_made, nodes_made, touched_below, raised_below}
use Rattle.indirect_macs.specs.Steps.{AllWalk, FirstOf, HasPut, IsRange, IsStop, Knows, LevelsEnded, LevelsPut, LevelsRun, Puts, PutEnded, Reads, StopsAt}
use Rattle.indirect_macs.proofs.Putting.{same_fault, sizes_kept, too_much_front}
use Rattle.indirect_macs.proofs.Reading.{both}
use Rattle.indirect_macs.proofs.RunMade.{IsFront, length-nodes_made}
use Rattle.indirect_macs.proofs.RunBounds.{nodes_more, levels_more}
use Rattle.indirect_macs.proofs.RunSpans.{order_at, count_is, first_under_last}
use Rattle.indirect_macs.proofs.RunFound.{found_above, found_top}
use Rattle.std.proofs.Math.Pow.{pow_mono}
use Rattle.indirect_macs.proofs.Powers.{pow-32}
use Rattle.std.proofs.Math.Nat.{div-eq_of_lt}
use Rattle.indirect_macs.specs.declared.refs.ObjTree.{ObjTree}
use Rattle.indirect_macs.proofs.RunReading.{held_same, for_each_held, reads_none, if_ok}
use Rattle.std.proofs.lemmas.Option.{IfSome_then}
use Rattle.std.proofs.lemmas.List.{length-map}
use Rattle.std.proofs.lemmas.List.FromFn.{fill_by_all}
use Rattle.indirect_macs.proofs.TreeFold.{map_same}
use Rattle.indirect_macs.proofs.Spans.{moved}
use Rattle.indirect_macs.proofs.Walking.{after_more, fails_more}

-- ---- what reads leave

option_nothing : (o : Option (List (List ℕ))) → option_map (λ before. before ++ []) o ≡ o
option_nothing None = refl
option_nothing (Some before) = ap Some (append-nil before)

pub blocks_nothing : (s : ShelfState) → with_blocks [] s ≡ s
blocks_nothing s = λ i. record s { sizes = append-nil s.sizes i; placed = option_nothing s.placed i; held = option_nothing s.held i }

blocks_behind : (p : List (List ℕ)) (calls : ℕ) (s : ShelfState) → with_blocks p (after_calls calls s) ≡ after_calls calls (with_blocks p s)
blocks_behind p zero s = refl
blocks_behind p (suc calls) s = blocks_behind p calls (counted s)

pub reads_put : (n : ℕ) (s t : ShelfState) → Reads n false s t → HasPut n [] s t
reads_put n s t reads =
    record {
      calls = reads.calls;
      put = [];
      rest = [];
      parts = refl;
      bound = omega (arith, reads.bound);
      after = reads.after ∙ ap (after_calls reads.calls) (sym (blocks_nothing s));
      fault = reads.faults;
      ended = refl;
    }

sizes_same : (n : ℕ) (s t : ShelfState) → Reads n false s t → length t.sizes ≡ length s.sizes
sizes_same n s t reads = ap (λ (state : ShelfState). length state.sizes) reads.after ∙ ap length (sizes_kept reads.calls s)

-- ---- the record of a run

module _ {X : Type 0} {refs : X → List (Option NodeRef)} {raised : X → Option NodeRef} where
  pub run_after_reads : (held : List (List ℕ)) (record_size : ℕ) (run : Run) (n reads : ℕ) (made : Made) (result : Result X MacError) (s m t : ShelfState) → Reads n false s m
      → LevelsRun refs raised held record_size run reads made result m t → LevelsRun refs raised held record_size run (n + reads) made result s t
  run_after_reads held record_size run n reads made result s m t first went =
      record {
        calls = first.calls + went.calls;
        put = went.put;
        rest = went.rest;
        parts = went.parts;
        bound = omega (arith, first.bound, went.bound);
        after = went.after ∙ ap (λ (state : ShelfState). after_calls went.calls (with_blocks went.put state)) first.after
            ∙ ap (after_calls went.calls) (blocks_behind went.put first.calls s) ∙ sym (after_more first.calls went.calls (with_blocks went.put s));
        fault = went.fault ∙ ap (λ (state : ShelfState). fails_within went.calls state.armed) first.after
            ∙ sym (fails_more first.calls went.calls s (sym first.faults));
        ended = went.ended;
      }

  pub levels_of_puts : (held : List (List ℕ)) (record_size : ℕ) (run : Run) (reads : ℕ) (made : Made) (result : Result X MacError) (s t : ShelfState)
      → LevelsPut refs raised reads made result s t → AllWalk held record_size run (first_at run 1) (count_at run 1)
      → LevelsRun refs raised held record_size run reads made result s t
  levels_of_puts held record_size run reads made result s t put walks =
      let p = put.1 in
      record { calls = p.calls; put = p.put; rest = p.rest; parts = p.parts; bound = p.bound; after = p.after; fault = p.fault; ended = by_end result put.0 p.rest p.put p.ended }
    where
      by_end : (r : Result X MacError) → IfOk r (λ x. (refs x ≡ made.refs) × (raised x ≡ made.raised)) → (rest done : List (List ℕ)) → PutEnded {X = X} rest r t
          → LevelsEnded refs raised held record_size run made done rest r t
      by_end (Ok x) is rest done ended = (ended, is.0, is.1, walks)
      by_end (Err (MacFailed level place)) is rest done ended = absurd ended
      by_end (Err ShelfFault) is rest done ended = tt
      by_end (Err Full) is rest done ended = (ended, walks)
      by_end (Err NoMemory) is rest done ended = tt

  pub reads_stop : (Y : Type 0) (held : List (List ℕ)) (record_size : ℕ) (run : Run) (n reads : ℕ) (made : Made) (stop : MacError) (s t : ShelfState) → n ≤ reads
      → Reads n (is_fault {X = Y} (Err stop)) s t → StopsAt held record_size run (first_at run 1) (count_at run 1) stop
      → LevelsRun refs raised held record_size run reads made (Err stop) s t
  reads_stop Y held record_size run n reads made stop s t few went stops =
      record {
        calls = went.calls;
        put = [];
        rest = made.puts;
        parts = refl;
        bound = omega (arith, went.bound, few);
        after = went.after ∙ ap (after_calls went.calls) (sym (blocks_nothing s));
        fault = same_fault X Y stop ∙ went.faults;
        ended = by_stop stop stops;
      }
    where
      by_stop : (e : MacError) → StopsAt held record_size run (first_at run 1) (count_at run 1) e → LevelsEnded refs raised held record_size run made [] made.puts (Err e) t
      by_stop (MacFailed level place) fails = (refl, fails)
      by_stop ShelfFault fails = tt
      by_stop Full fails = absurd fails
      by_stop NoMemory fails = tt

  -- more levels would have come
  pub run_longer : (held : List (List ℕ)) (record_size : ℕ) (run : Run) (reads : ℕ) (made more : Made) (stop : MacError) (s t : ShelfState) → IsFront made.puts more.puts
      → LevelsRun refs raised held record_size run reads made (Err stop) s t → LevelsRun refs raised held record_size run reads more (Err stop) s t
  run_longer held record_size run reads made more stop s t front went =
      record {
        calls = went.calls;
        put = went.put;
        rest = went.rest ++ front.more;
        parts = sym (append_assoc went.put went.rest front.more) ∙ ap (λ (w : List (List ℕ)). w ++ front.more) went.parts ∙ sym front.is;
        bound = omega (arith, went.bound, ap length front.is, length-append made.puts front.more);
        after = went.after;
        fault = went.fault;
        ended = by_stop stop went.rest went.put went.ended;
      }
    where
      by_stop : (e : MacError) (rest done : List (List ℕ)) → LevelsEnded refs raised held record_size run made done rest (Err e) t
          → LevelsEnded refs raised held record_size run more done (rest ++ front.more) (Err e) t
      by_stop (MacFailed level place) rest done ended = ended
      by_stop ShelfFault rest done ended = tt
      by_stop Full rest done ended = (too_much_front rest front.more t ended.0, ended.1)
      by_stop NoMemory rest done ended = tt

  pub run_put : (held : List (List ℕ)) (record_size : ℕ) (run : Run) (reads : ℕ) (made : Made) (x : X) (s t : ShelfState)
      → LevelsRun refs raised held record_size run reads made (Ok x) s t → HasPut reads made.puts s t
  run_put held record_size run reads made x s t went =
      record { calls = went.calls; put = went.put; rest = went.rest; parts = went.parts; bound = went.bound; after = went.after; fault = went.fault; ended = went.ended.0 }

-- ---- numbers of a level

pub step_reads : Run → ℕ → ℕ
step_reads run level = if nat_lt run.levels level then 0 else count_at run level

pub step_touched : (run : Run) (level : ℕ) → 1 ≤ level → step_reads run level + touched_below run (min (level - 1) run.levels) ≡ touched_below run (min level run.levels)
unfolding step_reads
step_touched run zero above = absurd (omega (arith, above))
step_touched run (suc k) above =
    let own : suc k - 1 ≡ k = omega arith in
    elim (cases_lt run.levels (suc k)) [
      | inl high ↦
          let yes_high : nat_lt run.levels (suc k) ≡ true = grind (arith, high) in
          let one : min (suc k - 1) run.levels ≡ run.levels = omega (arith, high) in
          let two : min (suc k) run.levels ≡ run.levels = omega (arith, high) in
          rw (yes_high, one, two) (omega arith)
      | inr low ↦
          let no_high : nat_lt run.levels (suc k) ≡ false = grind (arith, low) in
          let one : min (suc k - 1) run.levels ≡ k = omega (arith, low) in
          let two : min (suc k) run.levels ≡ suc k = omega (arith, low) in
          rw (no_high, one, two) refl
    ]

pub step_read : (run : Run) (level n : ℕ) (fault : Bool) (s t : ShelfState) → n ≡ count_at run level → Reads n fault s t → (run.levels < level → t ≡ s)
    → (run.levels < level → fault ≡ false) → Reads (step_reads run level) fault s t
unfolding step_reads
step_read run level n fault s t is reads hole quiet =
    elim (cases_lt run.levels level) [
      | inl high ↦
          let yes_high : nat_lt run.levels level ≡ true = grind (arith, high) in
          rw yes_high (record { calls = 0; bound = omega arith; after = hole high; faults = quiet high })
      | inr low ↦
          let no_high : nat_lt run.levels level ≡ false = grind (arith, low) in
          rw no_high (record { calls = reads.calls; bound = omega (arith, reads.bound, is); after = reads.after; faults = reads.faults })
    ]

pub made_level : (run : Run) (old : Old) (base level : ℕ) → 1 ≤ level → level ≤ levels_for run.blocks
    → levels_made run old base (min level (levels_for run.blocks))
    ≡ nodes_made run old base level (levels_made run old base (min (level - 1) (levels_for run.blocks))) (count_at run level)
unfolding levels_made
made_level run old base zero above low = absurd (omega (arith, above))
made_level run old base (suc k) above low =
    let one : min (suc k) (levels_for run.blocks) ≡ suc k = omega (arith, low) in
    let two : min (suc k - 1) (levels_for run.blocks) ≡ k = omega (arith, low) in
    rw (one, two) refl

pub same_level : (run : Run) (level : ℕ) → levels_for run.blocks < level → min (level - 1) (levels_for run.blocks) ≡ min level (levels_for run.blocks)
same_level run level high = omega (arith, high)

-- ---- what was found is what the old tree has

pub holes_range : (held : List (List ℕ)) (record_size : ℕ) (run : Run) (level from count : ℕ) (found : List (Result (Option NodeRef) MacError))
    → IsRange (found_at held record_size run level) from count found → IsRange ((old_of held record_size run).node level) from count (map or_hole found)
unfolding old_of
holes_range held record_size run level from count found range = rw range (twice from count)
  where
    twice : (a n : ℕ) → map or_hole (map (found_at held record_size run level) (range_with_len a n)) ≡ map (λ index. or_hole (found_at held record_size run level index)) (range_with_len a n)
    twice a zero = refl
    twice a (suc n) = ap (λ (xs : List (Option NodeRef)). or_hole (found_at held record_size run level a) ∷ xs) (twice (a + 1) n)

-- ---- one level

-- what the levels below did, from before the reading of this one's children
pub below_told : (X : Type 0) (refs : X → List (Option NodeRef)) (raised : X → Option NodeRef) (record_size : ℕ) (run : Run) (level n : ℕ) (old children under : List (Result (Option NodeRef) MacError)) (result : Result X MacError) (s m t : ShelfState)
    → 1 ≤ level → n ≡ length old → n ≡ count_at run level → Reads n false s m → (run.levels < level → m ≡ s)
    → IfSome s.held (λ held. IsRange (found_at held record_size run level) (first_at run level) (length old) old
    → IsRange (found_at held record_size run (level - 1)) (32 * first_at run level) (32 * length old) children)
    → ((f : ℕ → Result (Option NodeRef) MacError) → IsRange f (32 * first_at run level) (32 * count_at run level) children → IsRange f (first_at run (level - 1)) (length under) under)
    → IfSome m.held (λ held. IsRange (found_at held record_size run (level - 1)) (first_at run (level - 1)) (length under) under
    → LevelsRun refs raised held record_size run (touched_below run (min (level - 1) run.levels))
    (levels_made run (old_of held record_size run) (length m.sizes) (min (level - 1) (levels_for run.blocks))) result m t)
    → IfSome s.held (λ held. IsRange (found_at held record_size run level) (first_at run level) (length old) old
    → LevelsRun refs raised held record_size run (touched_below run (min level run.levels))
    (levels_made run (old_of held record_size run) (length s.sizes) (min (level - 1) (levels_for run.blocks))) result s t)
below_told X refs raised record_size run level n old children under result s m t above is few reads hole told part sub =
    let sub_s = subst (λ (h : Option (List (List ℕ))). IfSome h (λ held. IsRange (found_at held record_size run (level - 1)) (first_at run (level - 1)) (length under) under
    → LevelsRun {X = X} refs raised held record_size run (touched_below run (min (level - 1) run.levels))
    (levels_made run (old_of held record_size run) (length m.sizes) (min (level - 1) (levels_for run.blocks))) result m t)) (held_same n false s m reads) sub in
    both s.held told sub_s (λ held found ran range.
    let whole : IsRange (found_at held record_size run (level - 1)) (32 * first_at run level) (32 * count_at run level) children =
    subst (λ (k : ℕ). IsRange (found_at held record_size run (level - 1)) (32 * first_at run level) (32 * k) children) (sym is ∙ few) (found range) in
    let went = ran (part (found_at held record_size run (level - 1)) whole) in
    let based = subst (λ (base : ℕ). LevelsRun {X = X} refs raised held record_size run (touched_below run (min (level - 1) run.levels))
    (levels_made run (old_of held record_size run) base (min (level - 1) (levels_for run.blocks))) result m t) (sizes_same n s m reads) went in
    subst (λ (r : ℕ). LevelsRun {X = X} refs raised held record_size run r (levels_made run (old_of held record_size run) (length s.sizes) (min (level - 1) (levels_for run.blocks))) result s t)
    (step_touched run level above)
    (run_after_reads held record_size run (step_reads run level) (touched_below run (min (level - 1) run.levels)) _ result s m t
    (step_read run level n false s m few reads hole (λ high. refl)) based))

some_if : (b : Bool) (x y : ℕ) → 1 ≤ x → 1 ≤ y → 1 ≤ (if b then x else y)
some_if true x y one two = one
some_if false x y one two = two

pub levels_some : (blocks : ℕ) → 1 ≤ levels_for blocks
levels_some blocks =
    some_if (nat_le blocks (32 ^ 1)) 1 _ (omega arith) (some_if (nat_le blocks (32 ^ 2)) 2 _ (omega arith) (some_if (nat_le blocks (32 ^ 3)) 3 _ (omega arith)
    (some_if (nat_le blocks (32 ^ 4)) 4 5 (omega arith) (omega arith))))

pub leaf_told : (X : Type 0) (refs : X → List (Option NodeRef)) (raised : X → Option NodeRef) (record_size : ℕ) (run : Run) (level n : ℕ) (old : List (Result (Option NodeRef) MacError)) (blocks : List (Option BlockRef)) (result : Result X MacError) (s m t : ShelfState)
    → level ≡ 1 → 1 ≤ run.levels → n ≡ length old → length old ≡ count_at run level → Reads n false s m
    → IfSome s.held (λ held. IsRange (found_at held record_size run 1) (first_at run 1) (length old) old
    → IsRange (old_of held record_size run).block (32 * first_at run 1) (32 * length old) blocks × AllWalk held record_size run (first_at run 1) (length old))
    → ((before : Old) (reads : ℕ) (start : ShelfState) → IsRange (before.node 1) (first_at run 1) (length old) (map or_hole old)
    → IsRange before.block (32 * first_at run 1) (32 * length old) blocks → HasPut reads [] start m
    → LevelsPut refs raised reads (levels_made run before (length start.sizes) 1) result start t)
    → IfSome s.held (λ held. IsRange (found_at held record_size run level) (first_at run level) (length old) old
    → LevelsRun refs raised held record_size run (touched_below run (min level run.levels))
    (levels_made run (old_of held record_size run) (length s.sizes) (min level (levels_for run.blocks))) result s t)
leaf_told X refs raised record_size run level n old blocks result s m t one above is few reads told put =
    let count : length old ≡ count_at run 1 = few ∙ ap (count_at run) one in
    let first : min 1 run.levels ≡ 1 = omega (arith, above) in
    let second : min 1 (levels_for run.blocks) ≡ 1 = omega (arith, levels_some run.blocks) in
    let whole : touched_below run 1 ≡ count_at run 1 = omega arith in
    rw (one, first, second)
    (IfSome_then s.held told (λ held found range.
    let b = found range in
    let wide : Reads (touched_below run 1) false s m = record { calls = reads.calls; bound = omega (arith, reads.bound, is, count, whole); after = reads.after; faults = reads.faults } in
    levels_of_puts held record_size run (touched_below run 1) (levels_made run (old_of held record_size run) (length s.sizes) 1) result s t
    (put (old_of held record_size run) (touched_below run 1) s (holes_range held record_size run 1 (first_at run 1) (length old) old range) b.0 (reads_put (touched_below run 1) s m wide))
    (subst (λ (k : ℕ). AllWalk held record_size run (first_at run 1) k) count b.1)))

pub leaf_stop : (X Y : Type 0) (refs : X → List (Option NodeRef)) (raised : X → Option NodeRef) (record_size : ℕ) (run : Run) (level n : ℕ) (old : List (Result (Option NodeRef) MacError)) (stop : MacError) (s t : ShelfState)
    → level ≡ 1 → 1 ≤ run.levels → n ≡ length old → length old ≡ count_at run level → Reads n (is_fault {X = Y} (Err stop)) s t
    → IfSome s.held (λ held. IsRange (found_at held record_size run 1) (first_at run 1) (length old) old → StopsAt held record_size run (first_at run 1) (length old) stop)
    → IfSome s.held (λ held. IsRange (found_at held record_size run level) (first_at run level) (length old) old
    → LevelsRun refs raised held record_size run (touched_below run (min level run.levels))
    (levels_made run (old_of held record_size run) (length s.sizes) (min level (levels_for run.blocks))) (Err stop) s t)
leaf_stop X Y refs raised record_size run level n old stop s t one above is few reads told =
    let count : length old ≡ count_at run 1 = few ∙ ap (count_at run) one in
    let first : min 1 run.levels ≡ 1 = omega (arith, above) in
    let second : min 1 (levels_for run.blocks) ≡ 1 = omega (arith, levels_some run.blocks) in
    let whole : touched_below run 1 ≡ count_at run 1 = omega arith in
    rw (one, first, second)
    (IfSome_then s.held told (λ held found range.
    reads_stop Y held record_size run n (touched_below run 1) _ stop s t (omega (arith, is, count, whole)) reads
    (subst (λ (k : ℕ). StopsAt held record_size run (first_at run 1) k stop) count (found range))))

stop_at : (held : List (List ℕ)) (record_size : ℕ) (run : Run) (from count : ℕ) (stop : MacError) → IsStop stop → StopsAt held record_size run from count stop
stop_at held record_size run from count (MacFailed level place) is = absurd is
stop_at held record_size run from count ShelfFault is = tt
stop_at held record_size run from count Full is = is
stop_at held record_size run from count NoMemory is = tt

pub children_stop : (X Y : Type 0) (refs : X → List (Option NodeRef)) (raised : X → Option NodeRef) (record_size : ℕ) (run : Run) (level n : ℕ) (old : List (Result (Option NodeRef) MacError)) (stop : MacError) (s t : ShelfState)
    → 1 ≤ level → n ≡ count_at run level → Reads n (is_fault {X = Y} (Err stop)) s t → (run.levels < level → t ≡ s) → (run.levels < level → is_fault {X = Y} (Err stop) ≡ false) → IsStop stop
    → IfSome s.held (λ held. IsRange (found_at held record_size run level) (first_at run level) (length old) old
    → LevelsRun refs raised held record_size run (touched_below run (min level run.levels))
    (levels_made run (old_of held record_size run) (length s.sizes) (min level (levels_for run.blocks))) (Err stop) s t)
children_stop X Y refs raised record_size run level n old stop s t above few reads hole quiet is =
    for_each_held s.held (λ held range.
    reads_stop Y held record_size run (step_reads run level) (touched_below run (min level run.levels)) _ stop s t (omega (arith, step_touched run level above))
    (step_read run level n (is_fault {X = Y} (Err stop)) s t few reads hole quiet) (stop_at held record_size run (first_at run 1) (count_at run 1) stop is))

pub level_told : (X : Type 0) (refs : X → List (Option NodeRef)) (raised : X → Option NodeRef) (record_size : ℕ) (run : Run) (level : ℕ) (old children : List (Result (Option NodeRef) MacError)) (x : X) (result : Result X MacError) (s m t : ShelfState)
    → 1 ≤ level → level ≤ levels_for run.blocks → length old ≡ count_at run level
    → IfSome s.held (λ held. IsRange (found_at held record_size run level) (first_at run level) (length old) old
    → LevelsRun refs raised held record_size run (touched_below run (min level run.levels))
    (levels_made run (old_of held record_size run) (length s.sizes) (min (level - 1) (levels_for run.blocks))) (Ok x) s m)
    → IfSome s.held (λ held. IsRange (found_at held record_size run level) (first_at run level) (length old) old
    → IsRange (found_at held record_size run (level - 1)) (32 * first_at run level) (32 * length old) children)
    → ((before : Old) (reads : ℕ) (made : Made) (start : ShelfState) → Knows run before level (first_at run level) old children
    → refs x ≡ made.refs → raised x ≡ made.raised → HasPut reads made.puts start m
    → LevelsPut refs raised reads (nodes_made run before (length start.sizes) level made (length old)) result start t)
    → IfSome s.held (λ held. IsRange (found_at held record_size run level) (first_at run level) (length old) old
    → LevelsRun refs raised held record_size run (touched_below run (min level run.levels))
    (levels_made run (old_of held record_size run) (length s.sizes) (min level (levels_for run.blocks))) result s t)
level_told X refs raised record_size run level old children x result s m t above low few below told put =
    both s.held below told (λ held went found range.
    let under = went range in
    let o : Old = old_of held record_size run in
    let made : Made = levels_made run o (length s.sizes) (min (level - 1) (levels_for run.blocks)) in
    let knows : Knows run o level (first_at run level) old children = record {
      nodes = holes_range held record_size run level (first_at run level) (length old) old range;
      children = holes_range held record_size run (level - 1) (32 * first_at run level) (32 * length old) children (found range);
    } in
    let next = put o (touched_below run (min level run.levels)) made s knows under.ended.1 under.ended.2 (run_put held record_size run _ made x s m under) in
    let same : nodes_made run o (length s.sizes) level made (length old) ≡ levels_made run o (length s.sizes) (min level (levels_for run.blocks)) =
    ap (nodes_made run o (length s.sizes) level made) few ∙ sym (made_level run o (length s.sizes) level above low) in
    levels_of_puts held record_size run (touched_below run (min level run.levels)) _ result s t
    (subst (λ (w : Made). LevelsPut {X = X} refs raised (touched_below run (min level run.levels)) w result s t) same next) under.ended.3)

-- ---- on every shelf

pub changes_of : {X : Type 0} (most : ℕ) (whole : List (List ℕ)) (result : Result X MacError) (s t : ShelfState) → length whole ≤ most → Puts {X = X} 0 whole result s t → Changes {X = X} 0 most result s t
changes_of most whole result s t few puts =
    let size : length whole ≡ length puts.put + length puts.rest = ap length (sym puts.parts) ∙ length-append puts.put puts.rest in
    record { calls = puts.calls; put = puts.put; bound = omega (arith, puts.bound, few); few = omega (arith, size, few); after = puts.after; fault = puts.fault }

pub changes_after_reads : {X : Type 0} (n reads puts : ℕ) (result : Result X MacError) (s m t : ShelfState) → Reads n false s m → Changes reads puts result m t → Changes (n + reads) puts result s t
changes_after_reads n reads puts result s m t first went =
    record {
      calls = first.calls + went.calls;
      put = went.put;
      bound = omega (arith, first.bound, went.bound);
      few = went.few;
      after = went.after ∙ ap (λ (state : ShelfState). after_calls went.calls (with_blocks went.put state)) first.after
          ∙ ap (after_calls went.calls) (blocks_behind went.put first.calls s) ∙ sym (after_more first.calls went.calls (with_blocks went.put s));
      fault = went.fault ∙ ap (λ (state : ShelfState). fails_within went.calls state.armed) first.after ∙ sym (fails_more first.calls went.calls s (sym first.faults));
    }

pub reads_changes : (X Y : Type 0) (n reads puts : ℕ) (stop : MacError) (s t : ShelfState) → n ≤ reads → Reads n (is_fault {X = Y} (Err stop)) s t → Changes {X = X} reads puts (Err stop) s t
reads_changes X Y n reads puts stop s t few went =
    record { calls = went.calls; put = []; bound = omega (arith, went.bound, few); few = omega arith; after = went.after ∙ ap (after_calls went.calls) (sym (blocks_nothing s)); fault = same_fault X Y stop ∙ went.faults }

pub changes_wider : {X : Type 0} (reads puts more most : ℕ) (result : Result X MacError) (s t : ShelfState) → reads ≤ more → puts ≤ most → Changes reads puts result s t → Changes more most result s t
changes_wider reads puts more most result s t one two went =
    record { calls = went.calls; put = went.put; bound = omega (arith, went.bound, one, two); few = omega (arith, went.few, two); after = went.after; fault = went.fault }

option_more : (o : Option (List (List ℕ))) (p q : List (List ℕ)) → option_map (λ before. before ++ q) (option_map (λ before. before ++ p) o) ≡ option_map (λ before. before ++ (p ++ q)) o
option_more None p q = refl
option_more (Some before) p q = ap Some (append_assoc before p q)

blocks_twice : (p q : List (List ℕ)) (s : ShelfState) → with_blocks q (with_blocks p s) ≡ with_blocks (p ++ q) s
blocks_twice p q s =
    let sizes : (s.sizes ++ map length p) ++ map length q ≡ s.sizes ++ map length (p ++ q) =
    append_assoc s.sizes (map length p) (map length q) ∙ ap (λ (rest : List ℕ). s.sizes ++ rest) (sym (map-append length p q)) in
    λ i. record s { sizes = sizes i; placed = option_more s.placed p q i; held = option_more s.held p q i }

pub changes_then : {X Y : Type 0} (reads puts more : ℕ) (x : Y) (result : Result X MacError) (s m t : ShelfState) → Changes {X = Y} reads puts (Ok x) s m → Changes {X = X} 0 more result m t → Changes reads (puts + more) result s t
changes_then reads puts more x result s m t first rest =
    record {
      calls = first.calls + rest.calls;
      put = first.put ++ rest.put;
      bound = omega (arith, first.bound, rest.bound);
      few = omega (arith, first.few, rest.few, length-append first.put rest.put);
      after = rest.after ∙ ap (λ (state : ShelfState). after_calls rest.calls (with_blocks rest.put state)) first.after
          ∙ ap (after_calls rest.calls) (blocks_behind rest.put first.calls (with_blocks first.put s) ∙ ap (after_calls first.calls) (blocks_twice first.put rest.put s))
          ∙ sym (after_more first.calls rest.calls (with_blocks (first.put ++ rest.put) s));
      fault = rest.fault ∙ ap (λ (state : ShelfState). fails_within rest.calls state.armed) first.after ∙ sym (fails_more first.calls rest.calls (with_blocks first.put s) (sym first.fault));
    }

-- the old tree as lists give it
self_range : {X : Type 0} (xs : List X) (from n : ℕ) (d : X) → n ≡ length xs → IsRange (λ j. get_or xs (j - from) d) from n xs
self_range xs from n d is =
    rw is (fill_by_all (λ k. get_or xs k d) xs (length xs) d refl (λ k within. refl)
    ∙ map_same (λ k. get_or xs k d) (λ k. get_or xs (from + k - from) d) (length xs) (λ k within. let e : from + k - from ≡ k = omega arith in rw e refl)
    ∙ moved (λ j. get_or xs (j - from) d) from 0 (length xs) ∙ (let place : from + 0 ≡ from = omega arith in ap (λ (a : ℕ). map (λ j. get_or xs (j - from) d) (range_with_len a (length xs))) place))

pub list_old : (level from : ℕ) → (nodes children : List (Option NodeRef)) → (blocks : List (Option BlockRef)) → Old
list_old level from nodes children blocks = record {
  node = λ l j. if l == level then get_or nodes (j - from) None else get_or children (j - 32 * from) None;
  block = λ j. get_or blocks (j - 32 * from) None;
}

pub list_leaf : (run : Run) (n from : ℕ) (old : List (Result (Option NodeRef) MacError)) (blocks : List (Option BlockRef)) → n ≡ length old → 32 * n ≡ length blocks
    → IsRange ((list_old 1 from (map or_hole old) [] blocks).node 1) from n (map or_hole old) × IsRange (list_old 1 from (map or_hole old) [] blocks).block (32 * from) (32 * n) blocks
unfolding list_old
list_leaf run n from old blocks is size =
    let g : Result (Option NodeRef) MacError → Option NodeRef = or_hole in
    (self_range (map g old) from n None (is ∙ sym (length-map old g)), self_range blocks (32 * from) (32 * n) None size)

pub list_knows : (run : Run) (level from : ℕ) (old children : List (Result (Option NodeRef) MacError)) → 1 ≤ level → length children ≡ 32 * length old
    → Knows run (list_old level from (map or_hole old) (map or_hole children) []) level from old children
unfolding list_old
list_knows run level from old children above size =
    let g : Result (Option NodeRef) MacError → Option NodeRef = or_hole in
    let own : (level == level) ≡ true = eq-eqb level level refl in
    let other : (level - 1 == level) ≡ false = ne_eqb (level - 1) level (λ e. omega (arith, e, above)) in
    record {
      nodes = subst (λ (b : Bool). IsRange (λ j. if b then get_or (map g old) (j - from) None else get_or (map g children) (j - 32 * from) None) from (length old) (map g old))
          (sym own) (self_range (map g old) from (length old) None (sym (length-map old g)));
      children = subst (λ (b : Bool). IsRange (λ j. if b then get_or (map g old) (j - from) None else get_or (map g children) (j - 32 * from) None) (32 * from) (32 * length old) (map g children))
          (sym other) (self_range (map g children) (32 * from) (32 * length old) None (sym size ∙ sym (length-map children g)));
    }

-- ---- bounds of the nodes that are put

pub bound_level : (run : Run) (level : ℕ) → 1 ≤ level → level ≤ levels_for run.blocks
    → (touched_below run (min (level - 1) (levels_for run.blocks)) + raised_below run (min (level - 1) (levels_for run.blocks)))
    + ((if nat_lt run.levels level && nat_lt 0 (first_at run level) then 1 else 0) + count_at run level)
    ≡ touched_below run (min level (levels_for run.blocks)) + raised_below run (min level (levels_for run.blocks))
bound_level run zero above low = absurd (omega (arith, above))
bound_level run (suc k) above low =
    let one : min (suc k) (levels_for run.blocks) ≡ suc k = omega (arith, low) in
    let two : min (suc k - 1) (levels_for run.blocks) ≡ k = omega (arith, low) in
    rw (one, two) (omega arith)

pub bound_grows : (run : Run) (level : ℕ) → 1 ≤ level
    → touched_below run (min (level - 1) (levels_for run.blocks)) + raised_below run (min (level - 1) (levels_for run.blocks))
    ≤ touched_below run (min level (levels_for run.blocks)) + raised_below run (min level (levels_for run.blocks))
bound_grows run level above =
    elim (cases_lt (levels_for run.blocks) level) [
      | inl high ↦ rw (same_level run level high) (omega arith)
      | inr low ↦ omega (arith, bound_level run level above low)
    ]

length_levels : (run : Run) (old : Old) (base k : ℕ) → length (levels_made run old base (suc k)).refs ≡ count_at run (suc k)
unfolding levels_made
length_levels run old base k = length-nodes_made run old base (suc k) (levels_made run old base k) (count_at run (suc k))

pub leaf_changes : (X : Type 0) (refs : X → List (Option NodeRef)) (raised : X → Option NodeRef) (run : Run) (level n : ℕ) (old : List (Result (Option NodeRef) MacError)) (blocks : List (Option BlockRef)) (result : Result X MacError) (s m t : ShelfState)
    → level ≡ 1 → 1 ≤ run.levels → n ≡ length old → length old ≡ count_at run level → length blocks ≡ 32 * length old → Reads n false s m
    → ((before : Old) (reads : ℕ) (start : ShelfState) → IsRange (before.node 1) (first_at run 1) (length old) (map or_hole old)
    → IsRange before.block (32 * first_at run 1) (32 * length old) blocks → HasPut reads [] start m
    → LevelsPut refs raised reads (levels_made run before (length start.sizes) 1) result start t)
    → Changes (touched_below run (min level run.levels)) (touched_below run (min level (levels_for run.blocks)) + raised_below run (min level (levels_for run.blocks))) result s t
    × IfOk result (λ x. length (refs x) ≡ count_at run (min level (levels_for run.blocks)))
leaf_changes X refs raised run level n old blocks result s m t one above is few size reads put =
    let count : length old ≡ count_at run 1 = few ∙ ap (count_at run) one in
    let first : min 1 run.levels ≡ 1 = omega (arith, above) in
    let second : min 1 (levels_for run.blocks) ≡ 1 = omega (arith, levels_some run.blocks) in
    let whole : touched_below run 1 ≡ count_at run 1 = omega arith in
    let o : Old = list_old 1 (first_at run 1) (map or_hole old) [] blocks in
    let l = list_leaf run (length old) (first_at run 1) old blocks refl (sym size) in
    let inst = put o 0 m l.0 l.1 (reads_put 0 m m (reads_none 0 m)) in
    rw (one, first, second) (
      changes_wider (n + 0) (touched_below run 1 + raised_below run 1) (touched_below run 1) (touched_below run 1 + raised_below run 1) result s t (omega (arith, is, count, whole)) (omega arith)
          (changes_after_reads n 0 (touched_below run 1 + raised_below run 1) result s m t reads
          (changes_of (touched_below run 1 + raised_below run 1) (levels_made run o (length m.sizes) 1).puts result m t (levels_more run o (length m.sizes) 1) inst.1)),
      if_ok result (λ x was. ap length was.0 ∙ length_levels run o (length m.sizes) 0) inst.0,
    )

pub level_changes : (X : Type 0) (refs : X → List (Option NodeRef)) (raised : X → Option NodeRef) (run : Run) (level reads : ℕ) (old children : List (Result (Option NodeRef) MacError)) (x : X) (result : Result X MacError) (s m t : ShelfState)
    → 1 ≤ level → level ≤ levels_for run.blocks → length old ≡ count_at run level → length children ≡ 32 * length old
    → Changes reads (touched_below run (min (level - 1) (levels_for run.blocks)) + raised_below run (min (level - 1) (levels_for run.blocks))) (Ok x) s m
    → ((before : Old) (reads : ℕ) (made : Made) (start : ShelfState) → Knows run before level (first_at run level) old children
    → refs x ≡ made.refs → raised x ≡ made.raised → HasPut reads made.puts start m
    → LevelsPut refs raised reads (nodes_made run before (length start.sizes) level made (length old)) result start t)
    → Changes reads (touched_below run (min level (levels_for run.blocks)) + raised_below run (min level (levels_for run.blocks))) result s t
    × IfOk result (λ y. length (refs y) ≡ count_at run (min level (levels_for run.blocks)))
level_changes X refs raised run level reads old children x result s m t above low few size went put =
    let o : Old = list_old level (first_at run level) (map or_hole old) (map or_hole children) [] in
    let below : Made = record { refs = refs x; raised = raised x; puts = [] } in
    let inst = put o 0 below m (list_knows run level (first_at run level) old children above size) refl refl (reads_put 0 m m (reads_none 0 m)) in
    let much : ℕ = (if nat_lt run.levels level && nat_lt 0 (first_at run level) then 1 else 0) + count_at run level in
    let own : min level (levels_for run.blocks) ≡ level = omega (arith, low) in (
      subst (λ (p : ℕ). Changes {X = X} reads p result s t) (bound_level run level above low)
          (changes_then reads (touched_below run (min (level - 1) (levels_for run.blocks)) + raised_below run (min (level - 1) (levels_for run.blocks))) much x result s m t went
          (changes_of much (nodes_made run o (length m.sizes) level below (length old)).puts result m t (omega (arith, few, nodes_more run o (length m.sizes) level below (length old))) inst.1)),
      if_ok result (λ y was. ap length was.0 ∙ length-nodes_made run o (length m.sizes) level below (length old) ∙ few ∙ ap (count_at run) (sym own)) inst.0,
    )

pub sub_changes : {X : Type 0} (run : Run) (level n puts : ℕ) (result : Result X MacError) (s m t : ShelfState) → 1 ≤ level → n ≡ count_at run level → Reads n false s m → (run.levels < level → m ≡ s)
    → Changes (touched_below run (min (level - 1) run.levels)) puts result m t → Changes (touched_below run (min level run.levels)) puts result s t
sub_changes {X = X} run level n puts result s m t above few reads hole went =
    subst (λ (r : ℕ). Changes {X = X} r puts result s t) (step_touched run level above)
    (changes_after_reads (step_reads run level) (touched_below run (min (level - 1) run.levels)) puts result s m t (step_read run level n false s m few reads hole (λ high. refl)) went)

-- ---- the whole

room_in : (blocks : ℕ) → blocks ≤ 8388608 → blocks ≤ 32 ^ levels_for blocks
room_in blocks most =
    elim (cases_lt 32 blocks) [
      | inr one ↦ let a : nat_le blocks (32 ^ 1) ≡ true = grind (arith, one) in rw a (omega (arith, one))
      | inl over_one ↦
          let a : nat_le blocks (32 ^ 1) ≡ false = grind (arith, over_one) in
          elim (cases_lt 1024 blocks) [
            | inr two ↦ let b : nat_le blocks (32 ^ 2) ≡ true = grind (arith, two) in rw (a, b) (omega (arith, two))
            | inl over_two ↦
                let b : nat_le blocks (32 ^ 2) ≡ false = grind (arith, over_two) in
                elim (cases_lt 32768 blocks) [
                  | inr three ↦ let d : nat_le blocks (32 ^ 3) ≡ true = grind (arith, three) in rw (a, b, d) (omega (arith, three))
                  | inl over_three ↦
                      let d : nat_le blocks (32 ^ 3) ≡ false = grind (arith, over_three) in
                      elim (cases_lt 1048576 blocks) [
                        | inr four ↦ let e : nat_le blocks (32 ^ 4) ≡ true = grind (arith, four) in rw (a, b, d, e) (omega (arith, four))
                        | inl over_four ↦ let e : nat_le blocks (32 ^ 4) ≡ false = grind (arith, over_four) in rw (a, b, d, e) (omega (arith, most))
                      ]
                ]
          ]
    ]

last_within : (run : Run) → run.from + length run.refs ≤ run.blocks → 0 < run.blocks → last_block run < run.blocks
last_within run within some =
    elim (cases_lt 0 (length run.refs)) [
      | inl much ↦ let is : nat_lt 0 (length run.refs) ≡ true = grind (arith, much) in rw is (omega (arith, within, much))
      | inr none ↦ let is : nat_lt 0 (length run.refs) ≡ false = grind (arith, none) in rw is (omega (arith, some))
    ]

-- a level with room for all blocks has one touched node, the first
pub top_places : (run : Run) (level : ℕ) → run.from + length run.refs ≤ run.blocks → run.blocks ≤ 8388608 → 0 < run.blocks → levels_for run.blocks ≤ level
    → (first_at run level ≡ 0) × (count_at run level ≡ 1)
unfolding first_at last_at count_at
top_places run level within most some high =
    let more : 5 * levels_for run.blocks ≤ 5 * level = omega (arith, high) in
    let room : 32 ^ levels_for run.blocks ≤ 32 ^ level = rw (← pow-32 (levels_for run.blocks), ← pow-32 level) (pow_mono more) in
    let last : last_block run < 32 ^ level = omega (arith, room, room_in run.blocks most, last_within run within some) in
    let zero_last : last_block run / 32 ^ level ≡ 0 = div-eq_of_lt last in
    let zero_first : first_block run / 32 ^ level ≡ 0 = div-eq_of_lt (omega (arith, last, first_under_last run)) in
    rw (zero_last, zero_first) (refl, refl)

pub top_range : (held : List (List ℕ)) (record_size : ℕ) (run : Run) (level from count : ℕ) (top : Option NodeRef) → run.levels ≤ level → from ≡ 0 → count ≡ 1
    → top ≡ (if nat_lt run.levels level then None else run.top) → IsRange (found_at held record_size run level) from count (Ok top ∷ [])
top_range held record_size run level from count top high first one is =
    elim (cases_lt run.levels level) [
      | inl above ↦
          let yes_above : nat_lt run.levels level ≡ true = grind (arith, above) in
          rw (first, one, is, yes_above, found_above held record_size run level 0 above) refl
      | inr not ↦
          let same : level ≡ run.levels = omega (arith, high, not) in
          let no_above : nat_lt run.levels level ≡ false = grind (arith, not) in
          rw (first, one, is, no_above) (rw same (rw (found_top held record_size run 0) refl))
    ]

same_run : (run : Run) (old : Old) (base : ℕ) → 0 < run.blocks → (levels_made run old base (levels_for run.blocks)).puts ≡ puts_of run old base
unfolding puts_of
same_run run old base some =
    let other : (run.blocks == 0) ≡ false = ne_eqb run.blocks 0 (λ e. omega (arith, e, some)) in
    rw other refl

all_pass : (held : List (List ℕ)) (record_size : ℕ) (run : Run) → AllWalk held record_size run (first_at run 1) (count_at run 1) → Passes held record_size run
all_pass held record_size run walks = record { each = λ j touched. walks j touched.low (omega (arith, touched.high, order_at run 1, count_is run 1)) }

first_fails : (held : List (List ℕ)) (record_size : ℕ) (run : Run) (stop : MacError) → 0 < run.blocks → FirstOf held record_size run (first_at run 1) (count_at run 1) stop → FirstFails held record_size run stop
first_fails held record_size run stop some first =
    record {
      at = first.at;
      touched = record { blocks = some; low = first.low; high = omega (arith, first.high, order_at run 1, count_is run 1) };
      fails = first.fails;
      before = λ j touched less. first.before j touched.low less;
    }

pub replaced_ok : (X : Type 0) (refs : X → List (Option NodeRef)) (raised : X → Option NodeRef) (held : List (List ℕ)) (record_size : ℕ) (run : Run) (level : ℕ) (x : X) (tree : ObjTree) (s t : ShelfState)
    → 0 < run.blocks → run.levels ≤ level → levels_for run.blocks ≤ level → tree.levels ≡ levels_for run.blocks → tree.top ≡ get_or (refs x) 0 None
    → LevelsRun refs raised held record_size run (touched_below run (min level run.levels)) (levels_made run (old_of held record_size run) (length s.sizes) (min level (levels_for run.blocks))) (Ok x) s t
    → Replaced held record_size run (Ok tree) s t
unfolding tree_of
replaced_ok X refs raised held record_size run level x tree s t some one two levels top went =
    let o : Old = old_of held record_size run in
    let first : min level run.levels ≡ run.levels = omega (arith, one) in
    let second : min level (levels_for run.blocks) ≡ levels_for run.blocks = omega (arith, two) in
    let other : (run.blocks == 0) ≡ false = ne_eqb run.blocks 0 (λ e. omega (arith, e, some)) in
    let same : (levels_made run o (length s.sizes) (min level (levels_for run.blocks))).puts ≡ puts_of run o (length s.sizes) =
    ap (λ (l : ℕ). (levels_made run o (length s.sizes) l).puts) second ∙ same_run run o (length s.sizes) some in
    let made : refs x ≡ (levels_made run o (length s.sizes) (levels_for run.blocks)).refs = went.ended.1 ∙ ap (λ (l : ℕ). (levels_made run o (length s.sizes) l).refs) second in
    record {
      calls = went.calls;
      put = went.put;
      rest = went.rest;
      parts = went.parts ∙ same;
      bound = omega (arith, went.bound, ap length went.parts, ap (touched_below run) first);
      after = went.after;
      fault = went.fault;
      ended = (went.ended.0, rw other (λ i. record { levels = levels i; top = (top ∙ ap (λ (xs : List (Option NodeRef)). get_or xs 0 None) made) i }), all_pass held record_size run went.ended.3);
    }

pub replaced_err : (X : Type 0) (refs : X → List (Option NodeRef)) (raised : X → Option NodeRef) (held : List (List ℕ)) (record_size : ℕ) (run : Run) (level : ℕ) (stop : MacError) (s t : ShelfState)
    → 0 < run.blocks → run.levels ≤ level → levels_for run.blocks ≤ level
    → LevelsRun refs raised held record_size run (touched_below run (min level run.levels)) (levels_made run (old_of held record_size run) (length s.sizes) (min level (levels_for run.blocks))) (Err stop) s t
    → Replaced held record_size run (Err stop) s t
replaced_err X refs raised held record_size run level stop s t some one two went =
    let o : Old = old_of held record_size run in
    let first : min level run.levels ≡ run.levels = omega (arith, one) in
    let second : min level (levels_for run.blocks) ≡ levels_for run.blocks = omega (arith, two) in
    let same : (levels_made run o (length s.sizes) (min level (levels_for run.blocks))).puts ≡ puts_of run o (length s.sizes) =
    ap (λ (l : ℕ). (levels_made run o (length s.sizes) l).puts) second ∙ same_run run o (length s.sizes) some in
    record {
      calls = went.calls;
      put = went.put;
      rest = went.rest;
      parts = went.parts ∙ same;
      bound = omega (arith, went.bound, ap length went.parts, ap (touched_below run) first);
      after = went.after;
      fault = same_fault ObjTree X stop ∙ went.fault;
      ended = by_stop stop went.put went.rest went.ended;
    }
  where
    by_stop : (e : MacError) (put rest : List (List ℕ)) → LevelsEnded refs raised held record_size run (levels_made run (old_of held record_size run) (length s.sizes) (min level (levels_for run.blocks))) put rest (Err e) t
        → Ended held record_size run (length s.sizes) put rest (Err e) t
    by_stop (MacFailed k place) put rest ended = (ended.0, first_fails held record_size run (MacFailed k place) some ended.1)
    by_stop ShelfFault put rest ended = tt
    by_stop Full put rest ended = (ended.0, all_pass held record_size run ended.1)
    by_stop NoMemory put rest ended = tt

pub replaced_none : (held : List (List ℕ)) (record_size : ℕ) (run : Run) (tree : ObjTree) (s : ShelfState) → run.blocks ≡ 0 → tree.levels ≡ levels_for run.blocks → tree.top ≡ None
    → Replaced held record_size run (Ok tree) s s
unfolding puts_of tree_of
replaced_none held record_size run tree s none levels top =
    let is : (run.blocks == 0) ≡ true = eq-eqb run.blocks 0 none in
    record {
      calls = 0;
      put = [];
      rest = [];
      parts = rw is refl;
      bound = omega arith;
      after = sym (blocks_nothing s);
      fault = refl;
      ended = (refl, rw is (λ i. record { levels = levels i; top = top i }), record { each = λ j touched. absurd (omega (arith, touched.blocks, none)) });
    }
