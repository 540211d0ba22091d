-- What texts and then nodes that are put leave, over plain variables.
use Rattle.std.proofs.Common.{◌≡◌, ℕ, zero, suc, ◌+◌, ◌-◌, ◌*◌, ◌/◌, ◌<◌, ◌≤◌, Bool, true, false, List, [], ◌∷◌, ◌++◌, length, map, get_or, refl, sym, ap, subst, ◌∙◌, inr, arith, Option, Some, None, Result, Ok, Err, if◌then◌else◌}
use Rattle.std.specs.Prelude.{All, IfSome, IsOk, IsTrue}
use Rattle.std.specs.Option.{option_map}
use Rattle.std.proofs.lemmas.List.{append_assoc, length-append, map-append}
use Rattle.std.proofs.lemmas.List.Elements.{All-nil, All-cons}
use Rattle.std.proofs.lemmas.Bool.Decides.{nat_tests}
use Rattle.std.proofs.lemmas.Option.{IfSome_then}
use Rattle.block_crypt.specs.Blocks.{KeyValue}
use Rattle.salt_rotation.specs.SaltState.{SaltState}
use Rattle.salt_rotation.specs.declared.salts.TheConstants.{MAX_DRAWS}
use Rattle.shelf_store.specs.ShelfState.{ShelfState, counted, after_calls}
use Rattle.indirect_macs.specs.declared.refs.BlockRef.{BlockRef}
use Rattle.indirect_macs.specs.declared.refs.ObjTree.{ObjTree}
use Rattle.indirect_macs.specs.declared.refs.MacError.{MacError}
use Rattle.indirect_macs.specs.declared.refs.MacError.TheVariants.{MacFailed, ShelfFault, Full, NoMemory}
use Rattle.indirect_macs.specs.Calls.{fails_within, is_fault}
use Rattle.indirect_macs.specs.Entries.{is_size}
use Rattle.indirect_macs.specs.Replaced.{Changes, Ended, Replaced, with_blocks}
use Rattle.indirect_macs.specs.RunFields.{run_for}
use Rattle.indirect_macs.specs.Runs.{Run, FirstFails, Passes, levels_for, most_puts, most_reads, old_of, puts_of, tree_of, walk_to}
use Rattle.indirect_macs.specs.Steps.{Puts, PutEnded}
use Rattle.indirect_macs.specs.Walk.{walk}
use Rattle.indirect_macs.proofs.Growth.{walk-grown}
use Rattle.indirect_macs.proofs.Putting.{same_fault}
use Rattle.indirect_macs.proofs.RunBounds.{puts_where_levels_grow, touched_few}
use Rattle.indirect_macs.proofs.RunLevels.{blocks_nothing}
use Rattle.indirect_macs.proofs.Walking.{after_more, fails_more, held_kept}
use Rattle.file_blocks.specs.declared.object.Object.{Object}
use Rattle.file_blocks.specs.declared.change.Wrote.{Wrote}
use Rattle.file_blocks.specs.Outcomes.{IsWrote}
use Rattle.file_blocks.specs.declared.write_error.WriteError.TheVariants.{Stopped, DrawsFull}
use Rattle.file_blocks.specs.Changes.{AreDraws, Change, ChangeEnded, Changed, DrawnFor, HasDraws, Leaving, PassesIn, Seals, after_draws, held_with, last_number, nodes_in, object_in, ref_under, next_draw, refs_to, run_in, sealed_texts}
use Rattle.file_blocks.specs.Objects.{blocks_for}
use Rattle.file_blocks.proofs.Sealing.{IsSealed, drawn_full, ended_front, length-refs, length-sealed, no_draws, sealed_base, sealed_size}

-- ---- calls and blocks

pub blocks_behind : (p : List (List ℕ)) (calls : ℕ) (s : ShelfState) → with_blocks p (after_calls calls s) ≡ after_calls calls (with_blocks p s)
blocks_behind p zero s = refl
blocks_behind p (suc calls) s = blocks_behind p calls (counted s)

option_more : (o : Option (List (List ℕ))) (p q : List (List ℕ))
    → option_map (λ before. before ++ q) (option_map (λ before. before ++ p) o) ≡ option_map (λ before. before ++ (p ++ q)) o
option_more None p q = refl
option_more (Some before) p q = ap Some (append_assoc before p q)

blocks_twice : (p q : List (List ℕ)) (s : ShelfState) → with_blocks q (with_blocks p s) ≡ with_blocks (p ++ q) s
blocks_twice p q s =
    let sizes : (s.sizes ++ map length p) ++ map length q ≡ s.sizes ++ map length (p ++ q) =
    append_assoc s.sizes (map length p) (map length q) ∙ ap (λ (rest : List ℕ). s.sizes ++ rest) (sym (map-append length p q)) in
    λ i. record s { sizes = sizes i; placed = option_more s.placed p q i; held = option_more s.held p q i }

-- so many calls were made, and these blocks put
record Went {X : Type 0} (calls : ℕ) (put : List (List ℕ)) (result : Result X MacError) (s t : ShelfState) : Type 0 where
  pub after : t ≡ after_calls calls (with_blocks put s)
  pub fault : is_fault result ≡ fails_within calls s.armed

went_on : {X : Type 0} (calls more_calls : ℕ) (put more : List (List ℕ)) (result : Result X MacError) (s m t : ShelfState)
    → m ≡ after_calls calls (with_blocks put s) → fails_within calls s.armed ≡ false
    → t ≡ after_calls more_calls (with_blocks more m) → is_fault result ≡ fails_within more_calls m.armed
    → Went {X = X} (calls + more_calls) (put ++ more) result s t
went_on calls more_calls put more result s m t first quiet rest fault =
    record {
      after = rest ∙ ap (λ (state : ShelfState). after_calls more_calls (with_blocks more state)) first
          ∙ ap (after_calls more_calls) (blocks_behind more calls (with_blocks put s) ∙ ap (after_calls calls) (blocks_twice put more s))
          ∙ sym (after_more calls more_calls (with_blocks (put ++ more) s));
      fault = fault ∙ ap (λ (state : ShelfState). fails_within more_calls state.armed) first ∙ sym (fails_more calls more_calls (with_blocks put s) quiet);
    }

-- ---- on every shelf

drawn_as : (X Y : Type 0) (count put draws : ℕ) (stop : MacError) → DrawnFor {X = X} count put draws (Err stop) → DrawnFor {X = Y} count put draws (Err stop)
drawn_as X Y count put draws (MacFailed level place) full = tt
drawn_as X Y count put draws ShelfFault full = tt
drawn_as X Y count put draws Full full = full
drawn_as X Y count put draws NoMemory full = tt

-- the tree stays
pub changes_none : {X : Type 0} (reads puts : ℕ) (x : X) (s : ShelfState) → Changes {X = X} reads puts (Ok x) s s
changes_none reads puts x s =
    record { calls = 0; put = []; bound = omega arith; few = omega arith; after = sym (blocks_nothing s); fault = refl }

-- too few draws are left
pub leaving_full : {X : Type 0} (count : ℕ) (s : ShelfState) (salts : SaltState) → MAX_DRAWS < salts.made + count
    → Leaving {X = X} count 0 (Err DrawsFull) s s salts salts
leaving_full count s salts few =
    record {
      count = count;
      few = omega arith;
      calls = 0;
      put = [];
      draws = 0;
      bound = omega arith;
      within = omega arith;
      after = sym (blocks_nothing s);
      fault = refl;
      drawn = sym (no_draws salts);
      counted = record { low = omega arith; high = omega arith };
      leaves = (refl, refl, few);
    }

-- the texts weren't all put
pub leaving_stop : {X Y : Type 0} (key : KeyValue) (texts : List (List ℕ)) (stop : MacError) (s t : ShelfState) (salts left : SaltState)
    → HasDraws salts (length texts) → Seals {X = Y} 0 (sealed_texts key salts texts) (Err stop) s t salts left
    → Leaving {X = X} (length texts) 0 (Err (Stopped stop)) s t salts left
leaving_stop {X = X} {Y = Y} key texts stop s t salts left enough seals =
    let size = length-sealed key salts texts in
    record {
      count = length texts;
      few = omega arith;
      calls = seals.puts.calls;
      put = seals.puts.put;
      draws = seals.draws;
      bound = omega (arith, size, ap length seals.puts.parts, length-append seals.puts.put seals.puts.rest);
      within = omega (arith, size, seals.puts.bound);
      after = seals.puts.after;
      fault = same_fault X Y stop ∙ seals.puts.fault;
      drawn = seals.drawn;
      counted = subst (λ (n : ℕ). AreDraws n (length seals.puts.put) seals.draws) size seals.counted;
      leaves = (
        drawn_as Y X (length texts) (length seals.puts.put) seals.draws stop
            (subst (λ (n : ℕ). DrawnFor {X = Y} n (length seals.puts.put) seals.draws (Err stop)) size seals.full),
        inr enough,
      );
    }

-- the nodes over texts, at most so many
pub nodes_few : (tree : ObjTree) (blocks first : ℕ) (refs : List (Option BlockRef)) (texts : List (List ℕ)) → 1 ≤ tree.levels → blocks ≤ 8388608
    → first + length texts ≤ blocks → length refs ≡ length texts → most_puts (run_for tree blocks first refs) ≤ length texts / 31 + 12
nodes_few tree blocks first refs texts some few within size =
    subst (λ (n : ℕ). most_puts (run_for tree blocks first refs) ≤ n / 31 + 12) size
    (puts_where_levels_grow (run_for tree blocks first refs) some (omega (arith, within, size)) few)

-- the nodes of the old tree over them, at most so many
pub nodes_read : (tree : ObjTree) (blocks first : ℕ) (refs : List (Option BlockRef)) (texts : List (List ℕ)) → tree.levels ≤ 5 → blocks ≤ 8388608
    → first + length texts ≤ blocks → length refs ≡ length texts → most_reads (run_for tree blocks first refs) ≤ length texts / 31 + 9
nodes_read tree blocks first refs texts low few within size =
    subst (λ (n : ℕ). most_reads (run_for tree blocks first refs) ≤ n / 31 + 9) size
    (touched_few (run_for tree blocks first refs) tree.levels low (omega (arith, within, size)) few)

-- the nodes were put
pub leaving_ok : {X Y : Type 0} (key : KeyValue) (texts : List (List ℕ)) (x : X) (y : Y) (reads puts : ℕ) (s m t : ShelfState) (salts left : SaltState)
    → reads ≤ length texts / 31 + 9 → puts ≤ length texts / 31 + 12 → HasDraws salts (length texts) → IsSealed key texts s m salts left → Changes {X = Y} reads puts (Ok y) m t
    → Leaving {X = X} (length texts) 0 (Ok x) s t salts left
leaving_ok {X = X} {Y = Y} key texts x y reads puts s m t salts left read few enough all nodes =
    let went = went_on {X = Y} all.put.calls nodes.calls (sealed_texts key salts texts) nodes.put (Ok y) s m t all.put.after all.put.quiet nodes.after nodes.fault in
    let size : length (sealed_texts key salts texts ++ nodes.put) ≡ length texts + length nodes.put = sealed_size key salts texts nodes.put in
    record {
      count = length texts;
      few = omega arith;
      calls = all.put.calls + nodes.calls;
      put = sealed_texts key salts texts ++ nodes.put;
      draws = length texts;
      bound = omega (arith, size, nodes.few, few);
      within = omega (arith, length-sealed key salts texts, all.put.bound, nodes.bound, few, read);
      after = went.after;
      fault = went.fault;
      drawn = all.drawn;
      counted = record { low = omega (arith, size); high = omega (arith, size) };
      leaves = (omega (arith, size), enough);
    }

pub leaving_err : {X Y : Type 0} (key : KeyValue) (texts : List (List ℕ)) (stop : MacError) (reads puts : ℕ) (s m t : ShelfState) (salts left : SaltState)
    → reads ≤ length texts / 31 + 9 → puts ≤ length texts / 31 + 12 → HasDraws salts (length texts) → IsSealed key texts s m salts left → Changes {X = Y} reads puts (Err stop) m t
    → Leaving {X = X} (length texts) 0 (Err (Stopped stop)) s t salts left
leaving_err {X = X} {Y = Y} key texts stop reads puts s m t salts left read few enough all nodes =
    let went = went_on {X = Y} all.put.calls nodes.calls (sealed_texts key salts texts) nodes.put (Err stop) s m t all.put.after all.put.quiet nodes.after nodes.fault in
    let size : length (sealed_texts key salts texts ++ nodes.put) ≡ length texts + length nodes.put = sealed_size key salts texts nodes.put in
    record {
      count = length texts;
      few = omega arith;
      calls = all.put.calls + nodes.calls;
      put = sealed_texts key salts texts ++ nodes.put;
      draws = length texts;
      bound = omega (arith, size, nodes.few, few);
      within = omega (arith, length-sealed key salts texts, all.put.bound, nodes.bound, few, read);
      after = went.after;
      fault = same_fault X Y stop ∙ went.fault;
      drawn = all.drawn;
      counted = record { low = omega (arith, size); high = omega (arith, size) };
      leaves = (drawn_full X (length texts) (length (sealed_texts key salts texts ++ nodes.put)) (length texts) stop (omega (arith, size)), inr enough);
    }

-- ---- walks on a longer shelf

or_beyond : (within : Bool) (walked grown : Result (Option BlockRef) MacError) (found : Option BlockRef)
    → ((there : Option BlockRef) → walked ≡ Ok there → grown ≡ Ok there)
    → (if within then walked else Ok None) ≡ Ok found → (if within then grown else Ok None) ≡ Ok found
or_beyond true walked grown found stays is = stays found is
or_beyond false walked grown found stays is = is

pub walk_to-grown : (held more : List (List ℕ)) (record_size : ℕ) (run : Run) (index : ℕ) (found : Option BlockRef)
    → walk_to held record_size run index ≡ Ok found → walk_to (held ++ more) record_size run index ≡ Ok found
unfolding walk_to
walk_to-grown held more record_size run index found is =
    or_beyond _ (walk held record_size index (run.levels - 1) run.top) (walk (held ++ more) record_size index (run.levels - 1) run.top) found
    (λ there walked. walk-grown held more record_size index (run.levels - 1) run.top there walked) is

still_ok : (walked grown : Result (Option BlockRef) MacError) → ((there : Option BlockRef) → walked ≡ Ok there → grown ≡ Ok there) → IsOk walked → IsOk grown
still_ok (Ok there) grown stays ok = rw (stays there refl) refl
still_ok (Err failed) grown stays ok = absurd (cc)

pub passes-grown : (held more : List (List ℕ)) (record_size : ℕ) (run : Run) → Passes held record_size run → Passes (held ++ more) record_size run
passes-grown held more record_size run passes =
    record {
      each = λ j touched.
          still_ok (walk_to held record_size run (32 * j)) (walk_to (held ++ more) record_size run (32 * j))
          (λ there walked. walk_to-grown held more record_size run (32 * j) there walked) (passes.each j touched);
    }

-- ---- the nodes over the texts

no_failure : (held : List (List ℕ)) (record_size : ℕ) (run : Run) (failed : MacError) → FirstFails held record_size run failed → Passes held record_size run → ⊥
no_failure held record_size run failed fails passes =
    let bad : false ≡ true = rw fails.fails at (passes.each fails.at fails.touched) in cc

ended_put : (held : List (List ℕ)) (record_size : ℕ) (run : Run) (base : ℕ) (put rest : List (List ℕ)) (result : Result ObjTree MacError) (t : ShelfState)
    → Passes held record_size run → Ended held record_size run base put rest result t → PutEnded {X = ObjTree} rest result t
ended_put held record_size run base put rest (Ok tree) t passes ended = ended.0
ended_put held record_size run base put rest (Err (MacFailed level place)) t passes ended = no_failure held record_size run (MacFailed level place) ended.1 passes
ended_put held record_size run base put rest (Err Full) t passes ended = ended.0
ended_put held record_size run base put rest (Err ShelfFault) t passes ended = tt
ended_put held record_size run base put rest (Err NoMemory) t passes ended = tt

pub replaced_puts : (held : List (List ℕ)) (record_size : ℕ) (run : Run) (result : Result ObjTree MacError) (s t : ShelfState)
    → Passes held record_size run → Replaced held record_size run result s t
    → Puts {X = ObjTree} (most_reads run) (puts_of run (old_of held record_size run) (length s.sizes)) result s t
replaced_puts held record_size run result s t passes replaced =
    record {
      calls = replaced.calls;
      put = replaced.put;
      rest = replaced.rest;
      parts = replaced.parts;
      bound = subst (λ (w : List (List ℕ)). replaced.calls ≤ most_reads run + length w) replaced.parts replaced.bound;
      after = replaced.after;
      fault = replaced.fault;
      ended = ended_put held record_size run (length s.sizes) replaced.put replaced.rest result t passes replaced.ended;
    }

pub nodes_made : (key : KeyValue) (salts : SaltState) (held : List (List ℕ)) (base : ℕ) (c : Change) → c.stays ≡ false
    → nodes_in key salts held base c
    ≡ puts_of (run_in key salts base c) (old_of (held_with key salts held c) c.record_size (run_in key salts base c)) (base + length c.texts)
unfolding nodes_in
nodes_made key salts held base c changes = rw changes refl

nodes_none : (key : KeyValue) (salts : SaltState) (held : List (List ℕ)) (base : ℕ) (c : Change) → c.stays ≡ true → nodes_in key salts held base c ≡ []
unfolding nodes_in
nodes_none key salts held base c stays = rw stays refl

object_made : (key : KeyValue) (salts : SaltState) (held : List (List ℕ)) (base : ℕ) (c : Change) (tree : ObjTree) → c.stays ≡ false
    → tree ≡ tree_of (run_in key salts base c) (old_of (held_with key salts held c) c.record_size (run_in key salts base c)) (base + length c.texts)
    → (let object : Object = record { length = c.new_length; tree = tree } in object ≡ object_in key salts held base c)
unfolding object_in
object_made key salts held base c tree changes is = rw (changes, is) refl

object_kept : (key : KeyValue) (salts : SaltState) (held : List (List ℕ)) (base : ℕ) (c : Change) (tree : ObjTree) → c.stays ≡ true → tree ≡ c.tree
    → (let object : Object = record { length = c.new_length; tree = tree } in object ≡ object_in key salts held base c)
unfolding object_in
object_kept key salts held base c tree stays is = rw (stays, is) refl

-- ---- where the shelf tells

through : (P : List (List ℕ) → Type 0) (o m : Option (List (List ℕ))) (more : List (List ℕ)) → m ≡ option_map (λ before. before ++ more) o
    → IfSome m P → IfSome o (λ held. P (held ++ more))
through P None m more is all = tt
through P (Some held) m more is all = rw is at all

pub for_held : (o : Option (List (List ℕ))) {P : List (List ℕ) → Type 0} → ((h : List (List ℕ)) → P h) → IfSome o P
for_held None each = tt
for_held (Some h) each = each h

by_stays : {P : Type 0} (stays : Bool) → (stays ≡ true → P) → (stays ≡ false → P) → P
by_stays true same changes = same refl
by_stays false same changes = changes refl

held_then : (key : KeyValue) (texts : List (List ℕ)) (s m : ShelfState) (salts left : SaltState) → IsSealed key texts s m salts left
    → m.held ≡ option_map (λ before. before ++ sealed_texts key salts texts) s.held
held_then key texts s m salts left all =
    ap (λ (state : ShelfState). state.held) all.put.after ∙ held_kept all.put.calls (with_blocks (sealed_texts key salts texts) s)

-- too few draws are left
pub changed_full : {X : Type 0} (object : X → Object) (key : KeyValue) (held : List (List ℕ)) (c : Change) (s : ShelfState) (salts : SaltState)
    → MAX_DRAWS < salts.made + length c.texts → Changed {X = X} object key held (Ok c) (Err DrawsFull) s s salts salts
changed_full object key held c s salts few =
    record {
      calls = 0;
      put = [];
      rest = sealed_texts key salts c.texts ++ nodes_in key salts held (length s.sizes) c;
      draws = 0;
      parts = refl;
      after = sym (blocks_nothing s);
      fault = refl;
      drawn = sym (no_draws salts);
      counted = record { low = omega arith; high = omega arith };
      leaves = (refl, refl, few);
      ended = refl;
    }

-- the texts weren't all put
stopped_ended : (X Y : Type 0) (object : X → Object) (key : KeyValue) (salts : SaltState) (held : List (List ℕ)) (base : ℕ) (c : Change)
    (rest : List (List ℕ)) (stop : MacError) (t : ShelfState)
    → PutEnded {X = Y} rest (Err stop) t → ChangeEnded {X = X} object key salts held base (Ok c) rest (Err (Stopped stop)) t
stopped_ended X Y object key salts held base c rest (MacFailed level place) t ended = absurd ended
stopped_ended X Y object key salts held base c rest ShelfFault t ended = tt
stopped_ended X Y object key salts held base c rest Full t ended = (refl, ended)
stopped_ended X Y object key salts held base c rest NoMemory t ended = tt

pub changed_stop : {X Y : Type 0} (object : X → Object) (key : KeyValue) (held : List (List ℕ)) (c : Change) (stop : MacError) (s t : ShelfState) (salts left : SaltState)
    → HasDraws salts (length c.texts) → Seals {X = Y} 0 (sealed_texts key salts c.texts) (Err stop) s t salts left
    → Changed {X = X} object key held (Ok c) (Err (Stopped stop)) s t salts left
changed_stop {X = X} {Y = Y} object key held c stop s t salts left enough seals =
    let size = length-sealed key salts c.texts in
    let nodes = nodes_in key salts held (length s.sizes) c in
    record {
      calls = seals.puts.calls;
      put = seals.puts.put;
      rest = seals.puts.rest ++ nodes;
      draws = seals.draws;
      parts = sym (append_assoc seals.puts.put seals.puts.rest nodes) ∙ ap (λ (w : List (List ℕ)). w ++ nodes) seals.puts.parts;
      after = seals.puts.after;
      fault = same_fault X Y stop ∙ seals.puts.fault;
      drawn = seals.drawn;
      counted = subst (λ (n : ℕ). AreDraws n (length seals.puts.put) seals.draws) size seals.counted;
      leaves = (
        drawn_as Y X (length c.texts) (length seals.puts.put) seals.draws stop
            (subst (λ (n : ℕ). DrawnFor {X = Y} n (length seals.puts.put) seals.draws (Err stop)) size seals.full),
        inr enough,
      );
      ended = stopped_ended X Y object key salts held (length s.sizes) c (seals.puts.rest ++ nodes) stop t
          (ended_front Y Y seals.puts.rest nodes stop t seals.puts.ended);
    }

-- the nodes were put, or a front of them
changed_ok : {X Y : Type 0} (object : X → Object) (key : KeyValue) (held : List (List ℕ)) (c : Change) (x : X) (y : Y) (reads : ℕ) (s m t : ShelfState) (salts left : SaltState)
    → HasDraws salts (length c.texts) → IsSealed key c.texts s m salts left → Puts {X = Y} reads (nodes_in key salts held (length s.sizes) c) (Ok y) m t
    → object x ≡ object_in key salts held (length s.sizes) c
    → Changed {X = X} object key held (Ok c) (Ok x) s t salts left
changed_ok {X = X} {Y = Y} object key held c x y reads s m t salts left enough all nodes is =
    let sealed = sealed_texts key salts c.texts in
    let went = went_on {X = Y} all.put.calls nodes.calls sealed nodes.put (Ok y) s m t all.put.after all.put.quiet nodes.after nodes.fault in
    let size : length (sealed ++ nodes.put) ≡ length c.texts + length nodes.put = sealed_size key salts c.texts nodes.put in
    record {
      calls = all.put.calls + nodes.calls;
      put = sealed ++ nodes.put;
      rest = nodes.rest;
      draws = length c.texts;
      parts = append_assoc sealed nodes.put nodes.rest ∙ ap (λ (w : List (List ℕ)). sealed ++ w) nodes.parts;
      after = went.after;
      fault = went.fault;
      drawn = all.drawn;
      counted = record { low = omega (arith, size); high = omega (arith, size) };
      leaves = (omega (arith, size), enough);
      ended = (nodes.ended, is);
    }

changed_err : {X Y : Type 0} (object : X → Object) (key : KeyValue) (held : List (List ℕ)) (c : Change) (stop : MacError) (reads : ℕ) (s m t : ShelfState) (salts left : SaltState)
    → HasDraws salts (length c.texts) → IsSealed key c.texts s m salts left → Puts {X = Y} reads (nodes_in key salts held (length s.sizes) c) (Err stop) m t
    → Changed {X = X} object key held (Ok c) (Err (Stopped stop)) s t salts left
changed_err {X = X} {Y = Y} object key held c stop reads s m t salts left enough all nodes =
    let sealed = sealed_texts key salts c.texts in
    let went = went_on {X = Y} all.put.calls nodes.calls sealed nodes.put (Err stop) s m t all.put.after all.put.quiet nodes.after nodes.fault in
    let size : length (sealed ++ nodes.put) ≡ length c.texts + length nodes.put = sealed_size key salts c.texts nodes.put in
    record {
      calls = all.put.calls + nodes.calls;
      put = sealed ++ nodes.put;
      rest = nodes.rest;
      draws = length c.texts;
      parts = append_assoc sealed nodes.put nodes.rest ∙ ap (λ (w : List (List ℕ)). sealed ++ w) nodes.parts;
      after = went.after;
      fault = same_fault X Y stop ∙ went.fault;
      drawn = all.drawn;
      counted = record { low = omega (arith, size); high = omega (arith, size) };
      leaves = (drawn_full X (length c.texts) (length (sealed ++ nodes.put)) (length c.texts) stop (omega (arith, size)), inr enough);
      ended = stopped_ended X Y object key salts held (length s.sizes) c nodes.rest stop t nodes.ended;
    }

-- ---- the run of the references to the texts

abbrev run_with : Change → List (Option BlockRef) → Run
run_with c refs = run_for c.tree (blocks_for c.record_size c.new_length) c.first refs

put_here : (key : KeyValue) (held : List (List ℕ)) (c : Change) (refs : List (Option BlockRef)) (result : Result ObjTree MacError) (s m t : ShelfState) (salts left : SaltState)
    → IsSealed key c.texts s m salts left → refs ≡ refs_to key salts (length s.sizes) c.texts → c.stays ≡ false
    → PassesIn key salts held (length s.sizes) c
    → Replaced (held ++ sealed_texts key salts c.texts) c.record_size (run_with c refs) result m t
    → (reads : ℕ) × Puts {X = ObjTree} reads (nodes_in key salts held (length s.sizes) c) result m t
put_here key held c refs result s m t salts left all is changes passes replaced =
    let run = run_in key salts (length s.sizes) c in
    let grown : Passes (held ++ sealed_texts key salts c.texts) c.record_size run = passes-grown held (sealed_texts key salts c.texts) c.record_size run (passes changes) in
    let here : Replaced (held ++ sealed_texts key salts c.texts) c.record_size run result m t =
    subst (λ (to : List (Option BlockRef)). Replaced (held ++ sealed_texts key salts c.texts) c.record_size (run_with c to) result m t) is replaced in
    let base = sealed_base key c.texts s m salts left all in
    let puts = replaced_puts (held ++ sealed_texts key salts c.texts) c.record_size run result m t grown here in
    let whole : puts_of run (old_of (held ++ sealed_texts key salts c.texts) c.record_size run) (length m.sizes) ≡ nodes_in key salts held (length s.sizes) c =
    ap (puts_of run (old_of (held ++ sealed_texts key salts c.texts) c.record_size run)) base ∙ sym (nodes_made key salts held (length s.sizes) c changes) in
    (most_reads run, subst (λ (w : List (List ℕ)). Puts {X = ObjTree} (most_reads run) w result m t) whole puts)

tree_here : (held : List (List ℕ)) (record_size : ℕ) (run : Run) (tree : ObjTree) (m t : ShelfState) → Replaced held record_size run (Ok tree) m t
    → tree ≡ tree_of run (old_of held record_size run) (length m.sizes)
tree_here held record_size run tree m t replaced = replaced.ended.1

nothing_put : (key : KeyValue) (held : List (List ℕ)) (c : Change) (tree : ObjTree) (base : ℕ) (m t : ShelfState) (salts : SaltState) → c.stays ≡ true → t ≡ m
    → Puts {X = ObjTree} 0 (nodes_in key salts held base c) (Ok tree) m t
nothing_put key held c tree base m t salts stays same =
    rw (nodes_none key salts held base c stays, same) (record {
      calls = 0;
      put = [];
      rest = [];
      parts = refl;
      bound = omega arith;
      after = sym (blocks_nothing m);
      fault = refl;
      ended = refl;
    })

same_tree : (a b : ObjTree) → (let given : Result ObjTree MacError = Ok a in given ≡ Ok b) → a ≡ b
same_tree a b same = cc

no_stop : (stop : MacError) (b : ObjTree) → (let given : Result ObjTree MacError = Err stop in given ≡ Ok b) → ⊥
no_stop stop b same = cc

pub change_ok : {X : Type 0} (object : X → Object) (key : KeyValue) (c : Change) (x : X) (tree : ObjTree) (refs : List (Option BlockRef)) (s m t : ShelfState) (salts left : SaltState)
    → HasDraws salts (length c.texts) → IsSealed key c.texts s m salts left
    → refs ≡ refs_to key salts (length s.sizes) c.texts
    → (c.stays ≡ true → (let given : Result ObjTree MacError = Ok tree in given ≡ Ok c.tree) × (t ≡ m))
    → (c.stays ≡ false → IfSome m.held (λ held. Replaced held c.record_size (run_with c refs) (Ok tree) m t))
    → object x ≡ record { length = c.new_length; tree = tree }
    → IfSome s.held (λ held. PassesIn key salts held (length s.sizes) c → Changed {X = X} object key held (Ok c) (Ok x) s t salts left)
change_ok {X = X} object key c x tree refs s m t salts left enough all is same changed made =
    by_stays c.stays
    (λ stays. for_held s.held (λ held passes.
    changed_ok {X = X} {Y = ObjTree} object key held c x tree 0 s m t salts left enough all
    (nothing_put key held c tree (length s.sizes) m t salts stays (same stays).1)
    (made ∙ object_kept key salts held (length s.sizes) c tree stays (same_tree tree c.tree (same stays).0))))
    (λ changes. IfSome_then s.held (through (λ held. Replaced held c.record_size (run_with c refs) (Ok tree) m t) s.held m.held (sealed_texts key salts c.texts) (held_then key c.texts s m salts left all) (changed changes)) (λ held replaced passes.
    let puts = put_here key held c refs (Ok tree) s m t salts left all is changes passes replaced in
    let here : tree ≡ tree_of (run_in key salts (length s.sizes) c) (old_of (held_with key salts held c) c.record_size (run_in key salts (length s.sizes) c)) (length s.sizes + length c.texts) =
    subst (λ (n : ℕ). tree ≡ tree_of (run_in key salts (length s.sizes) c) (old_of (held_with key salts held c) c.record_size (run_in key salts (length s.sizes) c)) n) (sealed_base key c.texts s m salts left all)
    (subst (λ (to : List (Option BlockRef)). tree ≡ tree_of (run_with c to) (old_of (held ++ sealed_texts key salts c.texts) c.record_size (run_with c to)) (length m.sizes)) is
    (tree_here (held ++ sealed_texts key salts c.texts) c.record_size (run_with c refs) tree m t replaced)) in
    changed_ok {X = X} {Y = ObjTree} object key held c x tree puts.0 s m t salts left enough all puts.1
    (made ∙ object_made key salts held (length s.sizes) c tree changes here)))

pub change_err : {X : Type 0} (object : X → Object) (key : KeyValue) (c : Change) (stop : MacError) (refs : List (Option BlockRef)) (s m t : ShelfState) (salts left : SaltState)
    → HasDraws salts (length c.texts) → IsSealed key c.texts s m salts left
    → refs ≡ refs_to key salts (length s.sizes) c.texts
    → (c.stays ≡ true → (let given : Result ObjTree MacError = Err stop in given ≡ Ok c.tree) × (t ≡ m))
    → (c.stays ≡ false → IfSome m.held (λ held. Replaced held c.record_size (run_with c refs) (Err stop) m t))
    → IfSome s.held (λ held. PassesIn key salts held (length s.sizes) c → Changed {X = X} object key held (Ok c) (Err (Stopped stop)) s t salts left)
change_err {X = X} object key c stop refs s m t salts left enough all is same changed =
    by_stays c.stays
    (λ stays. absurd (no_stop stop c.tree (same stays).0))
    (λ changes. IfSome_then s.held (through (λ held. Replaced held c.record_size (run_with c refs) (Err stop) m t) s.held m.held (sealed_texts key salts c.texts) (held_then key c.texts s m salts left all) (changed changes)) (λ held replaced passes.
    let puts = put_here key held c refs (Err stop) s m t salts left all is changes passes replaced in
    changed_err {X = X} {Y = ObjTree} object key held c stop puts.0 s m t salts left enough all puts.1))

-- ---- the sizes

sized : (record_size size : ℕ) → 1 ≤ size → size ≤ record_size → IsTrue (is_size record_size size)
sized record_size size some few = grind (arith, nat_tests)

pub refs_sized : (key : KeyValue) (salts : SaltState) (addr record_size : ℕ) (texts : List (List ℕ))
    → ((k : ℕ) (d : List ℕ) → k < length texts → (1 ≤ length (get_or texts k d)) × (length (get_or texts k d) ≤ record_size))
    → All (λ entry. IfSome entry (λ r. IsTrue (is_size record_size r.size))) (refs_to key salts addr texts)
unfolding refs_to
refs_sized key salts addr record_size [] sizes = All-nil _
refs_sized key salts addr record_size (text ∷ texts) sizes =
    All-cons (λ entry. IfSome entry (λ r. IsTrue (is_size record_size r.size))) (Some (ref_under key (next_draw salts) addr text)) (refs_to key (after_draws 1 salts) (addr + 1) texts)
    (sized record_size (length text) (sizes 0 [] (omega arith)).0 (sizes 0 [] (omega arith)).1)
    (refs_sized key (after_draws 1 salts) (addr + 1) record_size texts (λ k d within. sizes (suc k) d (omega (arith, within))))

-- ---- what was made

pub is_wrote : (key : KeyValue) (record_size bytes : ℕ) (tree : ObjTree) (first base : ℕ) (texts : List (List ℕ)) (wrote : Wrote) (salts left : SaltState)
    → bytes ≤ 4294967296 → tree.levels ≡ levels_for (blocks_for record_size bytes) → first + length texts ≤ blocks_for record_size bytes
    → wrote.object ≡ record { length = bytes; tree = tree } → wrote.first ≡ first → wrote.refs.items ≡ refs_to key salts base texts
    → wrote.last_number ≡ last_number salts (length texts) → left ≡ after_draws (length texts) salts
    → IsWrote record_size bytes salts left wrote
is_wrote key record_size bytes tree first base texts wrote salts left small levels within object at refs number drawn =
    let size : length wrote.refs.items ≡ length texts = ap length refs ∙ length-refs key salts base texts in
    let long : wrote.object.length ≡ bytes = ap (λ (o : Object). o.length) object in
    let high : wrote.object.tree.levels ≡ tree.levels = ap (λ (o : Object). o.tree.levels) object in
    record {
      object = record { bytes = rw long small; levels = rw long (high ∙ levels) };
      bytes = long;
      within = rw (size, at) within;
      number = rw size number;
      drawn = rw size drawn;
    }
