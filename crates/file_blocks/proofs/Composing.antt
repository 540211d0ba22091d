-- A change behind the reading of what it takes over, over plain variables.
use Rattle.std.proofs.Common.{◌≡◌, ℕ, zero, suc, ◌+◌, ◌-◌, ◌/◌, ◌^◌, ◌<◌, ◌≤◌, Bool, true, false, ◌==◌, nat_le, List, [], ◌∷◌, ◌++◌, length, map, get_or, refl, sym, ap, subst, ◌∙◌, inl, arith, Option, Some, None, Result, Ok, Err, if◌then◌else◌}
use Rattle.std.specs.Prelude.{IfOk, OnOk, IfSome, max, is_some}
use Rattle.std.specs.List.{range_with_len}
use Rattle.std.specs.Option.{option_map, option_map_or}
use Rattle.std.proofs.lemmas.Bool.{eq-eqb, eqb-true, ne_eqb}
use Rattle.std.proofs.lemmas.List.FromFn.{length-map-range_with_len}
use Rattle.std.proofs.lemmas.Option.{IfSome_then}
use Rattle.std.proofs.lemmas.Nat.{le-div}
use Rattle.std.proofs.Math.Nat.{div-mul-le_self}
use Rattle.block_crypt.specs.Blocks.{KeyValue}
use Rattle.salt_rotation.specs.SaltState.{SaltState}
use Rattle.shelf_store.specs.ShelfState.{ShelfState, after_calls}
use Rattle.indirect_macs.specs.declared.refs.ObjTree.{ObjTree}
use Rattle.indirect_macs.specs.declared.refs.MacError.{MacError}
use Rattle.indirect_macs.specs.declared.refs.MacError.TheVariants.{MacFailed, ShelfFault, Full, NoMemory}
use Rattle.indirect_macs.specs.Calls.{fails_within}
use Rattle.indirect_macs.specs.Replaced.{with_blocks}
use Rattle.indirect_macs.specs.Runs.{levels_for}
use Rattle.indirect_macs.proofs.Reading.{both}
use Rattle.indirect_macs.proofs.Putting.{same_fault, sizes_kept}
use Rattle.indirect_macs.proofs.RunLevels.{blocks_nothing}
use Rattle.indirect_macs.proofs.Walking.{after_more, fails_more}
use Rattle.file_blocks.specs.declared.change.Wrote.{Wrote}
use Rattle.file_blocks.specs.declared.object.Object.{Object}
use Rattle.file_blocks.specs.declared.write_error.WriteError.{WriteError}
use Rattle.file_blocks.specs.declared.write_error.WriteError.TheVariants.{Stopped}
use Rattle.file_blocks.specs.Changes.{Change, ChangeEnded, Changed, DrawnFor, Leaving, PassesIn, all_puts, count_in, refs_to}
use Rattle.file_blocks.specs.Objects.{Gives, Reading, blocks_for}
use Rattle.file_blocks.specs.Outcomes.{IsNoted}
use Rattle.file_blocks.specs.Writes.{Write, change_of_cut, change_of_length, change_of_write, change_to, count_of, cut_by, end_of, first_of, front_at, last_kept, last_of, left_of, length_after, new_texts, taken_in, text_over, texts_over}
use Rattle.file_blocks.proofs.Changing.{blocks_behind, for_held}
use Rattle.file_blocks.proofs.NewTexts.{IsWrite, counted_up}
use Rattle.file_blocks.proofs.Passing.{blocks_some, cut_passes, length_passes, write_passes}
use Rattle.file_blocks.proofs.Readings.{held_same}
use Rattle.file_blocks.proofs.Sealing.{drawn_full, no_draws}

-- ---- on every shelf

read_after : {Y : Type 0} (n : ℕ) (F : MacError → Type 0) (y : Y) (calls : ℕ) (put : List (List ℕ)) (s m t : ShelfState) → (r : Reading {X = Y} n F (Ok y) s m)
    → t ≡ after_calls calls (with_blocks put m) → t ≡ after_calls (r.calls + calls) (with_blocks put s)
read_after n F y calls put s m t r after =
    after ∙ ap (λ (state : ShelfState). after_calls calls (with_blocks put state)) r.after
    ∙ ap (after_calls calls) (blocks_behind put r.calls s) ∙ sym (after_more r.calls calls (with_blocks put s))

read_fault : {Y : Type 0} (n : ℕ) (F : MacError → Type 0) (y : Y) (calls : ℕ) (fault : Bool) (s m : ShelfState) → (r : Reading {X = Y} n F (Ok y) s m)
    → fault ≡ fails_within calls m.armed → fault ≡ fails_within (r.calls + calls) s.armed
read_fault n F y calls fault s m r is =
    is ∙ ap (λ (state : ShelfState). fails_within calls state.armed) r.after ∙ sym (fails_more r.calls calls s (sym r.fault))

pub leaving_read : {X Y : Type 0} (n low most : ℕ) (F : MacError → Type 0) (y : Y) (result : Result X WriteError) (s m t : ShelfState) (salts left : SaltState)
    → low ≤ most → Reading {X = Y} n F (Ok y) s m → Leaving {X = X} low 0 result m t salts left → Leaving {X = X} most n result s t salts left
leaving_read n low most F y result s m t salts left wider r leaving =
    record {
      count = leaving.count;
      few = omega (arith, leaving.few, wider);
      calls = r.calls + leaving.calls;
      put = leaving.put;
      draws = leaving.draws;
      bound = leaving.bound;
      within = omega (arith, leaving.within, r.bound);
      after = read_after n F y leaving.calls leaving.put s m t r leaving.after;
      fault = read_fault n F y leaving.calls _ s m r leaving.fault;
      drawn = leaving.drawn;
      counted = leaving.counted;
      leaves = leaving.leaves;
    }

pub leaving_wider : {X : Type 0} (low most reads more : ℕ) (result : Result X WriteError) (s t : ShelfState) (salts left : SaltState)
    → low ≤ most → reads ≤ more → Leaving {X = X} low reads result s t salts left → Leaving {X = X} most more result s t salts left
leaving_wider low most reads more result s t salts left wider further leaving =
    record {
      count = leaving.count;
      few = omega (arith, leaving.few, wider);
      calls = leaving.calls;
      put = leaving.put;
      draws = leaving.draws;
      bound = leaving.bound;
      within = omega (arith, leaving.within, further);
      after = leaving.after;
      fault = leaving.fault;
      drawn = leaving.drawn;
      counted = leaving.counted;
      leaves = leaving.leaves;
    }

pub leaving_unread : {X Y : Type 0} (n most : ℕ) (F : MacError → Type 0) (stop : MacError) (s t : ShelfState) (salts : SaltState)
    → Reading {X = Y} n F (Err stop) s t → Leaving {X = X} most n (Err (Stopped stop)) s t salts salts
leaving_unread {X = X} {Y = Y} n most F stop s t salts r =
    record {
      count = 0;
      few = omega arith;
      calls = r.calls;
      put = [];
      draws = 0;
      bound = omega arith;
      within = omega (arith, r.bound);
      after = r.after ∙ ap (after_calls r.calls) (sym (blocks_nothing s));
      fault = same_fault X Y stop ∙ r.fault;
      drawn = sym (no_draws salts);
      counted = record { low = omega arith; high = omega arith };
      leaves = (drawn_full X 0 0 0 stop refl, inl refl);
    }

-- ---- where the shelf tells

read_base : {Y : Type 0} (n : ℕ) (F : MacError → Type 0) (result : Result Y MacError) (s m : ShelfState) → Reading {X = Y} n F result s m → length m.sizes ≡ length s.sizes
read_base n F result s m r = ap (λ (state : ShelfState). length state.sizes) r.after ∙ ap length (sizes_kept r.calls s)

changed_read : {X Y : Type 0} (object : X → Object) (key : KeyValue) (held : List (List ℕ)) (change : Result Change MacError) (n : ℕ) (F : MacError → Type 0) (y : Y)
    (result : Result X WriteError) (s m t : ShelfState) (salts left : SaltState) → Reading {X = Y} n F (Ok y) s m
    → Changed {X = X} object key held change result m t salts left → Changed {X = X} object key held change result s t salts left
changed_read {X = X} object key held change n F y result s m t salts left r c =
    let base = read_base n F (Ok y) s m r in
    record {
      calls = r.calls + c.calls;
      put = c.put;
      rest = c.rest;
      draws = c.draws;
      parts = subst (λ (k : ℕ). c.put ++ c.rest ≡ all_puts key salts held k change) base c.parts;
      after = read_after n F y c.calls c.put s m t r c.after;
      fault = read_fault n F y c.calls _ s m r c.fault;
      drawn = c.drawn;
      counted = c.counted;
      leaves = c.leaves;
      ended = subst (λ (k : ℕ). ChangeEnded {X = X} object key salts held k change c.rest result t) base c.ended;
    }

unread_ended : (X : Type 0) (object : X → Object) (key : KeyValue) (salts : SaltState) (held : List (List ℕ)) (base : ℕ) (change : Result Change MacError)
    (rest : List (List ℕ)) (stop : MacError) (t : ShelfState) → Gives {X = Change} {Y = Change} (λ c. c) change (Err stop)
    → ChangeEnded {X = X} object key salts held base change rest (Err (Stopped stop)) t
unread_ended X object key salts held base change rest (MacFailed level place) t given = given
unread_ended X object key salts held base change rest ShelfFault t given = tt
unread_ended X object key salts held base change rest Full t given = absurd given
unread_ended X object key salts held base change rest NoMemory t given = tt

unread_drawn : (X : Type 0) (count : ℕ) (stop : MacError) (change : Result Change MacError) → Gives {X = Change} {Y = Change} (λ c. c) change (Err stop)
    → DrawnFor {X = X} count 0 0 (Err stop)
unread_drawn X count (MacFailed level place) change given = tt
unread_drawn X count ShelfFault change given = tt
unread_drawn X count Full change given = absurd given
unread_drawn X count NoMemory change given = tt

changed_unread : {X Y : Type 0} (object : X → Object) (key : KeyValue) (held : List (List ℕ)) (change : Result Change MacError) (n : ℕ) (F : MacError → Type 0) (stop : MacError)
    (s t : ShelfState) (salts : SaltState) → Reading {X = Y} n F (Err stop) s t → Gives {X = Change} {Y = Change} (λ c. c) change (Err stop)
    → Changed {X = X} object key held change (Err (Stopped stop)) s t salts salts
changed_unread {X = X} {Y = Y} object key held change n F stop s t salts r given =
    record {
      calls = r.calls;
      put = [];
      rest = all_puts key salts held (length s.sizes) change;
      draws = 0;
      parts = refl;
      after = r.after ∙ ap (after_calls r.calls) (sym (blocks_nothing s));
      fault = same_fault X Y stop ∙ r.fault;
      drawn = sym (no_draws salts);
      counted = record { low = omega arith; high = omega arith };
      leaves = (unread_drawn X (count_in change) stop change given, inl refl);
      ended = unread_ended X object key salts held (length s.sizes) change (all_puts key salts held (length s.sizes) change) stop t given;
    }

-- ---- what was read gives the change

pub told_after : {X Y : Type 0} (object : X → Object) (key : KeyValue) (change : (held : List (List ℕ)) → Result Change MacError) (c : Change) (n : ℕ) (F : MacError → Type 0) (y : Y)
    (result : Result X WriteError) (s m t : ShelfState) (salts left : SaltState) → Reading {X = Y} n F (Ok y) s m
    → IfSome s.held (λ held. (change held ≡ Ok c) × PassesIn key salts held (length m.sizes) c)
    → IfSome m.held (λ held. PassesIn key salts held (length m.sizes) c → Changed {X = X} object key held (Ok c) result m t salts left)
    → IfSome s.held (λ held. Changed {X = X} object key held (change held) result s t salts left)
told_after {X = X} object key change c n F y result s m t salts left r ready told =
    let same : m.held ≡ s.held = held_same n F (Ok y) s m r in
    let here : IfSome s.held (λ held. PassesIn key salts held (length m.sizes) c → Changed {X = X} object key held (Ok c) result m t salts left) =
    subst (λ (o : Option (List (List ℕ))). IfSome o (λ held. PassesIn key salts held (length m.sizes) c → Changed {X = X} object key held (Ok c) result m t salts left)) same told in
    both s.held ready here (λ held is changed.
    changed_read object key held (change held) n F y result s m t salts left r
    (subst (λ (made : Result Change MacError). Changed {X = X} object key held made result m t salts left) (sym is.0) (changed is.1)))

pub told_unread : {X Y : Type 0} (object : X → Object) (key : KeyValue) (change : (held : List (List ℕ)) → Result Change MacError) (n : ℕ) (F : MacError → Type 0) (stop : MacError)
    (s t : ShelfState) (salts : SaltState) → Reading {X = Y} n F (Err stop) s t
    → IfSome s.held (λ held. Gives {X = Change} {Y = Change} (λ c. c) (change held) (Err stop))
    → IfSome s.held (λ held. Changed {X = X} object key held (change held) (Err (Stopped stop)) s t salts salts)
told_unread object key change n F stop s t salts r given =
    IfSome_then s.held given (λ held gives. changed_unread object key held (change held) n F stop s t salts r gives)

pub noted_after : {Y : Type 0} (key : KeyValue) (change : (held : List (List ℕ)) → Result Change MacError) (c : Change) (n : ℕ) (F : MacError → Type 0) (y : Y)
    (result : Result Wrote WriteError) (s m : ShelfState) (salts : SaltState) → Reading {X = Y} n F (Ok y) s m
    → IfSome s.held (λ held. (change held ≡ Ok c) × PassesIn key salts held (length m.sizes) c)
    → IfOk result (λ wrote. wrote.first ≡ c.first) → IfOk result (λ wrote. wrote.refs.items ≡ refs_to key salts (length m.sizes) c.texts)
    → IfOk result (λ wrote. IfSome s.held (λ held. IsNoted key salts (length s.sizes) (change held) wrote))
noted_after key change c n F y (Ok wrote) s m salts r ready first refs =
    let base = read_base n F (Ok y) s m r in
    IfSome_then s.held ready (λ held is.
    rw is.0 (first, subst (λ (k : ℕ). wrote.refs.items ≡ refs_to key salts k c.texts) base refs))
noted_after key change c n F y (Err stop) s m salts r ready first refs = tt

-- ---- writes

write_change : (key : KeyValue) (held : List (List ℕ)) (w : Write) (texts : List (List ℕ)) → 0 < length w.bytes → new_texts key held w ≡ Ok texts
    → change_of_write key held w ≡ Ok (change_to w texts)
unfolding change_of_write
write_change key held w texts some is =
    let no : (length w.bytes == 0) ≡ false = ne_eqb (length w.bytes) 0 (λ e. omega (arith, e, some)) in
    rw (no, is) refl

pub write_ready : (key : KeyValue) (salts : SaltState) (base : ℕ) (w : Write) (texts : List (List ℕ)) (o : Option (List (List ℕ))) → IsWrite w
    → w.tree.levels ≡ levels_for (blocks_for w.record_size w.old_length)
    → IfSome o (λ held. new_texts key held w ≡ Ok texts)
    → IfSome o (λ held. (change_of_write key held w ≡ Ok (change_to w texts)) × PassesIn key salts held base (change_to w texts))
write_ready key salts base w texts o is levels given =
    IfSome_then o given (λ held read.
    let change = write_change key held w texts is.some read in
    (change, λ moves. write_passes key salts base held w (change_to w texts) is.wide is.levels levels change moves))

write_stops : {X : Type 0} (key : KeyValue) (held : List (List ℕ)) (w : Write) (f : X → List (List ℕ)) (stop : MacError) → 0 < length w.bytes
    → Gives {X = X} f (new_texts key held w) (Err stop) → Gives {X = Change} {Y = Change} (λ c. c) (change_of_write key held w) (Err stop)
unfolding change_of_write
write_stops key held w f (MacFailed level place) some given =
    let no : (length w.bytes == 0) ≡ false = ne_eqb (length w.bytes) 0 (λ e. omega (arith, e, some)) in
    rw (no, given) refl
write_stops key held w f ShelfFault some given = tt
write_stops key held w f Full some given = absurd given
write_stops key held w f NoMemory some given = tt

pub write_unread : {X : Type 0} (key : KeyValue) (w : Write) (f : X → List (List ℕ)) (stop : MacError) (o : Option (List (List ℕ))) → 0 < length w.bytes
    → IfSome o (λ held. Gives {X = X} f (new_texts key held w) (Err stop))
    → IfSome o (λ held. Gives {X = Change} {Y = Change} (λ c. c) (change_of_write key held w) (Err stop))
write_unread {X = X} key w f stop o some given = IfSome_then o given (λ held gives. write_stops {X = X} key held w f stop some gives)

div_order : (a b k : ℕ) → 0 < k → a ≤ b → a / k ≤ b / k
div_order a b k some order = le-div (a / k) b k some (omega (arith, order, div-mul-le_self a k))

pub write_within : (w : Write) → IsWrite w → first_of w + count_of w ≤ blocks_for w.record_size (length_after w)
write_within w is =
    let some : 0 < length_after w = omega (arith, is.some) in
    let blocks = blocks_some w.record_size (length_after w) is.wide some in
    let more : last_of w ≤ (length_after w - 1) / w.record_size = div_order (end_of w - 1) (length_after w - 1) w.record_size is.wide (omega arith) in
    let total = counted_up w is in
    omega (arith, blocks, more, total)

-- ---- cuts

cut_change : (key : KeyValue) (held : List (List ℕ)) (record_size : ℕ) (object : Object) (to : ℕ) (front : Option (List ℕ)) → 0 < to → to < object.length
    → front_at key held record_size object.tree (last_kept record_size to) (left_of record_size to) ≡ Ok front
    → change_of_cut key held record_size object to ≡ Ok (cut_by object.tree record_size to front)
unfolding change_of_cut
cut_change key held record_size object to front some less is =
    let shorter : nat_le object.length to ≡ false = grind (arith, less) in
    let no : (to == 0) ≡ false = ne_eqb to 0 (λ e. omega (arith, e, some)) in
    rw (shorter, no, is) refl

pub cut_ready : (key : KeyValue) (salts : SaltState) (base record_size : ℕ) (object : Object) (to index left : ℕ) (front : Option (List ℕ)) (o : Option (List (List ℕ)))
    → 0 < record_size → 1 ≤ object.tree.levels → object.tree.levels ≡ levels_for (blocks_for record_size object.length) → 0 < to → to < object.length
    → index ≡ last_kept record_size to → left ≡ left_of record_size to
    → IfSome o (λ held. front_at key held record_size object.tree index left ≡ Ok front)
    → IfSome o (λ held. (change_of_cut key held record_size object to ≡ Ok (cut_by object.tree record_size to front))
    × PassesIn key salts held base (cut_by object.tree record_size to front))
cut_ready key salts base record_size object to index left front o wide high levels some less at stays given =
    IfSome_then o given (λ held read.
    let change = cut_change key held record_size object to front some less (rw (at, stays) at read) in
    (change, λ moves. cut_passes key salts base held record_size object to (cut_by object.tree record_size to front) wide high levels change moves))

cut_stops : {X : Type 0} (key : KeyValue) (held : List (List ℕ)) (record_size : ℕ) (object : Object) (to : ℕ) (f : X → Option (List ℕ)) (stop : MacError) → 0 < to → to < object.length
    → Gives {X = X} f (front_at key held record_size object.tree (last_kept record_size to) (left_of record_size to)) (Err stop)
    → Gives {X = Change} {Y = Change} (λ c. c) (change_of_cut key held record_size object to) (Err stop)
unfolding change_of_cut
cut_stops key held record_size object to f (MacFailed level place) some less given =
    let shorter : nat_le object.length to ≡ false = grind (arith, less) in
    let no : (to == 0) ≡ false = ne_eqb to 0 (λ e. omega (arith, e, some)) in
    rw (shorter, no, given) refl
cut_stops key held record_size object to f ShelfFault some less given = tt
cut_stops key held record_size object to f Full some less given = absurd given
cut_stops key held record_size object to f NoMemory some less given = tt

pub cut_unread : {X : Type 0} (key : KeyValue) (record_size : ℕ) (object : Object) (to index left : ℕ) (f : X → Option (List ℕ)) (stop : MacError) (o : Option (List (List ℕ)))
    → 0 < to → to < object.length → index ≡ last_kept record_size to → left ≡ left_of record_size to
    → IfSome o (λ held. Gives {X = X} f (front_at key held record_size object.tree index left) (Err stop))
    → IfSome o (λ held. Gives {X = Change} {Y = Change} (λ c. c) (change_of_cut key held record_size object to) (Err stop))
cut_unread {X = X} key record_size object to index left f stop o some less at stays given =
    IfSome_then o given (λ held gives.
    cut_stops {X = X} key held record_size object to f stop some less
    (subst (λ (l : ℕ). Gives {X = X} f (front_at key held record_size object.tree (last_kept record_size to) l) (Err stop)) stays
    (subst (λ (i : ℕ). Gives {X = X} f (front_at key held record_size object.tree i left) (Err stop)) at gives)))

-- ---- the texts

range_get : {X : Type 0} (f : ℕ → X) (first n at : ℕ) (d : X) → at < n → get_or (map f (range_with_len first n)) at d ≡ f (first + at)
range_get f first zero at d within = absurd (omega (arith, within))
range_get f first (suc n) zero d within = ap f (let e : first ≡ first + 0 = omega arith in e)
range_get f first (suc n) (suc at) d within =
    range_get f (first + 1) n at d (omega (arith, within)) ∙ ap f (let e : first + 1 + at ≡ first + suc at = omega arith in e)

pub text_of_write : (w : Write) (front back : List ℕ) (at : ℕ) → at < count_of w
    → text_over w (first_of w + at) (taken_in w front back (first_of w + at)) ≡ get_or (texts_over w front back (count_of w)) at []
text_of_write w front back at within =
    sym (range_get (λ index. text_over w index (taken_in w front back index)) (first_of w) (count_of w) at [] within)

pub texts_counted : (w : Write) (front back : List ℕ) → length (texts_over w front back (count_of w)) ≡ count_of w
texts_counted w front back = length-map-range_with_len (λ index. text_over w index (taken_in w front back index)) (first_of w) (count_of w)

pub on_ok : {X E : Type 0} {P Q : Type 0} (r : Result X E) → IfOk r (λ _. P) → (P → Q) → OnOk r Q
on_ok (Ok x) is to = to is
on_ok (Err e) is to = tt

pub if_ok : {X E : Type 0} {P Q : X → Type 0} (r : Result X E) → ((x : X) → P x → Q x) → IfOk r P → IfOk r Q
if_ok (Ok x) to is = to x is
if_ok (Err e) to is = tt

pub if_both : {X E : Type 0} {P Q R : X → Type 0} (r : Result X E) → ((x : X) → P x → Q x → R x) → IfOk r P → IfOk r Q → IfOk r R
if_both (Ok x) to one two = to x one two
if_both (Err e) to one two = tt

-- ---- what is planned

abbrev pub planned : Write → (new_length first : ℕ) → (texts : List (List ℕ)) → Change
planned w new_length first texts = record {
  tree = w.tree;
  record_size = w.record_size;
  new_length = new_length;
  stays = false;
  first = first;
  texts = texts;
}

pub write_planned : (key : KeyValue) (salts : SaltState) (base : ℕ) (w : Write) (texts : List (List ℕ)) (new_length first : ℕ) (o : Option (List (List ℕ))) → IsWrite w
    → w.tree.levels ≡ levels_for (blocks_for w.record_size w.old_length) → new_length ≡ length_after w → first ≡ first_of w
    → IfSome o (λ held. new_texts key held w ≡ Ok texts)
    → IfSome o (λ held. (change_of_write key held w ≡ Ok (planned w new_length first texts)) × PassesIn key salts held base (planned w new_length first texts))
write_planned key salts base w texts new_length first o is levels long at given =
    rw (long, at) (write_ready key salts base w texts o is levels given)

-- the one text of a cut
abbrev pub one_text : Option (List ℕ) → List (List ℕ)
one_text front = option_map_or (λ text. text ∷ []) front []

abbrev pub cut_planned : ObjTree → (record_size to first : ℕ) → (texts : List (List ℕ)) → Change
cut_planned tree record_size to first texts = record {
  tree = tree;
  record_size = record_size;
  new_length = to;
  stays = false;
  first = first;
  texts = texts;
}

pub cut_planned_as : {X : Type 0} (f : X → List ℕ) (key : KeyValue) (salts : SaltState) (base record_size : ℕ) (object : Object) (to index left first : ℕ) (front : Option X) (texts : List (List ℕ))
    (o : Option (List (List ℕ)))
    → 0 < record_size → 1 ≤ object.tree.levels → object.tree.levels ≡ levels_for (blocks_for record_size object.length) → 0 < to → to < object.length
    → index ≡ last_kept record_size to → left ≡ left_of record_size to → first ≡ (if is_some front then index else 0) → texts ≡ one_text (option_map f front)
    → IfSome o (λ held. front_at key held record_size object.tree index left ≡ Ok (option_map f front))
    → IfSome o (λ held. (change_of_cut key held record_size object to ≡ Ok (cut_planned object.tree record_size to first texts))
    × PassesIn key salts held base (cut_planned object.tree record_size to first texts))
cut_planned_as {X = X} f key salts base record_size object to index left first front texts o wide high levels some less at stays starts is given =
    let here : (if is_some front then index else 0) ≡ (if is_some (option_map f front) then last_kept record_size to else 0) = by_front front at in
    rw (starts, is, here) (cut_ready key salts base record_size object to index left (option_map f front) o wide high levels some less at stays given)
  where
    by_front : (front : Option X) → index ≡ last_kept record_size to
        → (if is_some front then index else 0) ≡ (if is_some (option_map f front) then last_kept record_size to else 0)
    by_front None at = refl
    by_front (Some x) at = at

pub one_of : {X : Type 0} (f : X → List ℕ) (front : Option X) → option_map_or (λ text. f text ∷ []) front [] ≡ one_text (option_map f front)
one_of f None = refl
one_of f (Some x) = refl

-- ---- a length alone

abbrev pub lengthened : ObjTree → (record_size new_length : ℕ) → (stays : Bool) → Change
lengthened tree record_size new_length stays = record {
  tree = tree;
  record_size = record_size;
  new_length = new_length;
  stays = stays;
  first = 0;
  texts = [];
}

pub length_told : (P : (held : List (List ℕ)) → Change → Type 0) (key : KeyValue) (salts : SaltState) (base record_size before after : ℕ) (tree : ObjTree) (stays : Bool) (o : Option (List (List ℕ)))
    → 0 < record_size → 1 ≤ tree.levels → tree.levels ≡ levels_for (blocks_for record_size before) → before ≤ after
    → stays ≡ (levels_for (blocks_for record_size after) == tree.levels)
    → IfSome o (λ held. PassesIn key salts held base (lengthened tree record_size after stays) → P held (lengthened tree record_size after stays))
    → IfSome o (λ held. P held (change_of_length tree record_size after))
length_told P key salts base record_size before after tree stays o wide some levels order same told =
    IfSome_then o (rw same at told) (λ held goes. goes (λ moves. length_passes key salts base held record_size tree before after wide some levels order moves))

pub same_levels : (a b : ℕ) (stays : Bool) → stays ≡ (a == b) → stays ≡ true → b ≡ a
same_levels a b stays is same = sym (eqb-true a b (sym is ∙ same))

bounds : (a b c d : Bool) → (1 ≤ (if a then 1 else (if b then 2 else (if c then 3 else (if d then 4 else 5))))) × ((if a then 1 else (if b then 2 else (if c then 3 else (if d then 4 else 5)))) ≤ 5)
bounds true b c d = (omega arith, omega arith)
bounds false true c d = (omega arith, omega arith)
bounds false false true d = (omega arith, omega arith)
bounds false false false true = (omega arith, omega arith)
bounds false false false false = (omega arith, omega arith)

pub has_levels : (blocks levels : ℕ) → levels ≡ levels_for blocks → (1 ≤ levels) × (levels ≤ 5)
has_levels blocks levels is = rw is (bounds (nat_le blocks (32 ^ 1)) (nat_le blocks (32 ^ 2)) (nat_le blocks (32 ^ 3)) (nat_le blocks (32 ^ 4)))

-- without bytes
pub none_written : (key : KeyValue) (held : List (List ℕ)) (w : Write) (new_length : ℕ) → length w.bytes ≡ 0 → new_length ≡ max w.old_length w.from
    → change_of_write key held w ≡ Ok (change_of_length w.tree w.record_size new_length)
unfolding change_of_write
none_written key held w new_length none is =
    let yes : (length w.bytes == 0) ≡ true = eq-eqb (length w.bytes) 0 none in
    let long : max w.old_length (w.from + length w.bytes) ≡ new_length = omega (arith, none, is) in
    rw (yes, long) refl

-- cuts that aren't within
pub not_cut : (key : KeyValue) (held : List (List ℕ)) (record_size : ℕ) (object : Object) (to : ℕ) → object.length ≤ to
    → change_of_cut key held record_size object to ≡ Ok (change_of_length object.tree record_size to)
unfolding change_of_cut
not_cut key held record_size object to longer =
    let yes : nat_le object.length to ≡ true = grind (arith, longer) in rw yes refl

pub all_cut : (key : KeyValue) (held : List (List ℕ)) (record_size : ℕ) (object : Object) (to : ℕ) → to ≡ 0 → 0 < object.length
    → change_of_cut key held record_size object to ≡ Ok (cut_by object.tree record_size 0 None)
unfolding change_of_cut
all_cut key held record_size object to none some =
    let no : nat_le object.length to ≡ false = (let less : to < object.length = omega (arith, none, some) in grind (arith, less)) in
    let yes : (to == 0) ≡ true = eq-eqb to 0 none in rw (no, yes) refl

pub cut_within : (record_size to : ℕ) → 0 < record_size → 0 < to → last_kept record_size to + 1 ≤ blocks_for record_size to
cut_within record_size to wide some = let blocks = blocks_some record_size to wide some in omega (arith, blocks)

-- a change that is known of each shelf, for the one that is
pub known_told : {X : Type 0} (object : X → Object) (key : KeyValue) (change : (held : List (List ℕ)) → Result Change MacError) (c : Change) (result : Result X WriteError) (s t : ShelfState)
    (salts left : SaltState) → ((held : List (List ℕ)) → change held ≡ Ok c)
    → IfSome s.held (λ held. Changed {X = X} object key held (Ok c) result s t salts left)
    → IfSome s.held (λ held. Changed {X = X} object key held (change held) result s t salts left)
known_told {X = X} object key change c result s t salts left known told =
    IfSome_then s.held told (λ held changed. subst (λ (made : Result Change MacError). Changed {X = X} object key held made result s t salts left) (sym (known held)) changed)

pub known_noted : (key : KeyValue) (change : (held : List (List ℕ)) → Result Change MacError) (c : Change) (result : Result Wrote WriteError) (s : ShelfState) (salts : SaltState)
    → ((held : List (List ℕ)) → change held ≡ Ok c)
    → IfOk result (IsNoted key salts (length s.sizes) (Ok c))
    → IfOk result (λ wrote. IfSome s.held (λ held. IsNoted key salts (length s.sizes) (change held) wrote))
known_noted key change c (Ok wrote) s salts known noted =
    for_held s.held (λ held. subst (λ (made : Result Change MacError). IsNoted key salts (length s.sizes) made wrote) (sym (known held)) noted)
known_noted key change c (Err stop) s salts known noted = tt

-- all is cut off
pub all_told : {X : Type 0} (object : X → Object) (key : KeyValue) (record_size : ℕ) (old : Object) (to : ℕ) (result : Result X WriteError) (s t : ShelfState) (salts left : SaltState)
    → 0 < record_size → 1 ≤ old.tree.levels → old.tree.levels ≡ levels_for (blocks_for record_size old.length) → to ≡ 0 → 0 < old.length
    → IfSome s.held (λ held. PassesIn key salts held (length s.sizes) (cut_by old.tree record_size 0 None)
    → Changed {X = X} object key held (Ok (cut_by old.tree record_size 0 None)) result s t salts left)
    → IfSome s.held (λ held. Changed {X = X} object key held (change_of_cut key held record_size old to) result s t salts left)
all_told {X = X} object key record_size old to result s t salts left wide some levels none more told =
    IfSome_then s.held told (λ held goes.
    let change = all_cut key held record_size old to none more in
    subst (λ (made : Result Change MacError). Changed {X = X} object key held made result s t salts left) (sym change)
    (goes (λ moves. cut_passes key salts (length s.sizes) held record_size old to (cut_by old.tree record_size 0 None) wide some levels change moves)))

pub one_at_most : {X : Type 0} (f : X → List ℕ) (front : Option X) → length (option_map_or (λ text. f text ∷ []) front []) ≤ 1
one_at_most f None = omega arith
one_at_most f (Some x) = omega arith

pub cut_in : {X : Type 0} (f : X → List ℕ) (front : Option X) (record_size to index first : ℕ) → 0 < record_size → 0 < to → index ≡ last_kept record_size to
    → first ≡ (if is_some front then index else 0) → first + length (option_map_or (λ text. f text ∷ []) front []) ≤ blocks_for record_size to
cut_in f None record_size to index first wide some at starts = omega (arith, starts)
cut_in f (Some x) record_size to index first wide some at starts =
    let within = cut_within record_size to wide some in omega (arith, starts, at, within)
