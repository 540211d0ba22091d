-- What is taken over of old texts: what the steps of its reading give, over plain variables.
use Rattle.std.proofs.Common.{◌≡◌, ℕ, ◌+◌, ◌*◌, ◌/◌, ◌^◌, ◌<◌, ◌≤◌, true, false, nat_lt, List, [], ◌∷◌, ◌++◌, length, take, map, refl, sym, ap, subst, ◌∙◌, inl, inr, arith, Option, Some, None, Result, Ok, Err}
use Rattle.std.specs.Prelude.{IfSome, nat_eq, ◌⊎◌}
use Rattle.std.specs.List.{range_with_len}
use Rattle.std.specs.Option.{option_map_or}
use Rattle.std.proofs.lemmas.Bool.{cases_lt, ne_eqb}
use Rattle.std.proofs.lemmas.List.FromFn.{map-range_with_len_more}
use Rattle.std.proofs.lemmas.Nat.{le-div}
use Rattle.std.proofs.lemmas.Option.{IfSome_then}
use Rattle.std.proofs.Math.Nat.{div-eq_of_lt, mul-add, mul-le-mul_left, one-le-pow}
use Rattle.block_crypt.specs.Blocks.{KeyValue}
use Rattle.shelf_store.specs.ShelfState.{ShelfState}
use Rattle.indirect_macs.specs.declared.refs.BlockRef.{BlockRef}
use Rattle.indirect_macs.specs.declared.refs.ObjTree.{ObjTree}
use Rattle.indirect_macs.specs.declared.refs.MacError.{MacError}
use Rattle.indirect_macs.specs.declared.refs.MacError.TheVariants.{MacFailed, ShelfFault, Full, NoMemory}
use Rattle.indirect_macs.specs.Walk.{goes_on}
use Rattle.indirect_macs.proofs.Powers.{pow-32}
use Rattle.indirect_macs.proofs.Reading.{both}
use Rattle.file_blocks.specs.Changes.{ref_in}
use Rattle.file_blocks.specs.Objects.{Gives, IsInRange, Reading, collected, opened_ref, text_of}
use Rattle.file_blocks.specs.Writes.{Write, start_in, piece_in, is_partial, opened_as, taken_from, taken_at, taken_by, front_from, front_at, groups_at}
use Rattle.file_blocks.proofs.Loops.{for_each_held}
use Rattle.file_blocks.proofs.NewTexts.{ref_size}
use Rattle.file_blocks.proofs.Ranges.{one_more, stops_at}
use Rattle.file_blocks.proofs.Readings.{reading_none, reading_more, reading_to, reading_ok, reading_err, held_before}

-- ---- within a tree

pub below_power : (index levels twos : ℕ) → twos ≡ levels → nat_eq (index / 2 ^ (5 * twos)) 0 ≡ nat_lt index (32 ^ levels)
below_power index levels twos is = rw (is, pow-32 levels) (by_place (cases_lt index (32 ^ levels)))
  where
    by_place : (index < 32 ^ levels) ⊎ (32 ^ levels ≤ index) → nat_eq (index / 32 ^ levels) 0 ≡ nat_lt index (32 ^ levels)
    by_place (inl small) =
        let yes : nat_lt index (32 ^ levels) ≡ true = grind (arith, small) in
        rw (div-eq_of_lt small, yes) refl
    by_place (inr past) =
        let no : nat_lt index (32 ^ levels) ≡ false = grind (arith, past) in
        let some : 1 ≤ index / 32 ^ levels = le-div 1 index (32 ^ levels) (one-le-pow levels 32 (omega arith)) (omega (arith, past)) in
        let other : nat_eq (index / 32 ^ levels) 0 ≡ false = ne_eqb (index / 32 ^ levels) 0 (λ e. omega (arith, e, some)) in
        rw (no, other) refl

-- ---- which places fail

pub in_levels : (levels index : ℕ) (stop : MacError) → IsInRange 0 index 1 stop → IsInRange levels index 1 stop
in_levels levels index (MacFailed level place) at = (at.0, at.1, at.2, omega (arith, at.3), at.4)
in_levels levels index ShelfFault at = tt
in_levels levels index Full at = at
in_levels levels index NoMemory at = tt

pub in_wider : (levels first count from more : ℕ) → ((index : ℕ) → first ≤ index → index < first + count → (from ≤ index) × (index < from + more))
    → (stop : MacError) → IsInRange levels first count stop → IsInRange levels from more stop
in_wider levels first count from more wide (MacFailed level place) at =
    let within = wide at.0 at.1 at.2 in
    (at.0, within.0, within.1, at.3, at.4)
in_wider levels first count from more wide ShelfFault at = tt
in_wider levels first count from more wide Full at = at
in_wider levels first count from more wide NoMemory at = tt

-- a walk, and behind it a block
pub walk_then : {X Y : Type 0} (levels index : ℕ) (x : X) (result : Result Y MacError) (s t u : ShelfState)
    → Reading levels (IsInRange levels index 1) (Ok x) s t → Reading 1 (IsInRange 0 index 1) result t u
    → Reading (levels + 1) (IsInRange levels index 1) result s u
walk_then levels index x result s t u first rest =
    reading_more levels 1 (IsInRange levels index 1) (IsInRange levels index 1) x result s t u first
    (reading_to 1 1 (IsInRange 0 index 1) (IsInRange levels index 1) result t u (omega arith) (in_levels levels index) rest)

-- ---- what a reference's block opens to

pub whole_told : (key : KeyValue) (index : ℕ) (r : BlockRef) (text items : List ℕ) (held : Option (List (List ℕ))) → items ≡ text
    → IfSome held (λ h. text_of key h index (Some r) ≡ Ok (Some text)) → IfSome held (λ h. opened_as key h index r ≡ Ok items)
unfolding text_of opened_as
whole_told key index r text items held same told =
    IfSome_then held told (λ h is. by_opened h (opened_ref key h r) is)
  where
    by_opened : (h : List (List ℕ)) → (found : Option (List ℕ)) → option_map_or (λ text. Ok (Some text)) found (Err (MacFailed 0 index)) ≡ Ok (Some text)
        → option_map_or (λ text. Ok text) found (Err (MacFailed 0 index)) ≡ Ok items
    by_opened h None is = absurd (cc)
    by_opened h (Some one) is = let e : one ≡ text = cc in ap (λ (x : List ℕ). let r : Result (List ℕ) MacError = Ok x in r) (e ∙ sym same)

pub whole_stopped : {X Y : Type 0} (key : KeyValue) (index : ℕ) (r : BlockRef) (f : X → Option (List ℕ)) (g : Y → List ℕ) (stop : MacError)
    (held : Option (List (List ℕ))) → IfSome held (λ h. Gives f (text_of key h index (Some r)) (Err stop))
    → IfSome held (λ h. Gives g (opened_as key h index r) (Err stop))
unfolding text_of opened_as
whole_stopped key index r f g (MacFailed level place) held told =
    IfSome_then held told (λ h is. by_opened (opened_ref key h r) is)
  where
    by_opened : (found : Option (List ℕ)) → option_map_or (λ text. Ok (Some text)) found (Err (MacFailed 0 index)) ≡ Err (MacFailed level place)
        → option_map_or (λ text. Ok text) found (Err (MacFailed 0 index)) ≡ Err (MacFailed level place)
    by_opened None is = cc
    by_opened (Some one) is = absurd (cc)
whole_stopped key index r f g ShelfFault held told = IfSome_then held told (λ h is. tt)
whole_stopped key index r f g Full held told = IfSome_then held told (λ h is. is)
whole_stopped key index r f g NoMemory held told = IfSome_then held told (λ h is. tt)

-- ---- what is taken over

pub hole_taken : (key : KeyValue) (index start end : ℕ) (found : Option BlockRef) (items : List ℕ) (held : Option (List (List ℕ))) → found ≡ None → items ≡ []
    → IfSome held (λ h. taken_from key h index start end found ≡ Ok items)
unfolding taken_from
hole_taken key index start end found items held none empty = for_each_held held (λ h. rw (none, empty) refl)

pub past_taken : (key : KeyValue) (index start end : ℕ) (found : Option BlockRef) (r : BlockRef) (items : List ℕ) (held : Option (List (List ℕ))) → found ≡ Some r
    → is_partial start end r.size ≡ false → items ≡ [] → IfSome held (λ h. taken_from key h index start end found ≡ Ok items)
unfolding taken_from
past_taken key index start end found r items held some past empty = for_each_held held (λ h. rw (some, past, empty) refl)

pub part_taken : {X : Type 0} (key : KeyValue) (index start end : ℕ) (found : Option BlockRef) (r : BlockRef) (f : X → List ℕ) (result : Result X MacError)
    (held : Option (List (List ℕ))) → found ≡ Some r → is_partial start end r.size ≡ true → IfSome held (λ h. Gives f (opened_as key h index r) result)
    → IfSome held (λ h. Gives f (taken_from key h index start end found) result)
unfolding taken_from
part_taken key index start end found r f result held some part told = IfSome_then held told (λ h is. rw (some, part) is)

pub front_hole : (key : KeyValue) (index left : ℕ) (found : Option BlockRef) (held : Option (List (List ℕ))) → found ≡ None
    → IfSome held (λ h. front_from key h index left found ≡ Ok None)
unfolding front_from
front_hole key index left found held none = for_each_held held (λ h. rw none refl)

pub front_whole : (key : KeyValue) (index left : ℕ) (found : Option BlockRef) (r : BlockRef) (held : Option (List (List ℕ))) → found ≡ Some r
    → r.size ≤ left → IfSome held (λ h. front_from key h index left found ≡ Ok None)
unfolding front_from
front_whole key index left found r held some small =
    let no : nat_lt left r.size ≡ false = grind (arith, small) in
    for_each_held held (λ h. rw (some, no) refl)

pub front_cut : (key : KeyValue) (index left : ℕ) (found : Option BlockRef) (r : BlockRef) (text items : List ℕ) (held : Option (List (List ℕ))) → found ≡ Some r
    → left < r.size → items ≡ take left text → IfSome held (λ h. opened_as key h index r ≡ Ok text)
    → IfSome held (λ h. front_from key h index left found ≡ Ok (Some items))
unfolding front_from
front_cut key index left found r text items held some large cut told =
    let yes : nat_lt left r.size ≡ true = grind (arith, large) in
    IfSome_then held told (λ h is. rw (some, yes, is, cut) refl)

pub front_stopped : {X Y : Type 0} (key : KeyValue) (index left : ℕ) (found : Option BlockRef) (r : BlockRef) (f : X → List ℕ) (g : Y → Option (List ℕ)) (stop : MacError)
    (held : Option (List (List ℕ))) → found ≡ Some r → left < r.size → IfSome held (λ h. Gives f (opened_as key h index r) (Err stop))
    → IfSome held (λ h. Gives g (front_from key h index left found) (Err stop))
unfolding front_from
front_stopped key index left found r f g (MacFailed level place) held some large told =
    let yes : nat_lt left r.size ≡ true = grind (arith, large) in
    IfSome_then held told (λ h is. rw (some, yes, is) refl)
front_stopped key index left found r f g ShelfFault held some large told = IfSome_then held told (λ h is. tt)
front_stopped key index left found r f g Full held some large told = IfSome_then held told (λ h is. is)
front_stopped key index left found r f g NoMemory held some large told = IfSome_then held told (λ h is. tt)

-- ---- behind a walk

pub walk_found : {Y Z : Type 0} (record_size index : ℕ) (tree : ObjTree) (found : Option BlockRef) (on : List (List ℕ) → Option BlockRef → Result Y MacError)
    (f : Z → Y) (result : Result Z MacError) (held later : Option (List (List ℕ))) → later ≡ held
    → IfSome held (λ h. ref_in h record_size tree index ≡ Ok found)
    → (IfSome found (λ r. r.size ≤ record_size) → IfSome later (λ h. Gives f (on h found) result))
    → IfSome held (λ h. Gives f (goes_on (λ r. on h r) (λ failed. Err failed) (ref_in h record_size tree index)) result)
walk_found record_size index tree found on f result held later same walked told =
    by_held held walked (subst (λ (x : Option (List (List ℕ))). IfSome found (λ r. r.size ≤ record_size) → IfSome x (λ h. Gives f (on h found) result)) same told)
  where
    small : (h : List (List ℕ)) → ref_in h record_size tree index ≡ Ok found → (o : Option BlockRef) → found ≡ o → IfSome o (λ r. r.size ≤ record_size)
    small h is None none = tt
    small h is (Some r) some = ref_size h record_size tree index r (is ∙ ap (λ (o : Option BlockRef). let x : Result (Option BlockRef) MacError = Ok o in x) some)

    by_held : (o : Option (List (List ℕ))) → IfSome o (λ h. ref_in h record_size tree index ≡ Ok found)
        → (IfSome found (λ r. r.size ≤ record_size) → IfSome o (λ h. Gives f (on h found) result))
        → IfSome o (λ h. Gives f (goes_on (λ r. on h r) (λ failed. Err failed) (ref_in h record_size tree index)) result)
    by_held None walked told = tt
    by_held (Some h) walked told = rw walked (told (small h walked found refl))

pub walk_stopped : {X Y Z : Type 0} (record_size index : ℕ) (tree : ObjTree) (on : List (List ℕ) → Option BlockRef → Result Y MacError)
    (g : X → Option BlockRef) (f : Z → Y) (stop : MacError) (held : Option (List (List ℕ)))
    → IfSome held (λ h. Gives g (ref_in h record_size tree index) (Err stop))
    → IfSome held (λ h. Gives f (goes_on (λ r. on h r) (λ failed. Err failed) (ref_in h record_size tree index)) (Err stop))
walk_stopped record_size index tree on g f (MacFailed level place) held told = IfSome_then held told (λ h is. rw is refl)
walk_stopped record_size index tree on g f ShelfFault held told = IfSome_then held told (λ h is. tt)
walk_stopped record_size index tree on g f Full held told = IfSome_then held told (λ h is. is)
walk_stopped record_size index tree on g f NoMemory held told = IfSome_then held told (λ h is. tt)

-- ---- groups

-- the references to their first blocks, so far
pub record Found (held : List (List ℕ)) (record_size : ℕ) (tree : ObjTree) (from k : ℕ) : Type 0 where
  pub refs : List (Option BlockRef)
  pub is : collected (map (λ group. ref_in held record_size tree (32 * group)) (range_with_len from k)) ≡ Ok refs

pub record Groups (record_size : ℕ) (tree : ObjTree) (from k : ℕ) (s t : ShelfState) : Type 0 where
  pub reading : Reading {X = Unit {0}} (tree.levels * k) (IsInRange tree.levels (32 * from) (32 * k)) (Ok tt) s t
  pub told : IfSome s.held (λ held. Found held record_size tree from k)

pub groups_begun : (record_size : ℕ) (tree : ObjTree) (from : ℕ) (s : ShelfState) → Groups record_size tree from 0 s s
groups_begun record_size tree from s =
    record {
      reading = reading_none (tree.levels * 0) (IsInRange tree.levels (32 * from) (32 * 0)) (tt {0}) s;
      told = for_each_held s.held (λ held. record { refs = []; is = refl });
    }

pub groups_more : {X : Type 0} (record_size : ℕ) (tree : ObjTree) (from k index : ℕ) (found : X) (f : X → Option BlockRef) (s t u : ShelfState)
    → Groups record_size tree from k s t → index ≡ 32 * (from + k) → Reading tree.levels (IsInRange tree.levels index 1) (Ok found) t u
    → IfSome t.held (λ held. ref_in held record_size tree index ≡ Ok (f found)) → Groups record_size tree from (k + 1) s u
groups_more record_size tree from k index found f s t u so place reading told =
    let one : tree.levels * 1 ≡ tree.levels = omega arith in
    record {
      reading =
          reading_to (tree.levels * k + tree.levels) (tree.levels * (k + 1)) (IsInRange tree.levels (32 * from) (32 * (k + 1))) (IsInRange tree.levels (32 * from) (32 * (k + 1))) _ s u
          (omega (arith, mul-add tree.levels k 1, one)) (λ stop is. is)
          (reading_more (tree.levels * k) tree.levels _ _ (tt {0}) _ s t u so.reading
          (reading_ok tree.levels (IsInRange tree.levels index 1) _ found (tt {0}) t u reading));
      told =
          both s.held so.told (held_before _ _ _ s t _ so.reading told) (λ held front is.
          record {
            refs = front.refs ++ f found ∷ [];
            is =
                ap collected (map-range_with_len_more (λ group. ref_in held record_size tree (32 * group)) from k (from + k) refl
                ∙ ap (λ (last : Result (Option BlockRef) MacError). map (λ group. ref_in held record_size tree (32 * group)) (range_with_len from k) ++ last ∷ []) (rw place at is))
                ∙ one_more (map (λ group. ref_in held record_size tree (32 * group)) (range_with_len from k)) front.refs (f found) front.is;
          });
    }

pub groups_stop : {X Y : Type 0} (record_size : ℕ) (tree : ObjTree) (from k count index : ℕ) (stop : MacError) (s t u : ShelfState)
    → Groups record_size tree from k s t → k < count → index ≡ 32 * (from + k) → Reading {X = X} tree.levels (IsInRange tree.levels index 1) (Err stop) t u
    → Reading {X = Y} (tree.levels * count) (IsInRange tree.levels (32 * from) (32 * count)) (Err stop) s u
groups_stop record_size tree from k count index stop s t u so within place reading =
    let one : tree.levels * 1 ≡ tree.levels = omega arith in
    let next : tree.levels * (k + 1) ≤ tree.levels * count = mul-le-mul_left tree.levels (omega (arith, within)) in
    reading_to (tree.levels * k + tree.levels) (tree.levels * count) (IsInRange tree.levels index 1) (IsInRange tree.levels (32 * from) (32 * count)) _ s u
    (omega (arith, mul-add tree.levels k 1, one, next))
    (in_wider tree.levels index 1 (32 * from) (32 * count) (λ i low high. (omega (arith, low, place), omega (arith, high, place, within))))
    (reading_more (tree.levels * k) tree.levels _ (IsInRange tree.levels index 1) (tt {0}) _ s t u so.reading (reading_err tree.levels (IsInRange tree.levels index 1) stop t u reading))

pub groups_stopped : {X Y : Type 0} (record_size : ℕ) (tree : ObjTree) (from k count index : ℕ) (g : X → Option BlockRef) (f : Y → Unit {0}) (stop : MacError) (s t : ShelfState)
    → Groups record_size tree from k s t → k < count → index ≡ 32 * (from + k) → IfSome t.held (λ held. Gives g (ref_in held record_size tree index) (Err stop))
    → IfSome s.held (λ held. Gives f (groups_at held record_size tree from count) (Err stop))
unfolding groups_at
groups_stopped record_size tree from k count index g f stop s t so within place told =
    both s.held so.told (held_before _ _ _ s t _ so.reading told) (λ held front is. by_stop held front stop is)
  where
    by_stop : (held : List (List ℕ)) → Found held record_size tree from k → (stop : MacError) → Gives g (ref_in held record_size tree index) (Err stop)
        → Gives f (groups_at held record_size tree from count) (Err stop)
    by_stop held front (MacFailed level at) is =
        let all : collected (map (λ group. ref_in held record_size tree (32 * group)) (range_with_len from count)) ≡ Err (MacFailed level at) =
        stops_at (λ group. ref_in held record_size tree (32 * group)) from k count front.refs (MacFailed level at) within front.is (rw place at is) in
        rw all refl
    by_stop held front ShelfFault is = tt
    by_stop held front Full is = is
    by_stop held front NoMemory is = tt

pub groups_ended : (record_size : ℕ) (tree : ObjTree) (from k count : ℕ) (s t : ShelfState) → Groups record_size tree from k s t → k ≡ count
    → IfSome s.held (λ held. groups_at held record_size tree from count ≡ Ok tt)
unfolding groups_at
groups_ended record_size tree from k count s t so at_end =
    IfSome_then s.held so.told (λ held front. let is = rw at_end at front.is in rw is refl)

pub groups_read : (record_size : ℕ) (tree : ObjTree) (from k count : ℕ) (s t : ShelfState) → Groups record_size tree from k s t → k ≡ count
    → Reading {X = Unit {0}} (tree.levels * count) (IsInRange tree.levels (32 * from) (32 * count)) (Ok tt) s t
groups_read record_size tree from k count s t so at_end = rw at_end at so.reading

pub of_some : {X : Type 0} (found : Option X) (x : X) (P : X → Type 0) → found ≡ Some x → IfSome found P → P x
of_some {X = X} found x P is all = subst (λ (o : Option X). IfSome o P) is all

pub take_found : {X : Type 0} (key : KeyValue) (w : Write) (index start end : ℕ) (found : Option BlockRef) (f : X → List ℕ) (result : Result X MacError)
    (held later : Option (List (List ℕ))) → start ≡ start_in w index → end ≡ start_in w index + length (piece_in w index) → later ≡ held
    → IfSome held (λ h. ref_in h w.record_size w.tree index ≡ Ok found)
    → (IfSome found (λ r. r.size ≤ w.record_size) → IfSome later (λ h. Gives f (taken_from key h index start end found) result))
    → IfSome held (λ h. Gives f (taken_by key h w index) result)
unfolding taken_at
take_found key w index start end found f result held later starts ends same walked told =
    walk_found w.record_size index w.tree found (λ h r. taken_from key h index (start_in w index) (start_in w index + length (piece_in w index)) r) f result held later same walked
    (λ small. rw (starts, ends) at (told small))

pub take_stopped : {X Y : Type 0} (key : KeyValue) (w : Write) (index : ℕ) (g : X → Option BlockRef) (f : Y → List ℕ) (stop : MacError) (held : Option (List (List ℕ)))
    → IfSome held (λ h. Gives g (ref_in h w.record_size w.tree index) (Err stop)) → IfSome held (λ h. Gives f (taken_by key h w index) (Err stop))
unfolding taken_at
take_stopped key w index g f stop held told =
    walk_stopped w.record_size index w.tree (λ h r. taken_from key h index (start_in w index) (start_in w index + length (piece_in w index)) r) g f stop held told

pub front_found : {X : Type 0} (key : KeyValue) (record_size index left : ℕ) (tree : ObjTree) (found : Option BlockRef) (f : X → Option (List ℕ)) (result : Result X MacError)
    (held later : Option (List (List ℕ))) → later ≡ held
    → IfSome held (λ h. ref_in h record_size tree index ≡ Ok found)
    → (IfSome found (λ r. r.size ≤ record_size) → IfSome later (λ h. Gives f (front_from key h index left found) result))
    → IfSome held (λ h. Gives f (front_at key h record_size tree index left) result)
unfolding front_at
front_found key record_size index left tree found f result held later same walked told =
    walk_found record_size index tree found (λ h r. front_from key h index left r) f result held later same walked told

pub front_unfound : {X Y : Type 0} (key : KeyValue) (record_size index left : ℕ) (tree : ObjTree) (g : X → Option BlockRef) (f : Y → Option (List ℕ)) (stop : MacError)
    (held : Option (List (List ℕ)))
    → IfSome held (λ h. Gives g (ref_in h record_size tree index) (Err stop)) → IfSome held (λ h. Gives f (front_at key h record_size tree index left) (Err stop))
unfolding front_at
front_unfound key record_size index left tree g f stop held told =
    walk_stopped record_size index tree (λ h r. front_from key h index left r) g f stop held told
