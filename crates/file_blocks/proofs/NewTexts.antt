-- The new texts of the blocks that a write touches, from what is taken over of the first and the last of them.
use Rattle.std.proofs.Common.{◌≡◌, ℕ, zero, suc, ◌+◌, ◌-◌, ◌*◌, ◌/◌, ◌^◌, ◌<◌, ◌≤◌, Bool, true, false, ◌==◌, nat_lt, List, [], ◌∷◌, length, drop, map, refl, sym, ap, subst, ◌∙◌, inl, inr, arith, length-drop, Option, Some, None, Result, Ok, Err, if◌then◌else◌}
use Rattle.std.specs.Prelude.{IsOk, ◌⊎◌}
use Rattle.std.specs.List.{range_with_len}
use Rattle.std.specs.Option.{option_map_or}
use Rattle.std.specs.Result.{result_map_both}
use Rattle.std.proofs.lemmas.Bool.{cases_lt, eq-eqb, ne_eqb}
use Rattle.std.proofs.lemmas.List.{length-take}
use Rattle.std.proofs.lemmas.Nat.{le-div}
use Rattle.std.proofs.Math.Nat.{lt-div-mul-add, div-mul-le_self, mul-le-mul_right, add-mul}
use Rattle.block_crypt.specs.Blocks.{KeyValue}
use Rattle.indirect_macs.specs.declared.refs.BlockRef.{BlockRef}
use Rattle.indirect_macs.specs.declared.refs.NodeRef.{NodeRef}
use Rattle.indirect_macs.specs.declared.refs.ObjTree.{ObjTree}
use Rattle.indirect_macs.specs.declared.refs.MacError.{MacError}
use Rattle.indirect_macs.specs.declared.refs.MacError.TheVariants.{MacFailed}
use Rattle.indirect_macs.specs.RunFields.{run_for}
use Rattle.indirect_macs.specs.Runs.{found_at, walk_to}
use Rattle.indirect_macs.specs.Walk.{walk, passed, goes_on, next_block, fails_at, place_of}
use Rattle.indirect_macs.proofs.RunFound.{walk_by_place}
use Rattle.file_blocks.specs.Changes.{ref_in}
use Rattle.file_blocks.specs.Objects.{collected, count_touched}
use Rattle.file_blocks.specs.Writes.{Write, first_of, count_of, last_of, end_of, start_in, piece_in, taken_from, taken_at, taken_by, text_over, new_text, new_texts, taken_in, texts_over, groups_at}
use Rattle.file_blocks.proofs.Least.{FirstErr, first_err}
use Rattle.file_blocks.proofs.Sizes.{walk_size}

-- ---- what is collected

pub collect_all : {X E : Type 0} (f : ℕ → Result X E) (g : ℕ → X) (first n : ℕ) → ((j : ℕ) → j < n → f (first + j) ≡ Ok (g (first + j)))
    → collected (map f (range_with_len first n)) ≡ Ok (map g (range_with_len first n))
collect_all f g first zero each = refl
collect_all f g first (suc n) each =
    let place : first + 0 ≡ first = omega arith in
    let one : f first ≡ Ok (g first) = rw place at (each 0 (omega arith)) in
    let rest : collected (map f (range_with_len (first + 1) n)) ≡ Ok (map g (range_with_len (first + 1) n)) =
    collect_all f g (first + 1) n (λ j low. let p : first + suc j ≡ first + 1 + j = omega arith in rw p at (each (suc j) (omega (arith, low)))) in
    rw (one, rest) refl

pub collect_stop : {X E : Type 0} (f : ℕ → Result X E) (first k n : ℕ) (failed : E) → k < n → ((j : ℕ) → j < k → IsOk (f (first + j)))
    → f (first + k) ≡ Err failed → collected (map f (range_with_len first n)) ≡ Err failed
collect_stop f first k zero failed within before fails = absurd (omega (arith, within))
collect_stop f first zero (suc n) failed within before fails =
    let place : first + 0 ≡ first = omega arith in
    let one : f first ≡ Err failed = rw place at fails in
    rw one refl
collect_stop {X = X} {E = E} f first (suc k) (suc n) failed within before fails =
    let place : first + 0 ≡ first = omega arith in
    let far : first + suc k ≡ first + 1 + k = omega arith in
    by_one (f first) refl (rw place at (before 0 (omega arith)))
    (collect_stop f (first + 1) k n failed (omega (arith, within))
    (λ j low. let p : first + suc j ≡ first + 1 + j = omega arith in rw p at (before (suc j) (omega (arith, low)))) (rw far at fails))
  where
    by_one : (one : Result X E) → f first ≡ one → IsOk one → collected (map f (range_with_len (first + 1) n)) ≡ Err failed
        → collected (f first ∷ map f (range_with_len (first + 1) n)) ≡ Err failed
    by_one (Ok x) is ok rest = rw (is, rest) refl
    by_one (Err other) is ok rest = absurd (cc)

-- ---- walks in one group of 32 blocks

abbrev pub stop_of : {X : Type 0} → Result X MacError → Option MacError
stop_of (Ok x) = None
stop_of (Err failed) = Some failed

-- the walk to a block
abbrev pub Finds : (held : List (List ℕ)) → (record_size : ℕ) → ObjTree → (index : ℕ) → Type 0
Finds held record_size tree index = (found : Option BlockRef) × (ref_in held record_size tree index ≡ Ok found)

ref_to : (held : List (List ℕ)) (record_size : ℕ) (tree : ObjTree) (index : ℕ) → ref_in held record_size tree index ≡ walk_to held record_size (run_for tree 0 0 []) index
unfolding walk_to
ref_to held record_size tree index = refl

low_stop : (held : List (List ℕ)) (record_size i j : ℕ) (found : Result (Option NodeRef) MacError) → i / 32 ≡ j / 32
    → stop_of (goes_on (λ next. walk held record_size i zero next) (λ failed. Err failed) found)
    ≡ stop_of (goes_on (λ next. walk held record_size j zero next) (λ failed. Err failed) found)
unfolding walk next_block
low_stop held record_size i j (Err failed) same = refl
low_stop held record_size i j (Ok None) same = refl
low_stop held record_size i j (Ok (Some node)) same = by_passed _ _ (passed held record_size 1 node)
  where
    by_passed : (f g : List ℕ → Option BlockRef) → (p : Option (List ℕ))
        → stop_of (option_map_or (λ bytes. Ok (f bytes)) p (Err (fails_at 1 i))) ≡ stop_of (option_map_or (λ bytes. Ok (g bytes)) p (Err (fails_at 1 j)))
    by_passed f g None = ap (λ (n : ℕ). let e : Option MacError = Some (MacFailed 1 n) in e) same
    by_passed f g (Some bytes) = refl

pub same_stop : (held : List (List ℕ)) (record_size : ℕ) (tree : ObjTree) (i j : ℕ) → 1 ≤ tree.levels → i / 32 ≡ j / 32
    → stop_of (ref_in held record_size tree i) ≡ stop_of (ref_in held record_size tree j)
same_stop held record_size tree i j some same =
    let own : place_of (0 + 1) i ≡ place_of (0 + 1) j = same in
    ap stop_of (ref_to held record_size tree i ∙ walk_by_place held record_size (run_for tree 0 0 []) 0 i some)
    ∙ low_stop held record_size i j (found_at held record_size (run_for tree 0 0 []) (0 + 1) (place_of (0 + 1) i)) same
    ∙ ap (λ (p : ℕ). stop_of (goes_on (λ next. walk held record_size j zero next) (λ failed. Err failed) (found_at held record_size (run_for tree 0 0 []) (0 + 1) p))) own
    ∙ ap stop_of (sym (ref_to held record_size tree j ∙ walk_by_place held record_size (run_for tree 0 0 []) 0 j some))

none_finds : (held : List (List ℕ)) (record_size : ℕ) (tree : ObjTree) (index : ℕ) → stop_of (ref_in held record_size tree index) ≡ None → Finds held record_size tree index
none_finds held record_size tree index none = by_ref (ref_in held record_size tree index) refl none
  where
    by_ref : (r : Result (Option BlockRef) MacError) → ref_in held record_size tree index ≡ r → stop_of r ≡ None → Finds held record_size tree index
    by_ref (Ok found) is none = (found, is)
    by_ref (Err failed) is none = absurd (cc)

pub finds_too : (held : List (List ℕ)) (record_size : ℕ) (tree : ObjTree) (i j : ℕ) → 1 ≤ tree.levels → i / 32 ≡ j / 32 → Finds held record_size tree i
    → Finds held record_size tree j
finds_too held record_size tree i j some same found =
    none_finds held record_size tree j (sym (same_stop held record_size tree i j some same) ∙ ap stop_of found.1)

pub fails_too : (held : List (List ℕ)) (record_size : ℕ) (tree : ObjTree) (i j : ℕ) (failed : MacError) → 1 ≤ tree.levels → i / 32 ≡ j / 32
    → ref_in held record_size tree i ≡ Err failed → ref_in held record_size tree j ≡ Err failed
fails_too held record_size tree i j failed some same fails =
    by_ref (ref_in held record_size tree j) refl (sym (same_stop held record_size tree i j some same) ∙ ap stop_of fails)
  where
    by_ref : (r : Result (Option BlockRef) MacError) → ref_in held record_size tree j ≡ r → stop_of r ≡ Some failed → ref_in held record_size tree j ≡ Err failed
    by_ref (Ok found) is stops = absurd (cc)
    by_ref (Err other) is stops = let e : other ≡ failed = cc in is ∙ ap (λ (f : MacError). let r : Result (Option BlockRef) MacError = Err f in r) e

-- the size in a reference to which the walk leads
pub ref_size : (held : List (List ℕ)) (record_size : ℕ) (tree : ObjTree) (index : ℕ) (r : BlockRef) → ref_in held record_size tree index ≡ Ok (Some r)
    → r.size ≤ record_size
ref_size held record_size tree index r is = by_inside (nat_lt index (32 ^ tree.levels)) is
  where
    by_inside : (b : Bool) → (if b then walk held record_size index (tree.levels - 1) tree.top else Ok None) ≡ Ok (Some r) → r.size ≤ record_size
    by_inside true is = walk_size held record_size index (tree.levels - 1) tree.top r is
    by_inside false is = absurd (cc)

-- ---- which blocks are touched

pub record IsWrite (w : Write) : Type 0 where
  pub levels : 1 ≤ w.tree.levels
  pub wide : 0 < w.record_size
  pub some : 0 < length w.bytes

pub div_order : (a b k : ℕ) → 0 < k → a ≤ b → a / k ≤ b / k
div_order a b k some order = le-div (a / k) b k some (omega (arith, order, div-mul-le_self a k))

pub in_order : (w : Write) → IsWrite w → first_of w ≤ last_of w
in_order w is = div_order w.from (end_of w - 1) w.record_size is.wide (omega (arith, is.some))

pub counted_up : (w : Write) → IsWrite w → first_of w + count_of w ≡ last_of w + 1
unfolding count_touched
counted_up w is =
    let order = in_order w is in
    let yes : nat_lt w.from (end_of w) ≡ true = (let less : w.from < w.from + length w.bytes = omega (arith, is.some) in grind (arith, less)) in
    rw yes (omega (arith, order))

-- a block between the first and the last is written over whole
pub record IsWhole (w : Write) (index : ℕ) : Type 0 where
  pub start : start_in w index ≡ 0
  pub size : length (piece_in w index) ≡ w.record_size

pub between : (w : Write) (index : ℕ) → IsWrite w → first_of w < index → index < last_of w → IsWhole w index
between w index is low high =
    let size : ℕ = w.record_size in
    let over : w.from < w.from / size * size + size = lt-div-mul-add is.wide in
    let next : (first_of w + 1) * size ≤ index * size = mul-le-mul_right size (omega (arith, low)) in
    let next_parts : (first_of w + 1) * size ≡ first_of w * size + 1 * size = add-mul (first_of w) 1 size in
    let one : 1 * size ≡ size = omega arith in
    let begins : w.from < index * size = omega (arith, over, next, next_parts, one) in
    let upper : (index + 1) * size ≤ last_of w * size = mul-le-mul_right size (omega (arith, high)) in
    let upper_parts : (index + 1) * size ≡ index * size + 1 * size = add-mul index 1 size in
    let under : last_of w * size ≤ end_of w - 1 = div-mul-le_self (end_of w - 1) size in
    let start : w.from - index * size ≡ 0 = omega (arith, begins) in
    record {
      start = start;
      size =
          length-take (size - start_in w index) (drop (index * size - w.from) w.bytes)
          ∙ (let rest = length-drop (index * size - w.from) w.bytes in omega (arith, rest, start, begins, upper, upper_parts, one, under, is.some));
    }

nothing_taken : (key : KeyValue) (held : List (List ℕ)) (record_size index : ℕ) (found : Option BlockRef) → ((r : BlockRef) → found ≡ Some r → r.size ≤ record_size)
    → taken_from key held index 0 (0 + record_size) found ≡ Ok []
unfolding taken_from
nothing_taken key held record_size index None small = refl
nothing_taken key held record_size index (Some r) small =
    let fits : r.size ≤ record_size = small r refl in
    let past : nat_lt (0 + record_size) r.size ≡ false = grind (arith, fits) in
    rw past refl

taken_between : (key : KeyValue) (held : List (List ℕ)) (w : Write) (index : ℕ) → IsWrite w → first_of w < index → index < last_of w
    → Finds held w.record_size w.tree index → taken_by key held w index ≡ Ok []
unfolding taken_at
taken_between key held w index is low high found =
    let whole = between w index is low high in
    rw (found.1, whole.size, whole.start)
    (nothing_taken key held w.record_size index found.0 (λ r same. ref_size held w.record_size w.tree index r (found.1 ∙ ap (λ (f : Option BlockRef). let r : Result (Option BlockRef) MacError = Ok f in r) same)))

pub text_of_taken : (key : KeyValue) (held : List (List ℕ)) (w : Write) (index : ℕ) (taken : List ℕ) → taken_by key held w index ≡ Ok taken
    → new_text key held w index ≡ Ok (text_over w index taken)
unfolding new_text
text_of_taken key held w index taken is = rw is refl

pub text_fails : (key : KeyValue) (held : List (List ℕ)) (w : Write) (index : ℕ) (failed : MacError) → taken_by key held w index ≡ Err failed
    → new_text key held w index ≡ Err failed
unfolding new_text
text_fails key held w index failed is = rw is refl

text_unfound : (key : KeyValue) (held : List (List ℕ)) (w : Write) (index : ℕ) (failed : MacError) → ref_in held w.record_size w.tree index ≡ Err failed
    → new_text key held w index ≡ Err failed
unfolding taken_at
text_unfound key held w index failed is = text_fails key held w index failed (rw is refl)

-- the walk passed where something was taken, and where its taking failed it failed, or passed
pub taken_finds : (key : KeyValue) (held : List (List ℕ)) (w : Write) (index : ℕ) (taken : List ℕ) → taken_by key held w index ≡ Ok taken
    → Finds held w.record_size w.tree index
unfolding taken_at
taken_finds key held w index taken is = by_ref (ref_in held w.record_size w.tree index) refl is
  where
    by_ref : (r : Result (Option BlockRef) MacError) → ref_in held w.record_size w.tree index ≡ r
        → goes_on (λ found. taken_from key held index (start_in w index) (start_in w index + length (piece_in w index)) found) (λ failed. Err failed) r ≡ Ok taken
        → Finds held w.record_size w.tree index
    by_ref (Ok found) same is = (found, same)
    by_ref (Err failed) same is = absurd (cc)

taken_stops : (key : KeyValue) (held : List (List ℕ)) (w : Write) (index : ℕ) (failed : MacError) → taken_by key held w index ≡ Err failed
    → (ref_in held w.record_size w.tree index ≡ Err failed) ⊎ Finds held w.record_size w.tree index
unfolding taken_at
taken_stops key held w index failed is = by_ref (ref_in held w.record_size w.tree index) refl is
  where
    by_ref : (r : Result (Option BlockRef) MacError) → ref_in held w.record_size w.tree index ≡ r
        → goes_on (λ found. taken_from key held index (start_in w index) (start_in w index + length (piece_in w index)) found) (λ failed. Err failed) r ≡ Err failed
        → (ref_in held w.record_size w.tree index ≡ Err failed) ⊎ Finds held w.record_size w.tree index
    by_ref (Ok found) same is = inr (found, same)
    by_ref (Err other) same is = let e : other ≡ failed = cc in inl (same ∙ ap (λ (x : MacError). let r : Result (Option BlockRef) MacError = Err x in r) e)

-- ---- all of them

-- the walks to the first block of each group between pass, up to one
abbrev pub Between : (held : List (List ℕ)) → Write → (upto : ℕ) → Type 0
Between held w upto = (group : ℕ) → first_of w / 32 < group → group < upto → Finds held w.record_size w.tree (32 * group)

head_of : (group : ℕ) → 32 * group / 32 ≡ group
head_of group = omega arith

walks : (held : List (List ℕ)) (w : Write) (upto index : ℕ) → IsWrite w → Finds held w.record_size w.tree (first_of w) → Between held w upto
    → first_of w ≤ index → index / 32 < upto → Finds held w.record_size w.tree index
walks held w upto index is first groups low high =
    elim (cases_lt (first_of w / 32) (index / 32)) [
      | inl later ↦ finds_too held w.record_size w.tree (32 * (index / 32)) index is.levels (head_of (index / 32)) (groups (index / 32) later high)
      | inr same ↦ finds_too held w.record_size w.tree (first_of w) index is.levels (omega (arith, low, same)) first
    ]

-- what is taken over of a block before the last
taken_first : (w : Write) (front back : List ℕ) → taken_in w front back (first_of w) ≡ front
taken_first w front back =
    let own : (first_of w == first_of w) ≡ true = eq-eqb (first_of w) (first_of w) refl in
    rw own refl

taken_last : (w : Write) (front back : List ℕ) (index : ℕ) → first_of w < index → index ≡ last_of w → taken_in w front back index ≡ back
taken_last w front back index low is =
    let other : (index == first_of w) ≡ false = ne_eqb index (first_of w) (λ e. omega (arith, e, low)) in
    let own : (index == last_of w) ≡ true = eq-eqb index (last_of w) is in
    rw (other, own) refl

taken_none : (w : Write) (front back : List ℕ) (index : ℕ) → first_of w < index → index < last_of w → taken_in w front back index ≡ []
taken_none w front back index low high =
    let other : (index == first_of w) ≡ false = ne_eqb index (first_of w) (λ e. omega (arith, e, low)) in
    let before : (index == last_of w) ≡ false = ne_eqb index (last_of w) (λ e. omega (arith, e, high)) in
    rw (other, before) refl

text_before : (key : KeyValue) (held : List (List ℕ)) (w : Write) (front back : List ℕ) (upto index : ℕ) → IsWrite w → taken_by key held w (first_of w) ≡ Ok front
    → Between held w upto → first_of w ≤ index → index / 32 < upto → index < last_of w
    → new_text key held w index ≡ Ok (text_over w index (taken_in w front back index))
text_before key held w front back upto index is first groups low group high =
    elim (cases_lt (first_of w) index) [
      | inl later ↦
          rw (taken_none w front back index later high)
          (text_of_taken key held w index []
          (taken_between key held w index is later high (walks held w upto index is (taken_finds key held w (first_of w) front first) groups low group)))
      | inr same ↦
          let e : index ≡ first_of w = omega (arith, low, same) in
          subst (λ (i : ℕ). new_text key held w i ≡ Ok (text_over w i (taken_in w front back i))) (sym e)
          (rw (taken_first w front back) (text_of_taken key held w (first_of w) front first))
    ]

pub is_ok_of : {X E : Type 0} (r : Result X E) (x : X) → r ≡ Ok x → IsOk r
is_ok_of r x is = rw is refl

-- the first failing one
fails_from : (key : KeyValue) (held : List (List ℕ)) (w : Write) (front : List ℕ) (upto at : ℕ) (failed : MacError) → IsWrite w
    → taken_by key held w (first_of w) ≡ Ok front → Between held w upto → first_of w ≤ at → at ≤ last_of w
    → ((index : ℕ) → index < at → index / 32 < upto) → new_text key held w at ≡ Err failed → new_texts key held w ≡ Err failed
unfolding new_texts
fails_from key held w front upto at failed is first groups low high below fails =
    let total = counted_up w is in
    let place : first_of w + (at - first_of w) ≡ at = omega (arith, low) in
    collect_stop (new_text key held w) (first_of w) (at - first_of w) (count_of w) failed (omega (arith, low, high, total))
    (λ j within.
    let before : first_of w + j < at = omega (arith, within, low) in
    is_ok_of (new_text key held w (first_of w + j)) _
    (text_before key held w front [] upto (first_of w + j) is first groups (omega arith) (below (first_of w + j) before) (omega (arith, before, high))))
    (subst (λ (i : ℕ). new_text key held w i ≡ Err failed) (sym place) fails)

-- ---- the cases of a reading

pub first_stops : (key : KeyValue) (held : List (List ℕ)) (w : Write) (failed : MacError) → IsWrite w → taken_by key held w (first_of w) ≡ Err failed
    → new_texts key held w ≡ Err failed
unfolding new_texts
first_stops key held w failed is fails =
    let total = counted_up w is in
    let order = in_order w is in
    let place : first_of w + 0 ≡ first_of w = omega arith in
    collect_stop (new_text key held w) (first_of w) 0 (count_of w) failed (omega (arith, total, order)) (λ j within. absurd (omega (arith, within)))
    (subst (λ (i : ℕ). new_text key held w i ≡ Err failed) (sym place) (text_fails key held w (first_of w) failed fails))

pub one_text : (key : KeyValue) (held : List (List ℕ)) (w : Write) (front back : List ℕ) → IsWrite w → last_of w ≡ first_of w
    → taken_by key held w (first_of w) ≡ Ok front → new_texts key held w ≡ Ok (texts_over w front back (count_of w))
unfolding new_texts
one_text key held w front back is one first =
    let total = counted_up w is in
    collect_all (new_text key held w) (λ index. text_over w index (taken_in w front back index)) (first_of w) (count_of w) (λ j within.
    let e : first_of w + j ≡ first_of w = omega (arith, within, total, one) in
    subst (λ (i : ℕ). new_text key held w i ≡ Ok (text_over w i (taken_in w front back i))) (sym e)
    (rw (taken_first w front back) (text_of_taken key held w (first_of w) front first)))

pub no_error : {X E : Type 0} (f : ℕ → Result X E) (first n : ℕ) (all : List X) (i : ℕ) → first ≤ i → i < first + n → (failed : E)
    → collected (map f (range_with_len first n)) ≡ Ok all → f i ≡ Err failed → ⊥
no_error f first zero all i low high failed same is = absurd (omega (arith, low, high))
no_error {X = X} {E = E} f first (suc n) all i low high failed same is =
    by_first (f first) refl (collected (map f (range_with_len (first + 1) n))) refl
    (λ xs behind later. no_error f (first + 1) n xs i (omega (arith, behind)) (omega (arith, high)) failed later is) same
  where
    by_first : (one : Result X E) → f first ≡ one → (rest : Result (List X) E) → collected (map f (range_with_len (first + 1) n)) ≡ rest
        → ((xs : List X) → first < i → collected (map f (range_with_len (first + 1) n)) ≡ Ok xs → ⊥)
        → collected (one ∷ map f (range_with_len (first + 1) n)) ≡ Ok all → ⊥
    by_first (Err other) one rest later on same = absurd (cc)
    by_first (Ok x) one (Err other) later on same = absurd (let s = rw later at same in cc)
    by_first (Ok x) one (Ok xs) later on same =
        elim (cases_lt first i) [
          | inl behind ↦ on xs behind later
          | inr own ↦ let e : i ≡ first = omega (arith, own, low) in absurd (let s = rw e at is in cc)
        ]

groups_pass : (held : List (List ℕ)) (record_size : ℕ) (tree : ObjTree) (from count : ℕ) → groups_at held record_size tree from count ≡ Ok tt
    → (group : ℕ) → from ≤ group → group < from + count → Finds held record_size tree (32 * group)
unfolding groups_at
groups_pass held record_size tree from count pass group low high =
    by_all (collected (map f (range_with_len from count))) refl pass
  where
    f : ℕ → Result (Option BlockRef) MacError
    f group = ref_in held record_size tree (32 * group)

    by_one : (r : Result (Option BlockRef) MacError) → ref_in held record_size tree (32 * group) ≡ r
        → (all : List (Option BlockRef)) → collected (map f (range_with_len from count)) ≡ Ok all → Finds held record_size tree (32 * group)
    by_one (Ok found) is all same = (found, is)
    by_one (Err failed) is all same = absurd (no_error f from count all group low high failed same is)

    by_all : (r : Result (List (Option BlockRef)) MacError) → collected (map f (range_with_len from count)) ≡ r
        → result_map_both (λ _. tt {0}) (λ failed. failed) r ≡ Ok tt → Finds held record_size tree (32 * group)
    by_all (Ok all) same pass = by_one (ref_in held record_size tree (32 * group)) refl all same
    by_all (Err failed) same pass = absurd (cc)

groups_between : (held : List (List ℕ)) (w : Write) (from count : ℕ) → from ≡ first_of w / 32 + 1 → count ≡ last_of w / 32 - from
    → groups_at held w.record_size w.tree from count ≡ Ok tt → Between held w (last_of w / 32)
groups_between held w from count begins counts pass group low high =
    groups_pass held w.record_size w.tree from count pass group (omega (arith, low, begins)) (omega (arith, high, counts, begins, low))

pub group_stops : (key : KeyValue) (held : List (List ℕ)) (w : Write) (front : List ℕ) (from count : ℕ) (failed : MacError) → IsWrite w
    → taken_by key held w (first_of w) ≡ Ok front → from ≡ first_of w / 32 + 1 → count ≡ last_of w / 32 - from
    → groups_at held w.record_size w.tree from count ≡ Err failed → new_texts key held w ≡ Err failed
unfolding groups_at
group_stops key held w front from count failed is first begins counts fails =
    by_all (collected (map f (range_with_len from count))) refl fails
  where
    f : ℕ → Result (Option BlockRef) MacError
    f group = ref_in held w.record_size w.tree (32 * group)

    passes : (one : FirstErr f from count failed) → Between held w (from + one.at)
    passes one group low high =
        let place : from + (group - from) ≡ group = omega (arith, low, begins) in
        by_one (ref_in held w.record_size w.tree (32 * group)) refl
      where
        by_one : (r : Result (Option BlockRef) MacError) → ref_in held w.record_size w.tree (32 * group) ≡ r → Finds held w.record_size w.tree (32 * group)
        by_one (Ok found) same = (found, same)
        by_one (Err other) same =
            let place : from + (group - from) ≡ group = omega (arith, low, begins) in
            absurd (one.before (group - from) (omega (arith, high, low, begins)) other (subst (λ (g : ℕ). f g ≡ Err other) (sym place) same))

    by_all : (r : Result (List (Option BlockRef)) MacError) → collected (map f (range_with_len from count)) ≡ r
        → result_map_both (λ _. tt {0}) (λ failed. failed) r ≡ Err failed → new_texts key held w ≡ Err failed
    by_all (Ok all) same fails = absurd (cc)
    by_all (Err other) same fails =
        let e : other ≡ failed = cc in
        let one = first_err f from count failed (subst (λ (x : MacError). collected (map f (range_with_len from count)) ≡ Err x) e same) in
        let low : first_of w ≤ 32 * (from + one.at) = omega (arith, begins) in
        let high : 32 * (from + one.at) ≤ last_of w = omega (arith, one.within, counts) in
        fails_from key held w front (from + one.at) (32 * (from + one.at)) failed is first (passes one) low high
        (λ index before. omega (arith, before))
        (text_unfound key held w (32 * (from + one.at)) failed one.fails)

pub last_stops : (key : KeyValue) (held : List (List ℕ)) (w : Write) (front : List ℕ) (from count : ℕ) (failed : MacError) → IsWrite w
    → taken_by key held w (first_of w) ≡ Ok front → from ≡ first_of w / 32 + 1 → count ≡ last_of w / 32 - from
    → groups_at held w.record_size w.tree from count ≡ Ok tt → taken_by key held w (last_of w) ≡ Err failed → new_texts key held w ≡ Err failed
last_stops key held w front from count failed is first begins counts pass fails = by_walk (taken_stops key held w (last_of w) failed fails)
  where
    order : first_of w ≤ last_of w
    order = in_order w is

    groups : Between held w (last_of w / 32)
    groups = groups_between held w from count begins counts pass

    by_walk : (ref_in held w.record_size w.tree (last_of w) ≡ Err failed) ⊎ Finds held w.record_size w.tree (last_of w) → new_texts key held w ≡ Err failed
    by_walk (inl unfound) =
        elim (cases_lt (first_of w / 32) (last_of w / 32)) [
          | inl later ↦
              fails_from key held w front (last_of w / 32) (32 * (last_of w / 32)) failed is first groups (omega (arith, later)) (omega arith)
              (λ index before. omega (arith, before))
              (text_unfound key held w (32 * (last_of w / 32)) failed
              (fails_too held w.record_size w.tree (last_of w) (32 * (last_of w / 32)) failed is.levels (sym (head_of (last_of w / 32))) unfound))
          | inr same ↦
              let found = finds_too held w.record_size w.tree (first_of w) (last_of w) is.levels (omega (arith, same, order)) (taken_finds key held w (first_of w) front first) in
              let there = found.1 in
              absurd (cc)
        ]
    by_walk (inr found) =
        fails_from key held w front (last_of w / 32 + 1) (last_of w) failed is first (all_groups found) order (omega arith)
        (λ index before. omega (arith, before)) (text_fails key held w (last_of w) failed fails)
      where
        all_groups : Finds held w.record_size w.tree (last_of w) → Between held w (last_of w / 32 + 1)
        all_groups found group low high =
            elim (cases_lt group (last_of w / 32)) [
              | inl less ↦ groups group low less
              | inr last ↦ finds_too held w.record_size w.tree (last_of w) (32 * group) is.levels (omega (arith, last, high)) found
            ]

pub all_texts : (key : KeyValue) (held : List (List ℕ)) (w : Write) (front back : List ℕ) (from count : ℕ) → IsWrite w → first_of w < last_of w
    → taken_by key held w (first_of w) ≡ Ok front → from ≡ first_of w / 32 + 1 → count ≡ last_of w / 32 - from
    → groups_at held w.record_size w.tree from count ≡ Ok tt → taken_by key held w (last_of w) ≡ Ok back
    → new_texts key held w ≡ Ok (texts_over w front back (count_of w))
unfolding new_texts
all_texts key held w front back from count is several first begins counts pass last =
    collect_all (new_text key held w) (λ index. text_over w index (taken_in w front back index)) (first_of w) (count_of w) (λ j within.
    each (first_of w + j) (omega arith) (let total = counted_up w is in omega (arith, within, total)))
  where
    groups : Between held w (last_of w / 32)
    groups = groups_between held w from count begins counts pass

    all_groups : Between held w (last_of w / 32 + 1)
    all_groups group low high =
        elim (cases_lt group (last_of w / 32)) [
          | inl less ↦ groups group low less
          | inr own ↦ finds_too held w.record_size w.tree (last_of w) (32 * group) is.levels (omega (arith, own, high)) (taken_finds key held w (last_of w) back last)
        ]

    each : (index : ℕ) → first_of w ≤ index → index ≤ last_of w → new_text key held w index ≡ Ok (text_over w index (taken_in w front back index))
    each index low high =
        elim (cases_lt index (last_of w)) [
          | inl less ↦ text_before key held w front back (last_of w / 32 + 1) index is first all_groups low (omega (arith, less)) less
          | inr own ↦
              let e : index ≡ last_of w = omega (arith, own, high) in
              rw (taken_last w front back index (omega (arith, several, e)) e)
              (text_of_taken key held w index back (subst (λ (i : ℕ). taken_by key held w i ≡ Ok back) (sym e) last))
        ]
