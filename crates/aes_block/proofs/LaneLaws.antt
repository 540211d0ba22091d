-- What the operations on vectors hold at each lane.
use Rattle.std.proofs.Common.{◌≡◌, ℕ, ◌+◌, ◌-◌, ◌*◌, ◌/◌, ◌%◌, ◌<◌, ◌≤◌, ◌++◌, take, drop, length-append, length-drop, length-take, inl, inr, Bool, true, false, T, List, length, map, slice_index, replicate, nat_le, if◌then◌else◌, refl, sym, ap, ◌∙◌, subst, arith, w8, Fits, zero-add}
use Rattle.std.proofs.lemmas.Bool.Decides.{nat_tests}
use Rattle.std.proofs.lemmas.Bool.{cases_lt}
use Rattle.std.proofs.lemmas.List.{get_or_append_left, get_or-append_right, get_or-take, get_or-drop, get_or_past, length-take-le}
use Rattle.std.proofs.lemmas.List.FromFn.{get_or-map-range_with_len}
use Rattle.std.proofs.lemmas.Simd.{get_or-zip2, length-zip2, get_or-replicate, swz_l, SwzOk, SwzOk-from_Each1, SwzOk-from_below, length-swz_l, get_or-swz_l, get_or-swz_l_below, Each1-from_get_or, Each1-get_or, below_from_Fits, length-chunk, get_or-chunk}
use Rattle.std.specs.List.{range_with_len}
use Rattle.std.specs.Simd.Lanes.{chunk, zip2, pick_l, Each1}
use Rattle.aes_block.specs.Lanes.{HasLanes, is_place, looked}

-- an operator on two vectors, and on a vector and one number for all lanes
pub lanes_of_both : (f : ℕ → ℕ → ℕ) (a b : List ℕ) → length a ≡ 32 → length b ≡ 32 → HasLanes (zip2 f a b) (λ i. f (slice_index a i) (slice_index b i))
lanes_of_both f a b la lb = record {
  long = length-zip2 f a b (la ∙ sym lb) ∙ la;
  each = λ i h. get_or-zip2 f a b i 0 0 0 (omega arith) (omega arith);
}

pub lanes_with_one : (f : ℕ → ℕ → ℕ) (a : List ℕ) (x : ℕ) → length a ≡ 32 → HasLanes (zip2 f a (replicate 32 x)) (λ i. f (slice_index a i) x)
lanes_with_one f a x la =
    let both = lanes_of_both f a (replicate 32 x) la refl in
    record { long = both.long; each = λ i h. both.each i h ∙ ap (f (slice_index a i)) (get_or-replicate 32 i x 0 h) }

pub lane_byte : (v : List ℕ) → length v ≡ 32 → Each1 (Fits w8) v → (i : ℕ) → i < 32 → slice_index v i < 256
lane_byte v long fits i h = Each1-get_or (λ x. x < 256) v i 0 (omega arith) (below_from_Fits w8 v fits)

-- sixteen bytes and the same again
pub lanes_twice : (half : List ℕ) → length half ≡ 16
    → HasLanes (pick_l 0 (half ++ half) (map (λ (j : ℕ). j % 16) (range_with_len 0 32))) (λ i. slice_index half (i % 16))
lanes_twice half long = record {
  long = refl;
  each = λ i h.
      get_or-map-range_with_len (λ j. slice_index (half ++ half) (j % 16)) 0 32 i i 0 h (zero-add i)
      ∙ get_or_append_left half half 0 (i % 16) (omega arith);
}

-- ---- look-ups

place-below : (j : ℕ) → is_place j ≡ true → nat_le 128 j ≡ false → j < 16
place-below j place none = grind (arith, nat_tests)

pick : (b : Bool) (x y z : ℕ) → (b ≡ false → y ≡ z) → (if b then x else y) ≡ (if b then x else z)
pick true x y z e = refl
pick false x y z e = e refl

pub places_fit : (js : List ℕ) → length js ≡ 32 → ((i : ℕ) → i < 32 → is_place (slice_index js i) ≡ true) → SwzOk w8 16 32 0 js
places_fit js long each =
    SwzOk-from_Each1 w8 16 2 32 0 js refl (omega arith)
    (Each1-from_get_or (λ j. T (is_place j)) js 0 (λ i lt. subst T (sym (each i (omega arith))) tt))

pub lanes_looked_up : (t table js : List ℕ) → HasLanes t (λ i. slice_index table (i % 16)) → length js ≡ 32
    → ((i : ℕ) → i < 32 → is_place (slice_index js i) ≡ true) → HasLanes (swz_l w8 16 t 0 js) (λ i. looked table (slice_index js i))
lanes_looked_up t table js lanes long places = record {
  long = length-swz_l w8 16 t 0 js ∙ long;
  each = λ i h.
      let j = slice_index js i in
      get_or-swz_l w8 16 t 0 js i (omega arith)
      ∙ pick (nat_le 128 j) 0 (slice_index t (16 * ((0 + i) / 16) + j)) (slice_index table j)
      (λ none.
      let below : j < 16 = place-below j (places i h) none in
      let place : (16 * ((0 + i) / 16) + j) % 16 ≡ j = omega arith in
      lanes.each (16 * ((0 + i) / 16) + j) (omega arith) ∙ ap (slice_index table) place);
}

-- ---- bytes moved within each block

pub moves_fit : (rows js : List ℕ) (from : ℕ) → HasLanes js (λ i. slice_index rows (from + i % 16)) → ((i : ℕ) → i < 16 → slice_index rows (from + i) < 16)
    → SwzOk w8 16 32 0 js
moves_fit rows js from lanes below =
    let long = lanes.long in
    SwzOk-from_below w8 16 2 32 0 js refl (omega arith)
    (Each1-from_get_or (λ j. j < 16) js 0 (λ i lt. rw (lanes.each i (omega arith)) (below (i % 16) (omega arith))))

pub lanes_moved : (v rows js : List ℕ) (from : ℕ) → HasLanes js (λ i. slice_index rows (from + i % 16))
    → ((i : ℕ) → i < 16 → slice_index rows (from + i) < 16)
    → HasLanes (swz_l w8 16 v 0 js) (λ i. slice_index v (16 * (i / 16) + slice_index rows (from + i % 16)))
lanes_moved v rows js from lanes below =
    let long = lanes.long in
    record {
      long = length-swz_l w8 16 v 0 js ∙ long;
      each = λ i h.
          let place : slice_index js i < 16 = rw (lanes.each i h) (below (i % 16) (omega arith)) in
          get_or-swz_l_below w8 16 v 0 js i (omega arith) place
          ∙ rw (zero-add i, lanes.each i h) refl;
    }

-- ---- n numbers written over a part of a list of `total`

-- the list with `part` from `at` on
abbrev pub over_part : ℕ → List ℕ → List ℕ → ℕ → List ℕ
over_part n xs part at = take at xs ++ (part ++ drop n (drop at xs))

pub length_over_part : (n total : ℕ) (xs part : List ℕ) (at : ℕ) → length xs ≡ total → at + n ≤ total → length part ≡ n
    → length (over_part n xs part at) ≡ total
length_over_part n total xs part at size within long =
    omega (
      arith,
      length-append (take at xs) (part ++ drop n (drop at xs)),
      length-append part (drop n (drop at xs)),
      length-take-le at xs (omega arith),
      length-drop n (drop at xs),
      length-drop at xs,
    )

pub over_part-below : (n total : ℕ) (xs part : List ℕ) (at k : ℕ) → length xs ≡ total → at + n ≤ total → k < at
    → slice_index (over_part n xs part at) k ≡ slice_index xs k
over_part-below n total xs part at k size within below =
    let front = length-take-le at xs (omega arith) in
    get_or_append_left (take at xs) (part ++ drop n (drop at xs)) 0 k (omega arith) ∙ get_or-take at xs k 0 below

pub over_part-within : (n total : ℕ) (xs part : List ℕ) (at k : ℕ) → length xs ≡ total → at + n ≤ total → length part ≡ n → at ≤ k → k < at + n
    → slice_index (over_part n xs part at) k ≡ slice_index part (k - at)
over_part-within n total xs part at k size within long ge lt =
    get_or-append_right (take at xs) (part ++ drop n (drop at xs)) at k 0 (length-take-le at xs (omega arith)) ge
    ∙ get_or_append_left part (drop n (drop at xs)) 0 (k - at) (omega arith)

pub over_part-above : (n total : ℕ) (xs part : List ℕ) (at k : ℕ) → length xs ≡ total → at + n ≤ total → length part ≡ n → at + n ≤ k
    → slice_index (over_part n xs part at) k ≡ slice_index xs k
over_part-above n total xs part at k size within long ge =
    let place : at + (n + (k - at - n)) ≡ k = omega arith in
    get_or-append_right (take at xs) (part ++ drop n (drop at xs)) at k 0 (length-take-le at xs (omega arith)) (omega arith)
    ∙ get_or-append_right part (drop n (drop at xs)) n (k - at) 0 long (omega arith)
    ∙ get_or-drop n (drop at xs) (k - at - n) 0 ∙ get_or-drop at xs (n + (k - at - n)) 0 ∙ ap (slice_index xs) place

-- 32 bytes read from a part
pub length-part_read : (now : List ℕ) (at k : ℕ) → k ≡ 32 → at + 32 ≤ length now → length (chunk 0 32 (take k (drop at now))) ≡ 32
length-part_read now at k e within =
    length-chunk 0 32 (take k (drop at now)) (omega (arith, length-take k (drop at now), length-drop at now))

pub part_read : (now : List ℕ) (at k i : ℕ) → k ≡ 32 → i < 32 → slice_index (chunk 0 32 (take k (drop at now))) i ≡ slice_index now (at + i)
part_read now at k i e h =
    get_or-chunk 0 32 (take k (drop at now)) i 0 h ∙ ap (slice_index (take k (drop at now))) (zero-add i)
    ∙ get_or-take k (drop at now) i 0 (omega arith) ∙ get_or-drop at now i 0

-- a part of a list of bytes has bytes
pub part-bytes : (x : List ℕ) → ((i : ℕ) → slice_index x i < 256) → (n at k : ℕ) → slice_index (take n (drop at x)) k < 256
part-bytes x bytes n at k =
    elim (cases_lt k n) [
      | inl lt ↦ rw (get_or-take n (drop at x) k 0 lt, get_or-drop at x k 0) (bytes (at + k))
      | inr ge ↦ rw (get_or_past (take n (drop at x)) k 0 (omega (arith, length-take n (drop at x)))) (omega arith)
    ]
