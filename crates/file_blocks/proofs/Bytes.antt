-- The bytes of a range, each by its place.
use Rattle.std.proofs.Common.{◌≡◌, ℕ, zero, suc, ◌+◌, ◌-◌, ◌*◌, ◌/◌, ◌%◌, ◌<◌, ◌≤◌, nat_lt, true, List, [], ◌∷◌, ◌++◌, length, get_or, take, map, replicate, length-drop, refl, sym, ap, ◌∙◌, inl, inr, arith, Option, Some, None, Result, Ok, Err}
use Rattle.std.specs.Prelude.{min, ◌⊎◌, slice_index_or}
use Rattle.std.specs.List.{flat_map, range_with_len, slice_get}
use Rattle.std.specs.Option.{option_map_or}
use Rattle.std.specs.Result.{result_map_both}
use Rattle.std.proofs.lemmas.Bool.{cases_lt}
use Rattle.std.proofs.lemmas.List.{get_or-take, get_or-drop, get_or-append-add, get_or_append_left, get_or-append_right, get_or-replicate, get_or_past, length-append, length-take}
use Rattle.std.proofs.lemmas.Option.{slice_get-get_or}
use Rattle.std.proofs.lemmas.Nat.{le-div}
use Rattle.std.proofs.Math.Nat.{mul-add, mul-div-le, mod-lt, div-add-mod, div-mul-le_self}
use Rattle.block_crypt.specs.Blocks.{KeyValue}
use Rattle.indirect_macs.specs.declared.refs.ObjTree.{ObjTree}
use Rattle.indirect_macs.specs.declared.refs.MacError.{MacError}
use Rattle.file_blocks.specs.Objects.{text_at, texts_at, collected, filled, block_bytes, part_of, object_range, count_touched}
use Rattle.file_blocks.proofs.Ranges.{length-filled, reaches}

-- what was collected has all of them
pub collected_at : {X E : Type 0} (f : ℕ → Result X E) (first n : ℕ) (ys : List X) (k : ℕ) (d : X) → collected (map f (range_with_len first n)) ≡ Ok ys → k < n
    → f (first + k) ≡ Ok (get_or ys k d)
collected_at f first zero ys k d is within = absurd (omega (arith, within))
collected_at {X = X} {E = E} f first (suc n) ys k d is within =
    by_one (f first) refl (collected (map f (range_with_len (first + 1) n))) refl (λ zs j same low. collected_at f (first + 1) n zs j d same low) k within is
  where
    by_one : (one : Result X E) → f first ≡ one → (rest : Result (List X) E) → collected (map f (range_with_len (first + 1) n)) ≡ rest
        → ((zs : List X) (j : ℕ) → collected (map f (range_with_len (first + 1) n)) ≡ Ok zs → j < n → f (first + 1 + j) ≡ Ok (get_or zs j d))
        → (k : ℕ) → k < suc n → collected (one ∷ map f (range_with_len (first + 1) n)) ≡ Ok ys → f (first + k) ≡ Ok (get_or ys k d)
    by_one (Err other) one rest same later k low is = absurd (cc)
    by_one (Ok x) one (Err other) same later k low is = absurd (let g = rw same at is in cc)
    by_one (Ok x) one (Ok zs) same later zero low is =
        let g = rw same at is in
        let e : x ∷ zs ≡ ys = cc in
        let place : first + 0 ≡ first = omega arith in
        ap f place ∙ one ∙ ap (λ (l : List X). Ok (get_or l 0 d)) e
    by_one (Ok x) one (Ok zs) same later (suc k) low is =
        let g = rw same at is in
        let e : x ∷ zs ≡ ys = cc in
        let place : first + suc k ≡ first + 1 + k = omega arith in
        ap f place ∙ later zs k same (omega (arith, low)) ∙ ap (λ (l : List X). Ok (get_or l (suc k) d)) e

collected_long : {X E : Type 0} (f : ℕ → Result X E) (first n : ℕ) (ys : List X) → collected (map f (range_with_len first n)) ≡ Ok ys → length ys ≡ n
collected_long f first zero ys is = let e : [] ≡ ys = cc in rw (sym e) refl
collected_long {X = X} {E = E} f first (suc n) ys is =
    by_one (f first) refl (collected (map f (range_with_len (first + 1) n))) refl (collected_long f (first + 1) n) is
  where
    by_one : (one : Result X E) → f first ≡ one → (rest : Result (List X) E) → collected (map f (range_with_len (first + 1) n)) ≡ rest
        → ((zs : List X) → collected (map f (range_with_len (first + 1) n)) ≡ Ok zs → length zs ≡ n)
        → collected (one ∷ map f (range_with_len (first + 1) n)) ≡ Ok ys → length ys ≡ suc n
    by_one (Err other) one rest same later is = absurd (cc)
    by_one (Ok x) one (Err other) same later is = absurd (let g = rw same at is in cc)
    by_one (Ok x) one (Ok zs) same later is =
        let g = rw same at is in
        let e : x ∷ zs ≡ ys = cc in
        ap length (sym e) ∙ omega (arith, later zs same)

-- parts of one length, one after another
module _ {X : Type 0} (f : X → List ℕ) (width : ℕ) (wide : (x : X) → length (f x) ≡ width) where
  joined_long : (xs : List X) → length (flat_map f xs) ≡ width * length xs
  joined_long [] = omega arith
  joined_long (x ∷ xs) =
      let more : length (x ∷ xs) ≡ length xs + 1 = omega arith in
      let one : width * 1 ≡ width = omega arith in
      length-append (f x) (flat_map f xs) ∙ omega (arith, wide x, joined_long xs, mul-add width (length xs) 1, one) ∙ sym (ap (λ (n : ℕ). width * n) more)

  joined_at : (xs : List X) (k r : ℕ) (d : X) → k < length xs → r < width → get_or (flat_map f xs) (width * k + r) 0 ≡ get_or (f (get_or xs k d)) r 0
  joined_at [] k r d low within = absurd (omega (arith, low))
  joined_at (x ∷ xs) zero r d low within =
      let place : width * 0 + r ≡ r = omega arith in
      ap (λ (n : ℕ). get_or (f x ++ flat_map f xs) n 0) place ∙ get_or_append_left (f x) (flat_map f xs) 0 r (omega (arith, wide x, within))
  joined_at (x ∷ xs) (suc k) r d low within =
      let next : suc k ≡ k + 1 = omega arith in
      let times : width * suc k ≡ width * (k + 1) = ap (λ (n : ℕ). width * n) next in
      let one : width * 1 ≡ width = omega arith in
      let place : width * suc k + r ≡ length (f x) + (width * k + r) = omega (arith, times, wide x, mul-add width k 1, one) in
      ap (λ (n : ℕ). get_or (f x ++ flat_map f xs) n 0) place
      ∙ get_or-append-add (f x) (flat_map f xs) (width * k + r) 0
      ∙ joined_at xs k r d (omega (arith, low)) within

pub filled_at : (n : ℕ) (bytes : List ℕ) (r : ℕ) → r < n → get_or (filled n bytes) r 0 ≡ get_or bytes r 0
unfolding filled
filled_at n bytes r within = by_size (cases_lt r (length bytes))
  where
    by_size : (r < length bytes) ⊎ (length bytes ≤ r) → get_or (take n bytes ++ replicate (n - length bytes) 0) r 0 ≡ get_or bytes r 0
    by_size (inl less) =
        get_or_append_left (take n bytes) (replicate (n - length bytes) 0) 0 r (omega (arith, less, within, length-take n bytes))
        ∙ get_or-take n bytes r 0 within
    by_size (inr past) =
        get_or-append_right (take n bytes) (replicate (n - length bytes) 0) (length bytes) r 0 (omega (arith, past, within, length-take n bytes)) past
        ∙ get_or-replicate (n - length bytes) (r - length bytes) 0 0 (omega (arith, past, within))
        ∙ sym (get_or_past bytes r 0 past)

-- which block, and where in it
record Spot (record_size from end j : ℕ) : Type 0 where
  pub k : ℕ
  pub within : k < count_touched record_size from end
  pub block : from / record_size + k ≡ (from + j) / record_size
  pub inside : (from + j) % record_size < record_size
  pub byte : from - record_size * (from / record_size) + j ≡ record_size * k + (from + j) % record_size
  pub before : from - record_size * (from / record_size) + j < end - record_size * (from / record_size)

spot : (record_size from end j : ℕ) → 0 < record_size → from + j < end → Spot record_size from end j
unfolding count_touched
spot record_size from end j some within =
    let less : nat_lt from end ≡ true = grind (arith, within) in
    let low = mul-div-le from record_size in
    let first : from / record_size ≤ (from + j) / record_size =
    le-div (from / record_size) (from + j) record_size some (omega (arith, div-mul-le_self from record_size)) in
    let last : (from + j) / record_size ≤ (end - 1) / record_size =
    le-div ((from + j) / record_size) (end - 1) record_size some (omega (arith, div-mul-le_self (from + j) record_size, within)) in
    let k : ℕ = (from + j) / record_size - from / record_size in
    let block : from / record_size + k ≡ (from + j) / record_size = omega (arith, first) in
    let times = ap (λ (n : ℕ). record_size * n) block in
    record {
      k = k;
      within = rw less (omega (arith, first, last));
      block = block;
      inside = mod-lt (from + j) some;
      byte = omega (arith, low, times, mul-add record_size (from / record_size) k, div-add-mod (from + j) record_size);
      before = omega (arith, low, within);
    }

module _ (key : KeyValue) (held : List (List ℕ)) (record_size : ℕ) (tree : ObjTree) (from end : ℕ) (bytes : List ℕ) (some : 0 < record_size) where
  width_of : (stored : Option (List ℕ)) → length (block_bytes record_size stored) ≡ record_size
  width_of stored = length-filled record_size (option_map_or (λ text. text) stored [])

  pub texts_of : object_range key held record_size tree from end ≡ Ok bytes
      → (texts : List (Option (List ℕ))) × (texts_at key held record_size tree (from / record_size) (count_touched record_size from end) ≡ Ok texts)
      × (bytes ≡ part_of record_size from end texts)
  unfolding object_range
  texts_of is = by_texts (texts_at key held record_size tree (from / record_size) (count_touched record_size from end)) refl is
    where
      by_texts : (read : Result (List (Option (List ℕ))) MacError)
          → texts_at key held record_size tree (from / record_size) (count_touched record_size from end) ≡ read
          → result_map_both (part_of record_size from end) (λ failed. failed) read ≡ Ok bytes
          → (texts : List (Option (List ℕ))) × (texts_at key held record_size tree (from / record_size) (count_touched record_size from end) ≡ Ok texts)
          × (bytes ≡ part_of record_size from end texts)
      by_texts (Err failed) read is = absurd (cc)
      by_texts (Ok texts) read is = let e : part_of record_size from end texts ≡ bytes = cc in (texts, read, sym e)

  texts_long : (texts : List (Option (List ℕ))) → texts_at key held record_size tree (from / record_size) (count_touched record_size from end) ≡ Ok texts
      → length texts ≡ count_touched record_size from end
  unfolding texts_at
  texts_long texts are = collected_long (text_at key held record_size tree) (from / record_size) (count_touched record_size from end) texts are

  pub text_in : (texts : List (Option (List ℕ))) → texts_at key held record_size tree (from / record_size) (count_touched record_size from end) ≡ Ok texts
      → (k : ℕ) → k < count_touched record_size from end → text_at key held record_size tree (from / record_size + k) ≡ Ok (get_or texts k None)
  unfolding texts_at
  text_in texts are k within = collected_at (text_at key held record_size tree) (from / record_size) (count_touched record_size from end) texts k None are within

  pub range_long : from ≤ end → object_range key held record_size tree from end ≡ Ok bytes → length bytes ≡ end - from
  range_long order is =
      let read = texts_of is in
      let all = flat_map (block_bytes record_size) read.0 in
      let long : length all ≡ record_size * count_touched record_size from end =
      joined_long (block_bytes record_size) record_size width_of read.0 ∙ ap (λ (n : ℕ). record_size * n) (texts_long read.0 read.1) in
      ap length read.2
      ∙ length-drop (from - record_size * (from / record_size)) (take (end - record_size * (from / record_size)) all)
      ∙ ap (λ (n : ℕ). n - (from - record_size * (from / record_size))) (length-take (end - record_size * (from / record_size)) all ∙ ap (min (end - record_size * (from / record_size))) long)
      ∙ reaches record_size from end some order

  pub range_at : (j : ℕ) → object_range key held record_size tree from end ≡ Ok bytes → from + j < end
      → (stored : Option (List ℕ)) × (text_at key held record_size tree ((from + j) / record_size) ≡ Ok stored)
      × (slice_get bytes j ≡ Some (slice_index_or (option_map_or (λ text. text) stored []) ((from + j) % record_size) 0))
  range_at j is within =
      let read = texts_of is in
      let at = spot record_size from end j some within in
      let all = flat_map (block_bytes record_size) read.0 in
      let r : ℕ = (from + j) % record_size in
      let stored = get_or read.0 at.k None in
      let here : at.k < length read.0 = omega (arith, at.within, texts_long read.0 read.1) in
      let byte : get_or bytes j 0 ≡ get_or (option_map_or (λ text. text) stored []) r 0 =
      ap (λ (l : List ℕ). get_or l j 0) read.2
      ∙ get_or-drop (from - record_size * (from / record_size)) (take (end - record_size * (from / record_size)) all) j 0
      ∙ get_or-take (end - record_size * (from / record_size)) all (from - record_size * (from / record_size) + j) 0 at.before
      ∙ ap (λ (n : ℕ). get_or all n 0) at.byte
      ∙ joined_at (block_bytes record_size) record_size width_of read.0 at.k r None here at.inside
      ∙ filled_at record_size (option_map_or (λ text. text) stored []) r at.inside in
      let long = range_long (omega (arith, within)) is in
      let text : text_at key held record_size tree ((from + j) / record_size) ≡ Ok stored =
      ap (text_at key held record_size tree) (sym at.block) ∙ text_in read.0 read.1 at.k at.within in
      (stored, text, slice_get-get_or bytes j 0 (omega (arith, long, within)) ∙ ap Some byte)
