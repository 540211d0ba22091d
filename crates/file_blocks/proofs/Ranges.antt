-- Blocks one after another: what a loop over them has so far, over plain variables.
use Rattle.std.proofs.Common.{◌≡◌, ℕ, zero, suc, ◌+◌, ◌-◌, ◌*◌, ◌/◌, ◌%◌, ◌^◌, ◌<◌, ◌≤◌, Bool, true, false, nat_lt, nat_le, List, [], ◌∷◌, ◌++◌, length, take, drop, map, replicate, refl, sym, ap, ◌∙◌, inl, inr, arith, Option, Some, None, Result, Ok, Err, if◌then◌else◌}
use Rattle.std.specs.Prelude.{min, is_some, ◌⊎◌}
use Rattle.std.specs.List.{count_by, flat_map, range_with_len}
use Rattle.std.specs.Result.{result_map_both}
use Rattle.std.specs.Option.{option_map, option_map_or}
use Rattle.std.proofs.lemmas.Bool.{cases_lt, leb-true}
use Rattle.std.proofs.lemmas.List.{take_all, drop_all, append-nil, length-append, length-replicate, length-take, drop-append-le}
use Rattle.std.proofs.lemmas.List.Concat.{flat_map-append}
use Rattle.std.proofs.lemmas.List.FromFn.{map-range_with_len_more}
use Rattle.std.proofs.lemmas.List.Sums.{sum_by-append}
use Rattle.std.proofs.lemmas.Slice.{between_is}
use Rattle.std.proofs.Math.Seq.{take-append-add, drop-append-add}
use Rattle.std.proofs.Math.Nat.{mul-add, mul-div-le, mul-le-mul_left, mod-lt, div-add-mod, div-mul-le_self}
use Rattle.std.proofs.lemmas.Nat.{le-div}
use Rattle.block_crypt.specs.Blocks.{KeyValue}
use Rattle.indirect_macs.specs.declared.refs.ObjTree.{ObjTree}
use Rattle.indirect_macs.specs.declared.refs.MacError.{MacError}
use Rattle.indirect_macs.specs.declared.refs.MacError.TheVariants.{MacFailed, ShelfFault, Full, NoMemory}
use Rattle.std.proofs.lemmas.Grind.{div_ceil_times}
use Rattle.std.proofs.Math.Nat.{mul-le-mul_right, mul_comm, mod-eq-sub-mul-div}
use Rattle.indirect_macs.specs.Runs.{levels_for}
use Rattle.file_blocks.specs.Objects.{blocks_for, Gives, text_at, texts_at, collected, filled, block_bytes, part_of, object_range, tested_blocks, count_touched}

-- ---- what is collected

pub one_more : {X E : Type 0} (xs : List (Result X E)) (ys : List X) (y : X) → collected xs ≡ Ok ys → collected (xs ++ Ok y ∷ []) ≡ Ok (ys ++ y ∷ [])
one_more [] ys y is = let e : [] ≡ ys = cc in rw (sym e) refl
one_more (Err failed ∷ xs) ys y is = absurd (cc)
one_more {X = X} {E = E} (Ok x ∷ xs) ys y is = by_rest (collected xs) refl (λ zs same. one_more xs zs y same) is
  where
    by_rest : (rest : Result (List X) E) → collected xs ≡ rest → ((zs : List X) → collected xs ≡ Ok zs → collected (xs ++ Ok y ∷ []) ≡ Ok (zs ++ y ∷ []))
        → result_map_both (λ zs. x ∷ zs) (λ e. e) rest ≡ Ok ys
        → result_map_both (λ zs. x ∷ zs) (λ e. e) (collected (xs ++ Ok y ∷ [])) ≡ Ok (ys ++ y ∷ [])
    by_rest (Ok zs) same later is =
        let e : x ∷ zs ≡ ys = cc in
        rw (later zs same, sym e) refl
    by_rest (Err failed) same later is = absurd (cc)

pub stops_at : {X E : Type 0} (f : ℕ → Result X E) (first k n : ℕ) (ys : List X) (failed : E) → k < n → collected (map f (range_with_len first k)) ≡ Ok ys
    → f (first + k) ≡ Err failed → collected (map f (range_with_len first n)) ≡ Err failed
stops_at f first k zero ys failed within front fails = absurd (omega (arith, within))
stops_at f first zero (suc n) ys failed within front fails =
    let place : first + 0 ≡ first = omega arith in
    rw (rw place at fails) refl
stops_at {X = X} {E = E} f first (suc k) (suc n) ys failed within front fails =
    by_one (f first) refl (collected (map f (range_with_len (first + 1) k))) refl
    (λ zs same. let place : first + suc k ≡ first + 1 + k = omega arith in
    stops_at f (first + 1) k n zs failed (omega (arith, within)) same (rw place at fails)) front
  where
    by_one : (one : Result X E) → f first ≡ one → (rest : Result (List X) E) → collected (map f (range_with_len (first + 1) k)) ≡ rest
        → ((zs : List X) → collected (map f (range_with_len (first + 1) k)) ≡ Ok zs → collected (map f (range_with_len (first + 1) n)) ≡ Err failed)
        → collected (one ∷ map f (range_with_len (first + 1) k)) ≡ Ok ys
        → collected (f first ∷ map f (range_with_len (first + 1) n)) ≡ Err failed
    by_one (Err other) is rest same later front = absurd (cc)
    by_one (Ok x) is (Err other) same later front = absurd (let f = rw same at front in cc)
    by_one (Ok x) is (Ok zs) same later front = rw (is, later zs same) refl

-- ---- the texts of blocks

pub texts_none : (key : KeyValue) (held : List (List ℕ)) (record_size : ℕ) (tree : ObjTree) (first : ℕ) → texts_at key held record_size tree first 0 ≡ Ok []
unfolding texts_at
texts_none key held record_size tree first = refl

pub texts_more : (key : KeyValue) (held : List (List ℕ)) (record_size : ℕ) (tree : ObjTree) (first k index : ℕ) (texts : List (Option (List ℕ))) (text : Option (List ℕ))
    → index ≡ first + k → texts_at key held record_size tree first k ≡ Ok texts → text_at key held record_size tree index ≡ Ok text
    → texts_at key held record_size tree first (k + 1) ≡ Ok (texts ++ text ∷ [])
unfolding texts_at
texts_more key held record_size tree first k index texts text place front one =
    ap collected (map-range_with_len_more (text_at key held record_size tree) first k index (sym place)
    ∙ ap (λ (last : Result (Option (List ℕ)) MacError). map (text_at key held record_size tree) (range_with_len first k) ++ last ∷ []) one)
    ∙ one_more (map (text_at key held record_size tree) (range_with_len first k)) texts text front

pub texts_stop : (key : KeyValue) (held : List (List ℕ)) (record_size : ℕ) (tree : ObjTree) (first k index n : ℕ) (texts : List (Option (List ℕ))) (failed : MacError)
    → index ≡ first + k → k < n → texts_at key held record_size tree first k ≡ Ok texts → text_at key held record_size tree index ≡ Err failed
    → texts_at key held record_size tree first n ≡ Err failed
unfolding texts_at
texts_stop key held record_size tree first k index n texts failed place within front fails =
    stops_at (text_at key held record_size tree) first k n texts failed within front (rw place at fails)

-- ---- bytes

pub length-filled : (n : ℕ) (bytes : List ℕ) → length (filled n bytes) ≡ n
unfolding filled
length-filled n bytes =
    length-append (take n bytes) (replicate (n - length bytes) 0)
    ∙ rw (length-take n bytes, length-replicate {A = ℕ} (n - length bytes) 0) (by_size (cases_lt n (length bytes)))
  where
    by_size : (n < length bytes) ⊎ (length bytes ≤ n) → min n (length bytes) + (n - length bytes) ≡ n
    by_size (inl long) = omega (arith, long)
    by_size (inr short) = omega (arith, short)

-- a part of what grows by one block
cut_more : (xs ys : List ℕ) (skip upto n width low high : ℕ) → length xs ≡ n → length ys ≡ width → n ≤ upto → low ≡ skip - n → high ≡ min width (upto - n)
    → drop skip (take upto (xs ++ ys)) ≡ drop skip (take upto xs) ++ take (high - low) (drop low ys)
cut_more xs ys skip upto n width low high whole wide from lows highs =
    let upper : upto ≡ length xs + (upto - n) = omega (arith, whole, from) in
    let fronts : take upto (xs ++ ys) ≡ xs ++ take (upto - n) ys = ap (λ (k : ℕ). take k (xs ++ ys)) upper ∙ take-append-add xs ys (upto - n) in
    let all : take upto xs ≡ xs = take_all upto xs (omega (arith, whole, from)) in
    let part : take (high - low) (drop low ys) ≡ drop low (take high ys) = between_is ys low high in
    let cut : take (upto - n) ys ≡ take high ys = by_width (cases_lt (upto - n) width) in
    rw (fronts, all, part, cut) (by_skip (cases_lt n skip))
  where
    by_width : (upto - n < width) ⊎ (width ≤ upto - n) → take (upto - n) ys ≡ take high ys
    by_width (inl less) = let e : high ≡ upto - n = omega (arith, highs, less) in rw e refl
    by_width (inr more) =
        let e : high ≡ width = omega (arith, highs, more) in
        take_all (upto - n) ys (omega (arith, wide, more)) ∙ sym (rw e (take_all width ys (omega (arith, wide))))

    by_skip : (n < skip) ⊎ (skip ≤ n) → drop skip (xs ++ take high ys) ≡ drop skip xs ++ drop low (take high ys)
    by_skip (inl far) =
        let place : skip ≡ length xs + (skip - n) = omega (arith, whole, far) in
        let none : drop skip xs ≡ [] = drop_all skip xs (omega (arith, whole, far)) in
        rw (none, lows) (ap (λ (k : ℕ). drop k (xs ++ take high ys)) place ∙ drop-append-add xs (take high ys) (skip - n))
    by_skip (inr near) =
        let none : low ≡ 0 = omega (arith, lows, near) in
        rw none (drop-append-le skip xs (take high ys) (omega (arith, whole, near)))

-- ---- which blocks are touched

pub record Touched (record_size from end k : ℕ) : Type 0 where
  pub some : from < end
  pub place : from / record_size + k ≤ (end - 1) / record_size
  pub low : record_size * k < end - record_size * (from / record_size)

pub touched : (record_size from end k : ℕ) → k < count_touched record_size from end → Touched record_size from end k
unfolding count_touched
touched record_size from end k within =
    elim (cases_lt from end) [
      | inl some ↦
          let yes : nat_lt from end ≡ true = grind (arith, some) in
          let count : k < (end - 1) / record_size + 1 - from / record_size = rw yes at within in
          let place : from / record_size + k ≤ (end - 1) / record_size = omega (arith, count) in
          let most = mul-le-mul_left record_size place in
          let parts = mul-add record_size (from / record_size) k in
          record {
            some = some;
            place = place;
            low = omega (arith, most, parts, mul-div-le (end - 1) record_size, some);
          }
      | inr none ↦
          let no : nat_lt from end ≡ false = grind (arith, none) in
          let count : k < 0 = rw no at within in
          absurd (omega (arith, count))
    ]

-- a block that some bytes touch is one of the object's
pub in_object : (record_size from end bytes k : ℕ) → 0 < record_size → end ≤ bytes → k < count_touched record_size from end
    → from / record_size + k < blocks_for record_size bytes
in_object record_size from end bytes k some within touches =
    let is_touched = touched record_size from end k touches in
    let whole = (div_ceil_times bytes record_size some).0 in
    elim (cases_lt ((end - 1) / record_size) (blocks_for record_size bytes)) [
      | inl less ↦ omega (arith, less, is_touched.place)
      | inr more ↦
          let most = mul-le-mul_right record_size more in
          absurd (omega (arith, most, whole, div-mul-le_self (end - 1) record_size, within, is_touched.some))
    ]

-- a tree of the fewest levels has room
pub has_room : (blocks : ℕ) → blocks ≤ 8388608 → blocks ≤ 32 ^ levels_for blocks
has_room blocks few = by_level (nat_le blocks (32 ^ 1)) (nat_le blocks (32 ^ 2)) (nat_le blocks (32 ^ 3)) (nat_le blocks (32 ^ 4)) refl refl refl refl
  where
    by_level : (one two three four : Bool) → nat_le blocks (32 ^ 1) ≡ one → nat_le blocks (32 ^ 2) ≡ two → nat_le blocks (32 ^ 3) ≡ three → nat_le blocks (32 ^ 4) ≡ four
        → blocks ≤ 32 ^ (if one then 1 else (if two then 2 else (if three then 3 else (if four then 4 else 5))))
    by_level true two three four a b c d = leb-true blocks (32 ^ 1) a
    by_level false true three four a b c d = leb-true blocks (32 ^ 2) b
    by_level false false true four a b c d = leb-true blocks (32 ^ 3) c
    by_level false false false true a b c d = leb-true blocks (32 ^ 4) d
    by_level false false false false a b c d = omega (arith, few)

pub few_blocks : (record_size bytes : ℕ) → 512 ≤ record_size → bytes ≤ 4294967296 → blocks_for record_size bytes ≤ 8388608
few_blocks record_size bytes wide small =
    elim (cases_lt 8388608 (blocks_for record_size bytes)) [
      | inl more ↦
          let least : 8388609 ≤ blocks_for record_size bytes = omega (arith, more) in
          let most = mul-le-mul_right record_size least in
          let some : 0 < record_size = omega (arith, wide) in
          absurd (omega (arith, most, (div_ceil_times bytes record_size some).1, small, wide))
      | inr few ↦ few
    ]

pub low_is : (record_size from k width low : ℕ) → width ≡ record_size → low ≡ from % width - k * record_size
    → low ≡ from - record_size * (from / record_size) - record_size * k
low_is record_size from k width low same is =
    let at_width = rw same at is in
    omega (arith, at_width, mod-eq-sub-mul-div from record_size, mul_comm k record_size)

pub high_is : (record_size from end k width high : ℕ) → width ≡ record_size → from ≤ end → high ≡ min record_size (from % width + (end - from) - k * record_size)
    → high ≡ min record_size (end - record_size * (from / record_size) - record_size * k)
high_is record_size from end k width high same order is =
    let sum : from % record_size + (end - from) - k * record_size ≡ end - record_size * (from / record_size) - record_size * k =
    omega (arith, mod-eq-sub-mul-div from record_size, mul-div-le from record_size, mul_comm k record_size, order) in
    rw (same, sum) at is

pub base_fits : (record_size from end k width : ℕ) → width ≡ record_size → 0 < record_size → from ≤ end → k < count_touched record_size from end
    → k * record_size ≤ from % width + (end - from)
base_fits record_size from end k width same some order within =
    let low = (touched record_size from end k within).low in
    let rest = mod-eq-sub-mul-div from record_size in
    rw same (omega (arith, low, rest, mul-div-le from record_size, mul_comm k record_size, order))

-- all blocks are read at the end
pub reaches : (record_size from end : ℕ) → 0 < record_size → from ≤ end
    → min (end - record_size * (from / record_size)) (record_size * count_touched record_size from end) - (from - record_size * (from / record_size)) ≡ end - from
unfolding count_touched
reaches record_size from end some order =
    elim (cases_lt from end) [
      | inl less ↦
          let yes : nat_lt from end ≡ true = grind (arith, less) in
          let low = mul-div-le from record_size in
          let count : ℕ = (end - 1) / record_size + 1 - from / record_size in
          let more : from / record_size ≤ (end - 1) / record_size =
          le-div (from / record_size) (end - 1) record_size some (omega (arith, div-mul-le_self from record_size, less)) in
          let sum : from / record_size + count ≡ (end - 1) / record_size + 1 = omega (arith, more) in
          let parts = mul-add record_size (from / record_size) count in
          let last = mul-add record_size ((end - 1) / record_size) 1 in
          let same = ap (λ (n : ℕ). record_size * n) sum in
          let one : record_size * 1 ≡ record_size = omega arith in
          let above = div-add-mod (end - 1) record_size in
          let rest = mod-lt (end - 1) some in
          rw yes (omega (arith, low, parts, last, same, one, above, rest, less))
      | inr none ↦
          let no : nat_lt from end ≡ false = grind (arith, none) in
          let zeros : record_size * 0 ≡ 0 = omega arith in
          rw (no, zeros) (omega (arith, none, order))
    ]

pub step_bound : (width k count : ℕ) → k < count → width * k + width ≤ width * count
step_bound width k count within =
    let next : k + 1 ≤ count = omega (arith, within) in
    let one : width * 1 ≡ width = omega arith in
    omega (arith, mul-le-mul_left width next, mul-add width k 1, one)

-- ---- a read so far

pub record ReadSoFar (key : KeyValue) (held : List (List ℕ)) (record_size : ℕ) (tree : ObjTree) (from end k : ℕ) (bytes : List ℕ) : Type 0 where
  pub texts : List (Option (List ℕ))
  pub are : texts_at key held record_size tree (from / record_size) k ≡ Ok texts
  pub long : length (flat_map (block_bytes record_size) texts) ≡ record_size * k
  pub part : bytes ≡ part_of record_size from end texts

pub read_begun : (key : KeyValue) (held : List (List ℕ)) (record_size : ℕ) (tree : ObjTree) (from end : ℕ) (bytes : List ℕ) → bytes ≡ []
    → ReadSoFar key held record_size tree from end 0 bytes
read_begun key held record_size tree from end bytes none =
    let start = record_size * (from / record_size) in
    record {
      texts = [];
      are = texts_none key held record_size tree (from / record_size);
      long = omega arith;
      part = none ∙ sym (ap (drop (from - start)) (take_all (end - start) [] (omega arith)) ∙ drop_all (from - start) [] (omega arith));
    }

pub read_more : (key : KeyValue) (held : List (List ℕ)) (record_size : ℕ) (tree : ObjTree) (from end k index low high : ℕ) (stored : Option (List ℕ)) (buffer bytes new : List ℕ)
    → ReadSoFar key held record_size tree from end k bytes → index ≡ from / record_size + k → k < count_touched record_size from end
    → text_at key held record_size tree index ≡ Ok stored → buffer ≡ block_bytes record_size stored
    → low ≡ from - record_size * (from / record_size) - record_size * k
    → high ≡ min record_size (end - record_size * (from / record_size) - record_size * k)
    → new ≡ bytes ++ take (high - low) (drop low buffer)
    → ReadSoFar key held record_size tree from end (k + 1) new
read_more key held record_size tree from end k index low high stored buffer bytes new so place within found block lows highs is =
    let is_touched = touched record_size from end k within in
    let start = record_size * (from / record_size) in
    let joined : flat_map (block_bytes record_size) (so.texts ++ stored ∷ []) ≡ flat_map (block_bytes record_size) so.texts ++ block_bytes record_size stored =
    flat_map-append (block_bytes record_size) so.texts (stored ∷ [])
    ∙ ap (λ (last : List ℕ). flat_map (block_bytes record_size) so.texts ++ last) (append-nil (block_bytes record_size stored)) in
    let width : length (block_bytes record_size stored) ≡ record_size = length-filled record_size (option_map_or (λ bytes. bytes) stored []) in
    let one : record_size * 1 ≡ record_size = omega arith in
    record {
      texts = so.texts ++ stored ∷ [];
      are = texts_more key held record_size tree (from / record_size) k index so.texts stored place so.are found;
      long =
          ap length joined ∙ length-append (flat_map (block_bytes record_size) so.texts) (block_bytes record_size stored)
          ∙ rw (so.long, width) (omega (arith, mul-add record_size k 1, one));
      part =
          is ∙ rw (block, so.part) (sym (ap (λ (whole : List ℕ). drop (from - start) (take (end - start) whole)) joined
          ∙ cut_more (flat_map (block_bytes record_size) so.texts) (block_bytes record_size stored) (from - start) (end - start) (record_size * k) record_size low high
          so.long width (omega (arith, is_touched.low)) lows highs));
    }

pub read_stopped : {X Y : Type 0} (key : KeyValue) (held : List (List ℕ)) (record_size : ℕ) (tree : ObjTree) (from end k index : ℕ) (bytes : List ℕ)
    (f : X → Option (List ℕ)) (g : Y → List ℕ) (stop : MacError)
    → ReadSoFar key held record_size tree from end k bytes → index ≡ from / record_size + k → k < count_touched record_size from end
    → Gives f (text_at key held record_size tree index) (Err stop)
    → Gives g (object_range key held record_size tree from end) (Err stop)
unfolding object_range
read_stopped key held record_size tree from end k index bytes f g (MacFailed level place) so at within gives =
    rw (texts_stop key held record_size tree (from / record_size) k index (count_touched record_size from end) so.texts (MacFailed level place) at within so.are gives) refl
read_stopped key held record_size tree from end k index bytes f g ShelfFault so at within gives = tt
read_stopped key held record_size tree from end k index bytes f g Full so at within gives = gives
read_stopped key held record_size tree from end k index bytes f g NoMemory so at within gives = tt

pub read_ended : (key : KeyValue) (held : List (List ℕ)) (record_size : ℕ) (tree : ObjTree) (from end k : ℕ) (bytes : List ℕ)
    → ReadSoFar key held record_size tree from end k bytes → k ≡ count_touched record_size from end
    → object_range key held record_size tree from end ≡ Ok bytes
unfolding object_range
read_ended key held record_size tree from end k bytes so at_end =
    rw (rw at_end at so.are, so.part) refl

-- ---- a test so far

pub record TestedSoFar (key : KeyValue) (held : List (List ℕ)) (record_size : ℕ) (tree : ObjTree) (k count : ℕ) : Type 0 where
  pub texts : List (Option (List ℕ))
  pub are : texts_at key held record_size tree 0 k ≡ Ok texts
  pub counted : count ≡ count_by is_some texts

pub tested_begun : (key : KeyValue) (held : List (List ℕ)) (record_size : ℕ) (tree : ObjTree) → TestedSoFar key held record_size tree 0 0
tested_begun key held record_size tree = record { texts = []; are = texts_none key held record_size tree 0; counted = refl }

pub tested_more : {X : Type 0} (key : KeyValue) (held : List (List ℕ)) (record_size : ℕ) (tree : ObjTree) (k count new : ℕ) (stored : Option X) (f : X → List ℕ)
    → TestedSoFar key held record_size tree k count → text_at key held record_size tree k ≡ Ok (option_map f stored)
    → new ≡ count + (if is_some stored then 1 else 0) → TestedSoFar key held record_size tree (k + 1) new
tested_more {X = X} key held record_size tree k count new stored f so found is =
    record {
      texts = so.texts ++ option_map f stored ∷ [];
      are = texts_more key held record_size tree 0 k k so.texts (option_map f stored) (omega arith) so.are found;
      counted = is ∙ rw so.counted (sym (sum_by-append (λ text. if is_some text then 1 else 0) so.texts (option_map f stored ∷ []) ∙ by_stored stored));
    }
  where
    by_stored : (o : Option X) → count_by is_some so.texts + count_by is_some (option_map f o ∷ []) ≡ count_by is_some so.texts + (if is_some o then 1 else 0)
    by_stored None = refl
    by_stored (Some x) = refl

pub tested_stopped : {X Y : Type 0} (key : KeyValue) (held : List (List ℕ)) (record_size : ℕ) (tree : ObjTree) (k blocks count : ℕ)
    (f : X → Option (List ℕ)) (g : Y → ℕ) (stop : MacError)
    → TestedSoFar key held record_size tree k count → k < blocks → Gives f (text_at key held record_size tree k) (Err stop)
    → Gives g (tested_blocks key held record_size tree blocks) (Err stop)
unfolding tested_blocks
tested_stopped key held record_size tree k blocks count f g (MacFailed level place) so within gives =
    rw (texts_stop key held record_size tree 0 k k blocks so.texts (MacFailed level place) (omega arith) within so.are gives) refl
tested_stopped key held record_size tree k blocks count f g ShelfFault so within gives = tt
tested_stopped key held record_size tree k blocks count f g Full so within gives = gives
tested_stopped key held record_size tree k blocks count f g NoMemory so within gives = tt

pub tested_ended : (key : KeyValue) (held : List (List ℕ)) (record_size : ℕ) (tree : ObjTree) (k blocks count : ℕ)
    → TestedSoFar key held record_size tree k count → k ≡ blocks → tested_blocks key held record_size tree blocks ≡ Ok count
unfolding tested_blocks
tested_ended key held record_size tree k blocks count so at_end = rw (rw at_end at so.are, so.counted) refl
