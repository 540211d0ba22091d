-- Ranges of an object, by its whole bytes.
use Rattle.std.proofs.Common.{◌≡◌, ℕ, zero, suc, ◌+◌, ◌-◌, ◌*◌, ◌/◌, ◌%◌, ◌<◌, ◌≤◌, nat_lt, true, List, [], ◌∷◌, length, get_or, take, drop, map, Option, Some, None, Result, Ok, Err, refl, ap, sym, subst, ◌∙◌, arith}
use Rattle.std.specs.Prelude.{min, slice_get, slice_index_or}
use Rattle.std.specs.List.{range_with_len}
use Rattle.std.specs.Option.{option_map_or}
use Rattle.std.proofs.lemmas.Grind.{same_number_lists}
use Rattle.std.proofs.lemmas.List.{drop_min, get_or-drop, get_or-take, length-drop, length-take, take_min}
use Rattle.std.proofs.lemmas.Option.{slice_get-get_or}
use Rattle.block_crypt.specs.Blocks.{KeyValue}
use Rattle.indirect_macs.specs.declared.refs.MacError.{MacError}
use Rattle.indirect_macs.specs.declared.refs.ObjTree.{ObjTree}
use Rattle.file_blocks.specs.Objects.{blocks_for, collected, count_touched, object_range, part_of, text_at, texts_at}
use Rattle.file_blocks.proofs.Bytes.{range_at, range_long, text_in, texts_of}
use Rattle.file_blocks.proofs.Passing.{blocks_none, blocks_some}
use Rattle.file_blocks.proofs.Ranges.{in_object}

all_ok : {X E : Type 0} (f : ℕ → Result X E) (first n : ℕ) → ((i : ℕ) → first ≤ i → i < first + n → (x : X) × (f i ≡ Ok x))
    → (xs : List X) × (collected (map f (range_with_len first n)) ≡ Ok xs)
all_ok f first zero each = ([], refl)
all_ok f first (suc n) each =
    let one = each first (omega arith) (omega arith) in
    let rest = all_ok f (first + 1) n (λ i low high. each i (omega (arith, low)) (omega (arith, high))) in
    (one.0 ∷ rest.0, rw (one.1, rest.1) refl)

same_some : {X : Type 0} (o : Option X) (a b : X) → o ≡ Some a → o ≡ Some b → a ≡ b
same_some o a b one two = cc

same_read : {X E : Type 0} (r : Result X E) (a b : X) → r ≡ Ok a → r ≡ Ok b → a ≡ b
same_read r a b one two = cc

whole_count : (record_size bytes : ℕ) → 0 < record_size → blocks_for record_size bytes ≤ count_touched record_size 0 bytes
unfolding count_touched
whole_count record_size zero some = let none = blocks_none record_size some in omega (arith, none)
whole_count record_size (suc n) some =
    let more : 0 < suc n = omega arith in
    let less : nat_lt 0 (suc n) ≡ true = grind (arith, more) in
    rw less (omega (arith, blocks_some record_size (suc n) some more))

module _ (key : KeyValue) (held : List (List ℕ)) (record_size : ℕ) (tree : ObjTree) (size : ℕ) (whole : List ℕ) (some : 0 < record_size)
    (is : object_range key held record_size tree 0 size ≡ Ok whole) where
  block_text : (i : ℕ) → i < blocks_for record_size size → (stored : Option (List ℕ)) × (text_at key held record_size tree i ≡ Ok stored)
  block_text i within =
      let read = texts_of key held record_size tree 0 size whole some is in
      let place : 0 / record_size + i ≡ i = omega arith in
      let inside : i < count_touched record_size 0 size = omega (arith, within, whole_count record_size size some) in (
        get_or read.0 i None,
        subst (λ (n : ℕ). text_at key held record_size tree n ≡ Ok (get_or read.0 i None)) place
            (text_in key held record_size tree 0 size whole some read.0 read.1 i inside),
      )

  part_read : (from end : ℕ) → end ≤ size → (bytes : List ℕ) × (object_range key held record_size tree from end ≡ Ok bytes)
  unfolding object_range texts_at
  part_read from end within =
      let all = all_ok (text_at key held record_size tree) (from / record_size) (count_touched record_size from end)
      (λ i low high. let k : ℕ = i - from / record_size in
      let place : from / record_size + k ≡ i = omega (arith, low) in
      block_text i (subst (λ (n : ℕ). n < blocks_for record_size size) place
      (in_object record_size from end size k some within (omega (arith, low, high))))) in
      (part_of record_size from end all.0, rw all.1 refl)

  pub part_range : (from end : ℕ) → from ≤ end → end ≤ size → object_range key held record_size tree from end ≡ Ok (take (end - from) (drop from whole))
  part_range from end order within =
      let read = part_read from end within in
      let long = range_long key held record_size tree from end read.0 some order read.1 in
      let long_whole = range_long key held record_size tree 0 size whole some (omega arith) is in
      let cut = length-take (end - from) (drop from whole) in
      let dropped = length-drop from whole in
      let same : read.0 ≡ take (end - from) (drop from whole) =
      same_number_lists read.0 (take (end - from) (drop from whole)) (omega (arith, long, long_whole, cut, dropped, order, within))
      (λ j inside. each read.0 read.1 j (omega (arith, inside, long))) in
      read.1 ∙ ap (λ (bytes : List ℕ). let r : Result (List ℕ) MacError = Ok bytes in r) same
    where
      each : (bytes : List ℕ) → object_range key held record_size tree from end ≡ Ok bytes → (j : ℕ) → from + j < end
          → get_or bytes j 0 ≡ get_or (take (end - from) (drop from whole)) j 0
      each bytes read j inside =
          let long = range_long key held record_size tree from end bytes some order read in
          let long_whole = range_long key held record_size tree 0 size whole some (omega arith) is in
          let one = range_at key held record_size tree from end bytes some j read inside in
          let place : 0 + (from + j) ≡ from + j = omega arith in
          let other = range_at key held record_size tree 0 size whole some (from + j) is (omega (arith, inside, within)) in
          let text : text_at key held record_size tree ((from + j) / record_size) ≡ Ok other.0 =
          subst (λ (n : ℕ). text_at key held record_size tree (n / record_size) ≡ Ok other.0) place other.1 in
          let stored : one.0 ≡ other.0 = same_read (text_at key held record_size tree ((from + j) / record_size)) one.0 other.0 one.1 text in
          let byte : get_or bytes j 0 ≡ slice_index_or (option_map_or (λ t. t) one.0 []) ((from + j) % record_size) 0 =
          same_some (slice_get bytes j) _ _ (slice_get-get_or bytes j 0 (omega (arith, long, inside))) one.2 in
          let back : get_or whole (from + j) 0 ≡ slice_index_or (option_map_or (λ t. t) other.0 []) ((0 + (from + j)) % record_size) 0 =
          same_some (slice_get whole (from + j)) _ _ (slice_get-get_or whole (from + j) 0 (omega (arith, long_whole, inside, within))) other.2 in
          byte ∙ ap (λ (o : Option (List ℕ)). slice_index_or (option_map_or (λ t. t) o []) ((from + j) % record_size) 0) stored
          ∙ ap (λ (n : ℕ). slice_index_or (option_map_or (λ t. t) other.0 []) (n % record_size) 0) (sym place)
          ∙ sym back ∙ sym (get_or-drop from whole j 0) ∙ sym (get_or-take (end - from) (drop from whole) j 0 (omega (arith, inside)))

  -- at most so many bytes from a place on, and none past the end
  pub cut_range : (from len : ℕ) → object_range key held record_size tree (min from size) (min (from + len) size) ≡ Ok (take len (drop from whole))
  cut_range from len =
      let order : min from size ≤ min (from + len) size = omega arith in
      let within : min (from + len) size ≤ size = omega arith in
      let long = range_long key held record_size tree 0 size whole some (omega arith) is in
      let size_is : length whole ≡ size = omega (arith, long) in
      let start : drop (min from size) whole ≡ drop from whole = ap (λ (n : ℕ). drop (min from n) whole) (sym size_is) ∙ drop_min from whole in
      let left = length-drop from whole in
      let count : min (from + len) size - min from size ≡ min len (length (drop from whole)) = omega (arith, left, size_is) in
      part_range (min from size) (min (from + len) size) order within
      ∙ ap (λ (bytes : List ℕ). let r : Result (List ℕ) MacError = Ok bytes in r)
      (ap (take (min (from + len) size - min from size)) start
      ∙ ap (λ (n : ℕ). take n (drop from whole)) count ∙ take_min len (drop from whole))
