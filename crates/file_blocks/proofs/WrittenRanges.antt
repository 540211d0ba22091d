-- Ranges of an object behind a write.
use Rattle.std.proofs.Common.{◌≡◌, ℕ, zero, suc, ◌+◌, ◌-◌, ◌*◌, ◌/◌, ◌%◌, ◌^◌, ◌<◌, ◌≤◌, Bool, true, false, nat_lt, List, [], ◌∷◌, ◌++◌, length, get_or, take, map, refl, sym, ap, subst, ◌∙◌, inl, inr, arith, Option, Some, None, Result, Ok, Err, if◌then◌else◌}
use Rattle.std.specs.Prelude.{◌⊎◌, slice_get}
use Rattle.std.specs.List.{range_with_len}
use Rattle.std.specs.Option.{option_map_or}
use Rattle.std.specs.Result.{result_map_both}
use Rattle.std.proofs.lemmas.Bool.{cases_lt}
use Rattle.std.proofs.lemmas.Grind.{same_number_lists}
use Rattle.std.proofs.lemmas.List.{get_or-take}
use Rattle.std.proofs.lemmas.Option.{slice_get-get_or}
use Rattle.std.proofs.Math.Nat.{div-add-mod, mod-lt, mul_comm}
use Rattle.block_crypt.specs.Blocks.{KeyValue}
use Rattle.salt_rotation.specs.SaltState.{SaltState}
use Rattle.indirect_macs.specs.declared.refs.BlockRef.{BlockRef}
use Rattle.indirect_macs.specs.declared.refs.ObjTree.{ObjTree}
use Rattle.indirect_macs.specs.declared.refs.MacError.{MacError}
use Rattle.indirect_macs.specs.declared.refs.MacError.TheVariants.{MacFailed}
use Rattle.indirect_macs.specs.Runs.{Passes, levels_for}
use Rattle.indirect_macs.specs.Trees.{IsRunOn}
use Rattle.indirect_macs.specs.Walk.{goes_on}
use Rattle.file_blocks.specs.Changes.{held_with, object_in, puts_in, ref_in, refs_to, run_in}
use Rattle.file_blocks.specs.Objects.{blocks_for, collected, count_touched, object_range, opened_ref, part_of, text_at, text_of, texts_at, walk_in}
use Rattle.file_blocks.specs.Writes.{Write, cut_by, front_at, front_from, opened_as, last_kept, left_of, change_to, count_of, end_of, first_of, last_of, length_after, new_text, new_texts, taken_by, text_over}
use Rattle.file_blocks.proofs.Bytes.{collected_at, range_at, range_long, text_in, texts_of}
use Rattle.file_blocks.proofs.NewTexts.{IsWrite, counted_up, div_order}
use Rattle.file_blocks.proofs.Passing.{front_finds, front_passes, texts_count, texts_pass}
use Rattle.file_blocks.proofs.Ranges.{few_blocks, has_room, in_object, touched}
use Rattle.file_blocks.proofs.Sealing.{length-refs}
use Rattle.file_blocks.proofs.Stored.{changed_stored, others_stored}
use Rattle.file_blocks.proofs.WrittenBytes.{text_in_piece, text_off_piece}

-- ---- ranges that can be read

all_ok : {X E : Type 0} (f : ℕ → Result X E) (first n : ℕ) → ((i : ℕ) → first ≤ i → i < first + n → (x : X) × (f i ≡ Ok x))
    → (xs : List X) × (collected (map f (range_with_len first n)) ≡ Ok xs)
all_ok f first zero each = ([], refl)
all_ok f first (suc n) each =
    let one = each first (omega arith) (omega arith) in
    let rest = all_ok f (first + 1) n (λ i low high. each i (omega (arith, low)) (omega (arith, high))) in
    (one.0 ∷ rest.0, rw (one.1, rest.1) refl)

pub range_ok : (key : KeyValue) (held : List (List ℕ)) (record_size : ℕ) (tree : ObjTree) (from end : ℕ)
    → ((i : ℕ) → from / record_size ≤ i → i < from / record_size + count_touched record_size from end → (stored : Option (List ℕ)) × (text_at key held record_size tree i ≡ Ok stored))
    → (bytes : List ℕ) × (object_range key held record_size tree from end ≡ Ok bytes)
unfolding object_range texts_at
range_ok key held record_size tree from end each =
    let all = all_ok (text_at key held record_size tree) (from / record_size) (count_touched record_size from end) each in
    (part_of record_size from end all.0, rw all.1 refl)

pub ok_same : {X E : Type 0} (r : Result X E) (a b : X) → r ≡ Ok a → r ≡ Ok b → a ≡ b
ok_same r a b one two = cc

some_same : {X : Type 0} (o : Option X) (a b : X) → o ≡ Some a → o ≡ Some b → a ≡ b
some_same o a b one two = cc

-- the byte at a place of a range that was read
pub byte_at : (key : KeyValue) (held : List (List ℕ)) (record_size : ℕ) (tree : ObjTree) (from end j : ℕ) (bytes : List ℕ) (stored : Option (List ℕ)) → 0 < record_size
    → object_range key held record_size tree from end ≡ Ok bytes → from + j < end → text_at key held record_size tree ((from + j) / record_size) ≡ Ok stored
    → get_or bytes j 0 ≡ get_or (option_map_or (λ text. text) stored []) ((from + j) % record_size) 0
byte_at key held record_size tree from end j bytes stored some is within text =
    let at = range_at key held record_size tree from end bytes some j is within in
    let long = range_long key held record_size tree from end bytes some (omega (arith, within)) is in
    some_same (slice_get bytes j) (get_or bytes j 0) _ (slice_get-get_or bytes j 0 (omega (arith, long, within))) at.2
    ∙ ap (λ (o : Option (List ℕ)). get_or (option_map_or (λ text. text) o []) ((from + j) % record_size) 0)
    (ok_same (text_at key held record_size tree ((from + j) / record_size)) at.0 stored at.1 text)

-- a block's text, where its walk stays within the tree
pub found_text : (key : KeyValue) (held : List (List ℕ)) (record_size : ℕ) (tree : ObjTree) (index : ℕ) (stored : Option (List ℕ)) → index < 32 ^ tree.levels
    → text_at key held record_size tree index ≡ Ok stored
    → (found : Option BlockRef) × (ref_in held record_size tree index ≡ Ok found) × (text_of key held index found ≡ Ok stored)
unfolding text_at
found_text key held record_size tree index stored within is =
    let in_tree : nat_lt index (32 ^ tree.levels) ≡ true = grind (arith, within) in
    by_walk (walk_in held record_size tree index) refl in_tree is
  where
    by_walk : (r : Result (Option BlockRef) MacError) → walk_in held record_size tree index ≡ r → nat_lt index (32 ^ tree.levels) ≡ true
        → goes_on (λ found. text_of key held index found) (λ failed. Err failed) r ≡ Ok stored
        → (found : Option BlockRef) × (ref_in held record_size tree index ≡ Ok found) × (text_of key held index found ≡ Ok stored)
    by_walk (Ok found) same in_tree is = (found, rw (in_tree, same) refl, is)
    by_walk (Err failed) same in_tree is = absurd (cc)

-- what a new text is made of
pub text_parts : (key : KeyValue) (held : List (List ℕ)) (w : Write) (index : ℕ) (text : List ℕ) → new_text key held w index ≡ Ok text
    → (taken : List ℕ) × (taken_by key held w index ≡ Ok taken) × (text ≡ text_over w index taken)
unfolding new_text
text_parts key held w index text is = by_taken (taken_by key held w index) refl is
  where
    by_taken : (r : Result (List ℕ) MacError) → taken_by key held w index ≡ r → result_map_both (text_over w index) (λ failed. failed) r ≡ Ok text
        → (taken : List ℕ) × (taken_by key held w index ≡ Ok taken) × (text ≡ text_over w index taken)
    by_taken (Ok taken) same is = let e : text_over w index taken ≡ text = cc in (taken, same, sym e)
    by_taken (Err failed) same is = absurd (cc)

count_has : (record_size from end k : ℕ) → from < end → from / record_size + k ≤ (end - 1) / record_size → k < count_touched record_size from end
unfolding count_touched
count_has record_size from end k some last =
    let less : nat_lt from end ≡ true = grind (arith, some) in
    rw less (omega (arith, last))

-- a range whose blocks have the same bytes in it
pub range_same : (key : KeyValue) (held later : List (List ℕ)) (record_size : ℕ) (tree new_tree : ObjTree) (from end : ℕ) (bytes : List ℕ) → 0 < record_size → from ≤ end
    → object_range key held record_size tree from end ≡ Ok bytes
    → ((k : ℕ) → k < count_touched record_size from end → (stored : Option (List ℕ)) → text_at key held record_size tree (from / record_size + k) ≡ Ok stored
    → (found : Option (List ℕ)) × (text_at key later record_size new_tree (from / record_size + k) ≡ Ok found)
    × ((p : ℕ) → p < record_size → from ≤ (from / record_size + k) * record_size + p → (from / record_size + k) * record_size + p < end
    → get_or (option_map_or (λ text. text) found []) p 0 ≡ get_or (option_map_or (λ text. text) stored []) p 0))
    → object_range key later record_size new_tree from end ≡ Ok bytes
range_same key held later record_size tree new_tree from end bytes wide order was new =
    let texts = texts_of key held record_size tree from end bytes wide was in
    let read = range_ok key later record_size new_tree from end (λ i low high.
    let k : ℕ = i - from / record_size in
    let place : from / record_size + k ≡ i = omega (arith, low) in
    let within : k < count_touched record_size from end = omega (arith, low, high) in
    let one = new k within (get_or texts.0 k None) (text_in key held record_size tree from end bytes wide texts.0 texts.1 k within) in
    (one.0, subst (λ (n : ℕ). text_at key later record_size new_tree n ≡ Ok one.0) place one.1)) in
    let long = range_long key later record_size new_tree from end read.0 wide order read.1 in
    let long_before = range_long key held record_size tree from end bytes wide order was in
    let same : read.0 ≡ bytes = same_number_lists read.0 bytes (omega (arith, long, long_before)) (λ j within. each read.0 read.1 j (omega (arith, within, long))) in
    read.1 ∙ ap (λ (b : List ℕ). let r : Result (List ℕ) MacError = Ok b in r) same
  where
    each : (after : List ℕ) → object_range key later record_size new_tree from end ≡ Ok after → (j : ℕ) → from + j < end → get_or after j 0 ≡ get_or bytes j 0
    each after read j within =
        let index : ℕ = (from + j) / record_size in
        let p : ℕ = (from + j) % record_size in
        let whole : index * record_size + p ≡ from + j = omega (arith, div-add-mod (from + j) record_size, mul_comm index record_size) in
        let inside : p < record_size = mod-lt (from + j) wide in
        let old = range_at key held record_size tree from end bytes wide j was within in
        let low : from / record_size ≤ index = div_order from (from + j) record_size wide (omega arith) in
        let last : index ≤ (end - 1) / record_size = div_order (from + j) (end - 1) record_size wide (omega (arith, within)) in
        let k : ℕ = index - from / record_size in
        let place : from / record_size + k ≡ index = omega (arith, low) in
        let some : from < end = omega (arith, within) in
        let count : k < count_touched record_size from end = count_has record_size from end k some (omega (arith, last, low)) in
        let one = new k count old.0 (subst (λ (n : ℕ). text_at key held record_size tree n ≡ Ok old.0) (sym place) old.1) in
        let at : (from / record_size + k) * record_size + p ≡ from + j = ap (λ (n : ℕ). n * record_size + p) place ∙ whole in
        byte_at key later record_size new_tree from end j after one.0 wide read within (subst (λ (n : ℕ). text_at key later record_size new_tree n ≡ Ok one.0) place one.1)
        ∙ one.2 p inside (omega (arith, at)) (omega (arith, at, within))
        ∙ sym (byte_at key held record_size tree from end j bytes old.0 wide was within old.1)

-- ---- behind the write

module _ (key : KeyValue) (salts : SaltState) (held : List (List ℕ)) (w : Write) (texts : List (List ℕ)) (is : IsWrite w) (reads : new_texts key held w ≡ Ok texts)
    (on : IsRunOn (held_with key salts held (change_to w texts)) w.record_size (run_in key salts (length held) (change_to w texts))) where
  abbrev later : List (List ℕ)
  later = held ++ puts_in key salts held (length held) (change_to w texts)

  abbrev new_tree : ObjTree
  new_tree = (object_in key salts held (length held) (change_to w texts)).tree

  passes : Passes held w.record_size (run_in key salts (length held) (change_to w texts))
  passes = texts_pass key held w texts is reads (blocks_for w.record_size (length_after w)) (refs_to key salts (length held) texts) (length-refs key salts (length held) texts)

  touched_new : (index : ℕ) → first_of w ≤ index → index ≤ last_of w
      → (taken : List ℕ) × (taken_by key held w index ≡ Ok taken) × (text_at key later w.record_size new_tree index ≡ Ok (Some (text_over w index taken)))
  unfolding new_texts
  touched_new index low high =
      let total = counted_up w is in
      let k : ℕ = index - first_of w in
      let count = texts_count key held w texts reads in
      let place : first_of w + k ≡ index = omega (arith, low) in
      let within : k < count_of w = omega (arith, low, high, total) in
      let text = collected_at (new_text key held w) (first_of w) (count_of w) texts k [] reads within in
      let parts = text_parts key held w index (get_or texts k []) (subst (λ (i : ℕ). new_text key held w i ≡ Ok (get_or texts k [])) place text) in
      let stored = changed_stored key salts held (change_to w texts) k refl on passes (omega (arith, within, count)) in (
        parts.0,
        parts.1,
        subst (λ (i : ℕ). text_at key later w.record_size new_tree i ≡ Ok (Some (get_or texts k []))) place stored
            ∙ ap (λ (t : List ℕ). let r : Result (Option (List ℕ)) MacError = Ok (Some t) in r) parts.2,
      )

  pub written_range : object_range key later w.record_size new_tree w.from (end_of w) ≡ Ok w.bytes
  written_range =
      let total = counted_up w is in
      let read = range_ok key later w.record_size new_tree w.from (end_of w) (λ i low high.
      let new = touched_new i low (omega (arith, high, total)) in (Some (text_over w i new.0), new.2)) in
      let order : w.from ≤ end_of w = omega arith in
      let long = range_long key later w.record_size new_tree w.from (end_of w) read.0 is.wide order read.1 in
      let same : read.0 ≡ w.bytes = same_number_lists read.0 w.bytes (omega (arith, long)) (λ j within. each read.0 read.1 j (omega (arith, within, long))) in
      read.1 ∙ ap (λ (bytes : List ℕ). let r : Result (List ℕ) MacError = Ok bytes in r) same
    where
      each : (bytes : List ℕ) → object_range key later w.record_size new_tree w.from (end_of w) ≡ Ok bytes → (j : ℕ) → j < length w.bytes → get_or bytes j 0 ≡ get_or w.bytes j 0
      each bytes read j within =
          let index : ℕ = (w.from + j) / w.record_size in
          let p : ℕ = (w.from + j) % w.record_size in
          let whole : index * w.record_size + p ≡ w.from + j = omega (arith, div-add-mod (w.from + j) w.record_size, mul_comm index w.record_size) in
          let inside : p < w.record_size = mod-lt (w.from + j) is.wide in
          let low : first_of w ≤ index = div_order w.from (w.from + j) w.record_size is.wide (omega arith) in
          let high : index ≤ last_of w = div_order (w.from + j) (end_of w - 1) w.record_size is.wide (omega (arith, within)) in
          let new = touched_new index low high in
          let back : index * w.record_size + p - w.from ≡ j = omega (arith, whole) in
          byte_at key later w.record_size new_tree w.from (end_of w) j bytes (Some (text_over w index new.0)) is.wide read (omega (arith, within)) new.2
          ∙ text_in_piece w index p new.0 inside (omega (arith, whole)) (omega (arith, whole, within))
          ∙ ap (λ (n : ℕ). get_or w.bytes n 0) back

  -- a block that the object had before
  stored_new : (index : ℕ) (stored : Option (List ℕ)) → index < 32 ^ w.tree.levels → index < blocks_for w.record_size (length_after w)
      → text_at key held w.record_size w.tree index ≡ Ok stored
      → (found : Option (List ℕ)) × (text_at key later w.record_size new_tree index ≡ Ok found)
      × ((p : ℕ) → p < w.record_size → (index * w.record_size + p < w.from) ⊎ (end_of w ≤ index * w.record_size + p)
      → get_or (option_map_or (λ text. text) found []) p 0 ≡ get_or (option_map_or (λ text. text) stored []) p 0)
  stored_new index stored within inside text =
      let old = found_text key held w.record_size w.tree index stored within text in
      let count = texts_count key held w texts reads in
      let total = counted_up w is in
      elim (cases_lt index (first_of w)) [
        | inl before ↦
            (stored, others_stored key salts held (change_to w texts) index old.0 stored refl on passes inside (inl before) old.1 old.2, λ p small outside. refl)
        | inr low ↦
            elim (cases_lt (last_of w) index) [
              | inl behind ↦ (
                stored,
                others_stored key salts held (change_to w texts) index old.0 stored refl on passes inside (inr (omega (arith, behind, count, total))) old.1 old.2,
                λ p small outside. refl,
              )
              | inr high ↦
                  let new = touched_new index low high in
                  (Some (text_over w index new.0), new.2, λ p small outside. text_off_piece key held w index p old.0 new.0 stored small outside old.1 new.1 old.2)
            ]
      ]

  pub kept_range : (from end : ℕ) (bytes : List ℕ) → 512 ≤ w.record_size → w.old_length ≤ 4294967296
      → w.tree.levels ≡ levels_for (blocks_for w.record_size w.old_length)
      → from ≤ end → end ≤ w.old_length → (end ≤ w.from) ⊎ (end_of w ≤ from) → object_range key held w.record_size w.tree from end ≡ Ok bytes
      → object_range key later w.record_size new_tree from end ≡ Ok bytes
  kept_range from end bytes wide most levels order short outside was =
      range_same key held later w.record_size w.tree new_tree from end bytes is.wide order was (λ k within stored text.
      let block = in_object w.record_size from end w.old_length k is.wide short within in
      let room = has_room (blocks_for w.record_size w.old_length) (few_blocks w.record_size w.old_length wide most) in
      let new = stored_new (from / w.record_size + k) stored (rw levels (omega (arith, block, room)))
      (in_object w.record_size from end (length_after w) k is.wide (omega (arith, short)) within) text in
      (new.0, new.1, λ p inside low high. new.2 p inside (apart from end ((from / w.record_size + k) * w.record_size + p) low high outside)))
    where
      apart : (from end m : ℕ) → from ≤ m → m < end → (end ≤ w.from) ⊎ (end_of w ≤ from) → (m < w.from) ⊎ (end_of w ≤ m)
      apart from end m low high (inl before) = inl (omega (arith, high, before))
      apart from end m low high (inr behind) = inr (omega (arith, low, behind))

-- ---- behind a cut

-- a front is that of the stored text
front_of : (key : KeyValue) (held : List (List ℕ)) (record_size : ℕ) (tree : ObjTree) (index left : ℕ) (text : List ℕ) (found : Option BlockRef) (stored : Option (List ℕ))
    → front_at key held record_size tree index left ≡ Ok (Some text) → ref_in held record_size tree index ≡ Ok found → text_of key held index found ≡ Ok stored
    → (whole : List ℕ) × (stored ≡ Some whole) × (text ≡ take left whole)
unfolding front_at front_from text_of opened_as
front_of key held record_size tree index left text None stored front walked is = absurd (let none = rw walked at front in cc)
front_of key held record_size tree index left text (Some r) stored front walked is =
    by_opened (opened_ref key held r) (nat_lt left r.size) (rw walked at front) is
  where
    by_opened : (o : Option (List ℕ)) → (b : Bool)
        → (if b then result_map_both (λ t. Some (take left t)) (λ failed. failed) (option_map_or (λ t. Ok t) o (Err (MacFailed 0 index))) else Ok None) ≡ Ok (Some text)
        → option_map_or (λ t. Ok (Some t)) o (Err (MacFailed 0 index)) ≡ Ok stored
        → (whole : List ℕ) × (stored ≡ Some whole) × (text ≡ take left whole)
    by_opened None true front is = absurd (cc)
    by_opened None false front is = absurd (cc)
    by_opened (Some t) false front is = absurd (cc)
    by_opened (Some t) true front is =
        let f : take left t ≡ text = cc in
        let g : Some t ≡ stored = cc in
        (t, sym g, sym f)

cut_block : (key : KeyValue) (salts : SaltState) (held : List (List ℕ)) (record_size to : ℕ) (tree : ObjTree) (front : Option (List ℕ)) (index : ℕ) (stored : Option (List ℕ))
    → IsRunOn (held_with key salts held (cut_by tree record_size to front)) record_size (run_in key salts (length held) (cut_by tree record_size to front))
    → Passes held record_size (run_in key salts (length held) (cut_by tree record_size to front))
    → index < blocks_for record_size to → index ≤ last_kept record_size to
    → front_at key held record_size tree (last_kept record_size to) (left_of record_size to) ≡ Ok front
    → (found : Option BlockRef) × (ref_in held record_size tree index ≡ Ok found) × (text_of key held index found ≡ Ok stored)
    → (found : Option (List ℕ))
    × (text_at key (held ++ puts_in key salts held (length held) (cut_by tree record_size to front)) record_size
    (object_in key salts held (length held) (cut_by tree record_size to front)).tree index ≡ Ok found)
    × ((p : ℕ) → index * record_size + p < to
    → get_or (option_map_or (λ text. text) found []) p 0 ≡ get_or (option_map_or (λ text. text) stored []) p 0)
cut_block key salts held record_size to tree None index stored on passes inside low reads old =
    (stored, others_stored key salts held (cut_by tree record_size to None) index old.0 stored refl on passes inside (inr (omega arith)) old.1 old.2, λ p small. refl)
cut_block key salts held record_size to tree (Some text) index stored on passes inside low reads old =
    elim (cases_lt index (last_kept record_size to)) [
      | inl before ↦
          (stored, others_stored key salts held (cut_by tree record_size to (Some text)) index old.0 stored refl on passes inside (inl before) old.1 old.2, λ p small. refl)
      | inr behind ↦
          let e : last_kept record_size to + 0 ≡ index = omega (arith, low, behind) in
          let own : last_kept record_size to ≡ index = omega (arith, low, behind) in
          let new = changed_stored key salts held (cut_by tree record_size to (Some text)) 0 refl on passes (omega arith) in
          let parts = front_of key held record_size tree index (left_of record_size to) text old.0 stored
          (subst (λ (i : ℕ). front_at key held record_size tree i (left_of record_size to) ≡ Ok (Some text)) own reads) old.1 old.2 in (
            Some text,
            subst (λ (i : ℕ). text_at key (held ++ puts_in key salts held (length held) (cut_by tree record_size to (Some text))) record_size
                (object_in key salts held (length held) (cut_by tree record_size to (Some text))).tree i ≡ Ok (Some text)) e new,
            λ p small.
                let times : last_kept record_size to * record_size ≡ index * record_size = ap (λ (n : ℕ). n * record_size) own in
                ap (λ (l : List ℕ). get_or l p 0) parts.2 ∙ get_or-take (left_of record_size to) parts.0 p 0 (omega (arith, small, times))
                ∙ sym (ap (λ (o : Option (List ℕ)). get_or (option_map_or (λ t. t) o []) p 0) parts.1),
          )
    ]

module _ (key : KeyValue) (salts : SaltState) (held : List (List ℕ)) (record_size to : ℕ) (tree : ObjTree) (front : Option (List ℕ)) (wide : 0 < record_size)
    (some : 1 ≤ tree.levels) (kept : 0 < to) (reads : front_at key held record_size tree (last_kept record_size to) (left_of record_size to) ≡ Ok front)
    (on : IsRunOn (held_with key salts held (cut_by tree record_size to front)) record_size (run_in key salts (length held) (cut_by tree record_size to front))) where
  abbrev cut_held : List (List ℕ)
  cut_held = held ++ puts_in key salts held (length held) (cut_by tree record_size to front)

  abbrev cut_tree : ObjTree
  cut_tree = (object_in key salts held (length held) (cut_by tree record_size to front)).tree

  cut_over : Passes held record_size (run_in key salts (length held) (cut_by tree record_size to front))
  cut_over =
      front_passes key salts (length held) held record_size to tree front wide some kept
      (front_finds key held record_size tree (last_kept record_size to) (left_of record_size to) front reads)

  -- a block of which something stays
  stored_cut : (index : ℕ) (stored : Option (List ℕ)) → index < 32 ^ tree.levels → index ≤ last_kept record_size to → index < blocks_for record_size to
      → text_at key held record_size tree index ≡ Ok stored
      → (found : Option (List ℕ)) × (text_at key cut_held record_size cut_tree index ≡ Ok found)
      × ((p : ℕ) → index * record_size + p < to
      → get_or (option_map_or (λ text. text) found []) p 0 ≡ get_or (option_map_or (λ text. text) stored []) p 0)
  stored_cut index stored within low inside text =
      cut_block key salts held record_size to tree front index stored on cut_over inside low reads (found_text key held record_size tree index stored within text)

  pub cut_range : (before from end : ℕ) (bytes : List ℕ) → 512 ≤ record_size → before ≤ 4294967296
      → tree.levels ≡ levels_for (blocks_for record_size before) → to ≤ before
      → from ≤ end → end ≤ to → object_range key held record_size tree from end ≡ Ok bytes
      → object_range key cut_held record_size cut_tree from end ≡ Ok bytes
  cut_range before from end bytes large most levels shorter order short was =
      range_same key held cut_held record_size tree cut_tree from end bytes wide order was (λ k within stored text.
      let block = in_object record_size from end before k wide (omega (arith, short, shorter)) within in
      let room = has_room (blocks_for record_size before) (few_blocks record_size before large most) in
      let at = touched record_size from end k within in
      let last : (end - 1) / record_size ≤ last_kept record_size to = div_order (end - 1) (to - 1) record_size wide (omega (arith, short)) in
      let new = stored_cut (from / record_size + k) stored (rw levels (omega (arith, block, room))) (omega (arith, at.place, last))
      (in_object record_size from end to k wide short within) text in
      (new.0, new.1, λ p inside from_low high. new.2 p (omega (arith, high, short))))
