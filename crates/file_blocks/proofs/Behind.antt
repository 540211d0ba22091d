-- What changes are, and that what they store ends within the new object.
use Rattle.std.proofs.Common.{◌≡◌, ℕ, zero, ◌+◌, ◌-◌, ◌*◌, ◌<◌, ◌≤◌, Bool, true, false, ◌==◌, nat_le, nat_lt, List, [], ◌∷◌, length, get_or, take, drop, refl, sym, ap, subst, ◌∙◌, inl, inr, arith, length-drop, Option, Some, None, Result, Ok, Err, if◌then◌else◌}
use Rattle.std.specs.Prelude.{◌⊎◌, IfSome, slice_index_or}
use Rattle.std.specs.Option.{option_map_or}
use Rattle.std.specs.Result.{result_map_both}
use Rattle.std.proofs.lemmas.Bool.{cases_lt, eqb-false, eqb-true, leb-true}
use Rattle.std.proofs.lemmas.List.{length-take}
use Rattle.std.proofs.Math.Nat.{add-mul, lt-div-mul-add, div-mul-le_self, mul-le-mul_right, mul_comm}
use Rattle.block_crypt.specs.Blocks.{KeyValue}
use Rattle.salt_rotation.specs.SaltState.{SaltState}
use Rattle.indirect_macs.specs.declared.refs.BlockRef.{BlockRef}
use Rattle.indirect_macs.specs.declared.refs.ObjTree.{ObjTree}
use Rattle.indirect_macs.specs.declared.refs.MacError.{MacError}
use Rattle.indirect_macs.specs.declared.refs.MacError.TheVariants.{MacFailed}
use Rattle.file_blocks.specs.declared.object.Object.{Object}
use Rattle.file_blocks.specs.Changes.{Change, after_draws, next_draw, ref_in, ref_under}
use Rattle.file_blocks.specs.Objects.{blocks_for, opened_ref}
use Rattle.file_blocks.specs.Wholes.{EndsWithin, HasRefs, refs_behind}
use Rattle.file_blocks.specs.WriteFields.{write_to}
use Rattle.file_blocks.specs.Writes.{Write, change_of_cut, change_of_length, change_of_write, change_to, count_of, cut_by, end_of, first_of, front_at, front_from, is_partial, last_kept, last_of, left_of, length_after, new_text, new_texts, opened_as, piece_in, start_in, taken_at, taken_by, taken_from, text_over}
use Rattle.file_blocks.proofs.Bytes.{collected_at}
use Rattle.file_blocks.proofs.NewTexts.{IsWrite, counted_up, ref_size}
use Rattle.file_blocks.proofs.Passing.{blocks_none, blocks_some, texts_count}
use Rattle.file_blocks.proofs.Stored.{refs_at}
use Rattle.file_blocks.proofs.Texts.{has_room, length-spliced}
use Rattle.file_blocks.proofs.WholeBytes.{IsSized, Stores, if_found}
use Rattle.file_blocks.proofs.WrittenBytes.{ref_long}
use Rattle.file_blocks.proofs.WrittenRanges.{text_parts}

-- ---- which changes there are

-- a change of a write is one of a length alone, or one to new texts
pub write_cases : (P : Change → Type 0) (key : KeyValue) (held : List (List ℕ)) (w : Write) (c : Change) → change_of_write key held w ≡ Ok c
    → (length w.bytes ≡ 0 → P (change_of_length w.tree w.record_size (length_after w)))
    → (0 < length w.bytes → (texts : List (List ℕ)) → new_texts key held w ≡ Ok texts → P (change_to w texts)) → P c
unfolding change_of_write
write_cases P key held w c change none some = by_none (length w.bytes == 0) refl change
  where
    by_texts : 0 < length w.bytes → (r : Result (List (List ℕ)) MacError) → new_texts key held w ≡ r → result_map_both (change_to w) (λ failed. failed) r ≡ Ok c → P c
    by_texts more (Ok texts) is change = let e : change_to w texts ≡ c = cc in subst P e (some more texts is)
    by_texts more (Err failed) is change = absurd (cc)

    by_none : (b : Bool) → (length w.bytes == 0) ≡ b
        → (if b then Ok (change_of_length w.tree w.record_size (length_after w)) else result_map_both (change_to w) (λ failed. failed) (new_texts key held w)) ≡ Ok c → P c
    by_none true is change =
        let e : change_of_length w.tree w.record_size (length_after w) ≡ c = cc in
        subst P e (none (eqb-true (length w.bytes) 0 is))
    by_none false is change = by_texts (omega (arith, eqb-false (length w.bytes) 0 is)) (new_texts key held w) refl change

-- a change of a cut is one of a length alone, one to no blocks, or one to a front of the last block that stays
pub cut_cases : (P : Change → Type 0) (key : KeyValue) (held : List (List ℕ)) (record_size : ℕ) (object : Object) (to : ℕ) (c : Change)
    → change_of_cut key held record_size object to ≡ Ok c
    → (object.length ≤ to → P (change_of_length object.tree record_size to))
    → (to < object.length → to ≡ 0 → P (cut_by object.tree record_size 0 None))
    → (to < object.length → 0 < to → (front : Option (List ℕ))
    → front_at key held record_size object.tree (last_kept record_size to) (left_of record_size to) ≡ Ok front → P (cut_by object.tree record_size to front))
    → P c
unfolding change_of_cut
cut_cases P key held record_size object to c change grown none some = by_grown (nat_le object.length to) refl change
  where
    by_front : to < object.length → 0 < to → (r : Result (Option (List ℕ)) MacError)
        → front_at key held record_size object.tree (last_kept record_size to) (left_of record_size to) ≡ r
        → result_map_both (cut_by object.tree record_size to) (λ failed. failed) r ≡ Ok c → P c
    by_front less kept (Ok front) is change = let e : cut_by object.tree record_size to front ≡ c = cc in subst P e (some less kept front is)
    by_front less kept (Err failed) is change = absurd (cc)

    by_none : to < object.length → (b : Bool) → (to == 0) ≡ b
        → (if b then Ok (cut_by object.tree record_size 0 None)
        else result_map_both (cut_by object.tree record_size to) (λ failed. failed)
        (front_at key held record_size object.tree (last_kept record_size to) (left_of record_size to))) ≡ Ok c → P c
    by_none less true is change = let e : cut_by object.tree record_size 0 None ≡ c = cc in subst P e (none less (eqb-true to 0 is))
    by_none less false is change = by_front less (omega (arith, eqb-false to 0 is)) _ refl change

    by_grown : (b : Bool) → nat_le object.length to ≡ b
        → (if b then Ok (change_of_length object.tree record_size to)
        else (if to == 0 then Ok (cut_by object.tree record_size 0 None)
        else result_map_both (cut_by object.tree record_size to) (λ failed. failed)
        (front_at key held record_size object.tree (last_kept record_size to) (left_of record_size to)))) ≡ Ok c → P c
    by_grown true is change = let e : change_of_length object.tree record_size to ≡ c = cc in subst P e (grown (leb-true object.length to is))
    by_grown false is change =
        let less : to < object.length = grind (arith, is) in
        by_none less (to == 0) refl change

-- a reference behind a change is that of a text, a hole, or the one before
pub ref_cases : (P : Option BlockRef → Type 0) (key : KeyValue) (salts : SaltState) (addr : ℕ) (c : Change) (refs : ℕ → Option BlockRef) (index : ℕ)
    → ((k : ℕ) → k < length c.texts → c.first + k ≡ index → P (Some (ref_under key (next_draw (after_draws k salts)) (addr + k) (slice_index_or c.texts k []))))
    → ((index < c.first) ⊎ (c.first + length c.texts ≤ index) → blocks_for c.record_size c.new_length ≤ index → P None)
    → ((index < c.first) ⊎ (c.first + length c.texts ≤ index) → index < blocks_for c.record_size c.new_length → P (refs index))
    → P (refs_behind key salts addr c refs index)
ref_cases P key salts addr c refs index text hole old =
    elim (cases_lt index c.first) [
      | inl before ↦
          let no : nat_le c.first index ≡ false = grind (arith, before) in
          rw no (outside (inl before))
      | inr from ↦
          let yes : nat_le c.first index ≡ true = grind (arith, from) in
          elim (cases_lt index (c.first + length c.texts)) [
            | inl to ↦
                let also : nat_lt index (c.first + length c.texts) ≡ true = grind (arith, to) in
                let within : index - c.first < length c.texts = omega (arith, from, to) in
                rw (yes, also, refs_at key salts addr c.texts (index - c.first) within) (text (index - c.first) within (omega (arith, from)))
            | inr past ↦
                let not_so : nat_lt index (c.first + length c.texts) ≡ false = grind (arith, past) in
                rw (yes, not_so) (outside (inr past))
          ]
    ]
  where
    outside : (index < c.first) ⊎ (c.first + length c.texts ≤ index) → P (if nat_le (blocks_for c.record_size c.new_length) index then None else refs index)
    outside where_is =
        elim (cases_lt index (blocks_for c.record_size c.new_length)) [
          | inl within ↦
              let no : nat_le (blocks_for c.record_size c.new_length) index ≡ false = grind (arith, within) in
              rw no (old where_is within)
          | inr past ↦
              let yes : nat_le (blocks_for c.record_size c.new_length) index ≡ true = grind (arith, past) in
              rw yes (hole where_is past)
        ]

-- ---- texts that are taken over

-- nothing, or the text that is stored
pub taken_is : (key : KeyValue) (held : List (List ℕ)) (w : Write) (index : ℕ) (found : Option BlockRef) (taken : List ℕ) → ref_in held w.record_size w.tree index ≡ Ok found
    → taken_by key held w index ≡ Ok taken → (taken ≡ []) ⊎ Stores key held found taken
unfolding taken_at taken_from opened_as
taken_is key held w index found taken walked is = by_found found (rw walked at is)
  where
    start : ℕ
    start = start_in w index

    end : ℕ
    end = start_in w index + length (piece_in w index)

    by_found : (found : Option BlockRef) → taken_from key held index start end found ≡ Ok taken → (taken ≡ []) ⊎ Stores key held found taken
    by_found None is = inl (let e : [] ≡ taken = cc in sym e)
    by_found (Some r) is = by_part (is_partial start end r.size) (opened_ref key held r) refl is
      where
        by_part : (b : Bool) (o : Option (List ℕ)) → opened_ref key held r ≡ o
            → (if b then option_map_or (λ t. Ok t) o (Err (MacFailed 0 index)) else Ok []) ≡ Ok taken → (taken ≡ []) ⊎ (opened_ref key held r ≡ Some taken)
        by_part false o opened is = inl (let e : [] ≡ taken = cc in sym e)
        by_part true None opened is = absurd (cc)
        by_part true (Some t) opened is = inr (let e : t ≡ taken = cc in opened ∙ ap (λ (l : List ℕ). let o : Option (List ℕ) = Some l in o) e)

-- a stored text is no longer than its reference says
pub stores_long : (key : KeyValue) (held : List (List ℕ)) (found : Option BlockRef) (text : List ℕ) (most : ℕ) → Stores key held found text
    → IfSome found (λ r. r.size ≤ most) → length text ≤ most
stores_long key held None text most stores small = let none : length text ≡ 0 = ap length stores in omega (arith, none)
stores_long key held (Some r) text most stores small = omega (arith, ref_long key held r text stores, small)

-- no front is cut where no more is stored, and else it is that of the stored text
pub front_none : (key : KeyValue) (held : List (List ℕ)) (record_size : ℕ) (tree : ObjTree) (index left : ℕ) (found : Option BlockRef)
    → front_at key held record_size tree index left ≡ Ok None → ref_in held record_size tree index ≡ Ok found → IfSome found (λ r. r.size ≤ left)
unfolding front_at front_from opened_as
front_none key held record_size tree index left found front walked = by_found found (rw walked at front)
  where
    by_found : (found : Option BlockRef) → front_from key held index left found ≡ Ok None → IfSome found (λ r. r.size ≤ left)
    by_found None is = tt
    by_found (Some r) is = by_size (cases_lt left r.size) (opened_ref key held r) is
      where
        by_size : (left < r.size) ⊎ (r.size ≤ left) → (o : Option (List ℕ))
            → (if nat_lt left r.size then result_map_both (λ t. Some (take left t)) (λ failed. failed) (option_map_or (λ t. Ok t) o (Err (MacFailed 0 index))) else Ok None) ≡ Ok None
            → r.size ≤ left
        by_size (inr few) o is = few
        by_size (inl more) None is =
            let yes : nat_lt left r.size ≡ true = grind (arith, more) in
            absurd (let g = rw yes at is in cc)
        by_size (inl more) (Some t) is =
            let yes : nat_lt left r.size ≡ true = grind (arith, more) in
            absurd (let g = rw yes at is in cc)

pub front_some : (key : KeyValue) (held : List (List ℕ)) (record_size : ℕ) (tree : ObjTree) (index left : ℕ) (text : List ℕ) (found : Option BlockRef)
    → front_at key held record_size tree index left ≡ Ok (Some text) → ref_in held record_size tree index ≡ Ok found
    → (whole : List ℕ) × Stores key held found whole × (text ≡ take left whole)
unfolding front_at front_from opened_as
front_some key held record_size tree index left text found front walked = by_found found (rw walked at front)
  where
    by_found : (found : Option BlockRef) → front_from key held index left found ≡ Ok (Some text) → (whole : List ℕ) × Stores key held found whole × (text ≡ take left whole)
    by_found None is = absurd (cc)
    by_found (Some r) is = by_size (nat_lt left r.size) (opened_ref key held r) refl is
      where
        by_size : (b : Bool) (o : Option (List ℕ)) → opened_ref key held r ≡ o
            → (if b then result_map_both (λ t. Some (take left t)) (λ failed. failed) (option_map_or (λ t. Ok t) o (Err (MacFailed 0 index))) else Ok None) ≡ Ok (Some text)
            → (whole : List ℕ) × (opened_ref key held r ≡ Some whole) × (text ≡ take left whole)
        by_size false o opened is = absurd (cc)
        by_size true None opened is = absurd (cc)
        by_size true (Some t) opened is = let e : take left t ≡ text = cc in (t, opened, sym e)

-- ---- sizes

-- the text of a touched block of a write
pub touched_text : (key : KeyValue) (held : List (List ℕ)) (w : Write) (texts : List (List ℕ)) (k : ℕ) → new_texts key held w ≡ Ok texts → k < length texts
    → (taken : List ℕ) × (taken_by key held w (first_of w + k) ≡ Ok taken) × (slice_index_or texts k [] ≡ text_over w (first_of w + k) taken)
unfolding new_texts
touched_text key held w texts k reads within =
    let count = texts_count key held w texts reads in
    let text = collected_at (new_text key held w) (first_of w) (count_of w) texts k [] reads (omega (arith, within, count)) in
    text_parts key held w (first_of w + k) (get_or texts k []) text

-- how many bytes it has
pub text_long : (w : Write) (index : ℕ) (taken : List ℕ) → IsWrite w → first_of w ≤ index → index ≤ last_of w → length taken ≤ w.record_size
    → w.record_size * index + length taken ≤ length_after w ⊎ (taken ≡ [])
    → (length (text_over w index taken) ≤ w.record_size) × (w.record_size * index + length (text_over w index taken) ≤ length_after w)
text_long w index taken is low high small ends =
    let room = has_room w index is low high in
    let size = length-spliced taken (piece_in w index) (start_in w index) in
    let whole = length-take (w.record_size - start_in w index) (drop (index * w.record_size - w.from) w.bytes) in
    let rest = length-drop (index * w.record_size - w.from) w.bytes in
    let turned = mul_comm w.record_size index in
    let reaches : w.record_size * index + (start_in w index + length (piece_in w index)) ≤ end_of w = omega (arith, whole, rest, turned, room.some) in (
      omega (arith, size, room.within, small),
      elim ends [
        | inl within ↦ omega (arith, size, reaches, within)
        | inr none ↦ let no_bytes : length taken ≡ 0 = ap length none in omega (arith, size, reaches, no_bytes)
      ],
    )

module _ (key : KeyValue) (salts : SaltState) (held : List (List ℕ)) (record_size addr : ℕ) (object : Object) (refs : ℕ → Option BlockRef) (wide : 0 < record_size)
    (some : 1 ≤ object.tree.levels) (has : HasRefs held record_size object refs) (ends : EndsWithin record_size object.length refs) where
  ref_sized : (index bytes : ℕ) → IfSome (refs index) (λ r. record_size * index + r.size ≤ bytes) → IsSized record_size bytes index (refs index)
  ref_sized index bytes ends = by_found (refs index) (has.leads index) ends
    where
      by_found : (found : Option BlockRef) → ref_in held record_size object.tree index ≡ Ok found → IfSome found (λ r. record_size * index + r.size ≤ bytes)
          → IsSized record_size bytes index found
      by_found None walked ends = tt
      by_found (Some r) walked ends = (ref_size held record_size object.tree index r walked, ends)

  longer : (index bytes : ℕ) → object.length ≤ bytes → IsSized record_size bytes index (refs index)
  longer index bytes order = ref_sized index bytes (if_found (refs index) (ends index) (λ r end. omega (arith, end, order)))

  length_sized : (to index : ℕ) → object.length ≤ to → IsSized record_size to index (refs_behind key salts addr (change_of_length object.tree record_size to) refs index)
  length_sized to index order =
      ref_cases (IsSized record_size to index) key salts addr (change_of_length object.tree record_size to) refs index
      (λ k within place. absurd (omega (arith, within))) (λ outside past. tt) (λ outside within. longer index to order)

  pub write_sized : (from : ℕ) (bytes : List ℕ) (c : Change) (index : ℕ) → change_of_write key held (write_to object record_size from bytes) ≡ Ok c
      → IsSized record_size c.new_length index (refs_behind key salts addr c refs index)
  write_sized from bytes c index change =
      write_cases (λ (d : Change). IsSized record_size d.new_length index (refs_behind key salts addr d refs index)) key held w c change
      (λ none. length_sized (length_after w) index (omega arith))
      (λ more texts reads. ref_cases (IsSized record_size (length_after w) index) key salts addr (change_to w texts) refs index
      (λ k within place. text_sized (record { levels = some; wide = wide; some = more }) texts reads k within place)
      (λ outside past. tt) (λ outside within. longer index (length_after w) (omega arith)))
    where
      w : Write
      w = write_to object record_size from bytes

      text_sized : IsWrite w → (texts : List (List ℕ)) → new_texts key held w ≡ Ok texts → (k : ℕ) → k < length texts → first_of w + k ≡ index
          → (length (slice_index_or texts k []) ≤ record_size) × (record_size * index + length (slice_index_or texts k []) ≤ length_after w)
      text_sized is texts reads k within place =
          let text = touched_text key held w texts k reads within in
          let total = counted_up w is in
          let count = texts_count key held w texts reads in
          let taken_at_index : taken_by key held w index ≡ Ok text.0 = subst (λ (i : ℕ). taken_by key held w i ≡ Ok text.0) place text.1 in
          let from_old = taken_is key held w index (refs index) text.0 (has.leads index) taken_at_index in
          let sized = longer index (length_after w) (omega arith) in
          let small : length text.0 ≤ record_size = elim from_old [
            | inl none ↦ let no_bytes : length text.0 ≡ 0 = ap length none in omega (arith, no_bytes)
            | inr stores ↦ stores_long key held (refs index) text.0 record_size stores (if_found (refs index) sized (λ r s. s.0))
          ] in
          let long = text_long w index text.0 is (omega (arith, place)) (omega (arith, place, within, count, total)) small
          (elim from_old [
            | inl none ↦ inr none
            | inr stores ↦ ending (refs index) text.0 stores (ends index)
          ]) in
          let same : slice_index_or texts k [] ≡ text_over w index text.0 = text.2 ∙ ap (λ (i : ℕ). text_over w i text.0) place in
          rw same long
        where
          ending : (found : Option BlockRef) (taken : List ℕ) → Stores key held found taken → IfSome found (λ r. record_size * index + r.size ≤ object.length)
              → (record_size * index + length taken ≤ length_after w) ⊎ (taken ≡ [])
          ending None taken stores within = inr stores
          ending (Some r) taken stores within = inl (omega (arith, ref_long key held r taken stores, within))

  -- a block before the last one that stays
  whole_block : (to index : ℕ) → 0 < to → index < last_kept record_size to → record_size * index + record_size ≤ to
  whole_block to index kept before =
      let under : last_kept record_size to * record_size ≤ to - 1 = div-mul-le_self (to - 1) record_size in
      let times : (index + 1) * record_size ≤ last_kept record_size to * record_size = mul-le-mul_right record_size (omega (arith, before)) in
      let parts = add-mul index 1 record_size in
      let one : 1 * record_size ≡ record_size = omega arith in
      omega (arith, under, times, parts, one, mul_comm index record_size, kept)

  -- what stays of the last one
  pub left_sized : (to : ℕ) → 0 < to → (left_of record_size to ≤ record_size) × (record_size * last_kept record_size to + left_of record_size to ≡ to)
  left_sized to kept =
      let under : last_kept record_size to * record_size ≤ to - 1 = div-mul-le_self (to - 1) record_size in
      let over : to - 1 < last_kept record_size to * record_size + record_size = lt-div-mul-add wide in
      (omega (arith, over, kept), omega (arith, under, mul_comm record_size (last_kept record_size to), kept))

  cut_old_sized : (to index : ℕ) → 0 < to → index < last_kept record_size to → IsSized record_size to index (refs index)
  cut_old_sized to index kept before =
      let most = whole_block to index kept before in
      by_found (refs index) (has.leads index)
    where
      by_found : (found : Option BlockRef) → ref_in held record_size object.tree index ≡ Ok found → IsSized record_size to index found
      by_found None walked = tt
      by_found (Some r) walked =
          let small = ref_size held record_size object.tree index r walked in
          (small, omega (arith, small, whole_block to index kept before))

  front_sized : (to index : ℕ) (front : Option (List ℕ)) → 0 < to → front_at key held record_size object.tree (last_kept record_size to) (left_of record_size to) ≡ Ok front
      → IsSized record_size to index (refs_behind key salts addr (cut_by object.tree record_size to front) refs index)
  front_sized to index None kept reads =
      let blocks = blocks_some record_size to wide kept in
      ref_cases (IsSized record_size to index) key salts addr (cut_by object.tree record_size to None) refs index
      (λ k within place. absurd (omega (arith, within))) (λ outside past. tt)
      (λ outside within. elim (cases_lt index (last_kept record_size to)) [
        | inl before ↦ cut_old_sized to index kept before
        | inr last ↦
            let own : last_kept record_size to ≡ index = omega (arith, last, within, blocks) in
            let small = front_none key held record_size object.tree index (left_of record_size to) (refs index)
            (subst (λ (i : ℕ). front_at key held record_size object.tree i (left_of record_size to) ≡ Ok None) own reads) (has.leads index) in
            let left = left_sized to kept in
            let times : record_size * last_kept record_size to ≡ record_size * index = ap (λ (n : ℕ). record_size * n) own in
            if_found (refs index) small (λ r few. (omega (arith, few, left.0), omega (arith, few, left.1, times)))
      ])
  front_sized to index (Some text) kept reads =
      let blocks = blocks_some record_size to wide kept in
      let left = left_sized to kept in
      ref_cases (IsSized record_size to index) key salts addr (cut_by object.tree record_size to (Some text)) refs index
      (λ k within place.
      let first : k ≡ zero = omega (arith, within) in
      let own : last_kept record_size to ≡ index = omega (arith, place, first) in
      let times : record_size * last_kept record_size to ≡ record_size * index = ap (λ (n : ℕ). record_size * n) own in
      let same : slice_index_or (text ∷ []) k [] ≡ text = ap (λ (n : ℕ). slice_index_or (text ∷ []) n []) first in
      let parts = front_some key held record_size object.tree (last_kept record_size to) (left_of record_size to) text (refs (last_kept record_size to)) reads
      (has.leads (last_kept record_size to)) in
      let long : length text ≤ left_of record_size to = omega (arith, ap length parts.2, length-take (left_of record_size to) parts.0) in
      rw same (omega (arith, long, left.0), omega (arith, long, left.1, times)))
      (λ outside past. tt)
      (λ outside within. cut_old_sized to index kept (elim outside [
        | inl before ↦ before
        | inr behind ↦ absurd (omega (arith, behind, within, blocks))
      ]))

  pub cut_sized : (to : ℕ) (c : Change) (index : ℕ) → change_of_cut key held record_size object to ≡ Ok c
      → IsSized record_size c.new_length index (refs_behind key salts addr c refs index)
  cut_sized to c index change =
      cut_cases (λ (d : Change). IsSized record_size d.new_length index (refs_behind key salts addr d refs index)) key held record_size object to c change
      (λ grown. length_sized to index grown)
      (λ less none. ref_cases (IsSized record_size 0 index) key salts addr (cut_by object.tree record_size 0 None) refs index
      (λ k within place. absurd (omega (arith, within))) (λ outside past. tt)
      (λ outside within. absurd (omega (arith, within, blocks_none record_size wide))))
      (λ less kept front reads. front_sized to index front kept reads)
