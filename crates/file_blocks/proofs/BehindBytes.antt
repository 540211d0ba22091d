-- The bytes of an object behind a write or a cut, by its references.
use Rattle.std.proofs.Common.{◌≡◌, ℕ, zero, ◌+◌, ◌-◌, ◌*◌, ◌<◌, ◌≤◌, List, [], ◌∷◌, ◌++◌, length, get_or, take, refl, sym, ap, subst, ◌∙◌, inl, inr, arith, Option, Some, None, Ok}
use Rattle.std.specs.Prelude.{◌⊎◌, IfSome, slice_index_or}
use Rattle.std.specs.Option.{option_map_or}
use Rattle.std.proofs.lemmas.Bool.{cases_lt}
use Rattle.std.proofs.lemmas.List.{get_or-take, get_or_past, length-take}
use Rattle.std.proofs.Math.Nat.{add-mul, lt-div-mul-add, div-mul-le_self, mul-le-mul_right, mul_comm}
use Rattle.std.proofs.lemmas.Grind.{div_ceil_times}
use Rattle.block_crypt.specs.Blocks.{KeyValue}
use Rattle.salt_rotation.specs.SaltState.{SaltState}
use Rattle.indirect_macs.specs.declared.refs.BlockRef.{BlockRef}
use Rattle.indirect_macs.proofs.Growth.{slice_get-grown}
use Rattle.file_blocks.specs.declared.object.Object.{Object}
use Rattle.file_blocks.specs.Changes.{Change, after_draws, next_draw, ref_under, sealed_texts, sealed_under}
use Rattle.file_blocks.specs.Objects.{blocks_for, filled, spliced, text_of}
use Rattle.file_blocks.specs.Wholes.{EndsWithin, HasRefs, bytes_of_refs, refs_behind}
use Rattle.file_blocks.specs.WriteFields.{write_to}
use Rattle.file_blocks.specs.Writes.{Write, change_of_cut, change_of_length, change_of_write, change_to, cut_by, end_of, first_of, front_at, last_kept, last_of, left_of, length_after, new_texts, taken_by, text_over}
use Rattle.file_blocks.proofs.Behind.{cut_cases, cut_sized, front_none, front_some, left_sized, ref_cases, touched_text, write_cases, write_sized}
use Rattle.file_blocks.proofs.Bytes.{filled_at}
use Rattle.file_blocks.proofs.NewTexts.{IsWrite, counted_up}
use Rattle.file_blocks.proofs.Passing.{blocks_none, blocks_some, texts_count}
use Rattle.file_blocks.proofs.Ranges.{length-filled}
use Rattle.file_blocks.proofs.Stored.{behind_get, opened_sealed, sealed_at}
use Rattle.file_blocks.proofs.Texts.{length-spliced}
use Rattle.file_blocks.proofs.WholeBytes.{IsPart, IsSized, Stores, given_parts, if_found, parts_give, stores_grown, stores_past, stores_same}
use Rattle.file_blocks.proofs.WrittenBytes.{spliced_before, spliced_behind, spliced_within, text_in_piece, text_off_piece}

-- ---- bytes

-- as many bytes or more are the same, with zeros behind
filled_more : (to p : ℕ) (old : List ℕ) → length old ≤ to → get_or (filled to old) p 0 ≡ get_or old p 0
filled_more to p old order =
    elim (cases_lt p to) [
      | inl low ↦ filled_at to old p low
      | inr past ↦ get_or_past (filled to old) p 0 (omega (arith, length-filled to old, past)) ∙ sym (get_or_past old p 0 (omega (arith, past, order)))
    ]

-- a stored text, as a read of the block gives it
text_of_stores : (key : KeyValue) (held : List (List ℕ)) (index : ℕ) (found : Option BlockRef) (text : List ℕ) → Stores key held found text
    → (stored : Option (List ℕ)) × (text_of key held index found ≡ Ok stored) × (option_map_or (λ t. t) stored [] ≡ text)
unfolding text_of
text_of_stores key held index None text stores = (None, refl, sym stores)
text_of_stores key held index (Some r) text stores = (Some text, rw stores refl, refl)

-- ---- one block behind a change

-- a block that stays, where its bytes are those of the new object too
kept_part : (key : KeyValue) (held more : List (List ℕ)) (record_size : ℕ) (old new : List ℕ) (index : ℕ) (found : Option BlockRef) (part : IsPart key held record_size old index found)
    → ((p : ℕ) → p < record_size → get_or part.text p 0 ≡ get_or new (record_size * index + p) 0)
    → IsPart key (held ++ more) record_size new index found
kept_part key held more record_size old new index found part each = record {
  text = part.text;
  stores = stores_grown key held more found part.text part.stores;
  each = each;
}

-- a hole behind the new object
hole_part : (key : KeyValue) (held : List (List ℕ)) (record_size : ℕ) (new : List ℕ) (index : ℕ) → length new ≤ record_size * index → IsPart key held record_size new index None
hole_part key held record_size new index past = record {
  text = [];
  stores = refl;
  each = λ p inside. sym (get_or_past new (record_size * index + p) 0 (omega (arith, past)));
}

module _ (key : KeyValue) (salts : SaltState) (held more : List (List ℕ)) (record_size : ℕ) (object : Object) (refs : ℕ → Option BlockRef) (wide : 0 < record_size)
    (some : 1 ≤ object.tree.levels) (has : HasRefs held record_size object refs) (old : List ℕ) (given : bytes_of_refs key held record_size object.length refs ≡ Some old) where
  abbrev later : Change → List (List ℕ)
  later c = held ++ (sealed_texts key salts c.texts ++ more)

  abbrev behind : Change → ℕ → Option BlockRef
  behind c = refs_behind key salts (length held) c refs

  old_long : length old ≡ object.length
  old_long = (given_parts key held record_size object.length refs wide old given).0

  -- each place of the old object, also behind its last block
  old_part : (index : ℕ) → IsPart key held record_size old index (refs index)
  old_part index =
      elim (cases_lt index (blocks_for record_size object.length)) [
        | inl within ↦ ((given_parts key held record_size object.length refs wide old given).1 index within).1
        | inr past ↦
            let enough = (div_ceil_times object.length record_size wide).0 in
            let most : blocks_for record_size object.length * record_size ≤ index * record_size = mul-le-mul_right record_size past in
            rw (has.holes index past) (hole_part key held record_size old index (omega (arith, enough, most, mul_comm record_size index, old_long)))
      ]

  pub old_ends : EndsWithin record_size object.length refs
  old_ends index = by_place (cases_lt index (blocks_for record_size object.length))
    where
      by_place : (index < blocks_for record_size object.length) ⊎ (blocks_for record_size object.length ≤ index) → IfSome (refs index) (λ r. record_size * index + r.size ≤ object.length)
      by_place (inl within) = if_found (refs index) ((given_parts key held record_size object.length refs wide old given).1 index within).0 (λ r sized. sized.1)
      by_place (inr past) = rw (has.holes index past) tt

  -- a new text
  text_part : (c : Change) (k index : ℕ) (new : List ℕ) → k < length c.texts
      → ((p : ℕ) → p < record_size → get_or (slice_index_or c.texts k []) p 0 ≡ get_or new (record_size * index + p) 0)
      → IsPart key (later c) record_size new index (Some (ref_under key (next_draw (after_draws k salts)) (length held + k) (slice_index_or c.texts k [])))
  text_part c k index new within each = record {
    text = slice_index_or c.texts k [];
    stores =
        opened_sealed key (next_draw (after_draws k salts)) (length held + k) (slice_index_or c.texts k []) (later c)
        (behind_get held (sealed_texts key salts c.texts ++ more) k
        ∙ slice_get-grown (sealed_texts key salts c.texts) more k (sealed_under key (next_draw (after_draws k salts)) (slice_index_or c.texts k [])) (sealed_at key salts c.texts k within));
    each = each;
  }

  same_part : (c : Change) (index : ℕ) (new : List ℕ) → ((p : ℕ) → p < record_size → get_or old (record_size * index + p) 0 ≡ get_or new (record_size * index + p) 0)
      → IsPart key (later c) record_size new index (refs index)
  same_part c index new same =
      kept_part key held (sealed_texts key salts c.texts ++ more) record_size old new index (refs index) (old_part index)
      (λ p inside. (old_part index).each p inside ∙ same p inside)

  -- the whole
  all_parts : (c : Change) (new : List ℕ) → length new ≡ c.new_length → ((index : ℕ) → IsSized record_size c.new_length index (behind c index))
      → ((index : ℕ) → index < blocks_for record_size c.new_length → IsPart key (later c) record_size new index (behind c index))
      → bytes_of_refs key (later c) record_size c.new_length (behind c) ≡ Some new
  all_parts c new long sized parts =
      parts_give key (later c) record_size c.new_length (behind c) wide new long (λ index within. (sized index, parts index within))

  length_part : (to index : ℕ) (new : List ℕ) → index < blocks_for record_size to → ((p : ℕ) → get_or old p 0 ≡ get_or new p 0)
      → IsPart key (later (change_of_length object.tree record_size to)) record_size new index (behind (change_of_length object.tree record_size to) index)
  length_part to index new within same =
      let c : Change = change_of_length object.tree record_size to in
      ref_cases (IsPart key (later c) record_size new index) key salts (length held) c refs index
      (λ k low place. absurd (omega (arith, low))) (λ outside past. absurd (omega (arith, past, within)))
      (λ outside inside. same_part c index new (λ p small. same (record_size * index + p)))

  -- ---- behind a write

  module _ (from : ℕ) (bytes : List ℕ) where
    abbrev w : Write
    w = write_to object record_size from bytes

    off_write : (p : ℕ) → (p < from) ⊎ (from + length bytes ≤ p) → get_or old p 0 ≡ get_or (spliced old from bytes) p 0
    off_write p (inl before) = sym (spliced_before old bytes from p before)
    off_write p (inr past) = sym (spliced_behind old bytes from p past)

    untouched : IsWrite w → (index p : ℕ) → p < record_size → (index < first_of w) ⊎ (last_of w < index)
        → (record_size * index + p < from) ⊎ (from + length bytes ≤ record_size * index + p)
    untouched is index p small (inl before) =
        let under : first_of w * record_size ≤ from = div-mul-le_self from record_size in
        let times : (index + 1) * record_size ≤ first_of w * record_size = mul-le-mul_right record_size (omega (arith, before)) in
        let parts = add-mul index 1 record_size in
        let one : 1 * record_size ≡ record_size = omega arith in
        inl (omega (arith, under, times, parts, one, mul_comm record_size index, small))
    untouched is index p small (inr past) =
        let over : end_of w - 1 < last_of w * record_size + record_size = lt-div-mul-add wide in
        let times : (last_of w + 1) * record_size ≤ index * record_size = mul-le-mul_right record_size (omega (arith, past)) in
        let parts = add-mul (last_of w) 1 record_size in
        let one : 1 * record_size ≡ record_size = omega arith in
        inr (omega (arith, over, times, parts, one, mul_comm record_size index, is.some))

    touched_byte : IsWrite w → (index p : ℕ) (taken : List ℕ) → taken_by key held w index ≡ Ok taken → p < record_size
        → get_or (text_over w index taken) p 0 ≡ get_or (spliced old from bytes) (record_size * index + p) 0
    touched_byte is index p taken reads small =
        let turned : index * record_size + p ≡ record_size * index + p = omega (arith, mul_comm index record_size) in
        by_place turned (cases_lt (record_size * index + p) from) (cases_lt (record_size * index + p) (from + length bytes))
      where
        off : (record_size * index + p < from) ⊎ (from + length bytes ≤ record_size * index + p)
            → index * record_size + p ≡ record_size * index + p
            → get_or (text_over w index taken) p 0 ≡ get_or (spliced old from bytes) (record_size * index + p) 0
        off outside turned =
            let read = text_of_stores key held index (refs index) (old_part index).text (old_part index).stores in
            text_off_piece key held w index p (refs index) taken read.0 small
            (subst (λ (n : ℕ). (n < from) ⊎ (from + length bytes ≤ n)) (sym turned) outside) (has.leads index) reads read.1
            ∙ ap (λ (l : List ℕ). get_or l p 0) read.2
            ∙ (old_part index).each p small
            ∙ off_write (record_size * index + p) outside

        by_place : index * record_size + p ≡ record_size * index + p
            → (record_size * index + p < from) ⊎ (from ≤ record_size * index + p)
            → (record_size * index + p < from + length bytes) ⊎ (from + length bytes ≤ record_size * index + p)
            → get_or (text_over w index taken) p 0 ≡ get_or (spliced old from bytes) (record_size * index + p) 0
        by_place turned (inl before) order = off (inl before) turned
        by_place turned (inr begun) (inr past) = off (inr past) turned
        by_place turned (inr begun) (inl low) =
            text_in_piece w index p taken small (omega (arith, turned, begun)) (omega (arith, turned, low))
            ∙ ap (λ (n : ℕ). get_or bytes (n - from) 0) turned
            ∙ sym (spliced_within old bytes from (record_size * index + p) begun low)

    written_part : IsWrite w → (texts : List (List ℕ)) → new_texts key held w ≡ Ok texts → (index : ℕ) → index < blocks_for record_size (length_after w)
        → IsPart key (later (change_to w texts)) record_size (spliced old from bytes) index (behind (change_to w texts) index)
    written_part is texts reads index within =
        let c : Change = change_to w texts in
        let total = counted_up w is in
        let count = texts_count key held w texts reads in
        ref_cases (IsPart key (later c) record_size (spliced old from bytes) index) key salts (length held) c refs index
        (λ k low place.
        let text = touched_text key held w texts k reads low in
        let taken : taken_by key held w index ≡ Ok text.0 = subst (λ (i : ℕ). taken_by key held w i ≡ Ok text.0) place text.1 in
        let same : slice_index_or texts k [] ≡ text_over w index text.0 = text.2 ∙ ap (λ (i : ℕ). text_over w i text.0) place in
        text_part c k index (spliced old from bytes) low
        (λ p small. ap (λ (l : List ℕ). get_or l p 0) same ∙ touched_byte is index p text.0 taken small))
        (λ outside past. absurd (omega (arith, past, within)))
        (λ outside inside. same_part c index (spliced old from bytes) (λ p small. off_write (record_size * index + p) (untouched is index p small (elim outside [
          | inl before ↦ inl before
          | inr behind_it ↦ inr (omega (arith, behind_it, count, total))
        ]))))

    pub write_bytes : (c : Change) → change_of_write key held w ≡ Ok c
        → bytes_of_refs key (held ++ (sealed_texts key salts c.texts ++ more)) record_size c.new_length (refs_behind key salts (length held) c refs) ≡ Some (spliced old from bytes)
    write_bytes c change =
        let long : length (spliced old from bytes) ≡ length_after w = omega (arith, length-spliced old bytes from, old_long) in
        all_parts c (spliced old from bytes) (long ∙ write_cases (λ (d : Change). length_after w ≡ d.new_length) key held w c change (λ none. refl) (λ more_bytes texts reads. refl))
        (λ index. write_sized key salts held record_size (length held) object refs wide some has old_ends from bytes c index change)
        (write_cases
        (λ (d : Change). (index : ℕ) → index < blocks_for record_size d.new_length → IsPart key (later d) record_size (spliced old from bytes) index (behind d index)) key held w c change
        (λ none index within. length_part (length_after w) index (spliced old from bytes) within (λ p. off_write p (elim (cases_lt p from) [
          | inl before ↦ inl before
          | inr past ↦ inr (omega (arith, past, none))
        ])))
        (λ more_bytes texts reads. written_part (record { levels = some; wide = wide; some = more_bytes }) texts reads))

  -- ---- behind a cut

  module _ (to : ℕ) where
    -- within the new length there are the old bytes, and behind it zeros
    cut_byte : (p : ℕ) → (p < to) → get_or old p 0 ≡ get_or (filled to old) p 0
    cut_byte p low = sym (filled_at to old p low)

    cut_zero : (p : ℕ) → to ≤ p → get_or (filled to old) p 0 ≡ 0
    cut_zero p past = get_or_past (filled to old) p 0 (omega (arith, length-filled to old, past))

    before_part : (c : Change) (index : ℕ) → 0 < to → index < last_kept record_size to → IsPart key (later c) record_size (filled to old) index (refs index)
    before_part c index kept before =
        let under : last_kept record_size to * record_size ≤ to - 1 = div-mul-le_self (to - 1) record_size in
        let times : (index + 1) * record_size ≤ last_kept record_size to * record_size = mul-le-mul_right record_size (omega (arith, before)) in
        let parts = add-mul index 1 record_size in
        let one : 1 * record_size ≡ record_size = omega arith in
        same_part c index (filled to old) (λ p small. cut_byte (record_size * index + p) (omega (arith, under, times, parts, one, mul_comm index record_size, small, kept)))

    last_part : (c : Change) (index : ℕ) → 0 < to → last_kept record_size to ≡ index
        → front_at key held record_size object.tree (last_kept record_size to) (left_of record_size to) ≡ Ok None
        → IsPart key (later c) record_size (filled to old) index (refs index)
    last_part c index kept own reads =
        let few = front_none key held record_size object.tree index (left_of record_size to) (refs index)
        (subst (λ (i : ℕ). front_at key held record_size object.tree i (left_of record_size to) ≡ Ok None) own reads) (has.leads index) in
        let left = left_sized key salts held record_size (length held) object refs wide some has old_ends to kept in
        let times : record_size * last_kept record_size to ≡ record_size * index = ap (λ (n : ℕ). record_size * n) own in
        kept_part key held (sealed_texts key salts c.texts ++ more) record_size old (filled to old) index (refs index) (old_part index)
        (λ p small. elim (cases_lt (record_size * index + p) to) [
          | inl low ↦ (old_part index).each p small ∙ cut_byte (record_size * index + p) low
          | inr past ↦
              stores_past key held (refs index) (old_part index).text (left_of record_size to) p (old_part index).stores few (omega (arith, past, left.1, times))
              ∙ sym (cut_zero (record_size * index + p) past)
        ])

    front_part : (text : List ℕ) (index p : ℕ) → 0 < to → last_kept record_size to ≡ index → p < record_size
        → front_at key held record_size object.tree (last_kept record_size to) (left_of record_size to) ≡ Ok (Some text)
        → get_or text p 0 ≡ get_or (filled to old) (record_size * index + p) 0
    front_part text index p kept own small reads =
        let parts = front_some key held record_size object.tree index (left_of record_size to) text (refs index)
        (subst (λ (i : ℕ). front_at key held record_size object.tree i (left_of record_size to) ≡ Ok (Some text)) own reads) (has.leads index) in
        let left = left_sized key salts held record_size (length held) object refs wide some has old_ends to kept in
        let times : record_size * last_kept record_size to ≡ record_size * index = ap (λ (n : ℕ). record_size * n) own in
        let same : parts.0 ≡ (old_part index).text = stores_same key held (refs index) parts.0 (old_part index).text parts.1 (old_part index).stores in
        ap (λ (l : List ℕ). get_or l p 0) parts.2
        ∙ elim (cases_lt (record_size * index + p) to) [
          | inl low ↦
              get_or-take (left_of record_size to) parts.0 p 0 (omega (arith, low, left.1, times))
              ∙ ap (λ (l : List ℕ). get_or l p 0) same ∙ (old_part index).each p small ∙ cut_byte (record_size * index + p) low
          | inr past ↦
              get_or_past (take (left_of record_size to) parts.0) p 0 (omega (arith, length-take (left_of record_size to) parts.0, past, left.1, times))
              ∙ sym (cut_zero (record_size * index + p) past)
        ]

    cut_part : (front : Option (List ℕ)) → 0 < to → front_at key held record_size object.tree (last_kept record_size to) (left_of record_size to) ≡ Ok front
        → (index : ℕ) → index < blocks_for record_size to
        → IsPart key (later (cut_by object.tree record_size to front)) record_size (filled to old) index (behind (cut_by object.tree record_size to front) index)
    cut_part None kept reads index within =
        let c : Change = cut_by object.tree record_size to None in
        let blocks = blocks_some record_size to wide kept in
        ref_cases (IsPart key (later c) record_size (filled to old) index) key salts (length held) c refs index
        (λ k low place. absurd (omega (arith, low))) (λ outside past. absurd (omega (arith, past, within)))
        (λ outside inside. elim (cases_lt index (last_kept record_size to)) [
          | inl before ↦ before_part c index kept before
          | inr last ↦ last_part c index kept (omega (arith, last, within, blocks)) reads
        ])
    cut_part (Some text) kept reads index within =
        let c : Change = cut_by object.tree record_size to (Some text) in
        let blocks = blocks_some record_size to wide kept in
        ref_cases (IsPart key (later c) record_size (filled to old) index) key salts (length held) c refs index
        (λ k low place.
        let first : k ≡ zero = omega (arith, low) in
        let own : last_kept record_size to ≡ index = omega (arith, place, first) in
        let same : slice_index_or (text ∷ []) k [] ≡ text = ap (λ (n : ℕ). slice_index_or (text ∷ []) n []) first in
        text_part c k index (filled to old) low (λ p small. ap (λ (l : List ℕ). get_or l p 0) same ∙ front_part text index p kept own small reads))
        (λ outside past. absurd (omega (arith, past, within)))
        (λ outside inside. before_part c index kept (elim outside [
          | inl before ↦ before
          | inr behind_it ↦ absurd (omega (arith, behind_it, within, blocks))
        ]))

    pub cut_bytes : (c : Change) → change_of_cut key held record_size object to ≡ Ok c
        → bytes_of_refs key (held ++ (sealed_texts key salts c.texts ++ more)) record_size c.new_length (refs_behind key salts (length held) c refs) ≡ Some (filled to old)
    cut_bytes c change =
        all_parts c (filled to old)
        (length-filled to old ∙ cut_cases (λ (d : Change). to ≡ d.new_length) key held record_size object to c change (λ grown. refl) (λ less none. none) (λ less kept front reads. refl))
        (λ index. cut_sized key salts held record_size (length held) object refs wide some has old_ends to c index change)
        (cut_cases
        (λ (d : Change). (index : ℕ) → index < blocks_for record_size d.new_length → IsPart key (later d) record_size (filled to old) index (behind d index)) key held record_size object to c change
        (λ grown index within. length_part to index (filled to old) within (λ p. sym (filled_more to p old (omega (arith, grown, old_long)))))
        (λ less none index within. absurd (omega (arith, within, blocks_none record_size wide)))
        (λ less kept front reads. cut_part front kept reads))
