-- The bytes of an object behind a write.
use Rattle.std.proofs.Common.{◌≡◌, ℕ, ◌+◌, ◌-◌, ◌*◌, ◌<◌, ◌≤◌, Bool, true, false, ◌==◌, ◌||◌, nat_lt, List, [], ◌++◌, length, get_or, drop, refl, sym, ap, ◌∙◌, inl, inr, arith, length-append, length-drop, Option, Some, None, Ok, Err, if◌then◌else◌}
use Rattle.std.specs.Prelude.{◌⊎◌, slice_get}
use Rattle.std.specs.Option.{option_and_then, option_map_or}
use Rattle.std.specs.Str.{bytes_eq}
use Rattle.std.proofs.lemmas.Bool.{cases_lt, eqb-true}
use Rattle.std.proofs.lemmas.List.{get_or-append-add, get_or_append_left, get_or-drop, get_or-take, get_or_past, length-take}
use Rattle.block_crypt.specs.Blocks.{KeyValue, block_key, opened_block}
use Rattle.dataset_tree.specs.declared.kinds.Suite.{Suite}
use Rattle.dataset_tree.specs.declared.kinds.Suite.TheVariants.{Aes128Gcm, Aes192Gcm, Aes256Gcm}
use Rattle.wrapped_keys.specs.Aead.{aead_open}
use Rattle.gcm_seal.specs.Gcm.{gcm_open, gcm_tag, gcm_text}
use Rattle.gcm_seal.proofs.Counting.{length-gctr}
use Rattle.indirect_macs.specs.declared.refs.BlockRef.{BlockRef}
use Rattle.indirect_macs.specs.declared.refs.MacError.TheVariants.{MacFailed}
use Rattle.file_blocks.specs.Changes.{ref_in}
use Rattle.file_blocks.specs.Objects.{filled, opened_ref, spliced, text_of}
use Rattle.file_blocks.specs.Writes.{Write, end_of, is_partial, opened_as, piece_in, start_in, taken_at, taken_by, taken_from, text_over}
use Rattle.file_blocks.proofs.Bytes.{filled_at}
use Rattle.file_blocks.proofs.Ranges.{length-filled}

-- ---- bytes of a text with a piece over it

pub spliced_before : (old piece : List ℕ) (start p : ℕ) → p < start → get_or (spliced old start piece) p 0 ≡ get_or old p 0
unfolding spliced
spliced_before old piece start p before =
    let size = length-filled start old in
    let both = length-append (filled start old) piece in
    get_or_append_left (filled start old ++ piece) (drop (start + length piece) old) 0 p (omega (arith, size, both, before))
    ∙ get_or_append_left (filled start old) piece 0 p (omega (arith, size, before)) ∙ filled_at start old p before

pub spliced_within : (old piece : List ℕ) (start p : ℕ) → start ≤ p → p < start + length piece → get_or (spliced old start piece) p 0 ≡ get_or piece (p - start) 0
unfolding spliced
spliced_within old piece start p from to =
    let size = length-filled start old in
    let both = length-append (filled start old) piece in
    let place : p ≡ length (filled start old) + (p - start) = omega (arith, size, from) in
    get_or_append_left (filled start old ++ piece) (drop (start + length piece) old) 0 p (omega (arith, size, both, to))
    ∙ ap (λ (n : ℕ). get_or (filled start old ++ piece) n 0) place ∙ get_or-append-add (filled start old) piece (p - start) 0

pub spliced_behind : (old piece : List ℕ) (start p : ℕ) → start + length piece ≤ p → get_or (spliced old start piece) p 0 ≡ get_or old p 0
unfolding spliced
spliced_behind old piece start p past =
    let size = length-filled start old in
    let both = length-append (filled start old) piece in
    let place : p ≡ length (filled start old ++ piece) + (p - (start + length piece)) = omega (arith, size, both, past) in
    let back : start + length piece + (p - (start + length piece)) ≡ p = omega (arith, past) in
    ap (λ (n : ℕ). get_or (filled start old ++ piece ++ drop (start + length piece) old) n 0) place
    ∙ get_or-append-add (filled start old ++ piece) (drop (start + length piece) old) (p - (start + length piece)) 0
    ∙ get_or-drop (start + length piece) old (p - (start + length piece)) 0 ∙ ap (λ (n : ℕ). get_or old n 0) back

-- ---- what is taken over of a block, where the piece isn't

gcm_long : (key iv aad sealed tag text : List ℕ) → gcm_open key iv aad sealed tag ≡ Some text → length text ≡ length sealed
unfolding gcm_open gcm_text
gcm_long key iv aad sealed tag text is = by_tag (bytes_eq (gcm_tag key iv aad sealed) tag) is
  where
    by_tag : (b : Bool) → (if b then Some (gcm_text key iv sealed) else None) ≡ Some text → length text ≡ length sealed
    by_tag true same = let e : gcm_text key iv sealed ≡ text = cc in ap length (sym e) ∙ length-gctr key _ sealed
    by_tag false same = absurd (cc)

opened_long : (suite : Suite) (key iv aad sealed tag text : List ℕ) → aead_open suite key iv aad sealed tag ≡ Some text → length text ≡ length sealed
opened_long Aes128Gcm key iv aad sealed tag text is = gcm_long key iv aad sealed tag text is
opened_long Aes192Gcm key iv aad sealed tag text is = gcm_long key iv aad sealed tag text is
opened_long Aes256Gcm key iv aad sealed tag text is = gcm_long key iv aad sealed tag text is

pub ref_long : (key : KeyValue) (held : List (List ℕ)) (r : BlockRef) (text : List ℕ) → opened_ref key held r ≡ Some text → length text ≡ r.size
unfolding opened_ref
ref_long key held r text is = by_found (slice_get held r.addr) is
  where
    by_size : (sealed : List ℕ) (b : Bool) → (length sealed == r.size) ≡ b → (if b then opened_block key r.salt r.iv sealed r.mac else None) ≡ Some text → length text ≡ r.size
    by_size sealed true same is = opened_long key.suite (block_key key r.salt) r.iv [] sealed r.mac text is ∙ eqb-true (length sealed) r.size same
    by_size sealed false same is = absurd (cc)

    by_found : (found : Option (List ℕ)) → option_and_then (λ sealed. if length sealed == r.size then opened_block key r.salt r.iv sealed r.mac else None) found ≡ Some text
        → length text ≡ r.size
    by_found None is = absurd (cc)
    by_found (Some sealed) is = by_size sealed (length sealed == r.size) refl is

same_outside : (key : KeyValue) (held : List (List ℕ)) (index start end p : ℕ) (found : Option BlockRef) (taken : List ℕ) (stored : Option (List ℕ))
    → taken_from key held index start end found ≡ Ok taken → text_of key held index found ≡ Ok stored → (p < start) ⊎ (end ≤ p)
    → get_or taken p 0 ≡ get_or (option_map_or (λ text. text) stored []) p 0
unfolding taken_from text_of opened_as
same_outside key held index start end p None taken stored is text outside =
    let e : [] ≡ taken = cc in
    let f : None ≡ stored = cc in
    ap (λ (l : List ℕ). get_or l p 0) (sym e) ∙ ap (λ (o : Option (List ℕ)). get_or (option_map_or (λ text. text) o []) p 0) f
same_outside key held index start end p (Some r) taken stored is text outside = by_part (is_partial start end r.size) refl (opened_ref key held r) refl is text
  where
    past : is_partial start end r.size ≡ false → (p < start) ⊎ (end ≤ p) → r.size ≤ p
    past none (inl before) =
        let some : nat_lt 0 start ≡ true = (let more : 0 < start = omega (arith, before) in grind (arith, more)) in
        absurd (let x = rw some at none in cc)
    past none (inr behind) =
        elim (cases_lt end r.size) [
          | inl less ↦
              let more : nat_lt end r.size ≡ true = grind (arith, less) in
              absurd (or_none (nat_lt 0 start) (rw more at none))
          | inr few ↦ omega (arith, few, behind)
        ]
      where
        or_none : (b : Bool) → (b || true) ≡ false → ⊥
        or_none true same = cc
        or_none false same = cc

    by_part : (b : Bool) → is_partial start end r.size ≡ b → (o : Option (List ℕ)) → opened_ref key held r ≡ o
        → (if b then option_map_or (λ t. Ok t) o (Err (MacFailed 0 index)) else Ok []) ≡ Ok taken
        → option_map_or (λ t. Ok (Some t)) o (Err (MacFailed 0 index)) ≡ Ok stored
        → get_or taken p 0 ≡ get_or (option_map_or (λ text. text) stored []) p 0
    by_part b part None opened is text = absurd (cc)
    by_part true part (Some t) opened is text =
        let e : t ≡ taken = cc in
        let f : Some t ≡ stored = cc in
        ap (λ (l : List ℕ). get_or l p 0) (sym e) ∙ ap (λ (o : Option (List ℕ)). get_or (option_map_or (λ text. text) o []) p 0) f
    by_part false part (Some t) opened is text =
        let e : [] ≡ taken = cc in
        let f : Some t ≡ stored = cc in
        ap (λ (l : List ℕ). get_or l p 0) (sym e)
        ∙ sym (get_or_past t p 0 (omega (arith, ref_long key held r t opened, past part outside)))
        ∙ ap (λ (o : Option (List ℕ)). get_or (option_map_or (λ text. text) o []) p 0) f

-- ---- the new text of a touched block, byte by byte

-- where the piece is, in bytes of the object
in_piece : (w : Write) (index p : ℕ) → p < w.record_size → (w.from ≤ index * w.record_size + p) → index * w.record_size + p < end_of w
    → (start_in w index ≤ p) × (p < start_in w index + length (piece_in w index))
in_piece w index p within from to =
    let whole = length-take (w.record_size - start_in w index) (drop (index * w.record_size - w.from) w.bytes) in
    let rest = length-drop (index * w.record_size - w.from) w.bytes in
    (omega (arith, from), omega (arith, whole, rest, within, from, to))

off_piece : (w : Write) (index p : ℕ) → p < w.record_size → (index * w.record_size + p < w.from) ⊎ (end_of w ≤ index * w.record_size + p)
    → (p < start_in w index) ⊎ (start_in w index + length (piece_in w index) ≤ p)
off_piece w index p within (inl before) = inl (omega (arith, before))
off_piece w index p within (inr behind) =
    let whole = length-take (w.record_size - start_in w index) (drop (index * w.record_size - w.from) w.bytes) in
    let rest = length-drop (index * w.record_size - w.from) w.bytes in
    elim (cases_lt p (start_in w index)) [
      | inl less ↦ inl less
      | inr more ↦ inr (omega (arith, whole, rest, within, behind, more))
    ]

pub text_in_piece : (w : Write) (index p : ℕ) (taken : List ℕ) → p < w.record_size → w.from ≤ index * w.record_size + p → index * w.record_size + p < end_of w
    → get_or (text_over w index taken) p 0 ≡ get_or w.bytes (index * w.record_size + p - w.from) 0
text_in_piece w index p taken within from to =
    let at = in_piece w index p within from to in
    let place : index * w.record_size - w.from + (p - start_in w index) ≡ index * w.record_size + p - w.from = omega (arith, from, at.0) in
    spliced_within taken (piece_in w index) (start_in w index) p at.0 at.1
    ∙ get_or-take (w.record_size - start_in w index) (drop (index * w.record_size - w.from) w.bytes) (p - start_in w index) 0 (omega (arith, within, at.0))
    ∙ get_or-drop (index * w.record_size - w.from) w.bytes (p - start_in w index) 0
    ∙ ap (λ (n : ℕ). get_or w.bytes n 0) place

pub text_off_piece : (key : KeyValue) (held : List (List ℕ)) (w : Write) (index p : ℕ) (found : Option BlockRef) (taken : List ℕ) (stored : Option (List ℕ)) → p < w.record_size
    → (index * w.record_size + p < w.from) ⊎ (end_of w ≤ index * w.record_size + p)
    → ref_in held w.record_size w.tree index ≡ Ok found → taken_by key held w index ≡ Ok taken → text_of key held index found ≡ Ok stored
    → get_or (text_over w index taken) p 0 ≡ get_or (option_map_or (λ text. text) stored []) p 0
unfolding taken_at
text_off_piece key held w index p found taken stored within outside walked is text =
    let off = off_piece w index p within outside in
    let from : taken_from key held index (start_in w index) (start_in w index + length (piece_in w index)) found ≡ Ok taken = rw walked at is in
    by_side off ∙ same_outside key held index (start_in w index) (start_in w index + length (piece_in w index)) p found taken stored from text off
  where
    by_side : (p < start_in w index) ⊎ (start_in w index + length (piece_in w index) ≤ p) → get_or (text_over w index taken) p 0 ≡ get_or taken p 0
    by_side (inl before) = spliced_before taken (piece_in w index) (start_in w index) p before
    by_side (inr behind) = spliced_behind taken (piece_in w index) (start_in w index) p behind
