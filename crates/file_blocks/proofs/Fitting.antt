-- The references and the nodes that a change puts fit, and what is put is bytes.
use Rattle.std.proofs.Common.{◌≡◌, ℕ, zero, suc, ◌+◌, ◌-◌, ◌*◌, ◌/◌, ◌<◌, Bool, true, false, ◌==◌, List, [], ◌∷◌, length, refl, sym, subst, inl, inr, arith, Option, Some, None, Ok, if◌then◌else◌}
use Rattle.std.specs.Prelude.{All, slice_get}
use Rattle.std.specs.Int.{w32, to_le_bytes, bytes_low_first}
use Rattle.std.specs.Option.{option_and_then, option_map_or}
use Rattle.std.specs.Str.{bytes_eq}
use Rattle.std.proofs.lemmas.Bool.{cases_lt}
use Rattle.std.proofs.lemmas.List.Elements.{All-nil, All-cons, All-from_get_or}
use Rattle.block_crypt.specs.Blocks.{KeyValue, block_key, opened_block}
use Rattle.block_crypt.proofs.SealedBytes.{sealed_text-bytes}
use Rattle.dataset_tree.specs.declared.kinds.Suite.{Suite}
use Rattle.dataset_tree.specs.declared.kinds.Suite.TheVariants.{Aes128Gcm, Aes192Gcm, Aes256Gcm}
use Rattle.gcm_seal.specs.Gcm.{gcm_open, gcm_seal, gcm_tag, gcm_text}
use Rattle.wrapped_keys.specs.Aead.{aead_open, aead_seal}
use Rattle.salt_rotation.specs.SaltState.{SaltState}
use Rattle.salt_rotation.specs.Salts.{iv_of, salt_of}
use Rattle.salt_rotation.specs.SeedWords.{bytes_of_words, seed_bytes, seed_word}
use Rattle.salt_rotation.proofs.KeyStream.{length-seed_bytes}
use Rattle.indirect_macs.specs.declared.refs.BlockRef.{BlockRef}
use Rattle.indirect_macs.specs.Trees.{AreBytes, HoldsBytes}
use Rattle.indirect_macs.proofs.RunBytes.{bytes_append}
use Rattle.indirect_macs.proofs.Spelling.{bytes_of_part}
use Rattle.file_blocks.specs.declared.object.Object.{Object}
use Rattle.file_blocks.specs.Changes.{Change, next_draw}
use Rattle.file_blocks.specs.Objects.{opened_ref, spliced}
use Rattle.file_blocks.specs.Writes.{Write, change_of_cut, change_of_write, first_of, front_at, last_kept, left_of, piece_in, start_in}
use Rattle.file_blocks.proofs.Behind.{cut_cases, front_some, taken_is, touched_text, write_cases}
use Rattle.file_blocks.proofs.NewTexts.{taken_finds}
use Rattle.file_blocks.proofs.Passing.{front_finds}
use Rattle.file_blocks.proofs.WholeBytes.{Stores}
use Rattle.file_blocks.proofs.WrittenBytes.{spliced_before, spliced_behind, spliced_within}

-- ---- bytes of draws

low_bytes : (i k n : ℕ) → AreBytes (bytes_low_first i k n)
low_bytes i zero n j = omega arith
low_bytes i (suc k) n (suc j) = low_bytes (suc i) k n j
low_bytes zero (suc k) n zero = omega arith
low_bytes (suc i) (suc k) n zero = omega arith

words_bytes : (seed : List ℕ) (place words : ℕ) → AreBytes (bytes_of_words seed place words)
unfolding bytes_of_words
words_bytes seed place zero i = omega arith
words_bytes seed place (suc words) i =
    bytes_append (to_le_bytes w32 (seed_word seed place)) (bytes_of_words seed (place + 1) words) (low_bytes 0 4 (seed_word seed place)) (words_bytes seed (place + 1) words) i

drawn_bytes : (seed : List ℕ) (place count : ℕ) → AreBytes (seed_bytes seed place count)
unfolding seed_bytes
drawn_bytes seed place count = bytes_of_part 0 count (bytes_of_words seed place ((count + 3) / 4)) (words_bytes seed place ((count + 3) / 4))

pub record IsDraw (salt iv : List ℕ) : Type 0 where
  pub salt_long : length salt ≡ 8
  pub iv_long : length iv ≡ 12
  pub salt_bytes : AreBytes salt
  pub iv_bytes : AreBytes iv

pub drawn_is : (salts : SaltState) → IsDraw (next_draw salts).salt (next_draw salts).iv
unfolding salt_of iv_of
drawn_is salts = record {
  salt_long = length-seed_bytes salts.seed _ 8;
  iv_long = length-seed_bytes salts.seed _ 12;
  salt_bytes = drawn_bytes salts.seed _ 8;
  iv_bytes = drawn_bytes salts.seed _ 12;
}

-- ---- bytes of texts

spliced_bytes : (old piece : List ℕ) (start : ℕ) → AreBytes old → AreBytes piece → AreBytes (spliced old start piece)
spliced_bytes old piece start olds pieces p =
    elim (cases_lt p start) [
      | inl before ↦ subst (λ (b : ℕ). b < 256) (sym (spliced_before old piece start p before)) (olds p)
      | inr from ↦ elim (cases_lt p (start + length piece)) [
        | inl to ↦ subst (λ (b : ℕ). b < 256) (sym (spliced_within old piece start p from to)) (pieces (p - start))
        | inr past ↦ subst (λ (b : ℕ). b < 256) (sym (spliced_behind old piece start p past)) (olds p)
      ]
    ]

gcm_opened : (key iv aad sealed tag text : List ℕ) → gcm_open key iv aad sealed tag ≡ Some text → text ≡ (gcm_seal key iv aad sealed).0
unfolding gcm_open gcm_seal
gcm_opened key iv aad sealed tag text is = by_tag (bytes_eq (gcm_tag key iv aad sealed) tag) is
  where
    by_tag : (b : Bool) → (if b then Some (gcm_text key iv sealed) else None) ≡ Some text → text ≡ gcm_text key iv sealed
    by_tag true same = let e : gcm_text key iv sealed ≡ text = cc in sym e
    by_tag false same = absurd (cc)

aead_opened : (suite : Suite) (key iv aad sealed tag text : List ℕ) → aead_open suite key iv aad sealed tag ≡ Some text → text ≡ (aead_seal suite key iv aad sealed).0
aead_opened Aes128Gcm key iv aad sealed tag text is = gcm_opened key iv aad sealed tag text is
aead_opened Aes192Gcm key iv aad sealed tag text is = gcm_opened key iv aad sealed tag text is
aead_opened Aes256Gcm key iv aad sealed tag text is = gcm_opened key iv aad sealed tag text is

-- what a held block of bytes opens to is bytes
pub opened_bytes : (key : KeyValue) (held : List (List ℕ)) (r : BlockRef) (text : List ℕ) → HoldsBytes held → opened_ref key held r ≡ Some text → AreBytes text
unfolding opened_ref
opened_bytes key held r text holds is = by_found (slice_get held r.addr) refl is
  where
    by_size : (sealed : List ℕ) → AreBytes sealed → (b : Bool) → (if b then opened_block key r.salt r.iv sealed r.mac else None) ≡ Some text → AreBytes text
    by_size sealed fair true same =
        subst AreBytes (sym (aead_opened key.suite (block_key key r.salt) r.iv [] sealed r.mac text same)) (sealed_text-bytes key r.salt r.iv sealed fair)
    by_size sealed fair false same = absurd (cc)

    by_found : (found : Option (List ℕ)) → slice_get held r.addr ≡ found
        → option_and_then (λ sealed. if length sealed == r.size then opened_block key r.salt r.iv sealed r.mac else None) found ≡ Some text → AreBytes text
    by_found None there same = absurd (cc)
    by_found (Some sealed) there same = by_size sealed (holds r.addr sealed there) (length sealed == r.size) same

stored_bytes : (key : KeyValue) (held : List (List ℕ)) (found : Option BlockRef) (text : List ℕ) → HoldsBytes held → Stores key held found text → AreBytes text
stored_bytes key held None text holds stores = subst AreBytes (sym stores) (λ i. omega arith)
stored_bytes key held (Some r) text holds stores = opened_bytes key held r text holds stores

pub write_texts_bytes : (key : KeyValue) (held : List (List ℕ)) (w : Write) (c : Change) → change_of_write key held w ≡ Ok c → AreBytes w.bytes → HoldsBytes held → All AreBytes c.texts
write_texts_bytes key held w c change fair holds =
    write_cases (λ (d : Change). All AreBytes d.texts) key held w c change (λ none. All-nil AreBytes)
    (λ more texts reads. All-from_get_or AreBytes texts [] (λ k within.
    let text = touched_text key held w texts k reads within in
    let walked = taken_finds key held w (first_of w + k) text.0 text.1 in
    let taken : AreBytes text.0 = elim (taken_is key held w (first_of w + k) walked.0 text.0 walked.1 text.1) [
      | inl none ↦ subst AreBytes (sym none) (λ i. omega arith)
      | inr stores ↦ stored_bytes key held walked.0 text.0 holds stores
    ] in
    subst AreBytes (sym text.2)
    (spliced_bytes text.0 (piece_in w (first_of w + k)) (start_in w (first_of w + k)) taken
    (bytes_of_part ((first_of w + k) * w.record_size - w.from) (w.record_size - start_in w (first_of w + k)) w.bytes fair))))

pub cut_texts_bytes : (key : KeyValue) (held : List (List ℕ)) (record_size : ℕ) (object : Object) (to : ℕ) (c : Change) → change_of_cut key held record_size object to ≡ Ok c
    → HoldsBytes held → All AreBytes c.texts
cut_texts_bytes key held record_size object to c change holds =
    cut_cases (λ (d : Change). All AreBytes d.texts) key held record_size object to c change (λ grown. All-nil AreBytes) (λ less none. All-nil AreBytes)
    (λ less kept front reads. by_front front reads)
  where
    by_front : (front : Option (List ℕ)) → front_at key held record_size object.tree (last_kept record_size to) (left_of record_size to) ≡ Ok front
        → All AreBytes (option_map_or (λ text. text ∷ []) front [])
    by_front None reads = All-nil AreBytes
    by_front (Some text) reads =
        let found = front_finds key held record_size object.tree (last_kept record_size to) (left_of record_size to) (Some text) reads in
        let parts = front_some key held record_size object.tree (last_kept record_size to) (left_of record_size to) text found.0 reads found.1 in
        All-cons AreBytes text []
        (subst AreBytes (sym parts.2) (bytes_of_part 0 (left_of record_size to) parts.0 (stored_bytes key held found.0 parts.0 holds parts.1)))
        (All-nil AreBytes)
