-- How GCTR goes over a string block by block.
use Rattle.std.proofs.Common.{◌≡◌, ℕ, zero, suc, ◌+◌, ◌-◌, ◌*◌, ◌%◌, ◌^◌, ◌<◌, ◌≤◌, min, get_or, List, [], ◌∷◌, ◌++◌, length, take, drop, refl, sym, ap, ◌∙◌, inl, inr, arith, add-one, length-append, length-drop, length-take}
use Rattle.std.proofs.lemmas.List.{drop_more, take_all, take_at, drop_at, drop-drop, drop_all, append-nil, append_assoc}
use Rattle.std.proofs.lemmas.Bool.{cases_lt}
use Rattle.std.specs.Int.{w32, div_ceil, from_be_bytes, to_be_bytes}
use Rattle.aes_block.specs.Cipher.{aes}
use Rattle.aes_block.proofs.CipherLaws.{length-aes}
use Rattle.gcm_seal.specs.Gcm.{inc32, counter_block, gctr_blocks, gctr}
use Rattle.byte_blocks.specs.Blocks.{block_at, with_block, xor_bytes}
use Rattle.byte_blocks.proofs.Cut.{part_written}
use Rattle.gcm_seal.proofs.Blocks.{length-block_at, xor_bytes_block_more}
use Rattle.byte_blocks.proofs.Xor.{length-xor_bytes}
use borrow.Rule.Slice.PartMut.{put_mid, post_of}

-- inc32 in place, on a block whose last four bytes are read as n
pub inc32_more : (block bytes : List ℕ) (n : ℕ) → length block ≡ 16
    → n ≡ from_be_bytes w32 (get_or block 12 0 ∷ get_or block 13 0 ∷ get_or block 14 0 ∷ get_or block 15 0 ∷ [])
    → bytes ≡ to_be_bytes w32 ((n + 1) % 2 ^ 32) → put_mid 12 4 block bytes ≡ inc32 block
unfolding inc32
inc32_more block bytes n len e f =
    let end : drop 16 block ≡ [] = drop_all 16 block (omega arith) in
    let last : drop 12 block ≡ get_or block 12 0 ∷ get_or block 13 0 ∷ get_or block 14 0 ∷ get_or block 15 0 ∷ [] =
    drop_more block 12 0 (omega arith) ∙ ap (λ (r : List ℕ). get_or block 12 0 ∷ r) (drop_more block 13 0 (omega arith)
    ∙ ap (λ (r : List ℕ). get_or block 13 0 ∷ r) (drop_more block 14 0 (omega arith)
    ∙ ap (λ (r : List ℕ). get_or block 14 0 ∷ r) (drop_more block 15 0 (omega arith) ∙ ap (λ (r : List ℕ). get_or block 15 0 ∷ r) end))) in
    let rest : post_of 12 4 block ≡ [] = drop-drop 4 12 block ∙ end in
    let counted : n ≡ from_be_bytes w32 (drop 12 block) = e ∙ ap (from_be_bytes w32) (sym last) in
    let written : bytes ≡ to_be_bytes w32 ((from_be_bytes w32 (drop 12 block) + 1) % 2 ^ 32) = f ∙ ap (λ (k : ℕ). to_be_bytes w32 ((k + 1) % 2 ^ 32)) counted in
    ap (λ (r : List ℕ). take 12 block ++ (bytes ++ r)) rest ∙ ap (λ (r : List ℕ). take 12 block ++ r) (append-nil bytes ∙ written)

pub counter_block_next : (icb : List ℕ) (n : ℕ) → counter_block icb (n + 1) ≡ inc32 (counter_block icb n)
unfolding counter_block
counter_block_next icb n = rw add-one refl

-- the key stream for block i is at least as long as the block
pub key_stream_covers : (key icb x : List ℕ) (i : ℕ) → length (block_at 16 x i) ≤ length (aes key (counter_block icb i))
key_stream_covers key icb x i =
    omega (arith, length-block_at x i, length-aes key (counter_block icb i))

pub length-gctr_blocks : (key icb x : List ℕ) (n : ℕ) → length (gctr_blocks key icb x n) ≡ min (16 * n) (length x)
unfolding gctr_blocks
length-gctr_blocks key icb x zero = omega arith
length-gctr_blocks key icb x (suc n) =
    let stream : List ℕ = aes key (counter_block icb n) in
    omega (
      arith,
      length-append (gctr_blocks key icb x n) (xor_bytes (block_at 16 x n) stream),
      length-gctr_blocks key icb x n,
      length-xor_bytes (block_at 16 x n) stream (key_stream_covers key icb x n),
      length-block_at x n,
    )

pub length-gctr : (key icb x : List ℕ) → length (gctr key icb x) ≡ length x
unfolding gctr
length-gctr key icb x = omega (arith, length-gctr_blocks key icb x (div_ceil (length x) 16))

pub gctr_none : (key icb x : List ℕ) → x ≡ gctr_blocks key icb x (8 * 0) ++ drop (128 * 0) x
unfolding gctr_blocks
gctr_none key icb x = refl

pub counter_block-add : (icb : List ℕ) (a b : ℕ) → counter_block (counter_block icb a) b ≡ counter_block icb (a + b)
unfolding counter_block
counter_block-add icb a zero = let none : a ≡ a + 0 = omega arith in ap (counter_block icb) none
counter_block-add icb a (suc b) =
    let next : a + suc b ≡ suc (a + b) = omega arith in
    ap inc32 (counter_block-add icb a b) ∙ ap (counter_block icb) (sym next)

-- m blocks more, by a key stream of m blocks at least
gctr_blocks-add : (key icb x ks : List ℕ) (n m : ℕ) → ((j : ℕ) → j < m → block_at 16 ks j ≡ aes key (counter_block icb (n + j)))
    → gctr_blocks key icb x (n + m) ≡ gctr_blocks key icb x n ++ xor_bytes (take (16 * m) (drop (16 * n) x)) ks
unfolding gctr_blocks
gctr_blocks-add key icb x ks n zero each =
    let none : n + 0 ≡ n = omega arith in
    ap (gctr_blocks key icb x) none ∙ sym (append-nil (gctr_blocks key icb x n))
gctr_blocks-add key icb x ks n (suc m) each =
    let next : n + suc m ≡ suc (n + m) = omega arith in
    let rest = drop (16 * n) x in
    let place : 16 * (n + m) ≡ 16 * n + 16 * m = omega arith in
    let bytes : 16 * suc m ≡ 16 * m + 16 = omega arith in
    let block : block_at 16 x (n + m) ≡ block_at 16 rest m =
    ap (λ (k : ℕ). take 16 (drop k x)) place ∙ ap (take 16) (sym (drop-drop (16 * m) (16 * n) x)) in
    let done = gctr_blocks key icb x n in
    ap (gctr_blocks key icb x) next
    ∙ ap (λ (r : List ℕ). r ++ xor_bytes (block_at 16 x (n + m)) (aes key (counter_block icb (n + m)))) (gctr_blocks-add key icb x ks n m (λ j h. each j (omega arith)))
    ∙ append_assoc done (xor_bytes (take (16 * m) rest) ks) (xor_bytes (block_at 16 x (n + m)) (aes key (counter_block icb (n + m))))
    ∙ ap (λ (r : List ℕ). done ++ r)
    (ap (λ (r : List ℕ). xor_bytes (take (16 * m) rest) ks ++ r) (rw (block, ← each m (omega arith)) refl)
    ∙ sym (xor_bytes_block_more rest ks m) ∙ ap (λ (k : ℕ). xor_bytes (take k rest) ks) (sym bytes))

-- behind group i, which ends at `at`, stands group i + 1
drop_to_next : (x : List ℕ) (i at : ℕ) → at ≡ min (length x) (128 * i + 128) → drop at x ≡ drop (128 * (i + 1)) x
drop_to_next x i at e = elim (cases_lt (length x) (128 * i + 128)) [
  | inl short ↦ drop_all at x (omega arith) ∙ sym (drop_all (128 * (i + 1)) x (omega arith))
  | inr long ↦ let same : at ≡ 128 * (i + 1) = omega arith in ap (λ (n : ℕ). drop n x) same
]

-- one group more, in place
gctr_more : (key icb x text part ks : List ℕ) (i k : ℕ) → i < div_ceil (length x) 128
    → text ≡ gctr_blocks key icb x (8 * i) ++ drop (128 * i) x → k ≡ min (length text) (128 * i + 128) - 128 * i
    → ((j : ℕ) → j < 8 → block_at 16 ks j ≡ aes key (counter_block icb (8 * i + j)))
    → part ≡ xor_bytes (block_at 128 text i) ks
    → put_mid (128 * i) k text part ≡ gctr_blocks key icb x (8 * (i + 1)) ++ drop (128 * (i + 1)) x
gctr_more key icb x text part ks i k within e ek each ep =
    let done : List ℕ = gctr_blocks key icb x (8 * i) in
    let len : length done ≡ 128 * i = length-gctr_blocks key icb x (8 * i) ∙ omega arith in
    let total : length text ≡ length x = ap length e ∙ length-append done (drop (128 * i) x) ∙ omega (arith, length-drop (128 * i) x) in
    let front : take (128 * i) text ≡ done = ap (take (128 * i)) e ∙ take_at done (drop (128 * i) x) (128 * i) len in
    let back : drop (128 * i) text ≡ drop (128 * i) x = ap (drop (128 * i)) e ∙ drop_at done (drop (128 * i) x) (128 * i) len in
    let size : k ≡ min (length x) (128 * i + 128) - 128 * i = ek ∙ ap (λ (n : ℕ). min n (128 * i + 128) - 128 * i) total in
    let group : part ≡ xor_bytes (block_at 128 x i) ks = ep ∙ ap (λ (b : List ℕ). xor_bytes (take 128 b) ks) back in
    let rest : drop k (drop (128 * i) text) ≡ drop (128 * (i + 1)) x =
    ap (drop k) back ∙ drop-drop k (128 * i) x ∙ drop_to_next x i (128 * i + k) (omega arith) in
    let next : 8 * (i + 1) ≡ 8 * i + 8 = omega arith in
    let place : 128 * i ≡ 16 * (8 * i) = omega arith in
    let more : gctr_blocks key icb x (8 * (i + 1)) ≡ done ++ part =
    ap (gctr_blocks key icb x) next ∙ gctr_blocks-add key icb x ks (8 * i) 8 each
    ∙ ap (λ (n : ℕ). done ++ xor_bytes (take 128 (drop n x)) ks) (sym place) ∙ ap (λ (r : List ℕ). done ++ r) (sym group) in
    rw (front, rest, more, append_assoc) refl

pub gctr_written : (key icb x text ks : List ℕ) (i : ℕ) → length ks ≡ 128 → i < div_ceil (length x) 128
    → text ≡ gctr_blocks key icb x (8 * i) ++ drop (128 * i) x
    → ((j : ℕ) → j < 8 → block_at 16 ks j ≡ aes key (counter_block icb (8 * i + j)))
    → with_block text (128 * i) (xor_bytes (block_at 128 text i) ks) ≡ gctr_blocks key icb x (8 * (i + 1)) ++ drop (128 * (i + 1)) x
gctr_written key icb x text ks i long within e each =
    let done : List ℕ = gctr_blocks key icb x (8 * i) in
    let len : length done ≡ 128 * i = length-gctr_blocks key icb x (8 * i) ∙ omega arith in
    let total : length text ≡ length x = ap length e ∙ length-append done (drop (128 * i) x) ∙ omega (arith, length-drop (128 * i) x) in
    let block : List ℕ = block_at 128 text i in
    let size : length block ≡ min 128 (length text - 128 * i) = length-take 128 (drop (128 * i) text) ∙ ap (min 128) (length-drop (128 * i) text) in
    let same : length (xor_bytes block ks) ≡ length block = length-xor_bytes block ks (omega arith) in
    sym (part_written text (xor_bytes block ks) (128 * i) (omega arith))
    ∙ gctr_more key icb x text (xor_bytes block ks) ks i (length (xor_bytes block ks)) within e (omega arith) each refl

-- past the last block nothing is added
gctr_blocks-past : (key icb x : List ℕ) (n k : ℕ) → length x ≤ 16 * n → gctr_blocks key icb x (n + k) ≡ gctr_blocks key icb x n
unfolding gctr_blocks
gctr_blocks-past key icb x n zero past = let none : n + 0 ≡ n = omega arith in ap (gctr_blocks key icb x) none
gctr_blocks-past key icb x n (suc k) past =
    let next : n + suc k ≡ suc (n + k) = omega arith in
    let none : block_at 16 x (n + k) ≡ [] = ap (take 16) (drop_all (16 * (n + k)) x (omega arith)) in
    ap (gctr_blocks key icb x) next ∙ rw (none, append-nil) (gctr_blocks-past key icb x n k past)

pub gctr_all : (key icb x text : List ℕ) (i : ℕ) → i ≡ div_ceil (length x) 128
    → text ≡ gctr_blocks key icb x (8 * i) ++ drop (128 * i) x → text ≡ gctr key icb x
unfolding gctr
gctr_all key icb x text i last e =
    let none : drop (128 * i) x ≡ [] = drop_all (128 * i) x (omega arith) in
    let n = div_ceil (length x) 16 in
    let over : 8 * i ≡ n + (8 * i - n) = omega arith in
    e ∙ rw (none, append-nil) (ap (gctr_blocks key icb x) over ∙ gctr_blocks-past key icb x n (8 * i - n) (omega arith))

-- of one block
pub gctr_one : (key icb x : List ℕ) → length x ≡ 16 → gctr key icb x ≡ xor_bytes x (aes key icb)
unfolding gctr gctr_blocks counter_block
gctr_one key icb x size =
    let one : div_ceil (length x) 16 ≡ 1 = rw size refl in
    rw one (ap (λ (b : List ℕ). xor_bytes b (aes key icb)) (take_all 16 x (omega arith)))
