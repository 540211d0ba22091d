-- To open what was sealed gives the text. Lengths of the sealed text and of the tag.
use Rattle.std.proofs.Common.{◌≡◌, ℕ, zero, suc, ◌+◌, ◌*◌, ◌<◌, ◌≤◌, List, ◌++◌, length, take, drop, true, false, Some, None, refl, sym, ap, ◌∙◌, inl, inr, arith}
use Rattle.std.proofs.lemmas.List.{take_all, drop_at, take-take, drop-take, take-append-drop}
use Rattle.std.proofs.lemmas.Bool.{cases_lt}
use Rattle.std.proofs.lemmas.Slice.Eq.{bytes_eq-Decides}
use Rattle.std.specs.Str.{bytes_eq}
use Rattle.std.specs.Int.{div_ceil}
use Rattle.aes_block.specs.Cipher.{aes}
use Rattle.gcm_seal.specs.Gcm.{block_of, inc32, counter_block, gctr_blocks, gctr, ghash, j0, gcm_tag, gcm_text, gcm_seal, gcm_open}
use Rattle.byte_blocks.specs.Blocks.{block_at, xor_bytes}
use Rattle.gcm_seal.proofs.Blocks.{length-block_at, block_at-append}
use Rattle.byte_blocks.proofs.Xor.{length-xor_bytes, xor_bytes-xor_bytes}
use Rattle.gcm_seal.proofs.Counting.{key_stream_covers, length-gctr_blocks, length-gctr}

-- block i of what GCTR gives of n blocks
block_at-gctr_blocks : (key icb x : List ℕ) (n i : ℕ) → i < n → 16 * n < length x + 16
    → block_at 16 (gctr_blocks key icb x n) i ≡ xor_bytes (block_at 16 x i) (aes key (counter_block icb i))
unfolding gctr_blocks
block_at-gctr_blocks key icb x zero i l fits = absurd (omega arith)
block_at-gctr_blocks key icb x (suc n) i l fits =
    let last : List ℕ = xor_bytes (block_at 16 x n) (aes key (counter_block icb n)) in
    let len : length (gctr_blocks key icb x n) ≡ 16 * n = length-gctr_blocks key icb x n ∙ omega arith in
    elim (cases_lt i n) [
      | inl below ↦ block_at-append (gctr_blocks key icb x n) last i (omega arith) ∙ block_at-gctr_blocks key icb x n i below (omega arith)
      | inr from ↦
          let same : i ≡ n = omega arith in
          let short : length last ≤ 16 =
          omega (arith, length-xor_bytes (block_at 16 x n) (aes key (counter_block icb n)) (key_stream_covers key icb x n), length-block_at x n) in
          rw same (ap (take 16) (drop_at (gctr_blocks key icb x n) last (16 * n) len) ∙ take_all 16 last short)
    ]

take_block : (x : List ℕ) (n : ℕ) → take (16 * suc n) x ≡ take (16 * n) x ++ block_at 16 x n
take_block x n =
    let next : 16 * suc n ≡ 16 * n + 16 = omega arith in
    let whole : take (16 * n) (take (16 * n + 16) x) ++ drop (16 * n) (take (16 * n + 16) x) ≡ take (16 * n + 16) x =
    take-append-drop (16 * n) (take (16 * n + 16) x) in
    rw next (sym (rw (take-take (16 * n) (16 * n + 16) x (omega arith), drop-take (16 * n) 16 x) at whole))

-- n of the m blocks, twice
gctr_blocks-gctr_blocks : (key icb x : List ℕ) (m n : ℕ) → n ≤ m → 16 * m < length x + 16
    → gctr_blocks key icb (gctr_blocks key icb x m) n ≡ take (16 * n) x
unfolding gctr_blocks
gctr_blocks-gctr_blocks key icb x m zero l fits = refl
gctr_blocks-gctr_blocks key icb x m (suc n) l fits =
    let stream : List ℕ = aes key (counter_block icb n) in
    let block : block_at 16 (gctr_blocks key icb x m) n ≡ xor_bytes (block_at 16 x n) stream = block_at-gctr_blocks key icb x m n (omega arith) fits in
    let twice : xor_bytes (xor_bytes (block_at 16 x n) stream) stream ≡ block_at 16 x n = xor_bytes-xor_bytes (block_at 16 x n) stream (key_stream_covers key icb x n) in
    rw (gctr_blocks-gctr_blocks key icb x m n (omega arith) fits, block, twice) (sym (take_block x n))

-- GCTR is its own inverse
pub gctr-gctr : (key icb x : List ℕ) → gctr key icb (gctr key icb x) ≡ x
unfolding gctr
gctr-gctr key icb x =
    let n : ℕ = div_ceil (length x) 16 in
    let len : length (gctr_blocks key icb x n) ≡ length x = length-gctr_blocks key icb x n ∙ omega arith in
    rw len (gctr_blocks-gctr_blocks key icb x n n (omega arith) (omega arith) ∙ take_all (16 * n) x (omega arith))

pub length-sealed : (key iv aad text : List ℕ) → length (gcm_seal key iv aad text).0 ≡ length text
unfolding gcm_seal gcm_text
length-sealed key iv aad text = length-gctr key (inc32 (j0 iv)) text

pub length-tag : (key iv aad text : List ℕ) → length (gcm_seal key iv aad text).1 ≡ 16
unfolding gcm_seal gcm_tag ghash block_of
length-tag key iv aad text = length-gctr key (j0 iv) _

pub gcm_open-gcm_seal : (key iv aad text : List ℕ)
    → gcm_open key iv aad (gcm_seal key iv aad text).0 (gcm_seal key iv aad text).1 ≡ Some text
unfolding gcm_seal gcm_open gcm_text
gcm_open-gcm_seal key iv aad text =
    let tag : List ℕ = gcm_tag key iv aad (gctr key (inc32 (j0 iv)) text) in
    let same : bytes_eq tag tag ≡ true = (bytes_eq-Decides tag tag).1 refl in
    rw (same, gctr-gctr key (inc32 (j0 iv)) text) refl

-- ---- gcm_open by the test of the tag

pub gcm_open_good : (key iv aad sealed tag computed : List ℕ) → computed ≡ gcm_tag key iv aad sealed → bytes_eq computed tag ≡ true
    → gcm_open key iv aad sealed tag ≡ Some (gctr key (inc32 (j0 iv)) sealed)
unfolding gcm_open gcm_text
gcm_open_good key iv aad sealed tag computed e same = rw (← e, same) refl

pub gcm_open_bad : (key iv aad sealed tag computed : List ℕ) → computed ≡ gcm_tag key iv aad sealed → bytes_eq computed tag ≡ false
    → gcm_open key iv aad sealed tag ≡ None
unfolding gcm_open gcm_text
gcm_open_bad key iv aad sealed tag computed e same = rw (← e, same) refl
