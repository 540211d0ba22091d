-- How the state of GHASH follows a string that grows by padded strings.
use Rattle.std.proofs.Common.{◌≡◌, ℕ, zero, suc, ◌+◌, ◌-◌, ◌*◌, ◌/◌, ◌%◌, ◌<◌, ◌≤◌, List, [], ◌++◌, length, take, drop, replicate, bit_xor, refl, sym, ap, ◌∙◌, inl, inr, arith, add-one, length-append, length-drop}
use Rattle.std.proofs.lemmas.List.{drop-append-le, drop-replicate, take_all, append-nil, length-replicate}
use Rattle.std.proofs.lemmas.Bool.{cases_lt}
use Rattle.std.specs.Int.{w128, div_ceil, from_be_bytes, to_be_bytes}
use Rattle.gcm_seal.specs.Gcm.{number_of, block_of, product, y_at, ghash_value, ghash, padded}
use Rattle.byte_blocks.specs.Blocks.{block_at}
use Rattle.gcm_seal.proofs.Blocks.{length-block_at, block_at-append, block_at-append_right}

-- y_at reads only the blocks that it counts
y_at-append : (h : ℕ) (x y : List ℕ) (n : ℕ) → 16 * n ≤ length x → y_at h (x ++ y) n ≡ y_at h x n
unfolding y_at
y_at-append h x y zero fits = refl
y_at-append h x y (suc n) fits =
    let block : block_at 16 (x ++ y) n ≡ block_at 16 x n = block_at-append x y n (omega arith) in
    rw (y_at-append h x y n (omega arith), block) refl

y_at_next : (h : ℕ) (x : List ℕ) (n : ℕ) → y_at h x (n + 1) ≡ product (bit_xor (y_at h x n) (number_of (block_at 16 x n))) h
unfolding y_at
y_at_next h x n = rw add-one refl

pub length-padded : (x : List ℕ) → length (padded x) ≡ 16 * div_ceil (length x) 16
unfolding padded
length-padded x =
    let n : ℕ = 16 * div_ceil (length x) 16 - length x in
    omega (arith, length-append x (replicate n 0), length-replicate {A = ℕ} n 0)

-- whole blocks are padded already
pub padded_whole : (x : List ℕ) → length x % 16 ≡ 0 → padded x ≡ x
unfolding padded
padded_whole x whole =
    let none : 16 * div_ceil (length x) 16 - length x ≡ 0 = omega arith in
    rw (none, append-nil) refl

-- a block of the padded string is the string's own, with zeros up to 16 bytes
block_at-padded : (x : List ℕ) (i : ℕ) → i < div_ceil (length x) 16
    → block_at 16 (padded x) i ≡ block_at 16 x i ++ replicate (16 - length (block_at 16 x i)) 0
unfolding padded
block_at-padded x i h =
    let n : ℕ = 16 * div_ceil (length x) 16 - length x in
    let len : length (block_at 16 x i) ≡ _ = length-block_at x i in
    elim (cases_lt (length x) (16 * i + 16)) [
      | inl short ↦
          let rest : block_at 16 x i ≡ drop (16 * i) x = take_all 16 (drop (16 * i) x) (omega (arith, length-drop (16 * i) x)) in
          let whole : length (drop (16 * i) x ++ replicate n 0) ≤ 16 =
          omega (arith, length-append (drop (16 * i) x) (replicate n 0), length-drop (16 * i) x, length-replicate {A = ℕ} n 0) in
          let zeros : 16 - length (block_at 16 x i) ≡ n = omega arith in
          ap (take 16) (drop-append-le (16 * i) x (replicate n 0) (omega arith)) ∙ take_all 16 _ whole ∙ rw (zeros, rest) refl
      | inr long ↦
          let none : 16 - length (block_at 16 x i) ≡ 0 = omega arith in
          block_at-append x (replicate n 0) i long ∙ rw (none, append-nil) refl
    ]

-- before the first block of the padded string
pub absorb_none : (h state : ℕ) (x y : List ℕ) → length x % 16 ≡ 0 → state ≡ ghash_value h x → state ≡ y_at h (x ++ y) (length x / 16 + 0)
unfolding ghash_value
absorb_none h state x y whole e =
    let n : length x / 16 + 0 ≡ length x / 16 = omega arith in
    rw n (e ∙ sym (y_at-append h x y (length x / 16) (omega arith)))

-- one block more
pub absorb_more : (h state number : ℕ) (x y : List ℕ) (i : ℕ) → length x % 16 ≡ 0 → i < div_ceil (length y) 16
    → state ≡ y_at h (x ++ padded y) (length x / 16 + i)
    → number ≡ number_of (block_at 16 y i ++ replicate (16 - length (block_at 16 y i)) 0)
    → product (bit_xor state number) h ≡ y_at h (x ++ padded y) (length x / 16 + (i + 1))
absorb_more h state number x y i whole within e f =
    let n : length x / 16 + (i + 1) ≡ length x / 16 + i + 1 = omega arith in
    let block : block_at 16 (x ++ padded y) (length x / 16 + i) ≡ block_at 16 y i ++ replicate (16 - length (block_at 16 y i)) 0 =
    block_at-append_right x (padded y) (length x / 16) i (omega arith) ∙ block_at-padded y i within in
    rw (n, y_at_next, block, ← e, ← f) refl

-- after its last block
pub absorb_all : (h state : ℕ) (x y : List ℕ) (i : ℕ) → length x % 16 ≡ 0 → i ≡ div_ceil (length y) 16
    → state ≡ y_at h (x ++ padded y) (length x / 16 + i) → state ≡ ghash_value h (x ++ padded y)
unfolding ghash_value
absorb_all h state x y i whole last e =
    let n : length (x ++ padded y) / 16 ≡ length x / 16 + i = omega (arith, length-append x (padded y), length-padded y) in
    rw n e

-- ---- blocks read as numbers

pub number_of_block : (block : List ℕ) (n : ℕ) → n ≡ from_be_bytes w128 block → n ≡ number_of block
unfolding number_of
number_of_block block n e = e

-- bytes at the front of a block of zeros
pub padded_block : (x : List ℕ) (k : ℕ) → length x ≤ 16 → k ≡ length x → x ++ drop k (replicate 16 0) ≡ x ++ replicate (16 - length x) 0
padded_block x k h e = rw e (ap (λ (r : List ℕ). x ++ r) (drop-replicate (length x) 16 0))

pub ghash_value-empty : (h : ℕ) → 0 ≡ ghash_value h []
unfolding ghash_value y_at
ghash_value-empty h = refl

pub ghash_of : (subkey x : List ℕ) (h state : ℕ) (block : List ℕ) → h ≡ from_be_bytes w128 subkey → state ≡ ghash_value h x → block ≡ to_be_bytes w128 state
    → block ≡ ghash subkey x
unfolding ghash block_of number_of
ghash_of subkey x h state block e f g =
    g ∙ ap (to_be_bytes w128) (f ∙ ap (λ (k : ℕ). ghash_value k x) e)
