-- Blocks of a string.
use Rattle.std.proofs.Common.{◌≡◌, ℕ, ◌+◌, ◌-◌, ◌*◌, ◌<◌, ◌≤◌, min, List, [], ◌++◌, length, take, drop, refl, sym, ap, ◌∙◌, arith, inl, inr, length-append, length-drop, length-take}
use Rattle.std.proofs.lemmas.List.{take-append-le, drop-append-le, drop-drop, drop_at, length-take-le, take-take, take-append-drop, drop-take, drop_all, take_all}
use Rattle.std.proofs.lemmas.Bool.{cases_lt}
use Rattle.byte_blocks.proofs.Xor.{xor_bytes-append, xor_bytes-take}
use Rattle.byte_blocks.specs.Blocks.{block_at, xor_bytes}

-- the first blocks, and one block more
pub xor_bytes_block_more : (x ks : List ℕ) (m : ℕ)
    → xor_bytes (take (16 * m + 16) x) ks ≡ xor_bytes (take (16 * m) x) ks ++ xor_bytes (block_at 16 x m) (block_at 16 ks m)
xor_bytes_block_more x ks m =
    let front = take (16 * m) x in
    let split : take (16 * m + 16) x ≡ front ++ block_at 16 x m =
    sym (take-append-drop (16 * m) (take (16 * m + 16) x))
    ∙ ap (λ (r : List ℕ). r ++ drop (16 * m) (take (16 * m + 16) x)) (take-take (16 * m) (16 * m + 16) x (omega arith))
    ∙ ap (λ (r : List ℕ). front ++ r) (drop-take (16 * m) 16 x) in
    let size : length (block_at 16 x m) ≤ 16 = omega (arith, length-take 16 (drop (16 * m) x)) in
    let whole = ap (λ (r : List ℕ). xor_bytes r ks) split ∙ xor_bytes-append front (block_at 16 x m) ks in
    let last = xor_bytes-take (block_at 16 x m) (drop (16 * m) ks) 16 size in
    elim (cases_lt (length x) (16 * m)) [
      | inl short ↦
          let none : block_at 16 x m ≡ [] = ap (take 16) (drop_all (16 * m) x (omega arith)) in
          whole ∙ rw none refl
      | inr long ↦
          whole ∙ ap (λ (r : List ℕ). xor_bytes front ks ++ r)
          (ap (λ (n : ℕ). xor_bytes (block_at 16 x m) (drop n ks)) (length-take-le (16 * m) x long) ∙ sym last)
    ]

-- ---- block_at

pub length-block_at : (x : List ℕ) (i : ℕ) → length (block_at 16 x i) ≡ min 16 (length x - 16 * i)
length-block_at x i = length-take 16 (drop (16 * i) x) ∙ ap (min 16) (length-drop (16 * i) x)

pub block_at-append : (x y : List ℕ) (i : ℕ) → 16 * i + 16 ≤ length x → block_at 16 (x ++ y) i ≡ block_at 16 x i
block_at-append x y i h =
    let whole : 16 ≤ length (drop (16 * i) x) = omega (arith, length-drop (16 * i) x) in
    ap (take 16) (drop-append-le (16 * i) x y (omega arith)) ∙ take-append-le 16 (drop (16 * i) x) y whole

-- the blocks that stand behind the whole blocks of x
pub block_at-append_right : (x y : List ℕ) (n i : ℕ) → length x ≡ 16 * n → block_at 16 (x ++ y) (n + i) ≡ block_at 16 y i
block_at-append_right x y n i h =
    let at : 16 * (n + i) ≡ 16 * n + 16 * i = omega arith in
    ap (λ (k : ℕ). take 16 (drop k (x ++ y))) at
    ∙ ap (take 16) (sym (drop-drop (16 * i) (16 * n) (x ++ y)) ∙ ap (drop (16 * i)) (drop_at x y (16 * n) h))

-- ---- a block written in a string of blocks

-- x with `block` as its block i
abbrev with_block : List ℕ → List ℕ → ℕ → List ℕ
with_block x block i = take (16 * i) x ++ (block ++ drop 16 (drop (16 * i) x))

pub length-with_block : (x block : List ℕ) (i : ℕ) → length block ≡ 16 → 16 * i + 16 ≤ length x → length (with_block x block i) ≡ length x
length-with_block x block i size within =
    omega (
      arith,
      length-append (take (16 * i) x) (block ++ drop 16 (drop (16 * i) x)),
      length-append block (drop 16 (drop (16 * i) x)),
      length-take-le (16 * i) x (omega arith),
      length-drop 16 (drop (16 * i) x),
      length-drop (16 * i) x,
    )

pub block_before : (x block : List ℕ) (i j : ℕ) → 16 * i + 16 ≤ length x → j < i → block_at 16 (with_block x block i) j ≡ block_at 16 x j
block_before x block i j within before =
    let front = take (16 * i) x in
    let long : length front ≡ 16 * i = length-take-le (16 * i) x (omega arith) in
    block_at-append front (block ++ drop 16 (drop (16 * i) x)) j (omega arith)
    ∙ sym (block_at-append front (drop (16 * i) x) j (omega arith)) ∙ ap (λ (r : List ℕ). block_at 16 r j) (take-append-drop (16 * i) x)

pub block_written : (x block : List ℕ) (i : ℕ) → length block ≡ 16 → 16 * i + 16 ≤ length x → block_at 16 (with_block x block i) i ≡ block
block_written x block i size within =
    let front = take (16 * i) x in
    let rest = drop 16 (drop (16 * i) x) in
    let long : length front ≡ 16 * i = length-take-le (16 * i) x (omega arith) in
    let place : i ≡ i + 0 = omega arith in
    ap (block_at 16 (front ++ (block ++ rest))) place ∙ block_at-append_right front (block ++ rest) i 0 long
    ∙ block_at-append block rest 0 (omega arith) ∙ take_all 16 block (omega arith)
