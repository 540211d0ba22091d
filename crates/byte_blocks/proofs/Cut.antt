-- A block written over a string, and a string that is filled with blocks, the last of them cut at its end.
use Rattle.std.proofs.Common.{◌≡◌, ℕ, ◌+◌, ◌-◌, ◌*◌, ◌≤◌, List, [], ◌++◌, length, take, drop, min, refl, ap, sym, ◌∙◌, inl, inr, arith, length-append}
use Rattle.std.proofs.lemmas.Bool.{cases_lt}
use Rattle.std.proofs.lemmas.List.{append_assoc, append-nil, drop-drop, drop_all, length-take, length-take-le, length-drop, take_all, take_at, take_min, take-append-le, take-take}
use Rattle.std.proofs.Math.Seq.{take-append-add}
use borrow.Rule.Slice.PartMut.{put_mid, post_of}
use Rattle.byte_blocks.specs.Blocks.{block_at, with_block, xor_bytes}
use Rattle.byte_blocks.proofs.Xor.{length-xor_bytes}

take-append_past : (xs ys : List ℕ) (n k : ℕ) → n ≡ length xs + k → take n (xs ++ ys) ≡ xs ++ take k ys
take-append_past xs ys n k e = rw e (take-append-add xs ys k)

-- the part from a block's start to its end is the block
pub block_from_part : (size : ℕ) (x : List ℕ) (i k : ℕ) → size * i ≤ length x → k ≡ min (length x) (size * i + size) - size * i
    → take k (drop (size * i) x) ≡ block_at size x i
block_from_part size x i k starts e =
    let n : k ≡ min size (length (drop (size * i) x)) = omega (arith, length-drop (size * i) x) in
    rw n (take_min size (drop (size * i) x))

-- a part of the block's own length is replaced
pub part_written : (x block : List ℕ) (start : ℕ) → start + length block ≤ length x
    → put_mid start (length block) x block ≡ with_block x start block
part_written x block start within =
    let rest = drop (start + length block) x in
    let long : length (take start x ++ block ++ rest) ≤ length x =
    omega (arith, length-append (take start x ++ block) rest, length-append (take start x) block, length-take start x, length-drop (start + length block) x) in
    ap (λ (r : List ℕ). take start x ++ (block ++ r)) (drop-drop (length block) start x)
    ∙ sym (append_assoc (take start x) block rest) ∙ sym (take_all (length x) (take start x ++ block ++ rest) long)

part_written_cut : (x block : List ℕ) (start room : ℕ) → start + room ≡ length x → room ≤ length block
    → put_mid start room x (take room block) ≡ with_block x start block
part_written_cut x block start room end short =
    let none : post_of start room x ≡ [] = drop-drop room start x ∙ drop_all (start + room) x (omega arith) in
    let over : drop (start + length block) x ≡ [] = drop_all (start + length block) x (omega arith) in
    ap (λ (r : List ℕ). take start x ++ (take room block ++ r)) none ∙ ap (λ (r : List ℕ). take start x ++ r) (append-nil (take room block))
    ∙ sym (take-append_past (take start x) block (length x) room (omega (arith, length-take-le start x (omega arith))))
    ∙ ap (take (length x)) (sym (append-nil (take start x ++ block)) ∙ ap (λ (r : List ℕ). take start x ++ block ++ r) (sym over))

-- what of a block has room is written
pub block_written : (x block new : List ℕ) (start k : ℕ) → start ≤ length x → k ≡ min (length x) (start + length block) - start
    → new ≡ take k block → put_mid start k x new ≡ with_block x start block
block_written x block new start k starts e cut =
    rw cut (elim (cases_lt (length x) (start + length block)) [
      | inl over ↦ part_written_cut x block start k (omega arith) (omega arith)
      | inr within ↦
          let whole : k ≡ length block = omega arith in
          let all : take k block ≡ block = take_all k block (omega arith) in
          rw (all, whole) (part_written x block start within)
    ])

-- ---- a string that is filled

take-append-take : (n : ℕ) (xs ys : List ℕ) → take n (take n xs ++ ys) ≡ take n (xs ++ ys)
take-append-take n xs ys =
    elim (cases_lt n (length xs)) [
      | inl less ↦
          take-append-le n (take n xs) ys (omega (arith, length-take n xs)) ∙ take-take n n xs (omega arith)
          ∙ sym (take-append-le n xs ys (omega arith))
      | inr all ↦ rw (take_all n xs all) refl
    ]

pub length-with_block : (x block : List ℕ) (start : ℕ) → start ≤ length x → length (with_block x start block) ≡ length x
length-with_block x block start starts =
    let rest = drop (start + length block) x in
    omega (
      arith,
      length-take (length x) (take start x ++ block ++ rest),
      length-append (take start x ++ block) rest,
      length-append (take start x) block,
      length-take start x,
      length-drop (start + length block) x,
    )

-- up to a block's end
pub take-with_block : (x block : List ℕ) (start : ℕ) → start ≤ length x
    → take (start + length block) (with_block x start block) ≡ take (length x) (take start x ++ block)
take-with_block x block start starts =
    let front = take start x ++ block in
    let rest = drop (start + length block) x in
    let long : length front ≡ start + length block = length-append (take start x) block ∙ omega (arith, length-take-le start x starts) in
    elim (cases_lt (length x) (start + length block)) [
      | inl over ↦
          let none : rest ≡ [] = drop_all (start + length block) x (omega arith) in
          take_all (start + length block) (take (length x) (front ++ rest)) (omega (arith, length-take (length x) (front ++ rest)))
          ∙ ap (λ (r : List ℕ). take (length x) (front ++ r)) none ∙ ap (take (length x)) (append-nil front)
      | inr within ↦
          take-take (start + length block) (length x) (front ++ rest) within ∙ take_at front rest (start + length block) long
          ∙ sym (take_all (length x) front (omega arith))
    ]

-- after i blocks of `size` bytes one more is written, as far as `out` goes
pub filled_more : (size i : ℕ) (out blocks block : List ℕ) → length block ≡ size → size * i ≤ length out
    → take (size * i) out ≡ take (length out) blocks
    → take (size * (i + 1)) (with_block out (size * i) block) ≡ take (length (with_block out (size * i) block)) (blocks ++ block)
filled_more size i out blocks block long room before =
    let whole : size * (i + 1) ≡ size * i + length block = omega arith in
    rw (whole, length-with_block out block (size * i) room)
    (take-with_block out block (size * i) room ∙ rw before (take-append-take (length out) blocks block))

-- a block is replaced by its xor with another
pub xored_written : (size i k : ℕ) (x y part : List ℕ) → length y ≡ size → size * i ≤ length x → k ≡ min (length x) (size * i + size) - size * i
    → part ≡ xor_bytes (take k (drop (size * i) x)) y → put_mid (size * i) k x part ≡ with_block x (size * i) (xor_bytes (block_at size x i) y)
xored_written size i k x y part long starts e is =
    let block = block_at size x i in
    let own : length block ≡ k = length-take size (drop (size * i) x) ∙ omega (arith, length-drop (size * i) x) in
    let same : length (xor_bytes block y) ≡ k = length-xor_bytes block y (omega arith) ∙ own in
    let xored : part ≡ xor_bytes block y = is ∙ ap (λ (r : List ℕ). xor_bytes r y) (block_from_part size x i k starts e) in
    rw (xored, ← same) (part_written x (xor_bytes block y) (size * i) (omega arith))
