-- The xor of two strings.
use Rattle.std.proofs.Common.{◌≡◌, ℕ, zero, suc, ◌+◌, ◌<◌, ◌≤◌, List, [], ◌∷◌, ◌++◌, length, take, drop, replicate, get_or, set, bit_xor, refl, sym, ap, ◌∙◌, arith, add-one}
use Rattle.std.proofs.lemmas.List.{drop_more, get_or_at, set_at, append_assoc, length-take-le}
use Rattle.std.specs.Int.Bits.{xor_assoc, xor_self, xor_zero_r}
use Rattle.byte_blocks.specs.Blocks.{xor_bytes}

pub length-xor_bytes : (x y : List ℕ) → length x ≤ length y → length (xor_bytes x y) ≡ length x
length-xor_bytes [] y h = refl
length-xor_bytes (a ∷ x) [] h = absurd (omega arith)
length-xor_bytes (a ∷ x) (b ∷ y) h = ap suc (length-xor_bytes x y (omega arith))

-- twice the same is nothing
pub xor_bytes-xor_bytes : (x y : List ℕ) → length x ≤ length y → xor_bytes (xor_bytes x y) y ≡ x
xor_bytes-xor_bytes [] y h = refl
xor_bytes-xor_bytes (a ∷ x) [] h = absurd (omega arith)
xor_bytes-xor_bytes (a ∷ x) (b ∷ y) h =
    let head : bit_xor (bit_xor a b) b ≡ a = xor_assoc a b b ∙ ap (bit_xor a) (xor_self b) ∙ xor_zero_r a in
    let rest : xor_bytes (xor_bytes x y) y ≡ x = xor_bytes-xor_bytes x y (omega arith) in
    rw (head, rest) refl

pub xor_bytes-zeros : (y : List ℕ) (n : ℕ) → length y ≡ n → xor_bytes (replicate n 0) y ≡ y
xor_bytes-zeros [] zero long = refl
xor_bytes-zeros [] (suc n) long = absurd (omega arith)
xor_bytes-zeros (b ∷ y) zero long = absurd (omega arith)
xor_bytes-zeros (b ∷ y) (suc n) long = ap (λ (r : List ℕ). b ∷ r) (xor_bytes-zeros y n (omega arith))

-- a byte of the xor
pub get_or-xor_bytes : (x y : List ℕ) (k : ℕ) → k < length x → k < length y → get_or (xor_bytes x y) k 0 ≡ bit_xor (get_or x k 0) (get_or y k 0)
get_or-xor_bytes [] y k h l = absurd (omega arith)
get_or-xor_bytes (a ∷ x) [] k h l = absurd (omega arith)
get_or-xor_bytes (a ∷ x) (b ∷ y) zero h l = refl
get_or-xor_bytes (a ∷ x) (b ∷ y) (suc k) h l = get_or-xor_bytes x y k (omega arith) (omega arith)

xor_bytes-take_suc : (x y : List ℕ) (i : ℕ) → i < length x → i < length y
    → xor_bytes (take (suc i) x) y ≡ xor_bytes (take i x) y ++ bit_xor (get_or x i 0) (get_or y i 0) ∷ []
xor_bytes-take_suc [] y i h l = absurd (omega arith)
xor_bytes-take_suc (a ∷ x) [] i h l = absurd (omega arith)
xor_bytes-take_suc (a ∷ x) (b ∷ y) zero h l = refl
xor_bytes-take_suc (a ∷ x) (b ∷ y) (suc i) h l =
    ap (λ (r : List ℕ). bit_xor a b ∷ r) (xor_bytes-take_suc x y i (omega arith) (omega arith))

-- one more byte, in place
pub xor_bytes_more : (x y part : List ℕ) (i : ℕ) → i < length x → i < length y → part ≡ xor_bytes (take i x) y ++ drop i x
    → set part i (bit_xor (get_or part i 0) (get_or y i 0)) ≡ xor_bytes (take (i + 1) x) y ++ drop (i + 1) x
xor_bytes_more x y part i h l e =
    let done : List ℕ = xor_bytes (take i x) y in
    let a : ℕ = get_or x i 0 in
    let front : length (take i x) ≡ i = length-take-le i x (omega arith) in
    let len : length done ≡ i = length-xor_bytes (take i x) y (omega arith) ∙ front in
    let split : part ≡ done ++ a ∷ drop (i + 1) x = e ∙ ap (λ (r : List ℕ). done ++ r) (drop_more x i 0 h) in
    let read : get_or part i 0 ≡ a = ap (λ (r : List ℕ). get_or r i 0) split ∙ get_or_at done a (drop (i + 1) x) 0 i len in
    let b : ℕ = bit_xor a (get_or y i 0) in
    let written : set part i b ≡ done ++ b ∷ drop (i + 1) x = ap (λ (r : List ℕ). set r i b) split ∙ set_at done a (drop (i + 1) x) b i len in
    let more : xor_bytes (take (i + 1) x) y ≡ done ++ b ∷ [] = rw add-one (xor_bytes-take_suc x y i h l) in
    rw (read, more, append_assoc) written

-- strings joined before the xor, and after it
xor_bytes-nil : (x : List ℕ) → xor_bytes x [] ≡ []
xor_bytes-nil [] = refl
xor_bytes-nil (a ∷ x) = refl

pub xor_bytes-append : (x y ks : List ℕ) → xor_bytes (x ++ y) ks ≡ xor_bytes x ks ++ xor_bytes y (drop (length x) ks)
xor_bytes-append [] y ks = refl
xor_bytes-append (a ∷ x) y [] = sym (xor_bytes-nil y)
xor_bytes-append (a ∷ x) y (b ∷ ks) = ap (λ (r : List ℕ). bit_xor a b ∷ r) (xor_bytes-append x y ks)

-- no more is read of y than x has
pub xor_bytes-take : (x y : List ℕ) (n : ℕ) → length x ≤ n → xor_bytes x (take n y) ≡ xor_bytes x y
xor_bytes-take [] y n h = refl
xor_bytes-take (a ∷ x) y zero h = absurd (omega arith)
xor_bytes-take (a ∷ x) [] (suc n) h = refl
xor_bytes-take (a ∷ x) (b ∷ y) (suc n) h = ap (λ (r : List ℕ). bit_xor a b ∷ r) (xor_bytes-take x y n (omega arith))
