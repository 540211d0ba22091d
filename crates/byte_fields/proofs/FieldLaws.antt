-- The number of bytes, and the bytes of a number.
use Rattle.std.proofs.Common.{◌≡◌, ℕ, zero, suc, ◌+◌, ◌-◌, ◌*◌, ◌/◌, ◌%◌, ◌^◌, ◌<◌, ◌≤◌, List, [], ◌∷◌, ◌++◌, length, take, drop, slice_index, pow-add, refl, sym, ap, ◌∙◌, arith}
use Rattle.std.proofs.Math.Nat.{div-div-eq-div-mul, div-one, pow-suc}
use Rattle.std.proofs.lemmas.List.{append-nil, append_assoc, drop-drop, drop_all, length-drop, take_rest}
use borrow.Rule.Slice.PartMut.{put_mid}
use Rattle.std.specs.Int.{byte_at, bytes_low_first}
use Rattle.byteorder.specs.Endian.{little_from}
use Rattle.byteorder.specs.Numbers.{little_from-cons}
use Rattle.byte_fields.specs.LittleEndian.{little_endian_bytes, little_endian_value}

-- a number's n bytes are n
pub length-little_endian_bytes : (n v : ℕ) → length (little_endian_bytes n v) ≡ n
unfolding little_endian_bytes
length-little_endian_bytes zero v = refl
length-little_endian_bytes (suc n) v = ap suc (length-little_endian_bytes n (v / 256))

-- each of them is a byte
pub little_endian_bytes-lt : (n v i : ℕ) → slice_index (little_endian_bytes n v) i < 256
unfolding little_endian_bytes
little_endian_bytes-lt zero v i = omega arith
little_endian_bytes-lt (suc n) v zero = omega arith
little_endian_bytes-lt (suc n) v (suc i) = little_endian_bytes-lt n (v / 256) i

-- one byte more
power_of_byte_more : (n : ℕ) → 2 ^ (8 * suc n) ≡ 2 ^ (8 * n) * 256
power_of_byte_more n =
    let e : 8 * suc n ≡ 8 * n + 8 = omega arith in
    ap (λ (k : ℕ). 2 ^ k) e ∙ pow-add 2 (8 * n) 8

-- the bytes of a number that they hold give it back
pub little_endian_value-bytes : (n v : ℕ) → v < 2 ^ (8 * n) → little_endian_value (little_endian_bytes n v) ≡ v
unfolding little_endian_bytes little_endian_value
little_endian_value-bytes zero v h = omega arith
little_endian_value-bytes (suc n) v h =
    let more : 2 ^ (8 * suc n) ≡ 2 ^ (8 * n) * 256 = power_of_byte_more n in
    let rest = little_endian_value-bytes n (v / 256) (omega arith) in
    omega (arith, rest)

-- the number in the first n bytes, as `byteorder` reads it
little_from-is_value : (n : ℕ) (xs : List ℕ) → n ≤ length xs → little_from 0 n xs ≡ little_endian_value (take n xs)
unfolding little_endian_value
little_from-is_value zero xs h = refl
little_from-is_value (suc n) [] h = absurd (omega arith)
little_from-is_value (suc n) (x ∷ xs) h =
    ap (λ (r : ℕ). x + 256 * r) (little_from-cons 0 n x xs ∙ little_from-is_value n xs (omega arith))

-- the bytes of a number from byte i on, as `byteorder` writes them
bytes_low_first-are_bytes : (i n v : ℕ) → bytes_low_first i n v ≡ little_endian_bytes n (v / 256 ^ i)
unfolding little_endian_bytes
bytes_low_first-are_bytes i zero v = refl
bytes_low_first-are_bytes i (suc n) v =
    let shift : v / 256 ^ i / 256 ≡ v / 256 ^ suc i =
    div-div-eq-div-mul v (256 ^ i) 256 ∙ ap (λ (p : ℕ). v / p) (sym (pow-suc 256 i)) in
    rw (shift, byte_at-is i v, bytes_low_first-are_bytes (suc i) n v) refl
  where
    byte_at-is : (i v : ℕ) → byte_at i v ≡ v / 256 ^ i % 256
    byte_at-is zero v = ap (λ (x : ℕ). x % 256) (sym (div-one v))
    byte_at-is (suc i) v = refl

-- what a read of n bytes from the rest of a list from place i gives
pub get_field : (n i : ℕ) (xs : List ℕ) → i + n ≤ length xs → little_from 0 n (take (length xs - i) (drop i xs)) ≡ little_endian_value (take n (drop i xs))
get_field n i xs room =
    rw (take_rest xs i) (little_from-is_value n (drop i xs) (omega (arith, length-drop i xs)))

-- what a write of n bytes into the rest of a list from place i leaves
pub put_field : (n i v : ℕ) (xs new : List ℕ) → i + n ≤ length xs
    → new ≡ bytes_low_first 0 n v ++ drop n (take (length xs - i) (drop i xs))
    → put_mid i (length xs - i) xs new ≡ take i xs ++ little_endian_bytes n v ++ drop (i + n) xs
put_field n i v xs new room is =
    let written : bytes_low_first 0 n v ≡ little_endian_bytes n v =
    bytes_low_first-are_bytes 0 n v ∙ ap (little_endian_bytes n) (div-one v) in
    let rest : drop n (take (length xs - i) (drop i xs)) ≡ drop (i + n) xs =
    ap (drop n) (take_rest xs i) ∙ drop-drop n i xs in
    let none : drop (length xs - i) (drop i xs) ≡ [] =
    drop_all (length xs - i) (drop i xs) (omega (arith, length-drop i xs)) in
    rw (is, written, rest, none, append-nil (little_endian_bytes n v ++ drop (i + n) xs))
    (sym (append_assoc (take i xs) (little_endian_bytes n v) (drop (i + n) xs)))

-- bytes are the bytes of their number
pub little_endian_bytes-value : (bs : List ℕ) → ((i : ℕ) → slice_index bs i < 256) → little_endian_bytes (length bs) (little_endian_value bs) ≡ bs
unfolding little_endian_bytes little_endian_value
little_endian_bytes-value [] bytes = refl
little_endian_bytes-value (b ∷ bs) bytes =
    let first : b < 256 = bytes 0 in
    let low : (b + 256 * little_endian_value bs) % 256 ≡ b = omega arith in
    let high : (b + 256 * little_endian_value bs) / 256 ≡ little_endian_value bs = omega arith in
    rw (low, high, little_endian_bytes-value bs (λ i. bytes (suc i))) refl

-- n bytes hold a number below 2^(8 n)
pub little_endian_value-lt : (bs : List ℕ) → ((i : ℕ) → slice_index bs i < 256) → little_endian_value bs < 2 ^ (8 * length bs)
unfolding little_endian_value
little_endian_value-lt [] bytes = omega arith
little_endian_value-lt (b ∷ bs) bytes =
    let first : b < 256 = bytes 0 in
    let rest = little_endian_value-lt bs (λ i. bytes (suc i)) in
    rw (power_of_byte_more (length bs)) (omega arith)
