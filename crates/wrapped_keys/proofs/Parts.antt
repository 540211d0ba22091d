-- Parts that are written into an array, one after another.
use Rattle.std.proofs.Common.{◌≡◌, ℕ, ◌+◌, ◌-◌, ◌≤◌, List, [], ◌∷◌, ◌++◌, length, take, drop, replicate, slice_set, refl, sym, ap, ◌∙◌, arith, length-append}
use Rattle.std.proofs.lemmas.List.{take_at, drop_at, append-nil, append_assoc, take-append-drop, take-take, drop-take, drop-replicate}
use borrow.Rule.Slice.PartMut.{put_mid}
use Rattle.dataset_tree.specs.declared.kinds.Suite.{Suite}
use Rattle.dataset_tree.specs.declared.kinds.Suite.TheVariants.{Aes128Gcm, Aes192Gcm, Aes256Gcm}
use Rattle.dataset_tree.specs.Suite.{suite_key_len}
use Rattle.byte_fields.specs.LittleEndian.{little_endian_bytes}

pub key_len-le : (suite : Suite) → suite_key_len suite ≤ 32
key_len-le Aes128Gcm = omega arith
key_len-le Aes192Gcm = omega arith
key_len-le Aes256Gcm = omega arith

-- two parts of a list that follow one another
pub take_parts : (m k : ℕ) (xs : List ℕ) → take m xs ++ take k (drop m xs) ≡ take (m + k) xs
take_parts m k xs = rw (take-take m (m + k) xs (omega arith), drop-take m k xs) at (take-append-drop m (take (m + k) xs))

-- a part that is written after what stands in front
pub put_next : (n k : ℕ) (front rest part : List ℕ) → length front ≡ n → put_mid n k (front ++ rest) part ≡ front ++ (part ++ drop k rest)
put_next n k front rest part f = rw (take_at front rest n f, drop_at front rest n f) refl

-- what stands in front of a sealed text, and its array
put_header : (header sealed : List ℕ) → length header ≡ 38
    → put_mid 38 96 (header ++ drop {A = ℕ} 38 (replicate 134 0)) sealed ≡ header ++ sealed
put_header header sealed whole =
    put_next 38 96 header (replicate 96 0) sealed whole ∙ ap (λ (rest : List ℕ). header ++ rest) (append-nil sealed)

pub length-put_header : (n : ℕ) (header sealed : List ℕ) → length header ≡ 38 → length sealed ≡ 96 → n ≤ 96
    → 38 + n ≤ length (put_mid 38 96 (header ++ drop {A = ℕ} 38 (replicate 134 0)) sealed)
length-put_header n header sealed h s fits = rw (put_header header sealed h) (omega (arith, length-append header sealed))

pub take-put_header : (n : ℕ) (header sealed : List ℕ) → length header ≡ 38
    → take (38 + n) (put_mid 38 96 (header ++ drop {A = ℕ} 38 (replicate 134 0)) sealed) ≡ header ++ take n sealed
take-put_header n header sealed h =
    let parts : take 38 (header ++ sealed) ++ take n (drop 38 (header ++ sealed)) ≡ take (38 + n) (header ++ sealed) =
    take_parts 38 n (header ++ sealed) in
    rw (put_header header sealed h) (sym (rw (take_at header sealed 38 h, drop_at header sealed 38 h) at parts))

-- the fields in front of the sealed text
pub put_fields : (guid suite version : ℕ) (iv mac : List ℕ) → length iv ≡ 12
    → put_mid 22 16 (put_mid 10 12 (slice_set (slice_set (little_endian_bytes 8 guid ++ replicate 30 0) 8 suite) 9 version) iv) mac
    ≡ little_endian_bytes 8 guid ++ (suite ∷ version ∷ []) ++ iv ++ mac
unfolding little_endian_bytes
put_fields guid suite version iv mac twelve =
    let front : List ℕ = little_endian_bytes 8 guid ++ (suite ∷ version ∷ []) in
    let first : put_mid 10 12 (front ++ replicate 28 0) iv ≡ front ++ (iv ++ replicate 16 0) = put_next 10 12 front (replicate 28 0) iv refl in
    let second : put_mid 22 16 (front ++ iv ++ replicate 16 0) mac ≡ front ++ iv ++ (mac ++ []) =
    put_next 22 16 (front ++ iv) (replicate 16 0) mac (omega (arith, twelve)) in
    rw (first, second, append-nil mac) refl

-- the message that is sealed
pub put_message : (n : ℕ) (master hmac : List ℕ) → length master ≡ n → n + 64 ≤ 96
    → put_mid n (n + 64 - n) (master ++ drop {A = ℕ} n (replicate 96 0)) hmac ≡ master ++ hmac ++ replicate (96 - (n + 64)) 0
put_message n master hmac m fits =
    let width : n + 64 - n ≡ 64 = omega arith in
    let left : 96 - n - 64 ≡ 96 - (n + 64) = omega arith in
    let rest : drop {A = ℕ} 64 (drop n (replicate 96 0)) ≡ replicate (96 - (n + 64)) 0 =
    rw (drop-replicate {X = ℕ} n 96 0, drop-replicate {X = ℕ} 64 (96 - n) 0, left) refl in
    rw width (put_next n 64 master (drop n (replicate 96 0)) hmac m ∙ rw rest (sym (append_assoc master hmac (replicate (96 - (n + 64)) 0))))

-- the zeros behind a sealed text that is written to the front of zeros
pub zeros_behind : (m n : ℕ) (sealed : List ℕ) → m ≡ n → length sealed ≡ n
    → drop n (sealed ++ drop {A = ℕ} m (replicate 96 0)) ≡ replicate (96 - n) 0
zeros_behind m n sealed e whole = rw e (drop_at sealed (drop {A = ℕ} n (replicate 96 0)) n whole ∙ drop-replicate {X = ℕ} n 96 0)
