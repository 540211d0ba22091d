-- Buffers of zeros that are filled entry by entry from the front.
use Rattle.std.proofs.Common.{◌≡◌, ℕ, ◌+◌, ◌-◌, ◌*◌, ◌<◌, List, [], ◌∷◌, ◌++◌, length, take, drop, map, replicate, get_or, refl, sym, ap, ◌∙◌, arith}
use Rattle.std.specs.List.{flat_map}
use Rattle.std.proofs.lemmas.List.{take_at, drop_at, take-replicate, drop-replicate, append_assoc, append-nil, take_more, take_all, length-append}
use Rattle.std.proofs.lemmas.List.Concat.{flat_map-append}
use borrow.Rule.Slice.PartMut.{put_mid}

part_zero : (front : List ℕ) (at w n : ℕ) → length front ≡ at → take w (drop at (front ++ replicate (w + n) 0)) ≡ replicate w 0
part_zero front at w n is =
    ap (take w) (drop_at front (replicate (w + n) 0) at is) ∙ take-replicate w (w + n) 0 (omega arith)

put_next : (front new : List ℕ) (at w n : ℕ) → length front ≡ at → put_mid at w (front ++ replicate (w + n) 0) new ≡ (front ++ new) ++ replicate n 0
put_next front new at w n is =
    let rest : w + n - w ≡ n = omega arith in
    rw (take_at front (replicate (w + n) 0) at is, drop_at front (replicate (w + n) 0) at is, drop-replicate {X = ℕ} w (w + n) 0, rest)
    (sym (append_assoc front new (replicate n 0)))

-- so many entries stand in the buffer, and zeros behind them
pub record IsFilled {A : Type 0} (f : A → List ℕ) (w : ℕ) (entries : List A) (count : ℕ) (bytes : List ℕ) : Type 0 where
  pub is : bytes ≡ flat_map f (take count entries) ++ replicate (w * (32 - count)) 0
  pub width : length (flat_map f (take count entries)) ≡ w * count

pub filled_none : {A : Type 0} (f : A → List ℕ) (w : ℕ) (entries : List A) (bytes : List ℕ) → bytes ≡ replicate (w * 32) 0 → IsFilled f w entries 0 bytes
filled_none f w entries bytes is = record { is = is; width = omega arith }

pub filled_part : {A : Type 0} (f : A → List ℕ) (w : ℕ) (entries : List A) (count at width : ℕ) (bytes : List ℕ) → at ≡ w * count → width ≡ w
    → w * (32 - count) ≡ w + w * (32 - (count + 1)) → IsFilled f w entries count bytes → take width (drop at bytes) ≡ replicate w 0
filled_part f w entries count at width bytes place wide more filled =
    rw (wide, place, filled.is, more) (part_zero (flat_map f (take count entries)) (w * count) w (w * (32 - (count + 1))) filled.width)

pub filled_more : {A : Type 0} (f : A → List ℕ) (w : ℕ) (entries : List A) (count at width : ℕ) (bytes new : List ℕ) (d : A) → at ≡ w * count → width ≡ w
    → w * (32 - count) ≡ w + w * (32 - (count + 1)) → w * (count + 1) ≡ w * count + w → count < length entries → IsFilled f w entries count bytes
    → new ≡ f (get_or entries count d) → length new ≡ w → IsFilled f w entries (count + 1) (put_mid at width bytes new)
filled_more f w entries count at width bytes new d place wide more next within filled is long =
    let last : flat_map f (take (count + 1) entries) ≡ flat_map f (take count entries) ++ new =
    ap (flat_map f) (take_more entries count d within) ∙ flat_map-append f (take count entries) (get_or entries count d ∷ [])
    ∙ ap (λ (end : List ℕ). flat_map f (take count entries) ++ end) (append-nil (f (get_or entries count d)) ∙ sym is) in
    record {
      is = rw (wide, place, filled.is, more, last)
          (put_next (flat_map f (take count entries)) new (w * count) w (w * (32 - (count + 1))) filled.width);
      width = rw last (length-append (flat_map f (take count entries)) new ∙ rw (filled.width, long) (sym next));
    }

pub filled_all : {A : Type 0} (f : A → List ℕ) (w : ℕ) (entries : List A) (count : ℕ) (bytes : List ℕ) → length entries ≡ 32 → count ≡ 32
    → IsFilled f w entries count bytes → bytes ≡ flat_map f entries
filled_all f w entries count bytes long end filled =
    let none : w * (32 - 32) ≡ 0 = omega arith in
    let all : take 32 entries ≡ entries = take_all 32 entries (omega (arith, long)) in
    rw (end, none, all, append-nil {A = ℕ}) at filled.is

-- what stands behind a prefix of fixed length
pub flat_map-map : {A B : Type 0} (f : B → List ℕ) (g : A → B) (xs : List A) → flat_map f (map g xs) ≡ flat_map (λ x. f (g x)) xs
flat_map-map f g [] = refl
flat_map-map f g (x ∷ xs) = ap (λ (rest : List ℕ). f (g x) ++ rest) (flat_map-map f g xs)
