-- Ranges of places.
use Rattle.std.proofs.Common.{◌≡◌, ℕ, zero, suc, ◌+◌, ◌-◌, ◌*◌, ◌<◌, ◌≤◌, List, ◌∷◌, ◌++◌, length, map, take, drop, refl, sym, ap, ◌∙◌, arith, get_or}
use Rattle.std.specs.List.{range_with_len}
use Rattle.std.proofs.lemmas.List.{map-append}
use Rattle.std.proofs.lemmas.List.FromFn.{take-map-range_with_len, get_or-map-range_with_len, fill_by_all}
use Rattle.indirect_macs.specs.Steps.{IsRange}
use Rattle.indirect_macs.specs.Nodes.{slots}
use Rattle.indirect_macs.specs.Runs.{entries_at}

range_split : (a n m : ℕ) → range_with_len a (n + m) ≡ range_with_len a n ++ range_with_len (a + n) m
range_split a zero m =
    let none : 0 + m ≡ m = omega arith in
    let place : a + 0 ≡ a = omega arith in
    rw (none, place) refl
range_split a (suc n) m =
    let next : suc n + m ≡ suc (n + m) = omega arith in
    let place : a + 1 + n ≡ a + suc n = omega arith in
    rw next (ap (λ (xs : List ℕ). a ∷ xs) (rw place at (range_split (a + 1) n m)))

map_split : {X : Type 0} (f : ℕ → X) (a n m : ℕ) → map f (range_with_len a (n + m)) ≡ map f (range_with_len a n) ++ map f (range_with_len (a + n) m)
map_split f a n m = ap (map f) (range_split a n m) ∙ map-append f (range_with_len a n) (range_with_len (a + n) m)

-- the entries of a node are a range
pub moved : {X : Type 0} (f : ℕ → X) (a b n : ℕ) → map (λ k. f (a + k)) (range_with_len b n) ≡ map f (range_with_len (a + b) n)
moved f a b zero = refl
moved f a b (suc n) =
    let next : a + (b + 1) ≡ a + b + 1 = omega arith in
    ap (λ (xs : List _). f (a + b) ∷ xs) (moved f a (b + 1) n ∙ ap (λ (k : ℕ). map f (range_with_len k n)) next)

pub entries_range : {X : Type 0} (f : ℕ → X) (j : ℕ) → entries_at f j ≡ map f (range_with_len (32 * j) 32)
unfolding slots
entries_range f j =
    let place : 32 * j + 0 ≡ 32 * j = omega arith in
    moved f (32 * j) 0 32 ∙ ap (λ (k : ℕ). map f (range_with_len k 32)) place

-- one more node's
pub more_entries : {X : Type 0} (f : ℕ → X) (from count : ℕ) (xs ys : List X) → IsRange f (32 * from) (32 * count) xs → ys ≡ entries_at f (from + count)
    → IsRange f (32 * from) (32 * (count + 1)) (xs ++ ys)
more_entries f from count xs ys front last =
    let width : 32 * (count + 1) ≡ 32 * count + 32 = omega arith in
    let place : 32 * (from + count) ≡ 32 * from + 32 * count = omega arith in
    rw (front, last, entries_range f (from + count), width, place) (sym (map_split f (32 * from) (32 * count) 32))

drop_range : {X : Type 0} (f : ℕ → X) (a n k : ℕ) → k ≤ n → drop k (map f (range_with_len a n)) ≡ map f (range_with_len (a + k) (n - k))
drop_range f a n zero few =
    let place : a + 0 ≡ a = omega arith in
    let all : n - 0 ≡ n = omega arith in
    rw (place, all) refl
drop_range f a zero (suc k) few = absurd (omega (arith, few))
drop_range f a (suc n) (suc k) few =
    let place : a + 1 + k ≡ a + suc k = omega arith in
    let rest : suc n - suc k ≡ n - k = omega arith in
    rw rest (rw place at (drop_range f (a + 1) n k (omega (arith, few))))

-- a part of a range
pub part_of_range : {X : Type 0} (f : ℕ → X) (a n k m : ℕ) (xs : List X) → k + m ≤ n → IsRange f a n xs → take m (drop k xs) ≡ map f (range_with_len (a + k) m)
part_of_range f a n k m xs fits is =
    rw (is, drop_range f a n k (omega (arith, fits))) (take-map-range_with_len f (a + k) (n - k) m (omega (arith, fits)))

pub entries_of_range : {X : Type 0} (f : ℕ → X) (from n i k m : ℕ) (xs : List X) → i < n → k ≡ 32 * i → m ≡ 32 → IsRange f (32 * from) (32 * n) xs
    → take m (drop k xs) ≡ entries_at f (from + i)
entries_of_range f from n i k m xs within place width is =
    let at : 32 * from + 32 * i ≡ 32 * (from + i) = omega arith in
    rw (place, width) (part_of_range f (32 * from) (32 * n) (32 * i) 32 xs (omega (arith, within)) is
    ∙ ap (λ (p : ℕ). map f (range_with_len p 32)) at ∙ sym (entries_range f (from + i)))

pub one_of_range : {X : Type 0} (f : ℕ → X) (from n i : ℕ) (xs : List X) (d : X) → i < n → IsRange f from n xs → get_or xs i d ≡ f (from + i)
one_of_range f from n i xs d within is = rw is (get_or-map-range_with_len f from n i (from + i) d within refl)

pub entry_in : {X : Type 0} (f : ℕ → X) (j s : ℕ) (xs : List X) (d : X) → s < 32 → xs ≡ entries_at f j → f (32 * j + s) ≡ get_or xs s d
unfolding slots
entry_in f j s xs d within is = rw is (sym (get_or-map-range_with_len (λ slot. f (32 * j + slot)) 0 32 s s d within (omega arith)))

pub entries_filled : {X : Type 0} (f : ℕ → X) (j : ℕ) (xs : List X) (d : X) → length xs ≡ 32 → ((k : ℕ) → k < 32 → get_or xs k d ≡ f (32 * j + k)) → xs ≡ entries_at f j
unfolding slots
entries_filled f j xs d long each = fill_by_all (λ k. f (32 * j + k)) xs 32 d long each
