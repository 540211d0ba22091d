-- New texts: how they are put together, and their sizes.
use Rattle.std.proofs.Common.{◌≡◌, ℕ, zero, suc, ◌+◌, ◌-◌, ◌*◌, ◌/◌, ◌<◌, ◌≤◌, Bool, true, false, ◌==◌, List, [], ◌++◌, length, take, drop, map, replicate, refl, ap, ◌∙◌, arith, length-append, length-drop, Result, Ok, Err, if◌then◌else◌}
use Rattle.std.specs.Prelude.{All, IfOk}
use Rattle.std.specs.List.{range_with_len}
use Rattle.std.proofs.lemmas.List.{length-take}
use Rattle.std.proofs.lemmas.List.Elements.{All-nil, All-cons}
use Rattle.std.proofs.Math.Nat.{lt-div-mul-add, div-mul-le_self, mul-le-mul_right}
use Rattle.file_blocks.specs.Objects.{filled, spliced}
use Rattle.file_blocks.specs.Writes.{Write, count_of, first_of, last_of, end_of, start_in, piece_in, taken_in, text_over, texts_over}
use Rattle.file_blocks.proofs.NewTexts.{IsWrite, counted_up}
use Rattle.file_blocks.proofs.Ranges.{length-filled}

pub filled_is : (n len : ℕ) (bytes new : List ℕ) → len ≡ length bytes → new ≡ take n bytes ++ replicate (n - len) 0 → new ≡ filled n bytes
unfolding filled
filled_is n len bytes new same is = rw same at is

pub if_ok : {X E : Type 0} (r : Result X E) {P Q : X → Type 0} → IfOk r P → ((x : X) → P x → Q x) → IfOk r Q
if_ok (Ok x) is to = to x is
if_ok (Err e) is to = tt

-- the bytes that are added one after another
pub spliced_is : (old piece one two three four none : List ℕ) (start : ℕ) → none ≡ [] → one ≡ none ++ old → two ≡ filled start one → three ≡ two ++ piece
    → four ≡ three ++ drop (start + length piece) old → four ≡ spliced old start piece
unfolding spliced
spliced_is old piece one two three four none start empty first second third fourth =
    let front : one ≡ old = rw empty at first in
    fourth ∙ ap (λ (bytes : List ℕ). bytes ++ drop (start + length piece) old) (third ∙ ap (λ (bytes : List ℕ). bytes ++ piece) (second ∙ ap (filled start) front))

pub length-spliced : (old piece : List ℕ) (start : ℕ) → length (spliced old start piece) ≡ start + length piece + (length old - (start + length piece))
unfolding spliced
length-spliced old piece start =
    length-append (filled start old ++ piece) (drop (start + length piece) old)
    ∙ rw (length-append (filled start old) piece, length-filled start old, length-drop (start + length piece) old) refl

-- a touched block gets one byte at least, and has room for what it gets
pub record HasRoom (w : Write) (index : ℕ) : Type 0 where
  pub some : 1 ≤ length (piece_in w index)
  pub within : start_in w index + length (piece_in w index) ≤ w.record_size

pub has_room : (w : Write) (index : ℕ) → IsWrite w → first_of w ≤ index → index ≤ last_of w → HasRoom w index
has_room w index is low high =
    let size : ℕ = w.record_size in
    let over : w.from < w.from / size * size + size = lt-div-mul-add is.wide in
    let least : first_of w * size ≤ index * size = mul-le-mul_right size low in
    let upper : index * size ≤ last_of w * size = mul-le-mul_right size high in
    let under : last_of w * size ≤ end_of w - 1 = div-mul-le_self (end_of w - 1) size in
    let begins : w.from - index * size < size = omega (arith, over, least, is.wide) in
    let whole = length-take (size - start_in w index) (drop (index * size - w.from) w.bytes) in
    let rest = length-drop (index * size - w.from) w.bytes in
    record {
      some = omega (arith, whole, rest, begins, upper, under, is.some);
      within = omega (arith, whole, begins);
    }

pub taken_small : (w : Write) (front back : List ℕ) (index n : ℕ) → length front ≤ n → length back ≤ n → length (taken_in w front back index) ≤ n
taken_small w front back index n first last = by_place (index == first_of w) (index == last_of w)
  where
    by_place : (a b : Bool) → length (if a then front else (if b then back else [])) ≤ n
    by_place true b = first
    by_place false true = last
    by_place false false = omega arith

-- the size of a new text
pub text_size : (w : Write) (front back : List ℕ) (index : ℕ) → IsWrite w → first_of w ≤ index → index ≤ last_of w → length front ≤ w.record_size
    → length back ≤ w.record_size
    → (1 ≤ length (text_over w index (taken_in w front back index))) × (length (text_over w index (taken_in w front back index)) ≤ w.record_size)
text_size w front back index is low high first last =
    let room = has_room w index is low high in
    let old : length (taken_in w front back index) ≤ w.record_size = taken_small w front back index w.record_size first last in
    let size = length-spliced (taken_in w front back index) (piece_in w index) (start_in w index) in
    (omega (arith, size, room.some), omega (arith, size, room.within, old))

pub all_range : {X : Type 0} (P : X → Type 0) (f : ℕ → X) (first n : ℕ) → ((i : ℕ) → first ≤ i → i < first + n → P (f i)) → All P (map f (range_with_len first n))
all_range P f first zero each = All-nil P
all_range P f first (suc n) each =
    All-cons P (f first) (map f (range_with_len (first + 1) n)) (each first (omega arith) (omega arith))
    (all_range P f (first + 1) n (λ i low high. each i (omega (arith, low)) (omega (arith, high))))

-- the sizes of all new texts
pub texts_sized : (w : Write) (front back : List ℕ) → IsWrite w → length front ≤ w.record_size → length back ≤ w.record_size
    → All (λ text. (1 ≤ length text) × (length text ≤ w.record_size)) (texts_over w front back (count_of w))
texts_sized w front back is first last =
    let total = counted_up w is in
    all_range (λ text. (1 ≤ length text) × (length text ≤ w.record_size)) (λ index. text_over w index (taken_in w front back index)) (first_of w) (count_of w)
    (λ index low high. text_size w front back index is low (omega (arith, high, total)) first last)

pub sized_by : (w : Write) (front back : List ℕ) (index : ℕ) (old : List ℕ) (start : ℕ) (piece text : List ℕ) → IsWrite w → first_of w ≤ index → index ≤ last_of w
    → length front ≤ w.record_size → length back ≤ w.record_size → old ≡ taken_in w front back index → start ≡ start_in w index → piece ≡ piece_in w index
    → text ≡ spliced old start piece → (1 ≤ length text) × (length text ≤ w.record_size)
sized_by w front back index old start piece text is low high first last olds starts pieces whole =
    let text_is : text ≡ text_over w index (taken_in w front back index) = rw (olds, starts, pieces) at whole in
    rw text_is (text_size w front back index is low high first last)
