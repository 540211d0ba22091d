-- The entry at a text's front.
use Rattle.std.proofs.Common.{◌≡◌, ℕ, zero, suc, ◌+◌, ◌-◌, ◌*◌, ◌<◌, ◌≤◌, ◌^◌, Bool, true, false, ◌&&◌, cond, nat_le, List, [], ◌∷◌, ◌++◌, length, take, drop, get_or, Some, None, refl, sym, ap, ◌∙◌, arith, subst}
use Rattle.std.specs.Prelude.{slice_index}
use Rattle.std.specs.List.{All}
use Rattle.std.proofs.Math.Seq.{take-append_seam, drop-append_seam, drop-append-add}
use Rattle.std.proofs.lemmas.Bool.Decides.{nat_tests}
use Rattle.std.proofs.lemmas.Grind.{flat_map-append}
use Rattle.std.proofs.lemmas.List.{length-append, length-drop, length-take-le, take-append-drop, append-nil}
use Rattle.std.proofs.lemmas.List.Elements.{All-take}
use Rattle.byte_fields.specs.LittleEndian.{little_endian_bytes, little_endian_value}
use Rattle.byte_fields.proofs.FieldLaws.{little_endian_value-bytes, little_endian_bytes-value, little_endian_value-lt}
use Rattle.file_directory.specs.declared.directory.DirectoryEntry.{DirectoryEntry}
use Rattle.file_directory.specs.Entries.{entry_bytes, directory_text}
use Rattle.file_directory.specs.Reading.{front_size, front_entry, may_follow, next_entry}

pub directory_text-push : (xs : List DirectoryEntry) (x : DirectoryEntry) → directory_text (xs ++ x ∷ []) ≡ directory_text xs ++ entry_bytes x
directory_text-push xs x =
    flat_map-append entry_bytes xs (x ∷ []) ∙ ap (λ (bs : List ℕ). directory_text xs ++ bs) (append-nil (entry_bytes x))

-- ---- an entry in front of a text

size_at_front : (entry : DirectoryEntry) (rest : List ℕ) → front_size (entry_bytes entry ++ rest) ≡ 5 + length entry.name
unfolding little_endian_bytes
size_at_front entry rest = refl

pub size_of_entry : (entry : DirectoryEntry) → length (entry_bytes entry) ≡ 5 + length entry.name
unfolding little_endian_bytes
size_of_entry entry = omega arith

name_at_front : (entry : DirectoryEntry) (rest : List ℕ) → take (length entry.name) (drop 5 (entry_bytes entry ++ rest)) ≡ entry.name
unfolding little_endian_bytes
name_at_front entry rest = take-append_seam entry.name rest

object_at_front : (entry : DirectoryEntry) (rest : List ℕ) → entry.object < 2 ^ 32
    → little_endian_value (take 4 (entry_bytes entry ++ rest)) ≡ entry.object
unfolding little_endian_bytes
object_at_front entry rest fits = little_endian_value-bytes 4 entry.object fits

pub entry_at_front : (entry : DirectoryEntry) (rest : List ℕ) → entry.object < 2 ^ 32 → front_entry (entry_bytes entry ++ rest) ≡ entry
unfolding little_endian_bytes
entry_at_front entry rest fits =
    let name : take (length entry.name) (drop 5 (entry_bytes entry ++ rest)) ≡ entry.name = name_at_front entry rest in
    let object : little_endian_value (take 4 (entry_bytes entry ++ rest)) ≡ entry.object = object_at_front entry rest fits in
    ap (λ (n : List ℕ). let e : DirectoryEntry = record { object = little_endian_value (take 4 (entry_bytes entry ++ rest)); name = n } in e) name
    ∙ ap (λ (o : ℕ). let e : DirectoryEntry = record { object = o; name = entry.name } in e) object

pub rest_behind : (entry : DirectoryEntry) (rest : List ℕ) → drop (front_size (entry_bytes entry ++ rest)) (entry_bytes entry ++ rest) ≡ rest
rest_behind entry rest =
    rw (size_at_front entry rest, ← size_of_entry entry) (drop-append_seam (entry_bytes entry) rest)

whole : (a b : ℕ) → a ≤ b → nat_le a b ≡ true
whole a b h = grind (arith, nat_tests)

-- an entry that may follow is the next one
pub is_next : (objects : ℕ → Bool) (before : List DirectoryEntry) (entry : DirectoryEntry) (rest : List ℕ) → entry.object < 2 ^ 32
    → may_follow objects before entry ≡ true → next_entry objects before (entry_bytes entry ++ rest) ≡ Some entry
is_next objects before entry rest fits may =
    let text : List ℕ = entry_bytes entry ++ rest in
    let fits_in : front_size text ≤ length text =
    omega (arith, size_at_front entry rest, size_of_entry entry, length-append (entry_bytes entry) rest) in
    let enough : nat_le (front_size text) (length text) ≡ true = whole (front_size text) (length text) fits_in in
    let is_entry : front_entry text ≡ entry = entry_at_front entry rest fits in
    let may_be : may_follow objects before (front_entry text) ≡ true = subst (λ (e : DirectoryEntry). may_follow objects before e ≡ true) (sym is_entry) may in
    ap (λ (b : Bool). cond (b && may_follow objects before (front_entry text)) (Some (front_entry text)) None) enough
    ∙ ap (λ (b : Bool). cond b (Some (front_entry text)) None) may_be
    ∙ ap (λ (e : DirectoryEntry). Some e) is_entry

-- ---- the front of a text as an entry

byte_at : (bs : List ℕ) → All (λ b. b < 256) bs → (i : ℕ) → slice_index bs i < 256
byte_at [] all i = omega arith
byte_at (b ∷ bs) all zero = all 0 0 (omega arith)
byte_at (b ∷ bs) all (suc i) = byte_at bs (λ k d within. all (suc k) d (omega arith)) i

-- a text whose front is a whole entry
pub front_is_whole : (text : List ℕ) → All (λ b. b < 256) text → front_size text ≤ length text
    → text ≡ entry_bytes (front_entry text) ++ drop (front_size text) text
front_is_whole [] bytes fits = absurd (omega arith)
front_is_whole (a ∷ []) bytes fits = absurd (omega arith)
front_is_whole (a ∷ b ∷ []) bytes fits = absurd (omega arith)
front_is_whole (a ∷ b ∷ c ∷ []) bytes fits = absurd (omega arith)
front_is_whole (a ∷ b ∷ c ∷ d ∷ []) bytes fits = absurd (omega arith)
front_is_whole (a ∷ b ∷ c ∷ d ∷ n ∷ tail) bytes fits =
    let number : List ℕ = a ∷ b ∷ c ∷ d ∷ [] in
    let in_number : (i : ℕ) → slice_index number i < 256 = byte_at number (λ k x within. four k x within) in
    let same_number : little_endian_bytes 4 (little_endian_value number) ≡ number = little_endian_bytes-value number in_number in
    let same_length : length (take n tail) ≡ n = length-take-le n tail (omega arith) in
    let behind : drop (5 + n) (a ∷ b ∷ c ∷ d ∷ n ∷ tail) ≡ drop n tail = drop-append-add (a ∷ b ∷ c ∷ d ∷ n ∷ []) tail n in
    rw (behind, same_number, same_length) (ap (λ (bs : List ℕ). a ∷ b ∷ c ∷ d ∷ n ∷ bs) (sym (take-append-drop n tail)))
  where
    four : (k : ℕ) (x : ℕ) → k < 4 → get_or (a ∷ b ∷ c ∷ d ∷ []) k x < 256
    four zero x within = bytes 0 x (omega arith)
    four (suc zero) x within = bytes 1 x (omega arith)
    four (suc (suc zero)) x within = bytes 2 x (omega arith)
    four (suc (suc (suc zero))) x within = bytes 3 x (omega arith)
    four (suc (suc (suc (suc k)))) x within = absurd (omega arith)

-- what the next entry is, where there is one
pub record IsNext (objects : ℕ → Bool) (before : List DirectoryEntry) (text : List ℕ) (entry : DirectoryEntry) : Type 0 where
  pub fits : front_size text ≤ length text
  pub may : may_follow objects before entry ≡ true
  pub is : front_entry text ≡ entry

from_test : (a b : Bool) (x y : DirectoryEntry) → cond (a && b) (Some x) None ≡ Some y → (a ≡ true) × (b ≡ true) × (x ≡ y)
from_test true true x y h = (refl, refl, cc)
from_test true false x y h = absurd (cc)
from_test false b x y h = absurd (cc)

at_most : (a b : ℕ) → nat_le a b ≡ true → a ≤ b
at_most a b h = grind (arith, nat_tests)

pub next_is : (objects : ℕ → Bool) (before : List DirectoryEntry) (text : List ℕ) (entry : DirectoryEntry)
    → next_entry objects before text ≡ Some entry → IsNext objects before text entry
next_is objects before text entry found =
    let parts = from_test (nat_le (front_size text) (length text)) (may_follow objects before (front_entry text)) (front_entry text) entry found in
    record {
      fits = at_most (front_size text) (length text) parts.0;
      may = subst (λ (e : DirectoryEntry). may_follow objects before e ≡ true) parts.2 parts.1;
      is = parts.2;
    }

-- an object of 4 bytes
pub front_object : (text : List ℕ) → All (λ b. b < 256) text → front_size text ≤ length text → (front_entry text).object < 2 ^ 32
front_object text bytes fits =
    let four : length (take 4 text) ≡ 4 = length-take-le 4 text (omega arith) in
    let in_four : (i : ℕ) → slice_index (take 4 text) i < 256 = byte_at (take 4 text) (All-take (λ b. b < 256) 4 text bytes) in
    subst (λ (n : ℕ). little_endian_value (take 4 text) < 2 ^ (8 * n)) four (little_endian_value-lt (take 4 text) in_four)

pub front_length : (text : List ℕ) → front_size text ≤ length text → length (entry_bytes (front_entry text)) ≡ front_size text
front_length text fits =
    let behind : length (drop 5 text) ≡ length text - 5 = length-drop 5 text in
    let name : length (take (slice_index text 4) (drop 5 text)) ≡ slice_index text 4 = length-take-le (slice_index text 4) (drop 5 text) (omega arith) in
    omega (arith, size_of_entry (front_entry text), name)
