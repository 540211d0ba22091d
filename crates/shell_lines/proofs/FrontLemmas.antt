-- Texts, and what stands behind a front of them.
use Rattle.std.proofs.Common.{◌≡◌, ◌≢◌, ℕ, Bor, Bool, Option, Some, None, MatchOption, inl, inr, eqb, true, false, ◌||◌, List, [], ◌∷◌, ◌++◌, refl, ap}
use Rattle.std.specs.List.{list_any}
use Rattle.shell_lines.specs.Left.{texts}
use Rattle.std.proofs.lemmas.Bool.Decides.{Decides-eqb, eqb_tells}
use Rattle.std.proofs.lemmas.Slice.Eq.{bytes_eq-Decides}
use Rattle.std.specs.Str.{bytes_eq}
use Rattle.shell_lines.specs.Settings.{behind}

pub behind_front : (front rest : List ℕ) → behind front (front ++ rest) ≡ Some rest
behind_front [] rest = refl
behind_front (byte ∷ front) rest = let same : eqb byte byte ≡ true = (Decides-eqb byte byte).1 refl in rw same (behind_front front rest)

pub front_stands : (front text value : List ℕ) → behind front text ≡ Some value → text ≡ front ++ value
front_stands [] text value e = cc
front_stands (byte ∷ front) [] value e = cc
front_stands (byte ∷ front) (first ∷ text) value e =
    elim (eqb_tells first byte) [
      | inl same ↦ let rest : behind front text ≡ Some value = rw same.0 at e in let more : text ≡ front ++ value = front_stands front text value rest in let head : first ≡ byte = same.1 in cc
      | inr other ↦ let nothing : None ≡ Some value = rw other.0 at e in cc
    ]

no_front : (front text : List ℕ) → ((rest : List ℕ) → text ≢ front ++ rest) → behind front text ≡ None
no_front front text none =
    elim (behind front text) as (λ v. behind front text ≡ v → behind front text ≡ None) [
      | None ↦ λ e. e
      | Some value ↦ λ e. absurd (none value (front_stands front text value e))
    ] refl

pub behind_given : (front text : List ℕ) (given : Option (Bor (List ℕ))) → MatchOption given ((rest : List ℕ) → text ≢ front ++ rest) (λ rest. text ≡ front ++ rest.now)
    → MatchOption given (behind front text ≡ None) (λ value. behind front text ≡ Some value.now)
behind_given front text None none = no_front front text none
behind_given front text (Some value) e = rw e (behind_front front value.now)

-- a front stands in a text or it doesn't
pub by_front : {P : Type 0} (front text : List ℕ) → ((value : List ℕ) → behind front text ≡ Some value → text ≡ front ++ value → P) → (behind front text ≡ None → P) → P
by_front {P} front text stands other =
    elim (behind front text) as (λ v. behind front text ≡ v → P) [
      | None ↦ other
      | Some value ↦ λ e. stands value e (front_stands front text value e)
    ] refl

-- a word is a text or it isn't, and the test says which
pub by_text : {P : Type 0} (word text : List ℕ) → (bytes_eq word text ≡ true → word ≡ text → P) → (bytes_eq word text ≡ false → word ≢ text → P) → P
by_text {P} word text same other =
    elim (bytes_eq word text) as (λ v. bytes_eq word text ≡ v → P) [
      | true ↦ λ e. same e ((bytes_eq-Decides word text).0 e)
      | false ↦ λ e. other e (λ h. let yes : bytes_eq word text ≡ true = (bytes_eq-Decides word text).1 h in cc)
    ] refl

pub other_text : (word text : List ℕ) → word ≢ text → bytes_eq word text ≡ false
other_text word text apart = by_text word text (λ e same. absurd (apart same)) (λ e other. e)

-- texts that the test tells apart
pub apart : (word text : List ℕ) → bytes_eq word text ≡ false → word ≢ text
apart word text e h = let yes : bytes_eq word text ≡ true = (bytes_eq-Decides word text).1 h in cc

-- a test of texts that stand elsewhere
pub any_text : (test : List ℕ → Bool) (words : List (Bor (List ℕ))) → list_any (λ word. test word.now) words ≡ list_any test (texts words)
any_text test [] = refl
any_text test (word ∷ words) = ap (λ found. test word.now || found) (any_text test words)
