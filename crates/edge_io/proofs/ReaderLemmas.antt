-- What the bytes of a reader tell of the line that stands first.
use Rattle.std.proofs.Common.{◌≡◌, ◌≢◌, ℕ, ◌+◌, ◌-◌, ◌<◌, ◌≤◌, Bool, true, false, List, [], ◌∷◌, ◌++◌, None, Some, IfSome, All, length, get_or, take, drop, cond, eqb, refl, sym, ap, subst, ◌∙◌, arith, ne_eqb, add_assoc, append_assoc, take_all, take-take, take-append-drop, length-append, length-take, length-drop}
use Rattle.std.proofs.Math.Seq.{take-add}
use Rattle.std.proofs.lemmas.List.{take_more, append-nil, drop-drop, drop_all}
use Rattle.std.proofs.lemmas.List.Elements.{All-from_recursion}
use Rattle.std.specs.declared.option.Option.{Option}
use Rattle.std.specs.Option.{option_map}
use Rattle.std.specs.Io.KnownBytes.{Keeps, IsAtEnd}
use Rattle.edge_io.specs.Lines.{first_line, rest_of, next_line}
use Rattle.edge_io.specs.LineEnds.{HasNoFeed, IsFirstFeed, strip_return}
use Rattle.edge_io.specs.Told.{unread}
use Rattle.edge_io.proofs.LinesLemmas.{HasNoFeed-take, first_line-feed, rest_of-feed, first_line-whole, rest_of-whole, length-first_line, next_line-some}

last_split : (bytes : List ℕ) → 0 < length bytes → bytes ≡ take (length bytes - 1) bytes ++ get_or bytes (length bytes - 1) 0 ∷ []
last_split bytes some = sym (take_all (length bytes - 1 + 1) bytes (omega arith)) ∙ take_more bytes (length bytes - 1) 0 (omega arith)

-- a carriage return at the end goes
pub strip_return-13 : (front : List ℕ) → strip_return (front ++ 13 ∷ []) ≡ front
strip_return-13 [] = refl
strip_return-13 (byte ∷ []) = refl
strip_return-13 (byte ∷ next ∷ front) = ap (λ l. byte ∷ l) (strip_return-13 (next ∷ front))

strip_return-other : (front : List ℕ) (last : ℕ) → last ≢ 13 → strip_return (front ++ last ∷ []) ≡ front ++ last ∷ []
strip_return-other [] last other = ap (λ b. cond b [] (last ∷ [])) (ne_eqb last 13 other)
strip_return-other (byte ∷ []) last other = ap (λ b. byte ∷ cond b [] (last ∷ [])) (ne_eqb last 13 other)
strip_return-other (byte ∷ next ∷ front) last other = ap (λ l. byte ∷ l) (strip_return-other (next ∷ front) last other)

-- bytes with another end stay
pub strip_return-none : (bytes : List ℕ) → ((front : List ℕ) → bytes ≢ front ++ 13 ∷ []) → strip_return bytes ≡ bytes
strip_return-none [] none = refl
strip_return-none (byte ∷ bytes) none =
    let all = byte ∷ bytes in
    let front = take (length all - 1) all in
    let last = get_or all (length all - 1) 0 in
    let split = last_split all (omega arith) in
    let other : last ≢ 13 = λ is. none front (split ∙ ap (λ x. front ++ x ∷ []) is) in
    ap strip_return split ∙ strip_return-other front last other ∙ sym split

strip_return-take : (bytes : List ℕ) → take (length (strip_return bytes)) bytes ≡ strip_return bytes
strip_return-take [] = refl
strip_return-take (byte ∷ []) = at (eqb byte 13)
  where
    at : (b : Bool) → take (length (cond b [] (byte ∷ []))) (byte ∷ []) ≡ cond b [] (byte ∷ [])
    at true = refl
    at false = refl
strip_return-take (byte ∷ next ∷ bytes) = ap (λ l. byte ∷ l) (strip_return-take (next ∷ bytes))

length-strip_return : (bytes : List ℕ) → length (strip_return bytes) ≤ length bytes
length-strip_return bytes = omega (arith, ap length (strip_return-take bytes), length-take (length (strip_return bytes)) bytes)

pub length-strip_return_take : (at : ℕ) (bytes : List ℕ) → length (strip_return (take at bytes)) ≤ at
length-strip_return_take at bytes = omega (arith, length-strip_return (take at bytes), length-take at bytes)

HasNoFeed-append : (xs ys : List ℕ) → HasNoFeed xs → HasNoFeed ys → HasNoFeed (xs ++ ys)
HasNoFeed-append [] ys x y = y
HasNoFeed-append (byte ∷ xs) ys x y = (x.0, HasNoFeed-append xs ys x.1 y)

-- the first line feed after bytes that have none
pub IsFirstFeed-after : (bytes : List ℕ) (searched at : ℕ) → HasNoFeed (take searched bytes) → searched ≤ length bytes
    → IsFirstFeed (drop searched bytes) at → IsFirstFeed bytes (searched + at)
IsFirstFeed-after bytes searched at none within found = record {
  within = omega (arith, found.within, length-drop searched bytes);
  before = subst HasNoFeed (sym (take-add searched at bytes)) (HasNoFeed-append (take searched bytes) (take at (drop searched bytes)) none found.before);
  feed = sym (drop-drop at searched bytes) ∙ found.feed ∙ ap (λ l. 10 ∷ l) (drop-drop (at + 1) searched bytes ∙ ap (λ n. drop n bytes) (sym (add_assoc searched at 1)));
}

-- the first `len` bytes are the line that stands first, and the rest comes after `taken`: also of the bytes that the
-- source has left, where it told them before and tells them now
pub record SpansLine (was : Option (List ℕ)) (bytes : List ℕ) (left : Option (List ℕ)) (len taken : ℕ) : Type 0 where
  pub some : 0 < length bytes
  pub within : len ≤ length bytes
  pub here : first_line bytes ≡ take len bytes
  pub one_line : HasNoFeed (take len bytes)
  pub first : (old more : List ℕ) → was ≡ Some old → left ≡ Some more → first_line (bytes ++ more) ≡ take len bytes
  pub rest : (old more : List ℕ) → was ≡ Some old → left ≡ Some more → rest_of (bytes ++ more) ≡ drop taken bytes ++ more

-- a line feed ends the line, however the bytes go on
pub SpansLine-feed : (was left : Option (List ℕ)) {bytes line : List ℕ} {at : ℕ} → IsFirstFeed bytes at → line ≡ strip_return (take at bytes)
    → SpansLine was bytes left (length line) (at + 1)
SpansLine-feed was left {bytes} {line} {at} found strips =
    let split : (more : List ℕ) → bytes ++ more ≡ take at bytes ++ 10 ∷ (drop (at + 1) bytes ++ more) =
    λ more. ap (λ l. l ++ more) (sym (take-append-drop at bytes) ∙ ap (λ l. take at bytes ++ l) found.feed)
    ∙ append_assoc (take at bytes) (10 ∷ drop (at + 1) bytes) more in
    let short : length line ≤ at = omega (arith, ap length strips, length-strip_return_take at bytes) in
    let is : take (length line) bytes ≡ line =
    sym (take-take (length line) at bytes short) ∙ ap (λ l. take (length l) (take at bytes)) strips ∙ strip_return-take (take at bytes) ∙ sym strips in
    let first : (more : List ℕ) → first_line (bytes ++ more) ≡ take (length line) bytes =
    λ more. ap first_line (split more) ∙ first_line-feed (take at bytes) (drop (at + 1) bytes ++ more) found.before ∙ sym strips ∙ sym is in record {
      some = omega (arith, found.within);
      within = omega (arith, found.within);
      here = ap first_line (sym (append-nil bytes)) ∙ first [];
      one_line = subst HasNoFeed (take-take (length line) at bytes short) (HasNoFeed-take (length line) (take at bytes) found.before);
      first = λ old more w l. first more;
      rest = λ old more w l. ap rest_of (split more) ∙ rest_of-feed (take at bytes) (drop (at + 1) bytes ++ more) found.before;
    }

IsAtEnd-told : (was left : Option (List ℕ)) (old more : List ℕ) → IfSome was (λ _. IsAtEnd left) → was ≡ Some old → left ≡ Some more → more ≡ []
IsAtEnd-told was left old more end w l = subst IsAtEnd l (subst (λ o. IfSome o (λ _. IsAtEnd left)) w end)

SpansLine-whole : (was left : Option (List ℕ)) (bytes : List ℕ) → HasNoFeed bytes → 0 < length bytes → IfSome was (λ _. IsAtEnd left)
    → SpansLine was bytes left (length bytes) (length bytes)
SpansLine-whole was left bytes none some end =
    let all = take_all (length bytes) bytes (omega arith) in
    let whole : (old more : List ℕ) → was ≡ Some old → left ≡ Some more → bytes ++ more ≡ bytes =
    λ old more w l. ap (λ m. bytes ++ m) (IsAtEnd-told was left old more end w l) ∙ append-nil bytes in record {
      some = some;
      within = omega arith;
      here = first_line-whole bytes none ∙ sym all;
      one_line = subst HasNoFeed (sym all) none;
      first = λ old more w l. ap first_line (whole old more w l) ∙ first_line-whole bytes none ∙ sym all;
      rest = λ old more w l.
          ap rest_of (whole old more w l) ∙ rest_of-whole bytes none ∙ sym (IsAtEnd-told was left old more end w l)
          ∙ ap (λ l. l ++ more) (sym (drop_all (length bytes) bytes (omega arith)));
    }

-- the end of the input ends the line
pub SpansLine-input : (was left : Option (List ℕ)) {bytes line : List ℕ} → HasNoFeed bytes → line ≡ bytes → (length line ≡ 0 → ⊥) → IfSome was (λ _. IsAtEnd left)
    → SpansLine was bytes left (length line) (length line)
SpansLine-input was left {bytes} {line} none is some end =
    subst (λ (l : List ℕ). SpansLine was bytes left (length l) (length l)) (sym is) (SpansLine-whole was left bytes none (omega (arith, ap length is, some)) end)

-- what holds of the bytes that are unread now held of them before the reads
pub told_before : (before now : List ℕ) (was left : Option (List ℕ)) (P : List ℕ → Type 0) → Keeps (unread before was) (unread now left)
    → ((old more : List ℕ) → was ≡ Some old → left ≡ Some more → P (now ++ more)) → IfSome (unread before was) P
told_before before now None left P kept holds = tt
told_before before now (Some old) None P kept holds = absurd kept
told_before before now (Some old) (Some more) P kept holds = subst P kept (holds old more refl refl)

-- what holds of a line's bytes, where they are known
pub of_items : {V : Type 0} (items : V → List ℕ) (P : List ℕ → Type 0) (bytes : List ℕ) (line : Option V) → option_map items line ≡ Some bytes → P bytes
    → IfSome line (λ v. P (items v))
of_items items P bytes None is holds = tt
of_items items P bytes (Some v) is holds =
    let same : items v ≡ bytes = cc in
    subst P (sym same) holds

-- what a call gives that found where the line ends
module _ (before : List ℕ) {now : List ℕ} {was left : Option (List ℕ)} {len taken : ℕ} (kept : Keeps (unread before was) (unread now left)) (spans : SpansLine was now left len taken) where
  pub line_told : (line : Option (List ℕ)) → line ≡ Some (take len now) → IfSome (unread before was) (λ bytes. line ≡ next_line bytes)
  line_told line is =
      told_before before now was left (λ bytes. line ≡ next_line bytes) kept
      (λ old more w l. is ∙ ap Some (sym (spans.first old more w l)) ∙ sym (next_line-some (now ++ more) (omega (arith, length-append now more, spans.some))))

  pub rest_told : (new : List ℕ) → new ≡ drop taken now → IfSome (unread before was) (λ bytes. unread new left ≡ Some (rest_of bytes))
  rest_told new is =
      told_before before now was left (λ bytes. unread new left ≡ Some (rest_of bytes)) kept
      (λ old more w l. ap (unread new) l ∙ ap (λ p. Some (p ++ more)) is ∙ ap Some (sym (spans.rest old more w l)))

  pub long_told : (n : ℕ) → n < len → IfSome (unread before was) (λ bytes. n < length (first_line bytes))
  long_told n long =
      told_before before now was left (λ bytes. n < length (first_line bytes)) kept
      (λ old more w l. omega (arith, ap length (spans.first old more w l), length-take len now, spans.within, long))

  pub long_here : (new : List ℕ) (n : ℕ) → new ≡ now → n < len → n < length (first_line new)
  long_here new n is long = omega (arith, ap (λ b. length (first_line b)) is, ap length spans.here, length-take len now, spans.within, long)

  pub one_line : {V : Type 0} (items : V → List ℕ) (line : Option V) → option_map items line ≡ Some (take len now) → IfSome line (λ v. All (λ byte. byte ≢ 10) (items v))
  one_line items line is = of_items items (All (λ byte. byte ≢ 10)) (take len now) line is (All-from_recursion (λ byte. byte ≢ 10) (take len now) spans.one_line)

-- bytes with no line feed that are more than a line and its end have
pub far_told : (before now : List ℕ) (was left : Option (List ℕ)) → Keeps (unread before was) (unread now left) → HasNoFeed now → 65538 ≤ length now
    → IfSome (unread before was) (λ bytes. 65536 < length (first_line bytes))
far_told before now was left kept none far =
    told_before before now was left (λ bytes. 65536 < length (first_line bytes)) kept
    (λ old more w l. omega (arith, length-first_line now more none, far))
