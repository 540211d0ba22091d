-- Laws of lines that answer a prompt, and what the bytes of a reader tell of one that stands first.
use Rattle.std.proofs.Common.{◌≡◌, ◌≢◌, ℕ, ◌<◌, ◌≤◌, Bool, true, false, ◌&&◌, inl, inr, List, [], ◌∷◌, ◌++◌, None, Some, IfSome, All, length, take, drop, cond, eqb, refl, sym, ap, subst, ◌∙◌, arith, length-take}
use Rattle.std.proofs.Math.Bool.{and-true}
use Rattle.std.proofs.lemmas.Bool.{false≢true, eqb-true}
use Rattle.std.proofs.lemmas.Bool.Decides.{eqb_tells}
use Rattle.std.proofs.lemmas.List.Elements.{All-from_recursion}
use Rattle.std.specs.declared.option.Option.{Option}
use Rattle.std.specs.Option.{option_map, option_and_then}
use Rattle.std.specs.Io.{StartsWith}
use Rattle.std.specs.Io.KnownBytes.{Keeps}
use Rattle.edge_io.specs.Lines.{first_line, ends_line, is_prompt, next_line, next_prompt, prompt_of, rest_of, rest_of_prompt}
use Rattle.edge_io.specs.LineEnds.{HasNoFeed}
use Rattle.edge_io.specs.Told.{unread}
use Rattle.edge_io.proofs.LinesLemmas.{first_line-whole, length-first_line}
use Rattle.edge_io.proofs.ReaderLemmas.{SpansLine, told_before, of_items}

is_mark : (bytes : List ℕ) → is_prompt bytes ≡ true → bytes ≡ 60 ∷ drop 1 bytes
is_mark [] is = absurd (false≢true is)
is_mark (byte ∷ bytes) is = ap (λ b. b ∷ bytes) (sym (eqb-true 60 byte (sym (and-true (eqb 60 byte)) ∙ is)))

-- bytes begin as their first line does
pub is_prompt-first_line : (bytes : List ℕ) → is_prompt (first_line bytes) ≡ is_prompt bytes
is_prompt-first_line [] = refl
is_prompt-first_line (byte ∷ bytes) =
    elim (eqb_tells 60 byte) [
      | inl is ↦ subst (λ b. is_prompt (first_line (b ∷ bytes)) ≡ is_prompt (b ∷ bytes)) is.1 refl
      | inr other ↦ at (ends_line (byte ∷ bytes)) other.0
    ]
  where
    at : (ends : Bool) → eqb 60 byte ≡ false → is_prompt (cond ends [] (byte ∷ first_line bytes)) ≡ (eqb 60 byte && true)
    at true other = sym (ap (λ b. b && true) other)
    at false other = refl

-- what the first line has behind `<` is what the next line has
pub next_prompt-line : (bytes : List ℕ) → next_prompt bytes ≡ option_and_then prompt_of (next_line bytes)
next_prompt-line [] = refl
next_prompt-line (byte ∷ bytes) = refl

first_prompt : (bytes : List ℕ) → is_prompt bytes ≡ true → is_prompt (first_line bytes) ≡ true
first_prompt bytes is = is_prompt-first_line bytes ∙ is

is_prompt-append : (bytes more : List ℕ) → is_prompt bytes ≡ true → is_prompt (bytes ++ more) ≡ true
is_prompt-append [] more is = absurd (false≢true is)
is_prompt-append (byte ∷ bytes) more is = is

pub StartsWith-prompt : (now front : List ℕ) → StartsWith now front → is_prompt front ≡ true → is_prompt now ≡ true
StartsWith-prompt now [] starts is = absurd (false≢true is)
StartsWith-prompt [] (first ∷ front) starts is = cc
StartsWith-prompt (byte ∷ now) (first ∷ front) starts is =
    let same : byte ≡ first = cc in
    ap (λ b. eqb 60 b && true) same ∙ is

pub is_prompt-some : (bytes : List ℕ) → is_prompt bytes ≡ true → 1 ≤ length bytes
is_prompt-some [] is = absurd (false≢true is)
is_prompt-some (byte ∷ bytes) is = omega arith

prompt_of-is : (line : List ℕ) → is_prompt line ≡ true → prompt_of line ≡ Some (drop 1 line)
prompt_of-is line is = ap (λ b. cond b (Some (drop 1 line)) None) is

rest_of_prompt-is : (bytes : List ℕ) → is_prompt (first_line bytes) ≡ true → rest_of_prompt bytes ≡ rest_of bytes
rest_of_prompt-is bytes is = ap (λ b. cond b (rest_of bytes) bytes) is

kept_before : (was left : Option (List ℕ)) (P : List ℕ → Type 0) → Keeps was left → IfSome left P → IfSome was P
kept_before None left P kept holds = tt
kept_before (Some bytes) None P kept holds = absurd kept
kept_before (Some bytes) (Some more) P kept holds = subst P kept holds

HasNoFeed-behind : (bytes : List ℕ) → HasNoFeed bytes → HasNoFeed (drop 1 bytes)
HasNoFeed-behind [] none = tt
HasNoFeed-behind (byte ∷ bytes) none = none.1

-- what a call gives that found bytes which begin with `<`, and then where the line ends
module _ (entry : Option (List ℕ)) (front now : List ℕ) (was left : Option (List ℕ)) (held : Keeps entry (unread front was)) (kept : Keeps (unread front was) (unread now left))
    (starts : StartsWith now front) (marked : is_prompt front ≡ true) where
  is_here : is_prompt (first_line now) ≡ true
  is_here = first_prompt now (StartsWith-prompt now front starts marked)

  is_there : (more : List ℕ) → is_prompt (first_line (now ++ more)) ≡ true
  is_there more = first_prompt (now ++ more) (is_prompt-append now more (StartsWith-prompt now front starts marked))

  told_at_entry : (P : List ℕ → Type 0) → ((old more : List ℕ) → was ≡ Some old → left ≡ Some more → P (now ++ more)) → IfSome entry P
  told_at_entry P holds = kept_before entry (unread front was) P held (told_before front now was left P kept holds)

  module _ (len taken : ℕ) (spans : SpansLine was now left len taken) where
    is_line : is_prompt (take len now) ≡ true
    is_line = subst (λ l. is_prompt l ≡ true) spans.here is_here

    pub prompt_told : (material : Option (List ℕ)) → material ≡ Some (drop 1 (take len now)) → IfSome entry (λ bytes. material ≡ next_prompt bytes)
    prompt_told material is =
        told_at_entry (λ bytes. material ≡ next_prompt bytes)
        (λ old more w l. is ∙ sym (prompt_of-is (take len now) is_line) ∙ ap prompt_of (sym (spans.first old more w l)))

    pub rest_of_prompt_told : (new : List ℕ) → new ≡ drop taken now → IfSome entry (λ bytes. unread new left ≡ Some (rest_of_prompt bytes))
    rest_of_prompt_told new is =
        told_at_entry (λ bytes. unread new left ≡ Some (rest_of_prompt bytes))
        (λ old more w l. ap (unread new) l ∙ ap (λ p. Some (p ++ more)) is ∙ ap Some (sym (rest_of_prompt-is (now ++ more) (is_there more) ∙ spans.rest old more w l)))

    pub prompt_long_told : (n : ℕ) → n < len → IfSome entry (λ bytes. (is_prompt (first_line bytes) ≡ true) × (n < length (first_line bytes)))
    prompt_long_told n long =
        told_at_entry (λ bytes. (is_prompt (first_line bytes) ≡ true) × (n < length (first_line bytes)))
        (λ old more w l. (is_there more, omega (arith, ap length (spans.first old more w l), length-take len now, spans.within, long)))

    pub prompt_long_here : (new : List ℕ) (n : ℕ) → new ≡ now → n < len → (is_prompt (first_line new) ≡ true) × (n < length (first_line new))
    prompt_long_here new n is long =
        let P : List ℕ → Type 0 = λ l. (is_prompt (first_line l) ≡ true) × (n < length (first_line l)) in
        subst P (sym is) (is_here, omega (arith, ap length spans.here, length-take len now, spans.within, long))

    pub prompt_one_line : {V : Type 0} (items : V → List ℕ) (line : Option V) → option_map items line ≡ Some (drop 1 (take len now)) → IfSome line (λ v. All (λ byte. byte ≢ 10) (items v))
    prompt_one_line items line is =
        of_items items (All (λ byte. byte ≢ 10)) (drop 1 (take len now)) line is
        (All-from_recursion (λ byte. byte ≢ 10) (drop 1 (take len now)) (HasNoFeed-behind (take len now) spans.one_line))

  -- bytes with no line feed that are more than a line and its end have
  pub far_prompt_told : HasNoFeed now → 65538 ≤ length now → IfSome entry (λ bytes. (is_prompt (first_line bytes) ≡ true) × (65536 < length (first_line bytes)))
  far_prompt_told none far =
      told_at_entry (λ bytes. (is_prompt (first_line bytes) ≡ true) × (65536 < length (first_line bytes)))
      (λ old more w l. (is_there more, omega (arith, length-first_line now more none, far)))

  pub far_prompt_here : HasNoFeed now → 65538 ≤ length now → (is_prompt (first_line now) ≡ true) × (65536 < length (first_line now))
  far_prompt_here none far = (is_here, omega (arith, ap length (first_line-whole now none), far))
