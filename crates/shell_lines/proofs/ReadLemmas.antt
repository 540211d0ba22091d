-- A reading of words goes through, or stops at a word whatever stands behind it, or lacks a word.
use Rattle.std.proofs.Common.{◌≡◌, ◌⊎◌, ℕ, Option, inl, inr, Bool, true, false, List, [], ◌∷◌, ◌++◌, Result, Err, refl, ◌∙◌, ap}
use Rattle.shell_lines.specs.declared.line.Line.{Line}
use Rattle.shell_lines.specs.Words.{WordAt}
use Rattle.shell_lines.specs.Forms.{made_at}
use Rattle.shell_lines.specs.Language.{Begins, texts_of}

pub by_bool : {P : Type 0} (b : Bool) → (b ≡ true → P) → (b ≡ false → P) → P
by_bool {P} b on off = elim b as (λ v. b ≡ v → P) [ true ↦ on | false ↦ off ] refl

-- a reading of words in a line of so many bytes
abbrev pub Reader : Type 0
Reader = ℕ → List WordAt → Result Line ℕ

-- some line is made of the words, or nothing, where a last condition fails
abbrev pub Has : (Option Line → List (List ℕ) → Type 0) → List (List ℕ) → Type 0
Has Makes words = (made : Option Line) × Makes made words

abbrev pub Through : (Option Line → List (List ℕ) → Type 0) → Reader → List WordAt → Type 0
Through Makes read words = (made : Option Line) × Makes made (texts_of words) × ((end : ℕ) → read end words ≡ made_at end made)

pub record Stops (Makes : Option Line → List (List ℕ) → Type 0) (read : Reader) (words : List WordAt) : Type 0 where
  pub before : List WordAt
  pub word : WordAt
  pub behind : List WordAt
  pub stand : words ≡ before ++ (word ∷ behind)
  pub begin : Begins (Has Makes) (texts_of before)
  pub stops : (end : ℕ) (more : List WordAt) → read end (before ++ (word ∷ more)) ≡ Err word.at

pub record Lacks (Makes : Option Line → List (List ℕ) → Type 0) (read : Reader) (words : List WordAt) : Type 0 where
  pub begin : Begins (Has Makes) (texts_of words)
  pub missing : (end : ℕ) → read end words ≡ Err end

abbrev pub IsRead : (Option Line → List (List ℕ) → Type 0) → Reader → List WordAt → Type 0
IsRead Makes read words = Through Makes read words ⊎ (Stops Makes read words ⊎ Lacks Makes read words)

-- behind a word with this text the reading goes on by another one
abbrev pub Leads : Reader → List ℕ → Reader → Type 0
Leads read text next = (end at : ℕ) (more : List WordAt) → read end ((let word : WordAt = record { at = at; text = text } in word) ∷ more) ≡ next end more

pub onto : (Makes Next : Option Line → List (List ℕ) → Type 0) (read next : Reader) (word : WordAt) (words : List WordAt) → Leads read word.text next
    → ((made : Option Line) (more : List (List ℕ)) → Next made more → Makes made (word.text ∷ more)) → IsRead Next next words → IsRead Makes read (word ∷ words)
onto Makes Next read next word words leads up (inl through) = inl (through.0, up through.0 (texts_of words) through.1, λ end. leads end word.at words ∙ through.2 end)
onto Makes Next read next word words leads up (inr (inl stop)) = inr (inl (record {
  before = word ∷ stop.before;
  word = stop.word;
  behind = stop.behind;
  stand = ap (λ (more : List WordAt). word ∷ more) stop.stand;
  begin = (stop.begin.0, (stop.begin.1.0, up stop.begin.1.0 (texts_of stop.before ++ stop.begin.0) stop.begin.1.1));
  stops = λ end more. leads end word.at (stop.before ++ (stop.word ∷ more)) ∙ stop.stops end more;
}))
onto Makes Next read next word words leads up (inr (inr lack)) = inr (inr (record {
  begin = (lack.begin.0, (lack.begin.1.0, up lack.begin.1.0 (texts_of words ++ lack.begin.0) lack.begin.1.1));
  missing = λ end. leads end word.at words ∙ lack.missing end;
}))

pub stops_here : (Makes : Option Line → List (List ℕ) → Type 0) (read : Reader) (word : WordAt) (words : List WordAt) → Begins (Has Makes) []
    → ((end : ℕ) (more : List WordAt) → read end (word ∷ more) ≡ Err word.at) → IsRead Makes read (word ∷ words)
stops_here Makes read word words begin stops = inr (inl (record { before = []; word = word; behind = words; stand = refl; begin = begin; stops = stops }))

-- the first word has this text, and these are the texts behind it
pub record Front (words : List WordAt) (text : List ℕ) (behind : List (List ℕ)) : Type 0 where
  pub at : ℕ
  pub rest : List WordAt
  pub stand : words ≡ record { at = at; text = text } ∷ rest
  pub behind_is : texts_of rest ≡ behind

pub front_of : (words : List WordAt) (text : List ℕ) (behind : List (List ℕ)) → texts_of words ≡ text ∷ behind → Front words text behind
front_of [] text behind e = absurd (cc)
front_of (word ∷ words) text behind e =
    let same : word.text ≡ text = cc in
    let more : texts_of words ≡ behind = cc in
    record { at = word.at; rest = words; stand = ap (λ (t : List ℕ). (let w : WordAt = record { at = word.at; text = t } in w) ∷ words) same; behind_is = more }

pub no_word : (words : List WordAt) → texts_of words ≡ [] → words ≡ []
no_word [] e = refl
no_word (word ∷ words) e = absurd (cc)
