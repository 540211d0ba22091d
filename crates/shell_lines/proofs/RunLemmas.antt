-- The words of a line are its longest runs of bytes other than spaces.
use Rattle.std.proofs.Common.{◌≡◌, ◌≢◌, ℕ, suc, ◌+◌, ◌-◌, ◌<◌, ◌≤◌, ◌⊎◌, inl, inr, Bool, true, false, List, [], ◌∷◌, length, take, drop, get_or, refl, ap, sym, ◌∙◌, subst, arith}
use Rattle.std.specs.List.{All, AllByRecursion}
use Rattle.std.proofs.lemmas.Bool.{cases_lt}
use Rattle.std.proofs.lemmas.Bool.Decides.{Decides-eqb}
use Rattle.std.proofs.lemmas.List.{drop-drop, get_or-drop, length-drop}
use Rattle.std.proofs.lemmas.List.Elements.{All-from_recursion}
use Rattle.shell_lines.specs.Words.{WordAt, is_space, begins_word, onto_word, words_from, words_of}
use Rattle.shell_lines.specs.Runs.{IsRun, IsInWord, StandFrom}
use Rattle.shell_lines.proofs.OutcomeLemmas.{RiseFrom}

by_space : {P : Type 0} (b : ℕ) → (is_space b ≡ true → b ≡ 32 → P) → (is_space b ≡ false → b ≢ 32 → P) → P
by_space {P} b space other =
    elim (is_space b) as (λ v. is_space b ≡ v → P) [
      | true ↦ λ e. space e ((Decides-eqb b 32).0 e)
      | false ↦ λ e. other e (λ h. let yes : is_space b ≡ true = (Decides-eqb b 32).1 h in cc)
    ] refl

by_word : {P : Type 0} (bytes : List ℕ) → (begins_word bytes ≡ true → P) → (begins_word bytes ≡ false → P) → P
by_word {P} bytes begins gap = elim (begins_word bytes) as (λ v. begins_word bytes ≡ v → P) [ true ↦ begins | false ↦ gap ] refl

behind : (line : List ℕ) (at b : ℕ) (bs : List ℕ) → drop at line ≡ b ∷ bs → drop (at + 1) line ≡ bs
behind line at b bs e = sym (drop-drop 1 at line) ∙ ap (drop 1) e

here : (line : List ℕ) (at b : ℕ) (bs : List ℕ) → drop at line ≡ b ∷ bs → get_or line at 0 ≡ b
here line at b bs e =
    let read : get_or (drop at line) 0 0 ≡ get_or line (at + 0) 0 = get_or-drop at line 0 0 in
    let none : at + 0 ≡ at = omega arith in
    sym (rw none at read) ∙ ap (λ bytes. get_or bytes 0 0) e

-- Words stand in order.

further : (m n : ℕ) (words : List WordAt) → m ≤ n → StandFrom n words → StandFrom m words
further m n [] less h = tt
further m n (word ∷ words) less h = (omega arith, h.1)

onto_stands : (at b : ℕ) (words : List WordAt) → StandFrom (at + 1) words → StandFrom at (onto_word at b words)
onto_stands at b [] h = (omega arith, tt)
onto_stands at b (word ∷ words) h = (omega arith, further (at + suc (length word.text)) (word.at + length word.text) words (omega arith) h.1)

stand_from : (at : ℕ) (bytes : List ℕ) → StandFrom at (words_from at bytes)
stand_from at [] = tt
stand_from at (b ∷ bs) =
    let rest : StandFrom (at + 1) (words_from (at + 1) bs) = stand_from (at + 1) bs in
    by_space b
    (λ space _. rw space (further at (at + 1) (words_from (at + 1) bs) (omega arith) rest))
    (λ other _. rw other (by_word bs
    (λ begins. rw begins (onto_stands at b (words_from (at + 1) bs) rest))
    (λ gap. rw gap (omega arith, rest))))

pub words_stand : (line : List ℕ) → StandFrom 0 (words_of line)
words_stand line = stand_from 0 line

-- Each byte other than a space stands in a word.

onto_has_first : (at b : ℕ) (words : List WordAt) → IsInWord at (onto_word at b words)
onto_has_first at b [] = inl (omega arith, omega arith)
onto_has_first at b (word ∷ words) = inl (omega arith, omega arith)

abbrev StartBy : ℕ → List WordAt → Type 0
StartBy at [] = Unit {0}
StartBy at (word ∷ words) = word.at ≤ at

onto_starts : (at b : ℕ) (words : List WordAt) → StartBy at (onto_word at b words)
onto_starts at b [] = omega arith
onto_starts at b (word ∷ words) = omega arith

starts_by : (at : ℕ) (bytes : List ℕ) → begins_word bytes ≡ true → StartBy at (words_from at bytes)
starts_by at [] begins = tt
starts_by at (b ∷ bs) begins =
    by_space b
    (λ space _. let gap : begins_word (b ∷ bs) ≡ false = rw space refl in cc)
    (λ other _. rw other (by_word bs (λ more. rw more (onto_starts at b (words_from (at + 1) bs))) (λ gap. rw gap (omega arith))))

onto_has : (at b i : ℕ) (words : List WordAt) → at < i → StartBy (at + 1) words → IsInWord i words → IsInWord i (onto_word at b words)
onto_has at b i [] above start within = absurd within
onto_has at b i (word ∷ words) above start (inl within) = inl (omega arith, omega arith)
onto_has at b i (word ∷ words) above start (inr later) = inr later

within_word : (line bytes : List ℕ) (at i : ℕ) → drop at line ≡ bytes → at ≤ i → i < length line → get_or line i 0 ≢ 32 → IsInWord i (words_from at bytes)
within_word line [] at i e from within other =
    let none : length (drop at line) ≡ 0 = ap length e in
    absurd (omega (arith, length-drop at line))
within_word line (b ∷ bs) at i e from within other =
    let words : List WordAt = words_from (at + 1) bs in
    elim (cases_lt at i) [
      | inl above ↦
          let later : IsInWord i words = within_word line bs (at + 1) i (behind line at b bs e) (omega arith) within other in
          by_space b
          (λ space _. rw space later)
          (λ no_space _. rw no_space (by_word bs
          (λ begins. rw begins (onto_has at b i words above (starts_by (at + 1) bs begins) later))
          (λ gap. rw gap (inr later))))
      | inr first ↦
          let same : i ≡ at = omega arith in
          by_space b
          (λ _ space. absurd (other (rw same (here line at b bs e ∙ space))))
          (λ no_space _. rw (same, no_space) (by_word bs
          (λ begins. rw begins (onto_has_first at b words))
          (λ gap. rw gap (inl (omega arith, omega arith)))))
    ]

pub words_are_whole : (line : List ℕ) (at : ℕ) → at < length line → get_or line at 0 ≢ 32 → IsInWord at (words_of line)
words_are_whole line at within other = within_word line line 0 at refl (omega arith) within other

-- Each word is a run.

abbrev Begins : List ℕ → ℕ → Type 0
Begins line at = (at ≡ 0) ⊎ (get_or line (at - 1) 0 ≡ 32)

abbrev Ends : List ℕ → ℕ → Type 0
Ends line at = (at ≡ length line) ⊎ (get_or line at 0 ≡ 32)

-- a run, but for where it begins
record Body (line : List ℕ) (word : WordAt) : Type 0 where
  some : word.text ≢ []
  no_space : AllByRecursion (λ byte. byte ≢ 32) word.text
  stand : take (length word.text) (drop word.at line) ≡ word.text
  end : Ends line (word.at + length word.text)

run : (line : List ℕ) (word : WordAt) → Body line word → Begins line word.at → IsRun line word
run line word body begin =
    record { some = body.some; no_space = All-from_recursion (λ byte. byte ≢ 32) word.text body.no_space; stand = body.stand; begin = begin; end = body.end }

-- The words from an offset on are runs, but that one which begins there may begin further in front.
abbrev Found : List ℕ → ℕ → List WordAt → Bool → Type 0
Found line at words true = (word : WordAt) × (rest : List WordAt) × (words ≡ word ∷ rest) × (word.at ≡ at) × Body line word × AllByRecursion (IsRun line) rest
Found line at words false = AllByRecursion (IsRun line) words

begun : (line : List ℕ) (at : ℕ) (words : List WordAt) → Begins line at → (begins : Bool) → Found line at words begins → AllByRecursion (IsRun line) words
begun line at words begin true (word, rest, all, place, body, runs) = rw all (run line word body (rw place begin), runs)
begun line at words begin false runs = runs

alone : (line : List ℕ) (at b : ℕ) (bs : List ℕ) → drop at line ≡ b ∷ bs → b ≢ 32 → begins_word bs ≡ false → Body line (record { at = at; text = b ∷ [] })
alone line at b [] e other gap =
    let size : length (drop at line) ≡ 1 = ap length e in
    record { some = λ h. cc; no_space = (other, tt); stand = rw e refl; end = inl (omega (arith, length-drop at line)) }
alone line at b (c ∷ cs) e other gap =
    let space : c ≡ 32 = by_space c (λ _ is. is) (λ no_space _. let word : begins_word (c ∷ cs) ≡ true = rw no_space refl in cc) in
    record { some = λ h. cc; no_space = (other, tt); stand = rw e refl; end = inr (here line (at + 1) c cs (behind line at b (c ∷ cs) e) ∙ space) }

joined : (line : List ℕ) (at b : ℕ) (bs : List ℕ) (word : WordAt) → drop at line ≡ b ∷ bs → b ≢ 32 → word.at ≡ at + 1 → Body line word
    → Body line (record { at = at; text = b ∷ word.text })
joined line at b bs word e other place body =
    let goes_on : take (length word.text) bs ≡ word.text = rw (place, behind line at b bs e) at body.stand in
    let size : word.at + length word.text ≡ at + suc (length word.text) = omega arith in
    record { some = λ h. cc; no_space = (other, body.no_space); stand = rw e (ap (λ text. b ∷ text) goes_on); end = rw size at body.end }

found : (line bytes : List ℕ) (at : ℕ) → drop at line ≡ bytes → Found line at (words_from at bytes) (begins_word bytes)
found line [] at e = tt
found line (b ∷ bs) at e =
    let words : List WordAt = words_from (at + 1) bs in
    let rest : Found line (at + 1) words (begins_word bs) = found line bs (at + 1) (behind line at b bs e) in
    by_space b
    (λ space is_space.
    let place : at + 1 - 1 ≡ at = omega arith in
    rw space (begun line (at + 1) words (inr (rw place (here line at b bs e ∙ is_space))) (begins_word bs) rest))
    (λ other no_space. rw other (by_word bs
    (λ begins. let more : Found line (at + 1) words true = rw begins at rest in
    rw begins (record { at = at; text = b ∷ more.0.text }, more.1, ap (onto_word at b) more.2, refl, joined line at b bs more.0 e no_space more.3 more.4, more.5))
    (λ gap. let more : Found line (at + 1) words false = rw gap at rest in
    rw gap (record { at = at; text = b ∷ [] }, words, refl, refl, alone line at b bs e no_space gap, more))))

pub words_are_runs : (line : List ℕ) → All (IsRun line) (words_of line)
words_are_runs line = All-from_recursion (IsRun line) (words_of line) (begun line 0 (words_of line) (inl refl) (begins_word line) (found line line 0 refl))

-- Words rise, and stand before the end.

rise_before : (m n end : ℕ) (words : List WordAt) → m ≤ n → RiseFrom n end words → RiseFrom m end words
rise_before m n end [] less h = omega arith
rise_before m n end (word ∷ words) less h = (omega (arith, h.0), h.1)

onto_rises : (at b end : ℕ) (words : List WordAt) → at < end → RiseFrom (at + 1) end words → RiseFrom at end (onto_word at b words)
onto_rises at b end [] within h = (omega arith, omega arith)
onto_rises at b end (word ∷ words) within h = (omega arith, rise_before (at + 1) (word.at + 1) end words (omega (arith, h.0)) h.1)

rise_from : (at : ℕ) (bytes : List ℕ) → RiseFrom at (at + length bytes) (words_from at bytes)
rise_from at [] = omega arith
rise_from at (b ∷ bs) =
    let end : at + 1 + length bs ≡ at + length (b ∷ bs) = omega arith in
    let rest : RiseFrom (at + 1) (at + length (b ∷ bs)) (words_from (at + 1) bs) = subst (λ n. RiseFrom (at + 1) n (words_from (at + 1) bs)) end (rise_from (at + 1) bs) in
    by_space b
    (λ space _. rw space (rise_before at (at + 1) (at + length (b ∷ bs)) (words_from (at + 1) bs) (omega arith) rest))
    (λ other _. rw other (by_word bs
    (λ begins. rw begins (onto_rises at b (at + length (b ∷ bs)) (words_from (at + 1) bs) (omega arith) rest))
    (λ gap. rw gap (omega arith, rest))))

pub words_rise : (line : List ℕ) → RiseFrom 0 (length line) (words_of line)
words_rise line =
    let end : 0 + length line ≡ length line = omega arith in
    subst (λ n. RiseFrom 0 n (words_of line)) end (rise_from 0 line)
