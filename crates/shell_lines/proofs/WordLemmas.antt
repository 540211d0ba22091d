-- The first of the words that stand from an offset on.
use Rattle.std.proofs.Common.{◌≡◌, ℕ, suc, ◌+◌, ◌-◌, ◌<◌, Bool, true, false, not, List, [], ◌∷◌, length, take, drop, refl, ap, sym, ◌∙◌, arith}
use Rattle.std.specs.List.{prefix_len}
use Rattle.std.proofs.lemmas.List.{drop-drop}
use Rattle.std.proofs.lemmas.Grind.{common_steps}
use Rattle.shell_lines.specs.Words.{is_space, onto_word, words_from}

abbrev pub in_word : ℕ → Bool
in_word byte = not (is_space byte)

by_space : {P : Type 0} (b : ℕ) → (is_space b ≡ true → P) → (is_space b ≡ false → P) → P
by_space {P} b space other = elim (is_space b) as (λ v. is_space b ≡ v → P) [ true ↦ space | false ↦ other ] refl

-- how many bytes in front pass a test, where the first one does and where it doesn't
prefix_on : (p : ℕ → Bool) (b : ℕ) (bs : List ℕ) → p b ≡ true → prefix_len p (b ∷ bs) ≡ suc (prefix_len p bs)
prefix_on p b bs passes = let next : 1 + prefix_len p bs ≡ suc (prefix_len p bs) = omega arith in rw (passes, next) refl

prefix_off : (p : ℕ → Bool) (b : ℕ) (bs : List ℕ) → p b ≡ false → prefix_len p (b ∷ bs) ≡ 0
prefix_off p b bs fails = rw fails refl

words_at : (at n : ℕ) (bytes rest : List ℕ) → at ≡ n → bytes ≡ rest → words_from at bytes ≡ words_from n rest
words_at at n bytes rest e f = cc

-- spaces in front say nothing
words_past_gap : (at n : ℕ) (bytes : List ℕ) → n ≡ prefix_len is_space bytes → words_from at bytes ≡ words_from (at + n) (drop n bytes)
words_past_gap at n [] e = let none : n ≡ 0 = e in rw none refl
words_past_gap at n (b ∷ bs) e =
    by_space b
    (λ space.
    let m : ℕ = prefix_len is_space bs in
    let more : n ≡ suc m = e ∙ prefix_on is_space b bs space in
    let first : words_from at (b ∷ bs) ≡ words_from (at + 1) bs = rw space refl in
    let place : at + 1 + m ≡ at + suc m = omega arith in
    rw more (first ∙ words_past_gap (at + 1) m bs refl ∙ words_at (at + 1 + m) (at + suc m) (drop m bs) (drop m bs) place refl))
    (λ other.
    let none : n ≡ 0 = e ∙ prefix_off is_space b bs other in
    let place : at ≡ at + 0 = omega arith in
    rw none (words_at at (at + 0) (b ∷ bs) (b ∷ bs) place refl))

-- no space stands behind the spaces in front
after_gap : (bytes : List ℕ) (n : ℕ) → n ≡ prefix_len is_space bytes → prefix_len is_space (drop n bytes) ≡ 0
after_gap [] n e = let none : n ≡ 0 = e in rw none refl
after_gap (b ∷ bs) n e =
    by_space b
    (λ space.
    let more : n ≡ suc (prefix_len is_space bs) = e ∙ prefix_on is_space b bs space in
    rw more (after_gap bs (prefix_len is_space bs) refl))
    (λ other.
    let none : n ≡ 0 = e ∙ prefix_off is_space b bs other in
    rw none (prefix_off is_space b bs other))

-- a word goes on up to the next space
word_first : (at b : ℕ) (bs : List ℕ) (n : ℕ) → is_space b ≡ false → n ≡ prefix_len in_word bs
    → words_from at (b ∷ bs) ≡ record { at = at; text = b ∷ take n bs } ∷ words_from (at + suc n) (drop n bs)
word_first at b [] n other e = let none : n ≡ 0 = e in rw none (rw other refl)
word_first at b (c ∷ cs) n other e =
    by_space c
    (λ space.
    let out : in_word c ≡ false = rw space refl in
    let none : n ≡ 0 = e ∙ prefix_off in_word c cs out in
    let alone : words_from at (b ∷ c ∷ cs) ≡ record { at = at; text = b ∷ [] } ∷ words_from (at + 1) (c ∷ cs) = simp (other, space) in
    let place : at + suc 0 ≡ at + 1 = omega arith in
    rw (none, place) alone)
    (λ goes_on.
    let inside : in_word c ≡ true = rw goes_on refl in
    let m : ℕ = prefix_len in_word cs in
    let more : n ≡ suc m = e ∙ prefix_on in_word c cs inside in
    let onto : words_from at (b ∷ c ∷ cs) ≡ onto_word at b (words_from (at + 1) (c ∷ cs)) = simp (other, goes_on) in
    let place : at + 1 + suc m ≡ at + suc (suc m) = omega arith in
    rw (more, ← place) (onto ∙ ap (onto_word at b) (word_first (at + 1) c cs m goes_on refl)))

nothing_left : (at : ℕ) (rest : List ℕ) → prefix_len is_space rest ≡ 0 → prefix_len in_word rest ≡ 0 → words_from at rest ≡ []
nothing_left at [] gap none = refl
nothing_left at (b ∷ bs) gap none =
    by_space b
    (λ space. let more : prefix_len is_space (b ∷ bs) ≡ suc (prefix_len is_space bs) = prefix_on is_space b bs space in absurd (omega arith))
    (λ other.
    let inside : in_word b ≡ true = rw other refl in
    let more : prefix_len in_word (b ∷ bs) ≡ suc (prefix_len in_word bs) = prefix_on in_word b bs inside in
    absurd (omega arith))

some_left : (at : ℕ) (rest : List ℕ) (len : ℕ) → prefix_len is_space rest ≡ 0 → len ≡ prefix_len in_word rest → 0 < len
    → words_from at rest ≡ record { at = at; text = take len rest } ∷ words_from (at + len) (drop len rest)
some_left at [] len gap e some = let none : len ≡ 0 = e in absurd (omega arith)
some_left at (b ∷ bs) len gap e some =
    by_space b
    (λ space. let more : prefix_len is_space (b ∷ bs) ≡ suc (prefix_len is_space bs) = prefix_on is_space b bs space in absurd (omega arith))
    (λ other.
    let inside : in_word b ≡ true = rw other refl in
    let more : len ≡ suc (prefix_len in_word bs) = e ∙ prefix_on in_word b bs inside in
    rw more (word_first at b bs (prefix_len in_word bs) other refl))

-- what the next word of a line is, by how many spaces stand in front and how many other bytes behind these
pub no_word : (line : List ℕ) (at gap len : ℕ) → gap ≡ prefix_len is_space (drop at line) → len ≡ prefix_len in_word (drop (at + gap) line) → len ≡ 0
    → words_from at (drop at line) ≡ []
no_word line at gap len e f none =
    let past : drop gap (drop at line) ≡ drop (at + gap) line = drop-drop gap at line in
    words_past_gap at gap (drop at line) e
    ∙ rw past (nothing_left (at + gap) (drop (at + gap) line) (rw past at (after_gap (drop at line) gap e)) (sym f ∙ none))

pub one_word : (line : List ℕ) (at gap len : ℕ) → gap ≡ prefix_len is_space (drop at line) → len ≡ prefix_len in_word (drop (at + gap) line) → 0 < len
    → words_from at (drop at line) ≡ record { at = at + gap; text = take len (drop (at + gap) line) } ∷ words_from (at + gap + len) (drop (at + gap + len) line)
one_word line at gap len e f some =
    let past : drop gap (drop at line) ≡ drop (at + gap) line = drop-drop gap at line in
    words_past_gap at gap (drop at line) e
    ∙ rw (past, ← drop-drop len (at + gap) line) (some_left (at + gap) (drop (at + gap) line) len (rw past at (after_gap (drop at line) gap e)) f some)

-- the rest of a line from an offset on, as a slice gives it
pub rest_of_line : (line : List ℕ) (at : ℕ) → take (length line - at) (drop at line) ≡ drop at line
rest_of_line line at = grind (arith, common_steps)
