-- The key schedule word by word, as a loop over the words makes it.
use Rattle.std.proofs.Common.{◌≡◌, ◌≢◌, ℕ, zero, suc, ◌+◌, ◌-◌, ◌*◌, ◌/◌, ◌%◌, ◌<◌, ◌≤◌, List, [], ◌∷◌, ◌++◌, length, slice_index, take, drop, refl, sym, ap, ◌∙◌, arith}
use Rattle.std.proofs.Math.Nat.{add-mul, div-add-mod', div-eq_of_lt-le, one-mul, suc-mul, zero-mul}
use Rattle.std.proofs.lemmas.Bool.Decides.{nat_tests}
use Rattle.std.proofs.lemmas.List.{get_or-take, length-append, length-drop, length-take-le, take-append-le, take-take, take_all, take_at}
use Rattle.std.proofs.lemmas.List.FromFn.{fill_by_all}
use Rattle.byte_blocks.specs.Blocks.{xor_bytes}
use Rattle.byte_blocks.proofs.Xor.{get_or-xor_bytes, length-xor_bytes}
use Rattle.aes_block.specs.Field.{◌⊕◌, power, xtimes}
use Rattle.aes_block.specs.Cipher.{add_words, key_expansion, next_word, rcon, rot_word, sub_word, temp, word, words_after}
use Rattle.aes_block.proofs.FieldLaws.{product-two}

-- ---- quotients

-- the quotient of a positive multiple
quotient_above : (q n i : ℕ) → q * n ≡ i → 0 < i → 0 < q
quotient_above zero n i e h = let none : 0 * n ≡ 0 = zero-mul n in absurd (omega arith)
quotient_above (suc q) n i e h = omega arith

quotient_of_multiple-above : (i n : ℕ) → 0 < i → i % n ≡ 0 → 0 < i / n
quotient_of_multiple-above i n above multiple =
    let whole : i / n * n + i % n ≡ i = div-add-mod' i n in
    quotient_above (i / n) n i (omega arith) above

-- the quotient before a multiple
quotient_before_multiple : (i n : ℕ) → 0 < n → 0 < i → i % n ≡ 0 → (i - 1) / n ≡ i / n - 1
quotient_before_multiple i n n-above i-above multiple =
    let whole : i / n * n + i % n ≡ i = div-add-mod' i n in
    let from = quotient_of_multiple-above i n i-above multiple in
    let less : i / n ≡ suc (i / n - 1) = omega arith in
    let split : i / n * n ≡ (i / n - 1) * n + n = ap (λ (q : ℕ). q * n) less ∙ suc-mul (i / n - 1) n in
    let top : (i / n - 1 + 1) * n ≡ (i / n - 1) * n + 1 * n = add-mul (i / n - 1) 1 n in
    let one : 1 * n ≡ n = one-mul n in
    div-eq_of_lt-le n (omega arith) (omega arith)

-- the quotient between two multiples
quotient_between_multiples : (i n : ℕ) → 0 < n → i % n ≢ 0 → (i - 1) / n ≡ i / n
quotient_between_multiples i n n-above other =
    let whole : i / n * n + i % n ≡ i = div-add-mod' i n in
    let top : (i / n + 1) * n ≡ i / n * n + 1 * n = add-mul (i / n) 1 n in
    let one : 1 * n ≡ n = one-mul n in
    let below : i % n < n = omega arith in
    div-eq_of_lt-le n (omega arith) (omega arith)

-- ---- round constants

pub round_constant-first : (nk : ℕ) → 0 < nk → 1 ≡ power 2 ((nk - 1) / nk)
unfolding power
round_constant-first nk above =
    let none : (nk - 1) / nk ≡ 0 = div-eq_of_lt-le nk (omega (arith, zero-mul nk)) (omega (arith, one-mul nk)) in
    rw none refl

pub round_constant-next : (nk i : ℕ) → 0 < nk → nk ≤ i → i % nk ≡ 0 → xtimes (power 2 ((i - 1) / nk)) ≡ power 2 ((i + 1 - 1) / nk)
unfolding power
round_constant-next nk i above after multiple =
    let before = quotient_before_multiple i nk above (omega arith) multiple in
    let here : i + 1 - 1 ≡ i = omega arith in
    let positive = quotient_of_multiple-above i nk (omega arith) multiple in
    let next : suc ((i - 1) / nk) ≡ (i + 1 - 1) / nk = rw (here, before) (omega arith) in
    sym (product-two (power 2 ((i - 1) / nk))) ∙ ap (power 2) next

pub round_constant-same : (nk i : ℕ) → 0 < nk → i % nk ≢ 0 → power 2 ((i - 1) / nk) ≡ power 2 ((i + 1 - 1) / nk)
round_constant-same nk i above other =
    let here : i + 1 - 1 ≡ i = omega arith in
    ap (power 2) (rw here (quotient_between_multiples i nk above other))

-- ---- temp

pub temp-multiple : (nk i : ℕ) (a : List ℕ) → 0 < nk → nk ≤ i → i % nk ≡ 0 → temp nk i a ≡ add_words (sub_word (rot_word a)) (power 2 ((i - 1) / nk) ∷ 0 ∷ 0 ∷ 0 ∷ [])
unfolding temp rcon
temp-multiple nk i a above after multiple =
    rw (multiple, quotient_before_multiple i nk above (omega arith) multiple) refl

pub temp-middle : (nk i : ℕ) (a : List ℕ) → 6 < nk → i % nk ≡ 4 → temp nk i a ≡ sub_word a
unfolding temp
temp-middle nk i a large middle = grind (arith, nat_tests)

pub temp-other : (nk i : ℕ) (a : List ℕ) → i % nk ≢ 0 → (6 < nk → i % nk ≢ 4) → temp nk i a ≡ a
unfolding temp
temp-other nk i a multiple middle = grind (arith, nat_tests)

-- ---- words

-- a word reads its own four bytes alone
word-take : (n : ℕ) (w : List ℕ) (i : ℕ) → 4 * i + 4 ≤ n → word (take n w) i ≡ word w i
word-take n w i within =
    let b0 = get_or-take n w (4 * i + 0) 0 (omega arith) in
    let b1 = get_or-take n w (4 * i + 1) 0 (omega arith) in
    let b2 = get_or-take n w (4 * i + 2) 0 (omega arith) in
    let b3 = get_or-take n w (4 * i + 3) 0 (omega arith) in
    cc

next_word-take : (nk : ℕ) (w : List ℕ) (i : ℕ) → 0 < nk → nk ≤ i → next_word nk (take (4 * i) w) i ≡ next_word nk w i
unfolding next_word
next_word-take nk w i above after =
    ap (λ (a : List ℕ). add_words a (temp nk i (word (take (4 * i) w) (i - 1)))) (word-take (4 * i) w (i - nk) (omega arith))
    ∙ ap (λ (a : List ℕ). add_words (word w (i - nk)) (temp nk i a)) (word-take (4 * i) w (i - 1) (omega arith))

length-next_word : (nk : ℕ) (w : List ℕ) (i : ℕ) → length (next_word nk w i) ≡ 4
unfolding next_word add_words
length-next_word nk w i = refl

-- a word more
pub words_after-more : (nk i : ℕ) (key w new : List ℕ) → 0 < nk → nk ≤ i → 4 * i + 4 ≤ length w
    → take (4 * i) w ≡ words_after nk key (i - nk)
    → new ≡ take (4 * i) w ++ next_word nk w i ++ drop (4 * i + 4) w
    → take (4 * (i + 1)) new ≡ words_after nk key (i + 1 - nk)
unfolding words_after
words_after-more nk i key w new above after room held made =
    let next = next_word nk w i in
    let size : length (take (4 * i) w ++ next) ≡ 4 * (i + 1) =
    omega (arith, length-append (take (4 * i) w) next, length-take-le (4 * i) w (omega arith), length-next_word nk w i) in
    let steps : i + 1 - nk ≡ suc (i - nk) = omega arith in
    let place : nk + (i - nk) ≡ i = omega arith in
    let same : next ≡ next_word nk (words_after nk key (i - nk)) i =
    sym (next_word-take nk w i above after) ∙ ap (λ (v : List ℕ). next_word nk v i) held in
    ap (take (4 * (i + 1))) made ∙ take_at (take (4 * i) w ++ next) (drop (4 * i + 4) w) (4 * (i + 1)) size
    ∙ rw (steps, place, ← same, ← held) refl

length-words_after : (nk : ℕ) (key : List ℕ) (n : ℕ) → length key ≤ length (words_after nk key n)
unfolding words_after
length-words_after nk key zero = omega arith
length-words_after nk key (suc n) =
    let more = length-append (words_after nk key n) (next_word nk (words_after nk key n) (nk + n)) in
    let below = length-words_after nk key n in
    omega arith

-- the schedule begins with the key
pub take-words_after : (nk : ℕ) (key : List ℕ) (n : ℕ) → take (length key) (words_after nk key n) ≡ key
unfolding words_after
take-words_after nk key zero = take_all (length key) key (omega arith)
take-words_after nk key (suc n) =
    take-append-le (length key) (words_after nk key n) (next_word nk (words_after nk key n) (nk + n)) (length-words_after nk key n)
    ∙ take-words_after nk key n

-- what words hold once all are made
pub schedule_done : (nk i : ℕ) (key words : List ℕ) → length key ≡ 4 * nk → i ≡ 4 * (nk + 7)
    → take (4 * i) words ≡ words_after nk key (i - nk)
    → (take (4 * nk) words ≡ key) × (take (16 * (nk + 6 + 1)) words ≡ key_expansion (take (4 * nk) words))
unfolding key_expansion
schedule_done nk i key words size end held =
    let begin : take (4 * nk) words ≡ key =
    sym (take-take (4 * nk) (4 * i) words (omega arith)) ∙ ap (take (4 * nk)) held
    ∙ ap (λ (n : ℕ). take n (words_after nk key (i - nk))) (sym size) ∙ take-words_after nk key (i - nk) in
    let nk_is : length key / 4 ≡ nk = omega arith in
    let all : 16 * (nk + 6 + 1) ≡ 4 * i = omega arith in
    let count : i - nk ≡ 4 * (nk + 6 + 1) - nk = omega arith in
    (begin, rw (all, begin, nk_is) (held ∙ ap (words_after nk key) count))

-- the key alone
pub words_after-none : (nk : ℕ) (key rest : List ℕ) → length key ≡ 4 * nk → take (4 * nk) (key ++ rest) ≡ words_after nk key (nk - nk)
unfolding words_after
words_after-none nk key rest size =
    let none : nk - nk ≡ 0 = omega arith in
    take_at key rest (4 * nk) size ∙ rw none refl

-- a list keeps its length where another is put over its front
pub length_over_front : (n m : ℕ) (front rest : List ℕ) → length front ≡ n → n ≤ m → length rest ≡ m → length (front ++ drop n rest) ≡ m
length_over_front n m front rest size within whole =
    omega (arith, length-append front (drop n rest), length-drop n rest)

-- ---- words

-- the sum of two words is their xor byte by byte
pub words_added : (a b : List ℕ) → length a ≡ 4 → length b ≡ 4 → xor_bytes a b ≡ add_words a b
unfolding add_words
words_added a b long other =
    fill_by_all (λ r. slice_index a r ⊕ slice_index b r) (xor_bytes a b) 4 0 (length-xor_bytes a b (omega arith) ∙ long)
    (λ k lt. get_or-xor_bytes a b k (omega arith) (omega arith))
