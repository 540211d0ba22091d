-- What a generator of a seed writes, in terms of the seed's bytes by place.
use Rattle.std.proofs.Common.{◌≡◌, ℕ, zero, suc, ◌+◌, ◌*◌, ◌/◌, ◌%◌, ◌^◌, ◌<◌, List, ◌++◌, length, take, refl, ap, sym, ◌∙◌, arith, append_assoc, length-append}
use Rattle.std.proofs.lemmas.List.{append-nil, length-take-le}
use Rattle.std.specs.Int.{w32, to_le_bytes}
use Rattle.rand_core.specs.Steps.{word_bytes, fill_via_u32}
use Rattle.rand_chacha.specs.ChaCha.{ChaCha, next_word, of_seed}
use Rattle.salt_rotation.specs.SeedWords.{seed_word, bytes_of_words, seed_bytes, generator_at}

-- one word more, at the end
one_word_more : (seed : List ℕ) (place n : ℕ) → bytes_of_words seed place (suc n) ≡ bytes_of_words seed place n ++ to_le_bytes w32 (seed_word seed (place + n))
unfolding bytes_of_words
one_word_more seed place zero =
    let here : place ≡ place + 0 = omega arith in
    append-nil (to_le_bytes w32 (seed_word seed place)) ∙ ap (λ at. to_le_bytes w32 (seed_word seed at)) here
one_word_more seed place (suc n) =
    let rest : bytes_of_words seed (place + 1) (suc n) ≡ bytes_of_words seed (place + 1) n ++ to_le_bytes w32 (seed_word seed (place + 1 + n)) = one_word_more seed (place + 1) n in
    let next : place + 1 + n ≡ place + suc n = omega arith in
    ap (λ bytes. to_le_bytes w32 (seed_word seed place) ++ bytes) (rest ∙ ap (λ at. bytes_of_words seed (place + 1) n ++ to_le_bytes w32 (seed_word seed at)) next)
    ∙ sym (append_assoc (to_le_bytes w32 (seed_word seed place)) (bytes_of_words seed (place + 1) n) (to_le_bytes w32 (seed_word seed (place + suc n))))

pair : List ℕ → ChaCha → List ℕ × ChaCha
pair bytes g = (bytes, g)

-- a generator's words from a place on, and where they leave it
words_from : (seed : List ℕ) (place n : ℕ) → place + n < 2 ^ 68
    → word_bytes (to_le_bytes w32) (next_word 10) n (generator_at seed place) ≡ pair (bytes_of_words seed place n) (generator_at seed (place + n))
unfolding word_bytes bytes_of_words seed_word pair
words_from seed place zero below =
    let here : place + 0 ≡ place = omega arith in
    rw here refl
words_from seed place (suc n) below =
    let before = words_from seed place n (omega arith) in
    let next : (place + n + 1) % 2 ^ 68 ≡ place + suc n = omega arith in
    let step : List ℕ × ChaCha → List ℕ × ChaCha = λ so_far. pair (so_far.0 ++ to_le_bytes w32 (next_word 10 so_far.1).0) (next_word 10 so_far.1).1 in
    ap step before
    ∙ ap (λ at. pair (bytes_of_words seed place n ++ to_le_bytes w32 (seed_word seed (place + n))) (generator_at seed at)) next
    ∙ ap (λ bytes. pair bytes (generator_at seed (place + suc n))) (sym (one_word_more seed place n))

-- a fresh generator that is moved to a place
pub moved : (seed : List ℕ) (place pos : ℕ) (fresh g : ChaCha) → fresh ≡ of_seed seed
    → g ≡ record fresh { word_pos = pos % 2 ^ 68 } → pos ≡ place → place < 2 ^ 68 → g ≡ generator_at seed place
moved seed place pos fresh g is_fresh is_moved is_place below =
    let kept : pos % 2 ^ 68 ≡ place = omega arith in
    is_moved ∙ rw (is_fresh, kept) refl

-- what a fill of so many bytes writes, and where it leaves the generator
pub fills : (seed : List ℕ) (place count : ℕ) (bytes : List ℕ) (before after : ChaCha) → before ≡ generator_at seed place
    → place + (count + 3) / 4 < 2 ^ 68 → ◌≡◌ {A = List ℕ × ChaCha} (bytes, after) (fill_via_u32 (next_word 10) count before)
    → (bytes ≡ seed_bytes seed place count) × (after ≡ generator_at seed (place + (count + 3) / 4))
unfolding seed_bytes pair
fills seed place count bytes before after is_before below fill =
    let words = (count + 3) / 4 in
    let made = ap (word_bytes (to_le_bytes w32) (next_word 10) words) is_before ∙ words_from seed place words below in
    let filled = fill ∙ ap (λ (made : List ℕ × ChaCha). pair (take count made.0) made.1) made in
    (ap (λ (p : List ℕ × ChaCha). p.0) filled, ap (λ (p : List ℕ × ChaCha). p.1) filled)

-- the words have four bytes each
length-words : (seed : List ℕ) (place n : ℕ) → length (bytes_of_words seed place n) ≡ 4 * n
unfolding bytes_of_words
length-words seed place zero = refl
length-words seed place (suc n) =
    let rest : length (bytes_of_words seed (place + 1) n) ≡ 4 * n = length-words seed (place + 1) n in
    omega (arith, rest, length-append (to_le_bytes w32 (seed_word seed place)) (bytes_of_words seed (place + 1) n))

-- there are as many bytes as are asked for
pub length-seed_bytes : (seed : List ℕ) (place count : ℕ) → length (seed_bytes seed place count) ≡ count
unfolding seed_bytes
length-seed_bytes seed place count =
    let words = (count + 3) / 4 in
    length-take-le count (bytes_of_words seed place words) (omega (arith, length-words seed place words))
