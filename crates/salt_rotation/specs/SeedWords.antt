-- The words of a seed: the key stream of ChaCha with 20 rounds, by place.
use Rattle.std.specs.Prelude.{ℕ, zero, suc, ◌+◌, ◌/◌, List, [], ◌++◌, take}
use Rattle.std.specs.Int.{w32, to_le_bytes}
use Rattle.rand_chacha.specs.ChaCha.{ChaCha, word_at, key_of}

-- the word at a place under a seed of 32 bytes: word `place % 16` of the block with the 64-bit
-- counter `place / 16`, after ten double rounds, in stream 0 (RFC 8439, 2.3)
unfoldable pub seed_word : List ℕ → ℕ → ℕ
seed_word seed place = word_at 10 (key_of seed) 0 place

-- the bytes of so many words from a place on, each word with its least significant byte first
unfoldable pub bytes_of_words : List ℕ → ℕ → ℕ → List ℕ
bytes_of_words seed place zero = []
bytes_of_words seed place (suc words) =
    to_le_bytes w32 (seed_word seed place) ++ bytes_of_words seed (place + 1) words

-- the first so many bytes of the words from a place on
unfoldable pub seed_bytes : List ℕ → ℕ → ℕ → List ℕ
seed_bytes seed place count = take count (bytes_of_words seed place ((count + 3) / 4))

-- the generator of a seed at a place
abbrev pub generator_at : List ℕ → ℕ → ChaCha
generator_at seed place = record { key = key_of seed; stream = 0; word_pos = place }
