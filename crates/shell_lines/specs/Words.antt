-- The words of a line: its longest runs of bytes other than spaces.
use Rattle.std.specs.Prelude.{ℕ, ◌+◌, Bool, false, not, ◌==◌, List, [], ◌∷◌, if◌then◌else◌}

abbrev pub is_space : ℕ → Bool
is_space byte = byte == 32

-- a word, and the offset of its first byte in the line
pub record WordAt : Type 0 where
  pub at : ℕ
  pub text : List ℕ

abbrev pub begins_word : List ℕ → Bool
begins_word [] = false
begins_word (byte ∷ bytes) = not (is_space byte)

-- a byte at this offset in front of the first word
abbrev pub onto_word : ℕ → ℕ → List WordAt → List WordAt
onto_word at byte [] = record { at = at; text = byte ∷ [] } ∷ []
onto_word at byte (word ∷ words) = record { at = at; text = byte ∷ word.text } ∷ words

-- the words of bytes that stand from this offset on
abbrev pub words_from : ℕ → List ℕ → List WordAt
words_from at [] = []
words_from at (byte ∷ bytes) =
    if is_space byte then words_from (at + 1) bytes
    else if begins_word bytes then onto_word at byte (words_from (at + 1) bytes)
    else record { at = at; text = byte ∷ [] } ∷ words_from (at + 1) bytes

abbrev pub words_of : List ℕ → List WordAt
words_of line = words_from 0 line
