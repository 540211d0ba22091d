-- The words of a line by what they are, whatever finds them.
use Rattle.std.specs.Prelude.{◌≡◌, ◌≢◌, ℕ, ◌+◌, ◌-◌, ◌<◌, ◌≤◌, ◌⊎◌, List, [], ◌∷◌, length, take, drop, slice_index}
use Rattle.std.specs.List.{All}
use Rattle.shell_lines.specs.Words.{WordAt}

-- a run of bytes other than spaces that stands in the line and can't be made longer
pub record IsRun (line : List ℕ) (word : WordAt) : Type 0 where
  pub some : word.text ≢ []
  pub no_space : All (λ byte. byte ≢ 0x20) word.text
  pub stand : take (length word.text) (drop word.at line) ≡ word.text
  pub begin : (word.at ≡ 0) ⊎ (slice_index line (word.at - 1) ≡ 0x20)
  pub end : (word.at + length word.text ≡ length line) ⊎ (slice_index line (word.at + length word.text) ≡ 0x20)

-- the byte at this offset stands in one of the words
abbrev pub IsInWord : ℕ → List WordAt → Type 0
IsInWord at [] = ⊥
IsInWord at (word ∷ words) = ((word.at ≤ at) × (at < word.at + length word.text)) ⊎ IsInWord at words

-- The words stand from this offset on, each one behind the one before.
abbrev pub StandFrom : ℕ → List WordAt → Type 0
StandFrom at [] = Unit {0}
StandFrom at (word ∷ words) = (at ≤ word.at) × StandFrom (word.at + length word.text) words
