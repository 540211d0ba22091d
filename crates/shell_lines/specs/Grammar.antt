-- The language of the shell's lines: which line some bytes spell, or the offset AT at which they stop to spell one.
use Rattle.std.specs.Prelude.{◌≡◌, ℕ, Bool, false, not, ◌||◌, ◌==◌, List, [], ◌∷◌, length, if◌then◌else◌, Result, Ok, Err}
use Rattle.std.specs.declared.option.Option.{Option}
use Rattle.std.specs.declared.option.Option.TheVariants.{Some, None}
use Rattle.std.specs.List.{position}
use Rattle.encryption_roots.specs.Printable.{is_printable}
use Rattle.shell_lines.specs.declared.line.Line.{Line}
use Rattle.shell_lines.specs.declared.line.Line.TheVariants.{Silent}
use Rattle.shell_lines.specs.declared.line.LineStop.{LineStop}
use Rattle.shell_lines.specs.declared.line.LineStop.TheVariants as stops
use Rattle.shell_lines.specs.Words.{WordAt, words_of}
use Rattle.shell_lines.specs.Forms.{line_from}
use Rattle.shell_lines.specs.Commands.{commands}

-- Inside a section no line may stand that says something.
abbrev pub placed_of : ℕ → ℕ → List WordAt → Result Line ℕ
placed_of inside end [] = Ok Silent
placed_of inside end (word ∷ words) = if inside == 0 then line_from end commands (word ∷ words) else Err 0

-- A line whose first byte is `#` or `<` says nothing, whatever its bytes.
abbrev pub is_comment : List ℕ → Bool
is_comment [] = false
is_comment (byte ∷ bytes) = byte == 0x23 || byte == 0x3c

-- the offset of the first byte that stands in no line
abbrev pub first_unprintable : List ℕ → Option ℕ
first_unprintable bytes = position (λ byte. not (is_printable byte)) bytes

abbrev pub printable_line : List ℕ → ℕ → Option ℕ → Result Line ℕ
printable_line bytes inside (Some at) = Err at
printable_line bytes inside None = placed_of inside (length bytes) (words_of bytes)

-- The line that these bytes spell in a section of so many workers, or outside one where `inside` is 0; else AT.
abbrev pub line_of : List ℕ → ℕ → Result Line ℕ
line_of bytes inside = if is_comment bytes then Ok Silent else printable_line bytes inside (first_unprintable bytes)

-- a call gives this outcome, want of memory apart, which says nothing
abbrev pub Spells : Result Line LineStop → Result Line ℕ → Type 0
Spells (Ok line) outcome = outcome ≡ Ok line
Spells (Err (stops.Bad at)) outcome = outcome ≡ Err at
Spells (Err stops.NoMemory) outcome = Unit {0}
