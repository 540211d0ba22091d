-- Lines of a text. A line ends before a line feed, before a carriage return that a line feed follows, or
-- where the text ends.
use Rattle.std.specs.Prelude.{ℕ, Bool, true, false, ◌||◌, ◌&&◌, List, [], ◌∷◌, None, Some, drop, eqb, ◌==◌, if◌then◌else◌}
use Rattle.std.specs.List.{starts_with}
use Rattle.std.specs.declared.option.Option.{Option}
use lib.Chars.{codes}

abbrev pub line_feed : ℕ
line_feed = 10

abbrev pub carriage_return : ℕ
carriage_return = 13

abbrev pub begins_with : ℕ → List ℕ → Bool
begins_with byte [] = false
begins_with byte (first ∷ bytes) = first == byte

-- whether a line ends before these bytes
abbrev pub ends_line : List ℕ → Bool
ends_line [] = true
ends_line (byte ∷ bytes) = byte == line_feed || byte == carriage_return && begins_with line_feed bytes

-- the bytes of the line that stands first
abbrev pub first_line : List ℕ → List ℕ
first_line [] = []
first_line (byte ∷ bytes) = if ends_line (byte ∷ bytes) then [] else byte ∷ first_line bytes

-- the bytes after the first line feed, none where there is no line feed
abbrev pub rest_of : List ℕ → List ℕ
rest_of [] = []
rest_of (byte ∷ bytes) = if byte == line_feed then bytes else rest_of bytes

-- the first line, where there are bytes
abbrev pub next_line : List ℕ → Option (List ℕ)
next_line [] = None
next_line (byte ∷ bytes) = Some (first_line (byte ∷ bytes))

-- whether a line begins with `<`, as one that answers a prompt does
abbrev pub is_prompt : List ℕ → Bool
is_prompt line = starts_with eqb line (codes "<")

-- what a line that answers a prompt has behind `<`
abbrev pub prompt_of : List ℕ → Option (List ℕ)
prompt_of line = if is_prompt line then Some (drop 1 line) else None

-- that of the first line, where it answers a prompt
abbrev pub next_prompt : List ℕ → Option (List ℕ)
next_prompt bytes = prompt_of (first_line bytes)

-- the bytes after the first line where it answers a prompt, else all
abbrev pub rest_of_prompt : List ℕ → List ℕ
rest_of_prompt bytes = if is_prompt (first_line bytes) then rest_of bytes else bytes

-- the first of these lines with one more byte in front
abbrev pub onto_line : ℕ → List (List ℕ) → List (List ℕ)
onto_line byte [] = (byte ∷ []) ∷ []
onto_line byte (line ∷ lines) = (byte ∷ line) ∷ lines

-- all lines: a text that ends with a line feed has no empty line after it
abbrev pub lines : List ℕ → List (List ℕ)
lines [] = []
lines (byte ∷ bytes) =
    if byte == line_feed then [] ∷ lines bytes
    else if ends_line (byte ∷ bytes) then lines bytes
    else onto_line byte (lines bytes)
