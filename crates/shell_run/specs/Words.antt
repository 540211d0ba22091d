-- The words of the command line.
use Rattle.std.specs.Prelude.{ℕ, nat_le, ◌&&◌, List, [], ◌∷◌, length, if◌then◌else◌}
use Rattle.std.specs.declared.option.Option.{Option}
use Rattle.std.specs.declared.option.Option.TheVariants.{Some, None}
use Rattle.std.specs.Option.{option_and_then}
use Rattle.std.specs.Str.{bytes_eq}
use lib.Chars.{codes}
use Rattle.shell_lines.specs.Settings.{behind, decimal_of}

-- how many draws a salt serves where the words don't say it
abbrev pub default_limit : ℕ
default_limit = 400000000

-- the number of a text of 1 to 9 decimal digits
abbrev pub short_number : List ℕ → Option ℕ
short_number text = if nat_le 1 (length text) && nat_le (length text) 9 then decimal_of text else None

abbrev pub in_limits : ℕ → Option ℕ
in_limits number = if nat_le 1 number && nat_le number 400000000 then Some number else None

-- a number from 1 to 400000000
abbrev pub limit_value : List ℕ → Option ℕ
limit_value text = option_and_then in_limits (short_number text)

-- How many draws a salt serves. There are no words, or one option with its value behind `=` or as the next word;
-- other words are those of no command line.
abbrev pub limit_of : List (List ℕ) → Option ℕ
limit_of [] = Some default_limit
limit_of (word ∷ []) = option_and_then limit_value (behind (codes "--max-salt-uses=") word)
limit_of (word ∷ value ∷ []) = if bytes_eq word (codes "--max-salt-uses") then limit_value value else None
limit_of (word ∷ value ∷ third ∷ more) = None
