-- The bytes that stand in a line, in its words and in a path.
use Rattle.std.specs.Prelude.{ℕ, Bool, not, ◌&&◌, ◌==◌, nat_le}

-- from space to `~`
abbrev pub is_printable : ℕ → Bool
is_printable byte = nat_le 0x20 byte && nat_le byte 0x7e

-- what a word is made of: a printable byte other than a space
abbrev pub stands_in_word : ℕ → Bool
stands_in_word byte = is_printable byte && not (byte == 0x20)
