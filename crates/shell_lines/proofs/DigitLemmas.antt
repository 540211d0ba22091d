-- Numbers that decimal digits write, digit by digit.
use Rattle.std.proofs.Common.{ℕ, Option, Some, None, List, if◌then◌else◌}
use Rattle.std.specs.Char.{is_digit}
use Rattle.std.specs.List.{list_all}
use Rattle.std.specs.Str.Parse.{digits_value_after}

-- the number that digits write when they follow those of another
abbrev pub decimal_after : ℕ → List ℕ → Option ℕ
decimal_after number text = if list_all (λ byte. is_digit byte 10) text then Some (digits_value_after 10 number text) else None
