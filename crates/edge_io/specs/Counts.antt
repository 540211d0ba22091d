-- Counts of 64 bits, and the calls that are numbered by one.
use Rattle.std.specs.Prelude.{ℕ, ◌+◌, ◌-◌, ◌^◌, min, Bool, List, None, Some, ◌==◌}
use Rattle.std.specs.List.{list_any}
use Rattle.std.specs.declared.option.Option.{Option}

-- so many more: a count stands still at the end of its 64 bits
abbrev pub raised : ℕ → ℕ → ℕ
raised times count = min (count + times) (2 ^ 64 - 1)

-- one more
abbrev pub one_more : ℕ → ℕ
one_more count = raised 1 count

-- whether the call of this number is listed as one that fails
abbrev pub is_listed : List ℕ → ℕ → Bool
is_listed failing number = list_any (λ listed. listed == number) failing

-- what is told of whether the next call is listed: both the number of calls so far and the list are told, or nothing is
abbrev pub next_listed : Option ℕ → Option (List ℕ) → Option Bool
next_listed (Some calls) (Some failing) = Some (is_listed failing calls)
next_listed (Some calls) None = None
next_listed None failing = None
