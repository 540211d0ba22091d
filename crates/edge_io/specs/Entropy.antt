-- What a fill does to the bytes that are left, and when it fails.
use Rattle.std.specs.Prelude.{◌≡◌, ℕ, ◌≤◌, Bool, true, false, List, length, take, drop, None, Some, nat_lt, if◌then◌else◌}
use Rattle.std.specs.declared.option.Option.{Option}

-- the next 32 of these bytes moved to `out`, and the others are left
pub record MovesNext (bytes : List ℕ) (left : Option (List ℕ)) (out : List ℕ) : Type 0 where
  pub enough : 32 ≤ length bytes
  pub next : out ≡ take 32 bytes
  pub rest : left ≡ Some (drop 32 bytes)

-- whether these bytes are too few for a fill
abbrev pub is_short : List ℕ → Bool
is_short bytes = nat_lt (length bytes) 32

-- What is told of whether a fill fails, from the bytes left and from whether its call is listed, as far as
-- these are told: it fails where the call is listed or the bytes are short, and nowhere else.
abbrev pub fill_fails : Option (List ℕ) → Option Bool → Option Bool
fill_fails left (Some true) = Some true
fill_fails (Some bytes) (Some false) = Some (is_short bytes)
fill_fails (Some bytes) None = if is_short bytes then Some true else None
fill_fails None (Some false) = None
fill_fails None None = None
