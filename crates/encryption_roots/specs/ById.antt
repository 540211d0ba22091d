-- Finite maps from ids, as lists of (id, value) in rising order of id.
use Rattle.std.specs.Prelude.{ℕ, ◌<◌, ◌==◌, not, nat_lt, List, [], ◌∷◌, if◌then◌else◌}
use Rattle.std.specs.List.{AllPairs, filter}
use Rattle.std.specs.declared.option.Option.{Option}
use Rattle.std.specs.declared.option.Option.TheVariants.{Some, None}

abbrev pub IsRisingById : {X : Type 0} → List (ℕ × X) → Type 0
IsRisingById entries = AllPairs (λ earlier later. earlier.0 < later.0) entries

-- the value at an id
abbrev pub at_id : {X : Type 0} → ℕ → List (ℕ × X) → Option X
at_id id [] = None
at_id id (entry ∷ entries) = if entry.0 == id then Some entry.1 else at_id id entries

-- A new entry goes before the first one of a greater id; in place of one of its own id it keeps that place.
abbrev pub with_id : {X : Type 0} → ℕ → X → List (ℕ × X) → List (ℕ × X)
with_id id value [] = (id, value) ∷ []
with_id id value (entry ∷ entries) =
    if nat_lt entry.0 id then entry ∷ with_id id value entries
    else (if entry.0 == id then (id, value) ∷ entries else (id, value) ∷ entry ∷ entries)

abbrev pub without_id : {X : Type 0} → ℕ → List (ℕ × X) → List (ℕ × X)
without_id id entries = filter (λ entry. not (entry.0 == id)) entries
