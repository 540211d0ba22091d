-- A shelf that grows.
use Rattle.std.specs.Prelude.{ℕ, ◌≡◌, ◌++◌, List}
use Rattle.std.specs.Option.{option_map}
use Rattle.family_log.specs.Model.{FamilyState}

-- of what was put on a family's shelf the later one has all, and more behind it
abbrev pub HasPlaced : (earlier later : FamilyState) → Type 0
HasPlaced earlier later =
    (put : List (List ℕ)) × (later.shelf.placed ≡ option_map (λ blocks. blocks ++ put) earlier.shelf.placed)
