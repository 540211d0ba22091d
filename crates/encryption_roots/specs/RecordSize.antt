-- The record sizes: how many bytes a dataset's blocks have at most.
use Rattle.std.specs.Prelude.{◌≡◌, ℕ, ◌^◌, Bool, true, ◌==◌, [], ◌∷◌}
use Rattle.std.specs.List.{list_any}

-- a power of two from 512 to 131072
abbrev pub is_record_size : ℕ → Bool
is_record_size size = list_any (λ k. size == 2 ^ k) (9 ∷ 10 ∷ 11 ∷ 12 ∷ 13 ∷ 14 ∷ 15 ∷ 16 ∷ 17 ∷ [])

abbrev pub IsRecordSize : ℕ → Type 0
IsRecordSize size = is_record_size size ≡ true
