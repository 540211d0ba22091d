-- One block of a shelf in memory.
use Rattle.std.specs.Prelude.{ℕ, ◌==◌, Bool, List}
use Rattle.std.specs.Ordering.{on, eq_of_both}
use Rattle.std.specs.Cmp.Lexicographic.{pointwise}

-- the bytes that were put, and the bytes that are read
pub record SlotState : Type 0 where
  pub placed : List ℕ
  pub held : List ℕ

-- the same bytes were put, and are read
abbrev pub slot_eq : SlotState → SlotState → Bool
slot_eq = eq_of_both (on (λ s. s.placed) (pointwise ◌==◌)) (on (λ s. s.held) (pointwise ◌==◌))
