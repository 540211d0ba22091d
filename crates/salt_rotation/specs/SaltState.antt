-- What a contract sees of the source of salts.
use Rattle.std.specs.Prelude.{ℕ, ◌==◌, Bool, List}
use Rattle.std.specs.Ordering.{on, eq_of_both}
use Rattle.std.specs.Cmp.Lexicographic.{pointwise}

-- the seed, how many draws one salt serves, and how many draws were made
pub record SaltState : Type 0 where
  pub seed : List ℕ
  pub limit : ℕ
  pub made : ℕ

-- the same seed, limit and number of draws
abbrev pub salt_state_eq : SaltState → SaltState → Bool
salt_state_eq =
    eq_of_both (eq_of_both (on (λ s. s.seed) (pointwise ◌==◌)) (on (λ s. s.limit) ◌==◌))
    (on (λ s. s.made) ◌==◌)
