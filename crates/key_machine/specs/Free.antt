-- What is said of a free slot, and where there is none.
use Rattle.std.specs.Prelude.{◌≢◌, ◌⊎◌, ℕ, ◌<◌, ◌≤◌, map}
use Rattle.std.specs.List.{All, Contains}
use Rattle.key_machine.specs.Limits.{slot_count, max_generation}
use Rattle.key_machine.specs.Plain.{Plain}
use Rattle.key_machine.specs.Users.{generation_of}

-- a dataset is mapped on the slot, or no generation is left to it
abbrev pub IsBlocked : Plain → ℕ → Type 0
IsBlocked p slot = Contains (map (λ mapping. mapping.1) p.mapped) slot ⊎ (max_generation ≤ generation_of p slot)

-- Nothing is mapped on the slot, which has a generation left; and each lower slot is blocked.
pub record IsLowestFree (p : Plain) (slot : ℕ) : Type 0 where
  pub there : slot < slot_count
  pub idle : All (λ mapping. mapping.1 ≢ slot) p.mapped
  pub left : generation_of p slot < max_generation
  pub lower : (other : ℕ) → other < slot → IsBlocked p other

abbrev pub AllBlocked : Plain → Type 0
AllBlocked p = (slot : ℕ) → slot < slot_count → IsBlocked p slot
