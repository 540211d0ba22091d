-- What is said of an unload that is busy.
use Rattle.std.specs.Prelude.{◌≡◌, ℕ, ◌<◌, ◌≤◌}
use Rattle.std.specs.declared.option.Option.TheVariants.{Some}
use Rattle.std.specs.List.{All}
use Rattle.encryption_roots.specs.ById.{at_id}
use Rattle.key_machine.specs.Plain.{Plain, owner_of}
use Rattle.key_machine.specs.Users.{users_of}

-- The dataset is mapped and the root owns it; its mapping has this count of live users, at least 1; and those
-- of the root's datasets below it have none.
pub record IsFirstInUse (p : Plain) (root dataset count : ℕ) : Type 0 where
  pub mapping : (slot : ℕ) × (at_id dataset p.mapped ≡ Some slot) × (users_of p (dataset, slot) ≡ count)
  pub owned : owner_of p dataset ≡ Some root
  pub used : 1 ≤ count
  pub idle : All (λ mapping. owner_of p mapping.0 ≡ Some root → mapping.0 < dataset → users_of p mapping ≡ 0) p.mapped

-- no mapping of the root's datasets has a live user
abbrev pub AllIdle : Plain → ℕ → Type 0
AllIdle p root = All (λ mapping. owner_of p mapping.0 ≡ Some root → users_of p mapping ≡ 0) p.mapped
