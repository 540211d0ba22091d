-- What the outside holds, where it is told: `None` tells nothing.
use Rattle.std.specs.Prelude.{◌≡◌, ℕ, List, ◌++◌, ⊤, None, Some}
use Rattle.std.specs.declared.option.Option.{Option}

-- what is still told is what was told before
abbrev pub StillTold : {A : Type 0} → Option A → Option A → Type 0
StillTold None now = ⊤
StillTold (Some before) None = ⊤
StillTold (Some before) (Some now) = now ≡ before

-- the bytes that a reader has taken and not yet given, and then those that its source has left
abbrev pub unread : List ℕ → Option (List ℕ) → Option (List ℕ)
unread pending None = None
unread pending (Some left) = Some (pending ++ left)
