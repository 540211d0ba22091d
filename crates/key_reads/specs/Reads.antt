-- What a reading of a keystore answers.
use Rattle.std.specs.Prelude.{◌≡◌, ℕ, Result, Ok, Err}
use Rattle.std.specs.declared.option.Option.{Option}
use Rattle.std.specs.declared.option.Option.TheVariants.{Some, None}
use Rattle.dataset_tree.specs.declared.refusal.Refusal.{Refusal as Why}

-- the root that a command is about, or why the state refuses it
abbrev pub GivesRoot : Result ℕ Why → (refusal : Option Why) → (found : Option ℕ) → Type 0
GivesRoot (Ok root) refusal found = (refusal ≡ None) × (found ≡ Some root)
GivesRoot (Err why) refusal found = refusal ≡ Some why
