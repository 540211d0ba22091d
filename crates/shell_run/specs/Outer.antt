-- What is told of the objects that a run takes from, and what takings do to it.
use Rattle.std.specs.Prelude.{◌≡◌, ℕ, ◌+◌, ◌≤◌, Bool, true, ◌||◌, List, [], ◌∷◌, ◌++◌, map, drop, IfSome, if◌then◌else◌}
use Rattle.std.specs.declared.option.Option.{Option}
use Rattle.std.specs.declared.option.Option.TheVariants.{Some}
use Rattle.std.specs.Option.{option_map}
use Rattle.std.specs.List.{AllByRecursion}
use Rattle.edge_io.specs.Counts.{raised, one_more, is_listed}
use Rattle.edge_io.specs.Entropy.{is_short}
use Rattle.shell_run.specs.declared.found.FoundEntry.{FoundEntry}
use Rattle.shell_run.specs.Takings.{Taking, AreInOrder, failures, is_fetch, is_fill, fetches_of, fills_of}

-- the calls of one object: how many were made and the numbers of those that fail, where they are
-- told, and the count of its faults
pub record Calls : Type 0 where
  pub made : Option ℕ
  pub failing : Option (List ℕ)
  pub faults : ℕ

abbrev pub calls_of : Option ℕ → Option (List ℕ) → ℕ → Calls
calls_of made failing faults = record { made = made; failing = failing; faults = faults }

-- key files and entropy, as far as they are told, and the failed takings that are listed
pub record Outer : Type 0 where
  pub files : Option (List (List ℕ × List ℕ))
  pub fetches : Calls
  pub entropy : Option (List ℕ)
  pub fills : Calls
  pub found : List FoundEntry

-- the number of the next call, once calls with these outcomes were made
abbrev pub number_after : List Bool → ℕ → ℕ
number_after [] number = number
number_after (fails ∷ later) number = number_after later (one_more number)

-- how many of these calls failed
abbrev pub failed_count : List Bool → ℕ
failed_count [] = 0
failed_count (fails ∷ later) = if fails then failed_count later + 1 else failed_count later

-- Calls with these outcomes were made: the count of faults rose at least as often as they failed,
-- and stayed where none did.
pub record Called (outcomes : List Bool) (old new : Calls) : Type 0 where
  pub made : new.made ≡ option_map (number_after outcomes) old.made
  pub failing : new.failing ≡ old.failing
  pub later : old.faults ≤ new.faults
  pub rose : raised (failed_count outcomes) old.faults ≤ new.faults
  pub kept : failed_count outcomes ≡ 0 → new.faults ≡ old.faults

-- calls from this number on fail exactly where they are listed
abbrev pub FailWhereListed : List ℕ → ℕ → List Bool → Type 0
FailWhereListed failing number [] = Unit {0}
FailWhereListed failing number (fails ∷ later) =
    (fails ≡ is_listed failing number) × FailWhereListed failing (one_more number) later

-- what fills leave: each that doesn't fail has taken 32 bytes
abbrev pub left_after : List Bool → List ℕ → List ℕ
left_after [] left = left
left_after (fails ∷ later) left = left_after later (if fails then left else drop 32 left)

-- fills from this number on fail exactly where they are listed, or find fewer than 32 bytes
abbrev pub FailWhereListedOrShort : List ℕ → ℕ → List ℕ → List Bool → Type 0
FailWhereListedOrShort failing number left [] = Unit {0}
FailWhereListedOrShort failing number left (fails ∷ later) =
    (fails ≡ is_listed failing number || is_short left)
    × FailWhereListedOrShort failing (one_more number) (if fails then left else drop 32 left) later

-- These takings were made one after another, of lines that are here, and the failed ones listed.
pub record Takes (here : ℕ → Type 0) (made : List Taking) (old new : Outer) : Type 0 where
  pub order : AreInOrder (map (λ taking. taking.entry) made)
  pub lines : AllByRecursion (λ taking. here taking.entry.line) made
  pub kinds : AllByRecursion (λ taking.
      is_fetch taking.entry.what || is_fill taking.entry.what ≡ true) made
  pub found : new.found ≡ old.found ++ failures made
  pub files : new.files ≡ old.files
  pub entropy : IfSome old.entropy (λ left. new.entropy ≡ Some (left_after (fills_of made) left))
  pub fetches : Called (fetches_of made) old.fetches new.fetches
  pub fills : Called (fills_of made) old.fills new.fills
  pub fetch_fails : IfSome old.fetches.made (λ number. IfSome old.fetches.failing (λ failing.
      FailWhereListed failing number (fetches_of made)))
  pub fill_fails : IfSome old.fills.made (λ number. IfSome old.fills.failing (λ failing.
      IfSome old.entropy (λ left. FailWhereListedOrShort failing number left (fills_of made))))
