-- The takings of a run: where the script makes them, in which order, and which of them fail.
use Rattle.std.specs.Prelude.{◌≡◌, ◌⊎◌, ℕ, ◌<◌, Bool, true, false, ◌&&◌, ◌||◌, ◌==◌, List, [], ◌∷◌, if◌then◌else◌}
use Rattle.std.specs.List.{AllByRecursion}
use Rattle.shell_run.specs.declared.found.FoundEntry.{FoundEntry}
use Rattle.shell_run.specs.declared.found.FoundKind.{FoundKind}
use Rattle.shell_run.specs.declared.found.FoundKind.TheVariants.{OldKey, NewKey, Seed, Streams, Shelf}

-- ---- their order

-- the place of a kind of taking among those of one part of a line
abbrev pub rank : FoundKind → ℕ
rank OldKey = 0
rank NewKey = 1
rank Seed = 2
rank (Streams puts) = 3
rank (Shelf family draws puts) = 4

-- takings go by line, then by part, then by kind
abbrev pub IsBefore : FoundEntry → FoundEntry → Type 0
IsBefore earlier later =
    (earlier.line < later.line) ⊎ ((earlier.line ≡ later.line) × ((earlier.part < later.part)
    ⊎ ((earlier.part ≡ later.part) × (rank earlier.what < rank later.what))))

-- in this order, none of them twice
abbrev pub AreInOrder : List FoundEntry → Type 0
AreInOrder [] = Unit {0}
AreInOrder (entry ∷ later) = AllByRecursion (IsBefore entry) later × AreInOrder later

-- ---- what a list says of a line

-- the entries of line n, in their order
abbrev pub entries_of : ℕ → List FoundEntry → List FoundEntry
entries_of n [] = []
entries_of n (entry ∷ found) = if entry.line == n then entry ∷ entries_of n found else entries_of n found

-- whether one of these entries is of the same line, part and kind
abbrev pub has_entry : FoundEntry → List FoundEntry → Bool
has_entry entry [] = false
has_entry entry (other ∷ entries) =
    (other.line == entry.line && other.part == entry.part && rank other.what == rank entry.what)
    || has_entry entry entries

-- ---- takings that are made

-- a taking, and whether it fails
pub record Taking : Type 0 where
  pub entry : FoundEntry
  pub fails : Bool

-- the failed ones, which are listed
abbrev pub failures : List Taking → List FoundEntry
failures [] = []
failures (taking ∷ later) = if taking.fails then taking.entry ∷ failures later else failures later

abbrev pub is_fetch : FoundKind → Bool
is_fetch OldKey = true
is_fetch NewKey = true
is_fetch Seed = false
is_fetch (Streams puts) = false
is_fetch (Shelf family draws puts) = false

abbrev pub is_fill : FoundKind → Bool
is_fill OldKey = false
is_fill NewKey = false
is_fill Seed = true
is_fill (Streams puts) = false
is_fill (Shelf family draws puts) = false

-- of each taking of these kinds, in order, whether it fails
abbrev pub outcomes : (FoundKind → Bool) → List Taking → List Bool
outcomes is_kind [] = []
outcomes is_kind (taking ∷ later) =
    if is_kind taking.entry.what then taking.fails ∷ outcomes is_kind later else outcomes is_kind later

-- of each fetch, and of each fill
abbrev pub fetches_of : List Taking → List Bool
fetches_of takings = outcomes is_fetch takings

abbrev pub fills_of : List Taking → List Bool
fills_of takings = outcomes is_fill takings
